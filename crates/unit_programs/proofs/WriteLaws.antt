-- What a unit write builds means, near one assignment, the published entries of the unit, part 1 first.
use mathlib.Core.Path.{◌≡◌, sym, ap, ◌∙◌, subst}
use mathlib.Core.Bool.{Bool, false}
use mathlib.Core.List.{List, [], ◌∷◌, ◌++◌}
use Prim.Native.Nat.{ℕ, suc, ◌+◌, ◌*◌, ◌≤◌, ◌<◌}
use native.Mathlib.Omega.{arith}
use lib.ListN.{length, get_or, take, length-take}
use lib.Seq.{take-suc, take_all}
use Rattle.conditions.specs.Stores.{Standard}
use Rattle.conditions.specs.Build.{Store, Outcome, next}
use Rattle.conditions.specs.Meaning.{Builds}
use Rattle.conditions.proofs.Promises.{pure-builds, next-builds, builds_weaker, each-builds}
use Rattle.semantics.specs.Pairs.{Pair, only, at}
use Rattle.semantics.specs.Published.{Entry, entry}
use Rattle.model.specs.Record.{Record, part, cell_words}
use Rattle.model.specs.Access.{Marks, Write}
use Rattle.model.proofs.MeansLaws.{Means, up}
use Rattle.model.proofs.AccessLaws.{Halves, MarksMean, Word, up_halves, write-means}
use Rattle.units.specs.Sum.{bits_of}
use Rattle.units.specs.Parts.{Order, offset, part_pairs, part_entry, parts_from, unit_entries}
use Rattle.units.proofs.SumLaws.{sum_from-length}
use Rattle.unit_programs.specs.Units.{PartAddress, Ready, part_ready, UnitWrite}
use Rattle.unit_programs.proofs.LookLaws.{part-means}

-- its words mean the entry
pub record ReadyMeans (σ : ℕ → Bool) (n k : ℕ) (e : Entry) (w : List ℕ) (s : Store) (x : Ready) : Type 0 where
  pub hard : Means σ 8 (λ τ. e.hard) w s x.hard
  pub soft : Means σ 8 (λ τ. e.soft) w s x.soft
  pub address : Word σ 8 (2 * n) (λ τ. at e.address) w s x.address
  pub word : Word σ 8 (2 * k) (λ τ. at e.word) w s x.word
  pub sized : length e.address ≡ n

-- one after the other
abbrev pub AllReady : (ℕ → Bool) → ℕ → ℕ → List Entry → List ℕ → Store → List Ready → Type 0
AllReady σ n k [] w s [] = Unit {0}
AllReady σ n k [] w s (x ∷ xs) = ⊥
AllReady σ n k (e ∷ es) w s [] = ⊥
AllReady σ n k (e ∷ es) w s (x ∷ xs) = ReadyMeans σ n k e w s x × AllReady σ n k es w s xs

-- entries that are ready keep their meaning, and one more may stand at their end
module _ {A : Type 0} {w : List ℕ} {s : Store} {P : List ℕ → Store → A → Type 0} {x : Outcome A} (S : Standard w s.count) (B : Builds w s P x) where
  pub up_word : {σ : ℕ → Bool} {u k : ℕ} {f : (ℕ → Bool) → ℕ → Pair} {ws : List ℕ} → Word σ u k f w s ws → Word σ u k f x.words x.store ws
  up_word W = record { size = W.size; halves = up_halves S B W.halves }

  pub up-ready : (σ : ℕ → Bool) (n k : ℕ) (es : List Entry) (xs : List Ready) → AllReady σ n k es w s xs → AllReady σ n k es x.words x.store xs
  up-ready σ n k [] [] R = tt
  up-ready σ n k [] (y ∷ ys) R = absurd R
  up-ready σ n k (e ∷ es) [] R = absurd R
  up-ready σ n k (e ∷ es) (y ∷ ys) R =
      (record { hard = up S B R.0.hard; soft = up S B R.0.soft; address = up_word R.0.address; word = up_word R.0.word; sized = R.0.sized }, up-ready σ n k es ys R.1)

pub ready_snoc : {σ : ℕ → Bool} {w : List ℕ} {s : Store} (n k : ℕ) (es : List Entry) (xs : List Ready) (e : Entry) (x : Ready) → AllReady σ n k es w s xs → ReadyMeans σ n k e w s x → AllReady σ n k (es ++ (e ∷ [])) w s (xs ++ (x ∷ []))
ready_snoc n k [] [] e x R M = (M, tt)
ready_snoc n k [] (y ∷ ys) e x R M = absurd R
ready_snoc n k (f ∷ es) [] e x R M = absurd R
ready_snoc n k (f ∷ es) (y ∷ ys) e x R M = (R.0, ready_snoc n k es ys e x R.1 M)

parts_snoc : (o : Order) (unit : ℕ) (c : Pair) (a : List Pair) (i : ℕ) (ds : List (List Pair)) (d : List Pair) → parts_from o unit c a i (ds ++ (d ∷ [])) ≡ parts_from o unit c a i ds ++ (part_entry c a (part_pairs o unit a (i + length ds)) d ∷ [])
parts_snoc o unit c a i [] d = let e : i ≡ i + 0 = omega arith in ap {B = List Entry} (λ (j : ℕ). part_entry c a (part_pairs o unit a j) d ∷ []) e
parts_snoc o unit c a i (b ∷ ds) d =
    let e : suc i + length ds ≡ i + suc (length ds) = omega arith in
    ap {B = List Entry} (λ z. part_entry c a (part_pairs o unit a i) b ∷ z)
    (parts_snoc o unit c a (suc i) ds d ∙ ap (λ (j : ℕ). parts_from o unit c a (suc i) ds ++ (part_entry c a (part_pairs o unit a j) d ∷ [])) e)

-- the data of a unit write: its cells mean the parts' words
pub record PartsMean (σ : ℕ → Bool) (r : Record) (ds : List (List Pair)) (w : List ℕ) (s : Store) (d : List ℕ) : Type 0 where
  pub cell : (j : ℕ) → j < length ds → Word σ 8 (2 * r.sizes.w) (λ τ. at (get_or ds j [])) w s (part d (j * cell_words r) (j * cell_words r + cell_words r))

module _ (σ : ℕ → Bool) (o : Order) (r : Record) (some : 1 ≤ r.sizes.n) (c : Pair) (a d : List ℕ) (qs : List Pair) (ds : List (List Pair)) (len : length qs ≡ r.sizes.n) where
  abbrev unit : ℕ
  unit = length ds

  -- j parts are ready
  record Readied (k : Marks) (j : ℕ) (w : List ℕ) (s : Store) (xs : List Ready) : Type 0 where
    ready : AllReady σ r.sizes.n r.sizes.w (parts_from o unit c qs 1 (take j ds)) w s xs
    marks : MarksMean σ (entry c qs []) w s k
    address : Halves σ 8 (2 * r.sizes.n) (λ τ. at qs) w s a
    parts : PartsMean σ r ds w s d

  part-ready : (k : Marks) (j : ℕ) (xs : List Ready) (w : List ℕ) (s : Store) → j < unit → Standard w s.count → Readied k j w s xs → Builds w s (Readied k (suc j)) (part_ready o r unit k a d j xs w s)
  unfolding part_ready
  part-ready k j xs w s b S I =
      let x : Outcome (List ℕ) = PartAddress o r unit a (suc j) w s in
      let new : Ready = record { hard = k.hard; soft = k.soft; address = x.answer; word = part d (j * cell_words r) (j * cell_words r + cell_words r) } in
      let Y1 = part-means o r unit (suc j) a qs len some w s S I.address in
      let M : MarksMean σ (entry c qs []) x.words x.store k = record { hard = up S Y1 I.marks.hard; soft = up S Y1 I.marks.soft } in
      let e : parts_from o unit c qs 1 (take j ds) ++ (part_entry c qs (part_pairs o unit qs (suc j)) (get_or ds j []) ∷ []) ≡ parts_from o unit c qs 1 (take (suc j) ds) = sym (more j b) in
      next-builds Y1 _ (pure-builds Y1.standard (record {
        ready = subst (λ (es : List Entry). AllReady σ r.sizes.n r.sizes.w es x.words x.store (xs ++ (new ∷ []))) e
            (ready_snoc r.sizes.n r.sizes.w (parts_from o unit c qs 1 (take j ds)) xs (part_entry c qs (part_pairs o unit qs (suc j)) (get_or ds j [])) new (up-ready S Y1 σ r.sizes.n r.sizes.w (parts_from o unit c qs 1 (take j ds)) xs I.ready)
            (record { hard = M.hard; soft = M.soft; address = Y1.post; word = up_word S Y1 (I.parts.cell j b); sized = sum_from-length (only false) (bits_of (length qs) (offset o unit (suc j))) qs ∙ len }));
        marks = M;
        address = up_halves S Y1 I.address;
        parts = record { cell = λ i l. up_word S Y1 (I.parts.cell i l) };
      }))
    where
      more : (j : ℕ) → j < length ds → parts_from o unit c qs 1 (take (suc j) ds) ≡ parts_from o unit c qs 1 (take j ds) ++ (part_entry c qs (part_pairs o unit qs (suc j)) (get_or ds j []) ∷ [])
      more j b =
          let e : 1 + length (take j ds) ≡ suc j = omega (arith, length-take j ds) in
          ap (λ (z : List (List Pair)). parts_from o unit c qs 1 z) (take-suc ds j [] b) ∙ parts_snoc o unit c qs 1 (take j ds) (get_or ds j [])
          ∙ ap (λ (i : ℕ). parts_from o unit c qs 1 (take j ds) ++ (part_entry c qs (part_pairs o unit qs i) (get_or ds j []) ∷ [])) e

  all-ready : {k : Marks} {w : List ℕ} {s : Store} {xs : List Ready} → Readied k (0 + unit) w s xs → AllReady σ r.sizes.n r.sizes.w (unit_entries o c qs ds) w s xs
  all-ready {w = w} {s = s} {xs = xs} I = subst (λ (z : List (List Pair)). AllReady σ r.sizes.n r.sizes.w (parts_from o unit c qs 1 z) w s xs) (take_all (0 + unit) ds (omega arith)) I.ready

  pub unit-write-means : (ch cl : ℕ) (w : List ℕ) (s : Store) → Standard w s.count → Means σ 8 (λ τ. c.h) w s ch → Means σ 8 (λ τ. c.l) w s cl → Halves σ 8 (2 * r.sizes.n) (λ τ. at qs) w s a → PartsMean σ r ds w s d
      → Builds w s (AllReady σ r.sizes.n r.sizes.w (unit_entries o c qs ds)) (UnitWrite o r unit ch cl a d w s)
  unfolding UnitWrite
  unit-write-means ch cl w s S H L A D =
      let X1 = write-means r.sizes.n ch cl a c qs [] len w s S H L A in
      let x : Outcome Marks = Write r.sizes.n ch cl a w s in
      let z : 0 + unit ≡ unit = omega arith in
      let X2 = each-builds (part_ready o r unit x.answer a d) (Readied x.answer) 0 unit (λ j xs w s lo hi S I. part-ready x.answer j xs w s (omega arith) S I) [] x.words x.store X1.standard
      (record { ready = tt; marks = X1.post; address = up_halves S X1 A; parts = record { cell = λ i l. up_word S X1 (D.cell i l) } }) in
      next-builds X1 _ (builds_weaker X2 (λ I. all-ready I))
