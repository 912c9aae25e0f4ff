-- Which access a triple makes: of the words of the table that its predicate has, and under its condition.
use mathlib.Core.Path.{◌≡◌, refl, sym, ap, subst, ◌∙◌}
use mathlib.Core.Bool.{Bool, true, false, cond}
use mathlib.Core.List.{List, [], ◌∷◌, ◌++◌, append_assoc}
use Prim.Native.Nat.{ℕ, suc, ◌+◌, ◌*◌, ◌-◌, ◌≤◌}
use native.Mathlib.Omega.{arith}
use native.Mathlib.Nat.{suc-mul}
use native.Mathlib.Numerals.{add-one}
use lib.Dec.{T, leb}
use lib.ListN.{length, get_or, take, drop, length-append, take-append-drop}
use lib.Seq.{length-take-le, drop-drop}
use Rattle.nodes.proofs.BoolLaws.{and_both}
use Rattle.formulas.specs.Language.{Tree, predicate, next, both, when, grouped, Listed, listed, placed}
use Rattle.formulas.specs.Claims.{numbers}
use Rattle.conditions.specs.Build.{Store}
use Rattle.model.specs.Record.{Record, part}
use Rattle.model.specs.Formula.{Triple}
use Rattle.model.specs.Step.{State, Call, access, Answer, refused, done, step}
use Rattle.model.proofs.FormulaLaws.{StandListed}
use Rattle.model.proofs.ListLaws.{part-size}
use Rattle.semantics.proofs.PairLaws.{T→eq}
use Rattle.formula_calls.specs.Call.{Making, asserting, checking, limits_of, in_order, listed_over, address_at, word_at, access_by, accesses_by}
use Rattle.formula_calls.specs.Claims.{unless_refused, tried, StandInWords, PredicateAt, MadeOf, is-assert, is-check, MadeAsListed}
use Rattle.formula_calls.proofs.RowLaws.{numbers-exactly}
use Rattle.formula_calls.proofs.WordLaws.{stands_in}

-- the words from a place on: those up to a later place, and those from it on
parted : (l : List ℕ) (a e : ℕ) → a ≤ e → drop a l ≡ part l a e ++ drop e l
parted l a e h = let z : a + (e - a) ≡ e = omega (arith, h) in sym (take-append-drop (e - a) (drop a l)) ∙ ap (λ (x : List ℕ). part l a e ++ x) (drop-drop (e - a) a l ∙ ap (λ (i : ℕ). drop i l) z)

-- a table of m words has predicate p whole, and those that are named
abbrev Fits : Record → ℕ → ℕ → Type 0
Fits r m p = (p + 1) * (2 * r.sizes.n + 2 * r.sizes.w) ≤ m

abbrev AllFit : Record → ℕ → List Listed → Type 0
AllFit r m [] = Unit {0}
AllFit r m (l ∷ ls) = Fits r m l.named × AllFit r m ls

abbrev TriplesFit : Record → ℕ → List Triple → Type 0
TriplesFit r m [] = Unit {0}
TriplesFit r m (t ∷ ts) = Fits r m t.named × TriplesFit r m ts

module _ (r : Record) (table : List ℕ) where
  predicate_at : (p : ℕ) → Fits r (length table) p → PredicateAt r table p (address_at r table p) (word_at r table p)
  predicate_at p h =
      let b : ℕ = p * (2 * r.sizes.n + 2 * r.sizes.w) in
      let e : ℕ = b + 2 * r.sizes.n in
      let f : ℕ = b + (2 * r.sizes.n + 2 * r.sizes.w) in
      let g : (p + 1) * (2 * r.sizes.n + 2 * r.sizes.w) ≡ f = rw (add-one) (suc-mul p (2 * r.sizes.n + 2 * r.sizes.w)) in
      let x : e + 2 * r.sizes.w ≡ f = omega arith in
      record {
        before = take b table;
        past = drop f table;
        is = sym (take-append-drop b table) ∙ ap (λ (l : List ℕ). take b table ++ l) (parted table b e (omega arith) ∙ ap (λ (l : List ℕ). part table b e ++ l) (parted table e f (omega arith)));
        at = length-take-le b table (omega (arith, g, h));
        address-long = part-size table b (2 * r.sizes.n) (omega (arith, g, h));
        word-long = ap (λ (i : ℕ). length (part table e i)) (sym x) ∙ part-size table e (2 * r.sizes.w) (omega (arith, g, h));
      }

  made_of : (k : Making) (t : Triple) → Fits r (length table) t.named → MadeOf r table t.condition t.named k (access (access_by k r table t))
  made_of asserting t h = is-assert _ _ (predicate_at t.named h)
  made_of checking t h = is-check _ _ (predicate_at t.named h)

  -- the accesses by the triples ts, behind those by us
  made-listed : (k : Making) (all : List Triple) (out ws : List ℕ) → StandInWords all out ws → (us ts : List Triple) (i : ℕ) (s : State) → all ≡ us ++ ts → length us ≡ i → TriplesFit r (length table) ts
      → MadeAsListed k r table ws i (tried (accesses_by k r table ts) s)
  unfolding tried
  made-listed k all out ws S us [] i s e l W = tt
  made-listed k all out ws S us (t ∷ ts) i s e l W = (
    (let (x, y, z) = S.at us ts t e in
        subst (λ (b : ℕ). MadeOf r table b (get_or ws (3 * i + 2) 0) k (access (access_by k r table t))) (sym y ∙ ap (λ (i : ℕ). get_or ws (3 * i + 1) 0) l)
        (subst (λ (p : ℕ). MadeOf r table t.condition p k (access (access_by k r table t))) (sym z ∙ ap (λ (i : ℕ). get_or ws (3 * i + 2) 0) l) (made_of k t W.0))),
    go (step (access (access_by k r table t)) s).answer (tried (accesses_by k r table ts) (step (access (access_by k r table t)) s).after)
        (made-listed k all out ws S (us ++ (t ∷ [])) ts (suc i) (step (access (access_by k r table t)) s).after (e ∙ sym (append_assoc us (t ∷ []) ts)) (length-append us (t ∷ []) ∙ omega (arith, l)) W.1),
  )
    where
      go : (x : Answer) (cs : List Call) → MadeAsListed k r table ws (suc i) cs → MadeAsListed k r table ws (suc i) (unless_refused x cs)
      go (refused j) cs M = tt
      go (done g) cs M = M

-- what is listed of a tree whose numbers are good, and in the order of the steps
module _ (r : Record) (m : ℕ) where
  fit_append : (xs ys : List Listed) → AllFit r m xs → AllFit r m ys → AllFit r m (xs ++ ys)
  fit_append [] ys U W = W
  fit_append (x ∷ xs) ys U W = (U.0, fit_append xs ys U.1 W)

  fit-placed : (t : Triple) (ts : List Triple) → Fits r m t.named → TriplesFit r m ts → TriplesFit r m (placed (λ (t : Triple). t.step) t ts)
  fit-placed t [] h W = (h, tt)
  fit-placed t (u ∷ us) h W = go (leb t.step u.step) (fit-placed t us h W.1)
    where
      go : (b : Bool) → TriplesFit r m (placed (λ (t : Triple). t.step) t us) → TriplesFit r m (cond b (t ∷ u ∷ us) (u ∷ placed (λ (t : Triple). t.step) t us))
      go true P = (h, W)
      go false P = (W.0, P)

  fit-ordered : (ts : List Triple) → TriplesFit r m ts → TriplesFit r m (in_order ts)
  fit-ordered [] W = tt
  fit-ordered (t ∷ ts) W = fit-placed t (in_order ts) W.0 (fit-ordered ts W.1)

  fit-stand : (v w : List ℕ) (s : Store) (ls : List Listed) (ts : List Triple) → StandListed v ls w s ts → AllFit r m ls → TriplesFit r m ts
  fit-stand v w s [] [] L W = tt
  fit-stand v w s [] (t ∷ ts) L W = absurd L
  fit-stand v w s (l ∷ ls) [] L W = absurd L
  fit-stand v w s (l ∷ ls) (t ∷ ts) L W = (subst (Fits r m) (sym L.0.same-named) W.0, fit-stand v w s ls ts L.1 W.1)

module _ (table : List ℕ) (s : State) (positive : 1 ≤ s.rec.sizes.n) where
  fit-listed : (k : ℕ) (bs : List ℕ) (t : Tree) → numbers (limits_of s table) t ≡ true → AllFit s.rec (length table) (listed k bs t)
  fit-listed k bs (predicate p) e = ((((numbers-exactly table s).predicates p positive).0 e).0, tt)
  fit-listed k bs (next t) e = fit-listed (suc k) bs t e
  fit-listed k bs (both t u) e = let (a, b) = and_both (numbers (limits_of s table) t) (numbers (limits_of s table) u) e in fit_append s.rec (length table) (listed k bs t) (listed k bs u) (fit-listed k bs t a) (fit-listed k bs u b)
  fit-listed k bs (when b t) e = let (x, y) = and_both ((limits_of s table).nodes b) (numbers (limits_of s table) t) e in fit-listed k (bs ++ (b ∷ [])) t y
  fit-listed k bs (grouped t) e = fit-listed k bs t e

  -- so the accesses by its triples are as the answer words list them
  pub triples-made : (k : Making) (out : List ℕ) (t : Tree) (ts : List Triple) (v w : List ℕ) (x : Store) (u : State) → T (numbers (limits_of s table) t) → StandListed v (listed 0 [] t) w x ts → 3 * length (in_order ts) ≤ length out
      → MadeAsListed k s.rec table (listed_over (in_order ts) out) 0 (tried (accesses_by k s.rec table (in_order ts)) u)
  triples-made k out t ts v w x u g L h =
      let W = fit-ordered s.rec (length table) ts (fit-stand s.rec (length table) v w x (listed 0 [] t) ts L (fit-listed 0 [] t (T→eq _ g))) in
      made-listed s.rec table k (in_order ts) out (listed_over (in_order ts) out) (stands_in (in_order ts) out (listed_over (in_order ts) out) h refl) [] (in_order ts) 0 u refl refl W
