-- What each access builds means, near one assignment: what `Published` says of the values there.
use mathlib.Core.Path.{◌≡◌, refl, sym, ap, ◌∙◌, subst}
use mathlib.Core.Bool.{Bool, true, false, ◌&&◌, ◌||◌, not, cond}
use mathlib.Core.List.{List, [], ◌∷◌, ◌++◌}
use Prim.Native.Nat.{ℕ, zero, suc, ◌+◌, ◌*◌, ◌≤◌, ◌<◌}
use native.Mathlib.Omega.{arith}
use native.Mathlib.Decide.{ℕ_discrete}
use lib.ListN.{length, get_or, set, take, replicate, length-set, length-replicate, get_or-replicate, length-take}
use lib.Seq.{take-suc, take_all, get_or-set_same, get_or-set_other}
use Rattle.conditions.specs.Stores.{Standard}
use Rattle.conditions.specs.Build.{Store, Outcome, Build, pure, next, for_each}
use Rattle.conditions.specs.Ite.{And}
use Rattle.conditions.specs.Meaning.{Meaning, Builds}
use Rattle.conditions.proofs.Promises.{pure-builds, next-builds, builds_weaker, each-builds}
use Rattle.semantics.specs.Pairs.{Pair, X, admit, admits, known, unique, at}
use Rattle.model.specs.Record.{Record, h_at, l_at, entry_at, address_of, data_of}
use Rattle.model.specs.Access.{unique_bit, Unique, Marks, Certain, Write, narrow_bit, Narrow, half_step, EachHalf, merge_half, entry_step, settle_half, Look, hold_half, inside_half, Inside, Check, AssertBuilt, Assert}
use Rattle.semantics.specs.Published.{Entry, certain, entry, union, look, holding, answer, inside, assert_holds, check_holds, keeps}
use Rattle.model.proofs.MeansLaws.{Means, means_as, means-from, up, one-means, ite-means, not-means, and-means, or-means, variable-means, any-means, placed, place, length-place}
use Rattle.model.proofs.HalfLaws.{half_of, half_even, half_odd, half-same, half-X, half_over, half-hold, over_in, scan_in, scan_in_snoc, look_is, unique-more, admits-more, inside_halves, inside_halves_lem}

-- steps for each number from 0 on
each : {A : Type 0} (f : ℕ → A → Build A) (I : ℕ → List ℕ → Store → A → Type 0) (k : ℕ)
    → ((j : ℕ) (a : A) (w : List ℕ) (s : Store) → j < k → Standard w s.count → I j w s a → Builds w s (I (suc j)) (f j a w s))
    → (a : A) (w : List ℕ) (s : Store) → Standard w s.count → I 0 w s a → Builds w s (I k) (for_each f 0 k a w s)
each f I k step a w s S h =
    let z : 0 + k ≡ k = omega arith in
    subst (λ (j : ℕ). Builds w s (I j) (for_each f 0 k a w s)) z (each-builds f I 0 k (λ j a w s l m. step j a w s (omega arith)) a w s S h)

-- the first k halves in these words, on variables from u up, mean f's, bit by bit
pub record Halves (σ : ℕ → Bool) (u k : ℕ) (f : (ℕ → Bool) → ℕ → Pair) (w : List ℕ) (s : Store) (ws : List ℕ) : Type 0 where
  pub half : (h : ℕ) → h < k → Means σ u (λ τ. half_of h (f τ)) w s (get_or ws h 0)

-- an entry's words mean the entry
pub record EntryMeans (σ : ℕ → Bool) (r : Record) (e : Entry) (w : List ℕ) (s : Store) (ws : List ℕ) : Type 0 where
  pub hard : Means σ 8 (λ τ. e.hard) w s (get_or ws 0 0)
  pub soft : Means σ 8 (λ τ. e.soft) w s (get_or ws 1 0)
  pub address : Halves σ 8 (2 * r.sizes.n) (λ τ. at e.address) w s (address_of r ws)
  pub word : Halves σ 8 (2 * r.sizes.w) (λ τ. at e.word) w s (data_of r ws)
  pub sized : length e.address ≡ r.sizes.n

abbrev pub no_entry : Entry
no_entry = record { hard = false; soft = false; address = []; word = [] }

-- the list's entries mean these
pub record EntriesMean (σ : ℕ → Bool) (r : Record) (es : List Entry) (w : List ℕ) (s : Store) (l : List ℕ) : Type 0 where
  pub count : length es ≡ r.entries
  pub at : (j : ℕ) → j < r.entries → EntryMeans σ r (get_or es j no_entry) w s (entry_at r l j)

module _ {σ : ℕ → Bool} {A : Type 0} {w : List ℕ} {s : Store} {P : List ℕ → Store → A → Type 0} {x : Outcome A} (S : Standard w s.count) (B : Builds w s P x) where
  pub up_halves : {u k : ℕ} {f : (ℕ → Bool) → ℕ → Pair} {ws : List ℕ} → Halves σ u k f w s ws → Halves σ u k f x.words x.store ws
  up_halves H = record { half = λ h l. up S B (H.half h l) }

  pub up-entry : {r : Record} {e : Entry} {ws : List ℕ} → EntryMeans σ r e w s ws → EntryMeans σ r e x.words x.store ws
  up-entry E = record { hard = up S B E.hard; soft = up S B E.soft; address = up_halves E.address; word = up_halves E.word; sized = E.sized }

  pub up-entries : {r : Record} {es : List Entry} {l : List ℕ} → EntriesMean σ r es w s l → EntriesMean σ r es x.words x.store l
  up-entries E = record { count = E.count; at = λ j h. up-entry (E.at j h) }

module _ {σ : ℕ → Bool} {u k : ℕ} {f : (ℕ → Bool) → ℕ → Pair} {w : List ℕ} {s : Store} {ws : List ℕ} (H : Halves σ u (2 * k) f w s ws) (i : ℕ) (l : i < k) where
  h-means : Means σ u (λ τ. (f τ i).h) w s (h_at ws i)
  h-means = means_as (H.half (2 * i) (omega arith)) (λ τ. half_even i (f τ))

  l-means : Means σ u (λ τ. (f τ i).l) w s (l_at ws i)
  l-means = means_as (H.half (2 * i + 1) (omega arith)) (λ τ. half_odd i (f τ))

-- a write's h and s mean the entry's
pub record MarksMean (σ : ℕ → Bool) (e : Entry) (w : List ℕ) (s : Store) (m : Marks) : Type 0 where
  pub hard : Means σ 8 (λ τ. e.hard) w s m.hard
  pub soft : Means σ 8 (λ τ. e.soft) w s m.soft

and_true : (a : Bool) → (a && true) ≡ a
and_true true = refl
and_true false = refl

and_assoc : (a b c : Bool) → (a && b && c) ≡ (a && (b && c))
and_assoc true b c = refl
and_assoc false b c = refl

cond-admit : (b : Bool) (q : Pair) → cond b q.h q.l ≡ admit q b
cond-admit true q = refl
cond-admit false q = refl

module _ {σ : ℕ → Bool} where
  pub unique-means : (n : ℕ) (a : List ℕ) (qs : List Pair) → length qs ≡ n → (w : List ℕ) (s : Store) → Standard w s.count → Halves σ 8 (2 * n) (λ τ. at qs) w s a
      → Builds w s (Means σ 8 (λ τ. unique qs)) (Unique n a w s)
  unfolding Unique unique_bit
  unique-means n a qs len w s S A =
      builds_weaker
      (each (λ i. unique_bit (h_at a i) (l_at a i)) (λ i w s u. Means σ 8 (λ τ. unique (take i qs)) w s u × Halves σ 8 (2 * n) (λ τ. at qs) w s a) n
      (λ i u w s l S I.
      let X = and-means S (h-means I.1 i (omega arith)) (l-means I.1 i (omega arith)) in
      let Y = not-means X.standard X.post in
      let Z = and-means Y.standard (up X.standard Y (up S X I.0)) Y.post in
      let B = next-builds X _ (next-builds Y _ Z) in
      builds_weaker B (λ M. (means_as M (λ τ. sym (unique-more qs i (omega arith))), up_halves S B I.1)))
      1 w s S (one-means 8 (omega arith) S, A))
      (λ I. means_as I.0 (λ τ. ap unique (take_all n qs (omega arith))))

  pub certain-means : {w : List ℕ} {s : Store} {ch cl : ℕ} {c : Pair} → Standard w s.count → Means σ 8 (λ τ. c.h) w s ch → Means σ 8 (λ τ. c.l) w s cl → Builds w s (Means σ 8 (λ τ. certain c)) (Certain ch cl w s)
  unfolding Certain
  certain-means S H L =
      let X = not-means S L in
      let Y = and-means X.standard (up S X H) X.post in
      next-builds X _ Y

  pub write-means : (n : ℕ) (ch cl : ℕ) (a : List ℕ) (c : Pair) (qs ds : List Pair) → length qs ≡ n → (w : List ℕ) (s : Store) → Standard w s.count
      → Means σ 8 (λ τ. c.h) w s ch → Means σ 8 (λ τ. c.l) w s cl → Halves σ 8 (2 * n) (λ τ. at qs) w s a → Builds w s (MarksMean σ (entry c qs ds)) (Write n ch cl a w s)
  unfolding Write
  write-means n ch cl a c qs ds len w s S H L A =
      let X1 = certain-means {c = c} S H L in
      let X2 = unique-means n a qs len _ _ X1.standard (up_halves S X1 A) in
      let X3 = and-means X2.standard (up X1.standard X2 X1.post) X2.post in
      let H3 = up X2.standard X3 (up X1.standard X2 (up S X1 H)) in
      let L3 = up X2.standard X3 (up X1.standard X2 (up S X1 L)) in
      let X4 = and-means X3.standard H3 L3 in
      let U4 = up X3.standard X4 (up X2.standard X3 X2.post) in
      let C4 = up X3.standard X4 (up X2.standard X3 (up X1.standard X2 X1.post)) in
      let X5 = not-means X4.standard U4 in
      let X6 = and-means X5.standard (up X4.standard X5 C4) X5.post in
      let X7 = or-means X6.standard (up X5.standard X6 (up X4.standard X5 X4.post)) X6.post in
      let M3 = up X6.standard X7 (up X5.standard X6 (up X4.standard X5 (up X3.standard X4 X3.post))) in
      next-builds X1 _ (next-builds X2 _ (next-builds X3 _ (next-builds X4 _ (next-builds X5 _ (next-builds X6 _ (next-builds X7 _ (pure-builds X7.standard (record { hard = M3; soft = X7.post }))))))))

  pub narrow-means : (n : ℕ) (a : List ℕ) (m : ℕ) (μ : Meaning) (qs : List Pair) → length qs ≡ n → n ≤ 8 → (w : List ℕ) (s : Store) → Standard w s.count → Means σ 0 μ w s m → Halves σ 8 (2 * n) (λ τ. at qs) w s a
      → Builds w s (Means σ 0 (λ τ. μ τ && admits qs (place n τ))) (Narrow n a m w s)
  unfolding Narrow narrow_bit
  narrow-means n a m μ qs len small w s S M A =
      builds_weaker
      (each (λ i. narrow_bit i (h_at a i) (l_at a i)) (λ i w s v. Means σ 0 (λ τ. μ τ && admits (take i qs) (place i τ)) w s v × Halves σ 8 (2 * n) (λ τ. at qs) w s a) n
      (λ i v w s l S I.
      let X = variable-means S (omega arith) in
      let A1 = up_halves S X I.1 in
      let Y = ite-means X.standard (means-from (omega arith) X.post) (means-from (omega arith) (h-means A1 i (omega arith))) (means-from (omega arith) (l-means A1 i (omega arith))) in
      let Z = and-means Y.standard (up X.standard Y (up S X I.0)) Y.post in
      let B = next-builds X _ (next-builds Y _ Z) in
      builds_weaker B
      (λ N. (
        means_as N
            (λ τ. ap (λ (b : Bool). μ τ && admits (take i qs) (place i τ) && b) (cond-admit (τ i) (at qs i))
            ∙ and_assoc (μ τ) (admits (take i qs) (place i τ)) (admit (at qs i) (τ i))
            ∙ ap (λ (b : Bool). μ τ && b) (sym (admits-more qs i (place i τ) (τ i) (omega arith) (taken i τ (omega arith))))),
        up_halves S B I.1,
      )))
      m w s S (means_as M (λ τ. sym (and_true (μ τ))), A))
      (λ I. means_as I.0 (λ τ. ap (λ (l : List Pair). μ τ && admits l (place n τ)) (take_all n qs (omega arith))))
    where
      taken : (i : ℕ) (τ : ℕ → Bool) → i < n → length (take i qs) ≡ length (place i τ)
      taken i τ h = length-take i qs ∙ (let e : length (place i τ) ≡ i = length-place i τ in omega arith)

-- each half of a word in its turn, while C stays
module _ {σ : ℕ → Bool} (C : List ℕ → Store → Type 0) (stays : (A : Type 0) (w : List ℕ) (s : Store) (P : List ℕ → Store → A → Type 0) (x : Outcome A) → Standard w s.count → Builds w s P x → C w s → C x.words x.store)
    (f : ℕ → ℕ → Build ℕ) (K u v : ℕ) (φ ψ : (ℕ → Bool) → ℕ → Pair)
    (step : (j x : ℕ) (w : List ℕ) (s : Store) → j < K → Standard w s.count → C w s → Means σ u (λ τ. half_of j (φ τ)) w s x → Builds w s (Means σ v (λ τ. half_of j (ψ τ))) (f j x w s)) where
  abbrev Between : ℕ → List ℕ → Store → List ℕ → Type 0
  Between j w s r = (length r ≡ K) × ((h : ℕ) → h < j → Means σ v (λ τ. half_of h (ψ τ)) w s (get_or r h 0)) × ((h : ℕ) → j ≤ h → h < K → Means σ u (λ τ. half_of h (φ τ)) w s (get_or r h 0)) × C w s

  one_half : (j : ℕ) (r : List ℕ) (w : List ℕ) (s : Store) → j < K → Standard w s.count → Between j w s r → Builds w s (Between (suc j)) (half_step f j r w s)
  unfolding half_step
  one_half j r w s l S I =
      let X = step j (get_or r j 0) w s (omega arith) S I.3 (I.2 j (omega arith) (omega arith)) in
      next-builds X _ (pure-builds X.standard (length-set r j _ ∙ I.0, (λ h k. done X h k (ℕ_discrete h j)), (λ h k b. rw (get_or-set_other r j h (f j (get_or r j 0) w s).answer 0 (omega arith)) (up S X (I.2 h (omega arith) b))), stays ℕ w s _ _ S X I.3))
    where
      done : Builds w s (Means σ v (λ τ. half_of j (ψ τ))) (f j (get_or r j 0) w s) → (h : ℕ) → h < suc j → Dec (h ≡ j)
          → Means σ v (λ τ. half_of h (ψ τ)) (f j (get_or r j 0) w s).words (f j (get_or r j 0) w s).store (get_or (set r j (f j (get_or r j 0) w s).answer) h 0)
      done X h k (yes e) = rw (e, get_or-set_same r j (f j (get_or r j 0) w s).answer 0 (omega (arith, I.0))) X.post
      done X h k (no e) = rw (get_or-set_other r j h (f j (get_or r j 0) w s).answer 0 e) (up S X (I.1 h (omega arith)))

  pub each_half : (r : List ℕ) (w : List ℕ) (s : Store) → Standard w s.count → C w s → length r ≡ K → Halves σ u K φ w s r
      → Builds w s (λ w s r. (length r ≡ K) × Halves σ v K ψ w s r) (EachHalf f K r w s)
  unfolding EachHalf
  each_half r w s S c len R =
      builds_weaker (each (half_step f) Between K one_half r w s S (len, (λ h k. absurd (omega arith)), (λ h a b. R.half h b), c))
      (λ I. (I.0, record { half = λ h l. I.1 h (omega arith) }))

-- the same halves, said otherwise
halves_as : {σ : ℕ → Bool} {u k : ℕ} {f g : (ℕ → Bool) → ℕ → Pair} {w : List ℕ} {s : Store} {ws : List ℕ} → Halves σ u k f w s ws → ((τ : ℕ → Bool) (i : ℕ) → f τ i ≡ g τ i) → Halves σ u k g w s ws
halves_as {f = f} {g = g} H e = record { half = λ h l. means_as (H.half h l) (λ τ. half-same h (f τ) (g τ) (e τ)) }

-- a word of k halves, on variables from u up, that means f
pub record Word (σ : ℕ → Bool) (u k : ℕ) (f : (ℕ → Bool) → ℕ → Pair) (w : List ℕ) (s : Store) (r : List ℕ) : Type 0 where
  pub size : length r ≡ k
  pub halves : Halves σ u k f w s r

X-word : {σ : ℕ → Bool} {w : List ℕ} {s : Store} (k : ℕ) → Standard w s.count → Word σ 0 k (λ τ i. X) w s (replicate k 1)
X-word k S = record {
  size = length-replicate k 1;
  halves = record { half = λ h l. rw (get_or-replicate {A = ℕ} k h 1 0 l) (means_as (one-means 0 (omega arith) S) (λ τ. sym (half-X h))) };
}

-- what stays while an entry is merged
record Merging (σ : ℕ → Bool) (hm sm : ℕ) (η ξ : Meaning) (k : ℕ) (e : Entry) (ws : List ℕ) (w : List ℕ) (s : Store) : Type 0 where
  hard : Means σ 0 η w s hm
  soft : Means σ 0 ξ w s sm
  word : Halves σ 8 k (λ τ. at e.word) w s ws

module _ {σ : ℕ → Bool} (r : Record) (l : List ℕ) (small : r.sizes.n ≤ 8) where
  entry-means : (inside j : ℕ) (ι : Meaning) (e : Entry) (φ : (ℕ → Bool) → ℕ → Pair) (word : List ℕ) (w : List ℕ) (s : Store) → Standard w s.count → Means σ 0 ι w s inside → EntryMeans σ r e w s (entry_at r l j)
      → Word σ 0 (2 * r.sizes.w) φ w s word → Builds w s (Word σ 0 (2 * r.sizes.w) (λ τ i. over_in (ι τ) e (place r.sizes.n τ) i (φ τ i))) (entry_step r inside (entry_at r l j) word w s)
  unfolding entry_step merge_half
  entry-means inside j ι e φ word w s S I E R =
      let X1 = narrow-means r.sizes.n (address_of r (entry_at r l j)) inside ι e.address E.sized small w s S I E.address in
      let E1 = up-entry S X1 E in
      let X2 = and-means X1.standard X1.post (means-from (omega arith) E1.hard) in
      let E2 = up-entry X1.standard X2 E1 in
      let X3 = and-means X2.standard (up X1.standard X2 X1.post) (means-from (omega arith) E2.soft) in
      let E3 = up-entry X2.standard X3 E2 in
      let R3 = up_halves X2.standard X3 (up_halves X1.standard X2 (up_halves S X1 R.halves)) in
      let η : Meaning = λ τ. ι τ && admits e.address (place r.sizes.n τ) && e.hard in
      let ξ : Meaning = λ τ. ι τ && admits e.address (place r.sizes.n τ) && e.soft in
      let X4 = each_half (Merging σ _ _ η ξ (2 * r.sizes.w) e (data_of r (entry_at r l j))) merging (λ k. merge_half _ _ (get_or (data_of r (entry_at r l j)) k 0)) (2 * r.sizes.w) 0 0 φ (λ τ i. over_in (ι τ) e (place r.sizes.n τ) i (φ τ i))
      (merge _ _ η ξ) word _ _ X3.standard (record { hard = up X2.standard X3 X2.post; soft = X3.post; word = E3.word }) R.size R3 in
      next-builds X1 _ (next-builds X2 _ (next-builds X3 _ (builds_weaker X4 (λ Q. record { size = Q.0; halves = Q.1 }))))
    where
      merging : {hm sm : ℕ} {η ξ : Meaning} {k : ℕ} {e : Entry} {ws : List ℕ} (A : Type 0) (w : List ℕ) (s : Store) (P : List ℕ → Store → A → Type 0) (x : Outcome A) → Standard w s.count → Builds w s P x
          → Merging σ hm sm η ξ k e ws w s → Merging σ hm sm η ξ k e ws x.words x.store
      merging A w s P x S X M = record { hard = up S X M.hard; soft = up S X M.soft; word = up_halves S X M.word }

      merge : (hm sm : ℕ) (η ξ : Meaning) (k x : ℕ) (w : List ℕ) (s : Store) → k < 2 * r.sizes.w → Standard w s.count → Merging σ hm sm η ξ (2 * r.sizes.w) e (data_of r (entry_at r l j)) w s
          → Means σ 0 (λ τ. half_of k (φ τ)) w s x
          → Builds w s (Means σ 0 (λ τ. half_of k (λ i. cond (η τ) (at e.word i) (cond (ξ τ) (union (at e.word i) (φ τ i)) (φ τ i))))) (merge_half hm sm (get_or (data_of r (entry_at r l j)) k 0) x w s)
      merge hm sm η ξ k x w s h S M R =
          let D = means-from {u' = 0} (omega arith) (M.word.half k h) in
          let Y1 = or-means S D R in
          let Y2 = ite-means Y1.standard (up S Y1 M.soft) Y1.post (up S Y1 R) in
          let Y3 = ite-means Y2.standard (up Y1.standard Y2 (up S Y1 M.hard)) (up Y1.standard Y2 (up S Y1 D)) Y2.post in
          builds_weaker (next-builds Y1 _ (next-builds Y2 _ Y3)) (λ N. means_as N (λ τ. half_over (η τ) (ξ τ) k (at e.word) (φ τ)))

  scan-means : (inside : ℕ) (ι : Meaning) (es : List Entry) (w : List ℕ) (s : Store) → Standard w s.count → Means σ 0 ι w s inside → EntriesMean σ r es w s l
      → Builds w s (Word σ 0 (2 * r.sizes.w) (λ τ i. scan_in (ι τ) es (place r.sizes.n τ) i X)) (for_each (λ j. entry_step r inside (entry_at r l j)) 0 r.entries (replicate (2 * r.sizes.w) 1) w s)
  scan-means inside ι es w s S I E =
      builds_weaker
      (each (λ j. entry_step r inside (entry_at r l j)) (λ j w s word. Word σ 0 (2 * r.sizes.w) (λ τ i. scan_in (ι τ) (take j es) (place r.sizes.n τ) i X) w s word × Means σ 0 ι w s inside × EntriesMean σ r es w s l) r.entries
      (λ j word w s h S Q.
      let B = entry-means inside j ι (get_or es j no_entry) _ word w s S Q.1 (Q.2.at j h) Q.0 in
      builds_weaker B
      (λ N. (
        record { size = N.size; halves = halves_as N.halves (λ τ i. sym (ap (λ (l : List Entry). scan_in (ι τ) l (place r.sizes.n τ) i X) (take-suc es j no_entry (omega (arith, E.count))) ∙ scan_in_snoc (ι τ) (take j es) (get_or es j no_entry) (place r.sizes.n τ) i X)) },
        up S B Q.1,
        up-entries S B Q.2,
      )))
      (replicate (2 * r.sizes.w) 1) w s S (X-word (2 * r.sizes.w) S, I, E))
      (λ Q. record { size = Q.0.size; halves = halves_as Q.0.halves (λ τ i. ap (λ (l : List Entry). scan_in (ι τ) l (place r.sizes.n τ) i X) (take_all r.entries es (omega (arith, E.count)))) })

  pub look-means : (es : List Entry) (a : List ℕ) (qs : List Pair) → length qs ≡ r.sizes.n → (w : List ℕ) (s : Store) → Standard w s.count → EntriesMean σ r es w s l → Halves σ 8 (2 * r.sizes.n) (λ τ. at qs) w s a
      → Builds w s (Word σ 8 (2 * r.sizes.w) (λ τ. look r.sizes.n es qs)) (Look r l a w s)
  unfolding Look settle_half
  look-means es a qs len w s S E A =
      let X1 = narrow-means r.sizes.n a 1 (λ τ. true) qs len small w s S (one-means 0 (omega arith) S) A in
      let X2 = scan-means _ (λ τ. admits qs (place r.sizes.n τ)) es _ _ X1.standard X1.post (up-entries S X1 E) in
      let X3 = each_half (λ w s. Means σ 0 (λ τ. admits qs (place r.sizes.n τ)) w s _) (λ A w s P x S X M. up S X M) (λ k. settle_half _) (2 * r.sizes.w) 0 8
      (λ τ i. scan_in (admits qs (place r.sizes.n τ)) es (place r.sizes.n τ) i X) (λ τ. look r.sizes.n es qs) (λ j x w s h S I R. settle j x _ w s S I R) _ _ _ X2.standard (up X1.standard X2 X1.post) X2.post.size X2.post.halves in
      next-builds X1 _ (next-builds X2 _ (builds_weaker X3 (λ Q. record { size = Q.0; halves = Q.1 })))
    where
      settle : (j x inside : ℕ) (w : List ℕ) (s : Store) → Standard w s.count → Means σ 0 (λ τ. admits qs (place r.sizes.n τ)) w s inside
          → Means σ 0 (λ τ. half_of j (λ i. scan_in (admits qs (place r.sizes.n τ)) es (place r.sizes.n τ) i X)) w s x → Builds w s (Means σ 8 (λ τ. half_of j (look r.sizes.n es qs))) (settle_half inside x w s)
      settle j x inside w s S I R =
          let Y1 = and-means S I R in
          let Y2 = any-means Y1.standard Y1.post in
          builds_weaker (next-builds Y1 _ Y2) (λ N. means_as N (λ τ. look_is r.sizes.n small es qs j τ))

  -- each half of a look beside the same half of the word that the port holds
  pub hold-means : (e : Pair) (f g : ℕ → Pair) (eh held-s j x : ℕ) (held : List ℕ) (w : List ℕ) (s : Store) → j < 2 * r.sizes.w → Standard w s.count → Means σ 8 (λ τ. e.h && e.l) w s held-s → Means σ 8 (λ τ. e.h) w s eh
      → Halves σ 8 (2 * r.sizes.w) (λ τ. g) w s held → Means σ 8 (λ τ. half_of j f) w s x → Builds w s (Means σ 8 (λ τ. half_of j (λ i. holding e (f i) (g i)))) (hold_half held-s eh (get_or held j 0) x w s)
  unfolding hold_half
  hold-means e f g eh held-s j x held w s h S B H G R =
      let Z1 = ite-means S B R H in
      let Z2 = ite-means Z1.standard Z1.post (up S Z1 R) (up S Z1 (G.half j h)) in
      builds_weaker (next-builds Z1 _ Z2) (λ N. means_as N (λ τ. half-hold e j f g))

module _ {σ : ℕ → Bool} where
  pub inside-means : (k : ℕ) (x y : List ℕ) (f g : ℕ → Pair) (w : List ℕ) (s : Store) → Standard w s.count → Halves σ 8 (2 * k) (λ τ. f) w s x → Halves σ 8 (2 * k) (λ τ. g) w s y
      → Builds w s (Means σ 8 (λ τ. inside k f g)) (Inside (2 * k) x y w s)
  unfolding Inside inside_half
  inside-means k x y f g w s S X Y =
      builds_weaker
      (each (λ j. inside_half (get_or x j 0) (get_or y j 0)) (λ j w s c. Means σ 8 (λ τ. inside_halves j f g) w s c × Halves σ 8 (2 * k) (λ τ. f) w s x × Halves σ 8 (2 * k) (λ τ. g) w s y) (2 * k)
      (λ j c w s h S Q.
      let Z1 = not-means S (Q.1.half j h) in
      let Z2 = or-means Z1.standard Z1.post (up S Z1 (Q.2.half j h)) in
      let Z3 = and-means Z2.standard (up Z1.standard Z2 (up S Z1 Q.0)) Z2.post in
      let B = next-builds Z1 _ (next-builds Z2 _ Z3) in
      builds_weaker B (λ N. (N, up_halves S B Q.1, up_halves S B Q.2)))
      1 w s S (one-means 8 (omega arith) S, X, Y))
      (λ Q. means_as Q.0 (λ τ. inside_halves_lem k f g))

-- what the nodes of an assert mean
pub record AssertBuiltMean (σ : ℕ → Bool) (α β κ : Bool) (w : List ℕ) (s : Store) (q : AssertBuilt) : Type 0 where
  pub condition : Means σ 8 (λ τ. α) w s q.condition
  pub not_b : Means σ 8 (λ τ. β) w s q.not_b
  pub keep : Means σ 8 (λ τ. κ) w s q.keep

module _ {σ : ℕ → Bool} (r : Record) (l : List ℕ) (small : r.sizes.n ≤ 8) (es : List Entry) (b : ℕ) (β κ : Bool) (a d : List ℕ) (qs ds : List Pair) (len : length qs ≡ r.sizes.n) (w : List ℕ) (s : Store)
    (S : Standard w s.count) (E : EntriesMean σ r es w s l) (B : Means σ 8 (λ τ. β) w s b) (A : Halves σ 8 (2 * r.sizes.n) (λ τ. at qs) w s a) (D : Halves σ 8 (2 * r.sizes.w) (λ τ. at ds) w s d) where
  pub check-means : Means σ 8 (λ τ. κ) w s r.checked → Builds w s (Means σ 8 (λ τ. κ && check_holds r.sizes es β qs ds)) (Check r l b a d w s)
  unfolding Check
  check-means K =
      let X1 = look-means r l small es a qs len w s S E A in
      let X2 = inside-means r.sizes.w _ d (look r.sizes.n es qs) (at ds) _ _ X1.standard X1.post.halves (up_halves S X1 D) in
      let X3 = not-means X2.standard (up X1.standard X2 (up S X1 B)) in
      let X4 = or-means X3.standard X3.post (up X2.standard X3 X2.post) in
      let X5 = and-means X4.standard (up X3.standard X4 (up X2.standard X3 (up X1.standard X2 (up S X1 K)))) X4.post in
      next-builds X1 _ (next-builds X2 _ (next-builds X3 _ (next-builds X4 _ X5)))

  pub assert-means : Means σ 8 (λ τ. κ) w s r.asserted
      → Builds w s (AssertBuiltMean σ (κ && assert_holds r.sizes es β qs ds) (not β) (keeps r.sizes es β qs ds)) (Assert r l b a d w s)
  unfolding Assert
  assert-means K =
      let X1 = look-means r l small es a qs len w s S E A in
      let X2 = inside-means r.sizes.w d _ (at ds) (look r.sizes.n es qs) _ _ X1.standard (up_halves S X1 D) X1.post.halves in
      let S2 = X2.standard in
      let X3 = not-means S2 (up X1.standard X2 (up S X1 B)) in
      let S3 = X3.standard in
      let X4 = or-means S3 X3.post (up S2 X3 X2.post) in
      let S4 = X4.standard in
      let X5 = and-means S4 (up S3 X4 (up S2 X3 (up X1.standard X2 (up S X1 K)))) X4.post in
      let S5 = X5.standard in
      let D5 = up_halves S4 X5 (up_halves S3 X4 (up_halves S2 X3 (up_halves X1.standard X2 (up_halves S X1 D)))) in
      let R5 = up_halves S4 X5 (up_halves S3 X4 (up_halves S2 X3 (up_halves X1.standard X2 X1.post.halves))) in
      let X6 = inside-means r.sizes.w _ d (look r.sizes.n es qs) (at ds) _ _ S5 R5 D5 in
      let S6 = X6.standard in
      let X7 = and-means S6 (up S5 X6 (up S4 X5 (up S3 X4 (up S2 X3 X2.post)))) X6.post in
      let S7 = X7.standard in
      let V7 = up S6 X7 (up S5 X6 (up S4 X5 (up S3 X4 X3.post))) in
      let X8 = or-means S7 V7 X7.post in
      let C8 = up S7 X8 (up S6 X7 (up S5 X6 X5.post)) in
      next-builds X1 _
      (next-builds X2 _
      (next-builds X3 _
      (next-builds X4 _
      (next-builds X5 _
      (next-builds X6 _
      (next-builds X7 _ (next-builds X8 _ (pure-builds X8.standard (record { condition = C8; not_b = up S7 X8 V7; keep = X8.post })))))))))
