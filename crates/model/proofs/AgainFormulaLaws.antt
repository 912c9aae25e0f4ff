-- The conditions of a formula built again, in the store that they left or one grown out of that: nothing is built, and the triples are the same.
use mathlib.Core.Path.{◌≡◌, refl, sym, ap, ◌∙◌}
use mathlib.Core.Bool.{false}
use mathlib.Core.List.{List, ◌++◌}
use Prim.Native.Nat.{ℕ, suc, ◌<◌}
use native.Mathlib.Omega.{arith}
use Rattle.formulas.specs.Language.{Tree, predicate, next, both, when, grouped}
use Rattle.conditions.specs.Stores.{Standard, Extends}
use Rattle.conditions.specs.Build as build
use Rattle.conditions.specs.Build.{Store, Outcome, Build, pure}
use Rattle.conditions.specs.Ite.{And}
use Rattle.conditions.specs.Meaning.{Builds}
use Rattle.conditions.proofs.Promises.{extends_trans, pure-builds, next-builds, was_free, next_is, stands-value, and-builds, ite-again}
use Rattle.model.specs.Formula.{Triple, Triples}
use Rattle.model.specs.Table.{EachArrow}
use Rattle.model.proofs.FormulaLaws.{each_arrow}

-- a store that grew out of what a program left, and is not full
pub record LaterThan {A : Type 0} (x : Outcome A) (w : List ℕ) (s : Store) : Type 0 where
  pub standard : Standard w s.count
  pub extends : Extends x.words x.store.count w s.count
  pub free : s.full ≡ false

next_of : {A B : Type 0} (x : Outcome A) (k : A → Build B) → build.next x k ≡ k x.answer x.words x.store
next_of x k = sym (next_is k refl refl)

module _ (k c : ℕ) (w : List ℕ) (s : Store) where
  -- two formulas joined by `&`, and one behind an arrow
  pub both_is : (t u : Tree) → let x = Triples k c t w s in let y = Triples k c u x.words x.store in Triples k c (both t u) w s ≡ pure (x.answer ++ y.answer) y.words y.store
  unfolding Triples
  both_is t u = next_of (Triples k c t w s) _ ∙ next_of _ _

  pub when_is : (b : ℕ) (t : Tree) → let x = And c b w s in Triples k c (when b t) w s ≡ Triples k x.answer t x.words x.store
  unfolding Triples
  when_is b t = next_of (And c b w s) _

module _ (w : List ℕ) (s : Store) (S : Standard w s.count) where
  -- And of two nodes
  pub and-grows : (c b : ℕ) → c < s.count → b < s.count → Builds w s (λ w s n. n < s.count) (And c b w s)
  and-grows c b C B =
      let X = and-builds S (stands-value w s 0 c C (omega arith)) (stands-value w s 0 b B (omega arith)) in
      record { standard = X.standard; extends = X.extends; stuck = X.stuck; post = X.post.below }

-- of nodes below the count
abbrev Below : Store → Tree → Type 0
Below s t = EachArrow (λ b. b < s.count) t

below-grows : {A : Type 0} {P : List ℕ → Store → A → Type 0} {w : List ℕ} {s : Store} {x : Outcome A} → Builds w s P x → (t : Tree) → Below s t → Below x.store t
below-grows X t = each_arrow (λ b h. omega (arith, h, X.extends.more)) t

pub triples-grow : (k c : ℕ) (t : Tree) (w : List ℕ) (s : Store) → Standard w s.count → c < s.count → EachArrow (λ b. b < s.count) t → Builds w s (λ w s ts. Unit {0}) (Triples k c t w s)
unfolding Triples
triples-grow k c (predicate n) w s S C A = pure-builds S tt
triples-grow k c (next t) w s S C A = triples-grow (suc k) c t w s S C A
triples-grow k c (both t u) w s S C A =
    let x = Triples k c t w s in
    let X = triples-grow k c t w s S C A.0 in
    let Y = triples-grow k c u x.words x.store X.standard (omega (arith, C, X.extends.more)) (below-grows X u A.1) in
    next-builds X (λ xs w s. build.next (Triples k c u w s) (λ ys. pure (xs ++ ys))) (next-builds Y (λ ys. pure (x.answer ++ ys)) (pure-builds Y.standard tt))
triples-grow k c (when b t) w s S C A =
    let x = And c b w s in
    let X = and-grows w s S c b C A.0 in
    next-builds X (λ d. Triples k d t) (triples-grow k x.answer t x.words x.store X.standard X.post (below-grows X t A.1))
triples-grow k c (grouped t) w s S C A = triples-grow k c t w s S C A

abbrev Again : Tree → Type 0
Again t =
    (k c : ℕ) (w : List ℕ) (s : Store) → Standard w s.count → c < s.count → EachArrow (λ b. b < s.count) t → (Triples k c t w s).store.full ≡ false → (w' : List ℕ) (s' : Store) → LaterThan (Triples k c t w s) w' s'
    → Triples k c t w' s' ≡ pure (Triples k c t w s).answer w' s'

both-again : (t u : Tree) → Again t → Again u → Again (both t u)
both-again t u T U k c w s S C A f w' s' l =
    let x = Triples k c t w s in
    let y = Triples k c u x.words x.store in
    let e = both_is k c w s t u in
    let X = triples-grow k c t w s S C A.0 in
    let D : c < x.store.count = omega (arith, C, X.extends.more) in
    let B = below-grows X u A.1 in
    let Y = triples-grow k c u x.words x.store X.standard D B in
    let fy : y.store.full ≡ false = ap (λ (o : Outcome (List Triple)). o.store.full) (sym e) ∙ f in
    let ly : LaterThan y w' s' = record { standard = l.standard; extends = rw e at l.extends; free = l.free } in
    let lx : LaterThan x w' s' = record { standard = l.standard; extends = extends_trans Y.extends ly.extends; free = l.free } in
    let ax = T k c w s S C A.0 (was_free Y fy) w' s' lx in
    let ay = U k c x.words x.store X.standard D B fy w' s' ly in
    rw (both_is k c w' s' t u, ax, ay, e) refl

when-again : (b : ℕ) (t : Tree) → Again t → Again (when b t)
when-again b t T k c w s S C A f w' s' l =
    let x = And c b w s in
    let e = when_is k c w s b t in
    let X = and-grows w s S c b C A.0 in
    let B = below-grows X t A.1 in
    let Y = triples-grow k x.answer t x.words x.store X.standard X.post B in
    let y = Triples k x.answer t x.words x.store in
    let fy : y.store.full ≡ false = ap (λ (o : Outcome (List Triple)). o.store.full) (sym e) ∙ f in
    let ly : LaterThan y w' s' = record { standard = l.standard; extends = rw e at l.extends; free = l.free } in
    let ax : And c b w' s' ≡ pure x.answer w' s' =
    ite-again w s c b 0 (record { standard = S; first = C; second = A.0; third = omega (arith, S.two) }) (was_free Y fy) w' s' (record { standard = l.standard; extends = extends_trans Y.extends ly.extends; free = l.free }) in
    let ay = T k x.answer x.words x.store X.standard X.post B fy w' s' ly in
    rw (when_is k c w' s' b t, ax, ay, e) refl

pub triples-again : (k c : ℕ) (t : Tree) (w : List ℕ) (s : Store) → Standard w s.count → c < s.count → EachArrow (λ b. b < s.count) t → (Triples k c t w s).store.full ≡ false → (w' : List ℕ) (s' : Store)
    → LaterThan (Triples k c t w s) w' s' → Triples k c t w' s' ≡ pure (Triples k c t w s).answer w' s'
unfolding Triples
triples-again k c (predicate n) w s S C A f w' s' l = refl
triples-again k c (next t) w s S C A f w' s' l = triples-again (suc k) c t w s S C A f w' s' (record { standard = l.standard; extends = l.extends; free = l.free })
triples-again k c (both t u) w s S C A f w' s' l = both-again t u (λ k c. triples-again k c t) (λ k c. triples-again k c u) k c w s S C A f w' s' l
triples-again k c (when b t) w s S C A f w' s' l = when-again b t (λ k c. triples-again k c t) k c w s S C A f w' s' l
triples-again k c (grouped t) w s S C A f w' s' l = triples-again k c t w s S C A f w' s' (record { standard = l.standard; extends = l.extends; free = l.free })
