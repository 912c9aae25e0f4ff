-- What the words of a sum mean, near one assignment: the ternary sum of what the address's words mean there.
use mathlib.Core.Path.{◌≡◌, refl, ◌∙◌, subst}
use mathlib.Core.Bool.{Bool, false}
use mathlib.Core.List.{List}
use Prim.Native.Nat.{ℕ, suc, ◌+◌, ◌*◌, ◌-◌, ◌≤◌}
use native.Mathlib.Omega.{arith}
use lib.ListN.{length, get_or}
use Rattle.conditions.specs.Stores.{Standard}
use Rattle.conditions.specs.Build.{Store, Outcome, for_each}
use Rattle.conditions.specs.Meaning.{Builds}
use Rattle.conditions.proofs.Promises.{pure-builds, next-builds, each-builds}
use Rattle.semantics.specs.Pairs.{Pair, at}
use Rattle.model.proofs.MeansLaws.{one-means}
use Rattle.model.proofs.AccessLaws.{Halves, Word}
use Rattle.units.specs.Sum.{sum}
use Rattle.unit_programs.specs.Add.{Adding, no_carry, add_bit, Add}
use Rattle.unit_programs.proofs.HalfLaws.{zero-means}
use Rattle.unit_programs.proofs.AddLaws.{Added, into, sum_bit_lem, carry_bit_lem}

-- the words of a sum mean the sum
pub add-means : {σ : ℕ → Bool} (n : ℕ) (a : List ℕ) (ks : List Bool) (qs : List Pair) → length qs ≡ n → 1 ≤ n → (w : List ℕ) (s : Store) → Standard w s.count → Halves σ 8 (2 * n) (λ τ. at qs) w s a
    → Builds w s (Word σ 8 (2 * n) (λ τ. at (sum ks qs))) (Add n a ks w s)
unfolding Add add_bit
add-means {σ} n a ks qs len some w s S A =
    let z : 0 + (n - 1) ≡ n - 1 = omega arith in
    let X1 : Builds w s (λ w s t. Added σ n a ks qs len (n - 1) (into σ n a ks qs len (n - 1)) w s t) (for_each (add_bit ks a) 0 (n - 1) no_carry w s)
    = subst (λ (k : ℕ). Builds w s (λ w s t. Added σ n a ks qs len k (into σ n a ks qs len k) w s t) (for_each (add_bit ks a) 0 (n - 1) no_carry w s)) z
    (each-builds (add_bit ks a) (λ i w s t. Added σ n a ks qs len i (into σ n a ks qs len i) w s t) 0 (n - 1)
    (λ i t w s lo hi S I.
    let Y1 = sum_bit_lem σ n a ks qs len i t w s (omega arith) S I in
    let Y2 = carry_bit_lem σ n a ks qs len (get_or ks i false) i (suc i) (into σ n a ks qs len i) _ _ _ (omega arith) Y1.standard Y1.post in
    next-builds Y1 _ Y2)
    no_carry w s S (record { size = refl; halves = λ h k. absurd (omega arith); carry_h_lem = zero-means 8 (omega arith) S; carry_l_lem = one-means 8 (omega arith) S; address = A })) in
    let x : Outcome Adding = for_each (add_bit ks a) 0 (n - 1) no_carry w s in
    let X2 = sum_bit_lem σ n a ks qs len (n - 1) x.answer x.words x.store (omega arith) X1.standard X1.post in
    next-builds X1 _ (next-builds X2 _ (pure-builds X2.standard (record { size = X2.post.size ∙ (omega arith); halves = record { half = λ h k. X2.post.halves h (omega arith) } })))
