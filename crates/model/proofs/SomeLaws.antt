-- 'Under some assignment' is that some 64-bit number makes it true.
use mathlib.Core.Path.{◌≡◌}
use mathlib.Core.Bool.{Bool, true, false, ◌||◌, false≢true}
use Prim.Native.Nat.{ℕ, zero, suc, ◌^◌, ◌<◌}
use native.Mathlib.Omega.{arith}
use native.Mathlib.Decide.{dec_lt}
use Rattle.nodes.proofs.BoolLaws.{split, or_right}
use Rattle.conditions.specs.Assignment.{bit_at}
use Rattle.model.specs.Count.{some_below, under_some, SomeExactly}

-- below any bound
some_to : (k : ℕ) (f : ℕ → Bool) → some_below k f ≡ true → (a : ℕ) × (a < k) × (f a ≡ true)
unfolding some_below
some_to zero f e = absurd (false≢true e)
some_to (suc k) f e = split (f k) (λ t. (k, omega arith, t)) (λ t. let m = some_to k f (rw t at e) in (m.0, omega (arith, m.1), m.2))

some-from : (k : ℕ) (f : ℕ → Bool) (a : ℕ) → a < k → f a ≡ true → some_below k f ≡ true
unfolding some_below
some-from zero f a l e = absurd (omega arith)
some-from (suc k) f a l e = go (λ p. some-from k f a p e) (dec_lt a k)
  where
    go : (a < k → some_below k f ≡ true) → Dec (a < k) → (f k || some_below k f) ≡ true
    go rest (yes p) = or_right (f k) (some_below k f) (rest p)
    go rest (no p) = let z : a ≡ k = omega arith in rw (← z, e)

pub some-exactly : SomeExactly
unfolding SomeExactly under_some
some-exactly f = (λ e. some_to (2 ^ 64) (λ a. f (bit_at a)) e, λ m. some-from (2 ^ 64) (λ a. f (bit_at a)) m.0 m.1 m.2)
