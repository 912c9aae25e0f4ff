-- 01, 'Conditions': "An assignment is a 64-bit number; bit v is variable v." In the laws it is a function of the variables.
use Rattle.std.specs.Prelude.{Bool, true, false, cond, ◌||◌, ℕ, zero, suc, ◌+◌, ◌*◌, ◌/◌, ◌%◌, ◌^◌, eqb}

unfoldable pub bit_at : ℕ → ℕ → Bool
bit_at a v = eqb (a / 2 ^ v % 2) 1

-- an assignment with one variable changed
unfoldable pub change : (ℕ → Bool) → ℕ → Bool → ℕ → Bool
change φ v b n = cond (eqb n v) b (φ n)

-- that m holds for some setting of the variables below k
unfoldable pub some : ℕ → ((ℕ → Bool) → Bool) → (ℕ → Bool) → Bool
some zero m φ = m φ
some (suc k) m φ = some k m (change φ k false) || some k m (change φ k true)

-- the number whose bits 0 to k - 1 are an assignment's
unfoldable pub number_of : (ℕ → Bool) → ℕ → ℕ
number_of a zero = 0
number_of a (suc k) = cond (a 0) 1 0 + number_of (λ v. a (suc v)) k * 2
