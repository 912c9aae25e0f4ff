-- Tests of numbers one after the other.
use Rattle.std.specs.Prelude.{Bool, true, false, cond, ℕ, zero, suc}

-- the first of the k numbers from i on of which p holds, or i + k
unfoldable pub seek : (ℕ → Bool) → ℕ → ℕ → ℕ
seek p i zero = i
seek p i (suc k) =
    let r = seek p (suc i) k in
    cond (p i) i r

-- p holds of each of the k numbers from i on
unfoldable pub every : (ℕ → Bool) → ℕ → ℕ → Bool
every p i zero = true
every p i (suc k) =
    let r = every p (suc i) k in
    cond (p i) r false
