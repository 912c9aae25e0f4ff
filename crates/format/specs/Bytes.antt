-- 01, 'Case file': "numbers low byte first".
use Rattle.std.specs.Prelude.{List, [], ◌∷◌, ℕ, zero, suc, ◌+◌, ◌*◌, get_or}

-- the number in the 2 bytes at a place
unfoldable pub number_at : List ℕ → ℕ → ℕ
number_at file at = get_or file at 0 + 256 * get_or file (at + 1) 0

-- "every node 2 bytes": k numbers, one after the other
unfoldable pub numbers_at : List ℕ → ℕ → ℕ → List ℕ
numbers_at file at zero = []
numbers_at file at (suc k) = number_at file at ∷ numbers_at file (at + 2) k
