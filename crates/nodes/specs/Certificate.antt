-- A certificate that no node's words are those of an earlier one: each node is found by a number of its words. No claim hangs on these definitions.
use Rattle.std.specs.Prelude.{Bool, cond, List, ℕ, zero, suc, ◌+◌, ◌*◌, ◌%◌, eqb, ltb, get_or}
use Rattle.nodes.specs.Words.{var_at, low_at, high_at}

-- a node's three words as the digits of one number; the radix is above every child, and its multiples fall far apart modulo 16,381
abbrev pub number_of : List ℕ → ℕ → ℕ
number_of w n = (var_at w n * 26505 + low_at w n) * 26505 + high_at w n

-- the first node with the number x among i nodes of a chain that begins at n, or c; next has what follows each node
unfoldable pub walk : List ℕ → List ℕ → ℕ → ℕ → ℕ → ℕ → ℕ
walk w next c x zero n = c
walk w next c x (suc i) n =
    let r = walk w next c x i (get_or next n 0) in
    cond (ltb n c) (cond (eqb (number_of w n) x) n r) c

-- node n is what its number finds; head has where each chain begins
unfoldable pub found : List ℕ → List ℕ → List ℕ → ℕ → ℕ → Bool
found w head next c n =
    let x = number_of w n in
    eqb (walk w next c x 32 (get_or head (x % 16381) 0)) n
