-- An assignment under which a node holds, found by walking down: to the low child, unless that is false; then to the high child, and the variable is 1.
use Rattle.std.specs.Prelude.{◌≡◌, Bool, true, false, not, cond, List, ◌⊎◌, ℕ, ◌<◌}
use Rattle.nodes.specs.Standard.{Standard}
use Rattle.diagrams.specs.Value.{Tree, leaf, branch, tree_of, value}
use Rattle.diagrams.specs.Assignment.{bit_at, change, number_of}

unfoldable pub is_false : Tree → Bool
is_false (leaf b) = not b
is_false (branch v l h) = false

-- the variables that are 1
unfoldable pub path : Tree → ℕ → Bool
path (leaf b) = λ u. false
path (branch v l h) = cond (is_false l) (change (path h) v true) (path l)

-- as a 64-bit number
abbrev pub witness_of : List ℕ → ℕ → ℕ
witness_of w n = number_of (path (tree_of w n)) 64

-- the node holds there, or is node 0
unfoldable pub HoldsThere : Type 0
HoldsThere = (w : List ℕ) (c n : ℕ) → Standard w c → n < c → (value w (bit_at (witness_of w n)) n ≡ true) ⊎ (n ≡ 0)
