-- 01, 'Case file': a condition's text. A byte is its number: 48 is `0`, 49 is `1`, 40 is `(`, 32 is a space, 41 is `)`.
use Rattle.std.specs.Prelude.{◌≡◌, cond, List, [], ◌∷◌, ◌++◌, ℕ, ◌^◌, ◌<◌}
use Rattle.text.specs.Decimal.{decimal}
use Rattle.diagrams.specs.Value.{Tree, leaf, branch, tree_of, value}
use Rattle.diagrams.specs.Assignment.{bit_at}

-- "A node prints as `0`, `1` or `(v low high)`, the two children printed likewise and not as node numbers."
unfoldable pub show : Tree → List ℕ
show (leaf b) = cond b 49 48 ∷ []
show (branch v l h) = 40 ∷ decimal v ++ 32 ∷ show l ++ 32 ∷ show h ++ 41 ∷ []

-- a node's text
abbrev pub text_of : List ℕ → ℕ → List ℕ
text_of w n = show (tree_of w n)

-- that node n of the words w and node n' of the words w' "agree under every assignment", which "is a 64-bit number"
abbrev pub Alike : List ℕ → ℕ → List ℕ → ℕ → Type 0
Alike w n w' n' = (a : ℕ) → a < 2 ^ 64 → value w (bit_at a) n ≡ value w' (bit_at a) n'
