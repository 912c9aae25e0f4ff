-- 01, 'Conditions': decision diagrams "in a lent slice of 32-bit words, three words a node: variable, low child, high child".
use Rattle.std.specs.Prelude.{Bool, true, false, ◌&&◌, List, ℕ, ◌+◌, ◌*◌, ◌/◌, min, eqb, length, get_or, set}

-- a node's three words
abbrev pub var_at : List ℕ → ℕ → ℕ
var_at w n = get_or w (n * 3) 0

abbrev pub low_at : List ℕ → ℕ → ℕ
low_at w n = get_or w (n * 3 + 1) 0

abbrev pub high_at : List ℕ → ℕ → ℕ
high_at w n = get_or w (n * 3 + 2) 0

-- the low child at false, the high child at true
abbrev pub child_at : Bool → List ℕ → ℕ → ℕ
child_at true w n = high_at w n
child_at false w n = low_at w n

-- node n has these three words
unfoldable pub has_words : List ℕ → ℕ → ℕ → ℕ → ℕ → Bool
has_words w v lo hi n = eqb (var_at w n) v && eqb (low_at w n) lo && eqb (high_at w n) hi

-- the words with node n's three replaced
abbrev pub with_node : List ℕ → ℕ → ℕ → ℕ → ℕ → List ℕ
with_node w n v lo hi = set (set (set w (n * 3) v) (n * 3 + 1) lo) (n * 3 + 2) hi

-- "Node 0 is false (words 64,0,0), node 1 true (64,1,1)."
abbrev pub with_terminals : List ℕ → List ℕ
with_terminals w = with_node (with_node w 0 64 0 0) 1 64 1 1

-- "Capacity is the word count divided by 3, rounded down, or 16,384 if that is less."
abbrev pub capacity_of : List ℕ → ℕ
capacity_of w = min (length w / 3) 16384
