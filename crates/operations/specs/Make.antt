-- 01, 'Conditions': Make.
use Rattle.std.specs.Prelude.{true, false, cond, ℕ, ◌+◌, eqb, ltb}
use Rattle.nodes.specs.Words.{with_node, capacity_of}
use Rattle.nodes.specs.Standard.{lowest}
use Rattle.operations.specs.Build.{Build, pure}

-- "a new node at the count"
abbrev pub added : ℕ → ℕ → ℕ → Build ℕ
added v low high w s = record { words = with_node w s.count v low high; store = record { count = s.count + 1; full = false }; answer = s.count }

-- refusal 9: "Make needs a node past capacity"
abbrev pub overflow : Build ℕ
overflow w s = record { words = w; store = record { count = s.count; full = true }; answer = 0 }

-- by the lowest node with those words, or the count where there is none
abbrev pub placed : ℕ → ℕ → ℕ → ℕ → Build ℕ
placed n v low high w s = cond (ltb n s.count) (pure n w s) (cond (ltb s.count (capacity_of w)) (added v low high w s) (overflow w s))

-- "Make(v,low,high): low if both are equal; else the lowest node with those words; else a new node at the count."
unfoldable pub Make : ℕ → ℕ → ℕ → Build ℕ
Make v low high w s = cond s.full (pure 0 w s) (cond (eqb low high) (pure low w s) (placed (lowest w s.count v low high) v low high w s))

-- a variable's node, "index i being Make(i,0,1)"
abbrev pub Variable : ℕ → Build ℕ
Variable v = Make v 0 1
