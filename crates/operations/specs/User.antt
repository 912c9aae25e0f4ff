-- 01, row 5: "an access's or Ite's node not below the count or on an index variable".
use Rattle.std.specs.Prelude.{Bool, false, cond, List, ℕ, ltb, leb}
use Rattle.nodes.specs.Words.{var_at}

-- a node that an argument may name: below the count, and on a variable from 8 up. A node above has no index variable below it, by the order
unfoldable pub is_user : List ℕ → ℕ → ℕ → Bool
is_user w c n = cond (ltb n c) (leb 8 (var_at w n)) false
