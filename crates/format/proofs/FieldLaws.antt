-- The fields of an access.
use mathlib.Core.Path.{◌≡◌}
use mathlib.Core.List.{List, [], ◌∷◌}
use Prim.Native.Nat.{ℕ, ◌+◌, ◌*◌, ◌≤◌}
use native.Mathlib.Omega.{arith}
use Rattle.format.specs.Fields.{Field, byte, nodes, fields_end}

-- fields end after they begin
pub fields-after : (at : ℕ) (fs : List Field) → at ≤ fields_end at fs
unfolding fields_end
fields-after at [] = omega arith
fields-after at (byte ∷ fs) = omega (arith, fields-after (at + 1) fs)
fields-after at (nodes k ∷ fs) = omega (arith, fields-after (at + 2 * k) fs)
