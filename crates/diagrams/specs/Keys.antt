-- Tables of three nodes: their number, and its place.
use Rattle.std.specs.Prelude.{ℕ, ◌+◌, ◌*◌, ◌%◌}

-- three nodes in one number, 14 bits each
abbrev pub key_of : ℕ → ℕ → ℕ → ℕ
key_of f g h = (f * 16384 + g) * 16384 + h

-- their place in a table
abbrev pub slot_of : ℕ → ℕ → ℕ → ℕ
slot_of f g h = (f * 12582917 + g * 4256249 + h * 741457) % 32768
