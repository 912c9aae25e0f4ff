-- Lines worked out: those that 01's file prints, and one of each other kind.
use mathlib.Core.Path.{◌≡◌, refl}
use mathlib.Core.Bool.{true, false}
use mathlib.Core.List.{List, [], ◌∷◌}
use Prim.Native.Nat.{ℕ}
use Rattle.text.specs.Decimal.{digits, decimal}
use Rattle.conditions.specs.Value.{grow, tree_of}
use Rattle.conditions.specs.Show.{show}
use Rattle.lines.specs.Lines.{write_line, idle_line, bit_text, bits_text, read_line, assert_word, assert_line, check_line, end_line, refused_line}

-- the terminals, node 2 (8,0,1) and node 3 (8,1,0)
abbrev stored : List ℕ
stored = 64 ∷ 0 ∷ 0 ∷ 64 ∷ 1 ∷ 1 ∷ 8 ∷ 0 ∷ 1 ∷ 8 ∷ 1 ∷ 0 ∷ []

-- "write 0"
pub write_0 : write_line 0 ≡ 119 ∷ 114 ∷ 105 ∷ 116 ∷ 101 ∷ 32 ∷ 48 ∷ 10 ∷ []
unfolding write_line decimal digits
write_0 = refl

-- "write idle"
pub write-idle : idle_line ≡ 119 ∷ 114 ∷ 105 ∷ 116 ∷ 101 ∷ 32 ∷ 105 ∷ 100 ∷ 108 ∷ 101 ∷ 10 ∷ []
unfolding idle_line
write-idle = refl

-- "read 1:(8 0 1)"
pub read_one_bit : read_line stored (1 ∷ 2 ∷ []) ≡ 114 ∷ 101 ∷ 97 ∷ 100 ∷ 32 ∷ 49 ∷ 58 ∷ 40 ∷ 56 ∷ 32 ∷ 48 ∷ 32 ∷ 49 ∷ 41 ∷ 10 ∷ []
unfolding read_line bits_text bit_text show tree_of grow decimal digits
read_one_bit = refl

-- "check (8 1 0)"
pub check_not_8 : check_line stored 3 ≡ 99 ∷ 104 ∷ 101 ∷ 99 ∷ 107 ∷ 32 ∷ 40 ∷ 56 ∷ 32 ∷ 49 ∷ 32 ∷ 48 ∷ 41 ∷ 10 ∷ []
unfolding check_line show tree_of grow decimal digits
check_not_8 = refl

-- "end 1"
pub end_1 : end_line 1 ≡ 101 ∷ 110 ∷ 100 ∷ 32 ∷ 49 ∷ 10 ∷ []
unfolding end_line decimal digits
end_1 = refl

-- two bits, of which the lower is 1 and the higher is 0: "read 0:1 1:0"
pub read_two-bits : read_line stored (1 ∷ 0 ∷ 0 ∷ 1 ∷ []) ≡ 114 ∷ 101 ∷ 97 ∷ 100 ∷ 32 ∷ 48 ∷ 58 ∷ 49 ∷ 32 ∷ 49 ∷ 58 ∷ 48 ∷ 10 ∷ []
unfolding read_line bits_text bit_text show tree_of grow decimal digits
read_two-bits = refl

-- "assert entered 1"
pub assert-entered : assert_line stored true 1 ≡ 97 ∷ 115 ∷ 115 ∷ 101 ∷ 114 ∷ 116 ∷ 32 ∷ 101 ∷ 110 ∷ 116 ∷ 101 ∷ 114 ∷ 101 ∷ 100 ∷ 32 ∷ 49 ∷ 10 ∷ []
unfolding assert_line assert_word show tree_of grow decimal digits
assert-entered = refl

-- "assert kept 0"
pub assert-kept : assert_line stored false 0 ≡ 97 ∷ 115 ∷ 115 ∷ 101 ∷ 114 ∷ 116 ∷ 32 ∷ 107 ∷ 101 ∷ 112 ∷ 116 ∷ 32 ∷ 48 ∷ 10 ∷ []
unfolding assert_line assert_word show tree_of grow decimal digits
assert-kept = refl

-- "refused 13 after 20"
pub refused_13 : refused_line 13 20 ≡ 114 ∷ 101 ∷ 102 ∷ 117 ∷ 115 ∷ 101 ∷ 100 ∷ 32 ∷ 49 ∷ 51 ∷ 32 ∷ 97 ∷ 102 ∷ 116 ∷ 101 ∷ 114 ∷ 32 ∷ 50 ∷ 48 ∷ 10 ∷ []
unfolding refused_line decimal digits
refused_13 = refl
