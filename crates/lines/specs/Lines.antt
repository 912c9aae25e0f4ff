-- 01, 'Case file': the lines that a case prints. A byte is its number: 32 is a space, 58 is a colon, 10 is the newline.
use Rattle.std.specs.Prelude.{Bool, true, false, List, [], ◌∷◌, ◌++◌, ℕ, zero, suc, ◌+◌, ◌*◌, ◌/◌, length, get_or}
use Rattle.text.specs.Decimal.{decimal}
use Rattle.conditions.specs.Show.{text_of}

-- "every line ends with one newline byte (10)"
abbrev pub line : List ℕ → List ℕ
line bytes = bytes ++ 10 ∷ []

-- w r i t e, a space
abbrev pub write_word : List ℕ
write_word = 119 ∷ 114 ∷ 105 ∷ 116 ∷ 101 ∷ 32 ∷ []

-- "Lines: a write's entry place;"
unfoldable pub write_line : ℕ → List ℕ
write_line place = line (write_word ++ decimal place)

-- 02: an idle write "prints `write idle`": i d l e
unfoldable pub idle_line : List ℕ
idle_line = line (write_word ++ 105 ∷ 100 ∷ 108 ∷ 101 ∷ [])

-- one bit of a read: a space, "h:l"
unfoldable pub bit_text : List ℕ → ℕ → ℕ → List ℕ
bit_text w h l = 32 ∷ text_of w h ++ 58 ∷ text_of w l

-- "for each bit, highest first, one space between": the lowest n bits of a word, in which they stand "lowest bit first, h before l"
unfoldable pub bits_text : List ℕ → List ℕ → ℕ → List ℕ
bits_text w word zero = []
bits_text w word (suc n) = bit_text w (get_or word (2 * n) 0) (get_or word (2 * n + 1) 0) ++ bits_text w word n

-- r e a d
abbrev pub read_word : List ℕ
read_word = 114 ∷ 101 ∷ 97 ∷ 100 ∷ []

-- "a read's h:l for each bit"
unfoldable pub read_line : List ℕ → List ℕ → List ℕ
read_line w word = line (read_word ++ bits_text w word (length word / 2))

-- "An assert prints `assert entered` or `assert kept`, a space": entered at true, kept at false
-- a s s e r t, a space, then e n t e r e d or k e p t, and a space
unfoldable pub assert_word : Bool → List ℕ
assert_word true = 97 ∷ 115 ∷ 115 ∷ 101 ∷ 114 ∷ 116 ∷ 32 ∷ 101 ∷ 110 ∷ 116 ∷ 101 ∷ 114 ∷ 101 ∷ 100 ∷ 32 ∷ []
assert_word false = 97 ∷ 115 ∷ 115 ∷ 101 ∷ 114 ∷ 116 ∷ 32 ∷ 107 ∷ 101 ∷ 112 ∷ 116 ∷ 32 ∷ []

-- "the assert condition"
unfoldable pub assert_line : List ℕ → Bool → ℕ → List ℕ
assert_line w entered condition = line (assert_word entered ++ text_of w condition)

-- c h e c k, a space
abbrev pub check_word : List ℕ
check_word = 99 ∷ 104 ∷ 101 ∷ 99 ∷ 107 ∷ 32 ∷ []

-- "the check condition;"
unfoldable pub check_line : List ℕ → ℕ → List ℕ
check_line w condition = line (check_word ++ text_of w condition)

-- e n d, a space
abbrev pub end_word : List ℕ
end_word = 101 ∷ 110 ∷ 100 ∷ 32 ∷ []

-- "the entry count"
unfoldable pub end_line : ℕ → List ℕ
end_line entries = line (end_word ++ decimal entries)

-- r e f u s e d, a space
abbrev pub refused_word : List ℕ
refused_word = 114 ∷ 101 ∷ 102 ∷ 117 ∷ 115 ∷ 101 ∷ 100 ∷ 32 ∷ []

-- a space, a f t e r, a space
abbrev pub after_word : List ℕ
after_word = 32 ∷ 97 ∷ 102 ∷ 116 ∷ 101 ∷ 114 ∷ 32 ∷ []

-- "`refused R after K`, K the accesses already printed"
unfoldable pub refused_line : ℕ → ℕ → List ℕ
refused_line number after = line (refused_word ++ decimal number ++ after_word ++ decimal after)
