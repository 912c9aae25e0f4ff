-- 01's file, as a case, a case whose ports hold, a case with idle writes, and one with asserts.
use mathlib.Core.Path.{◌≡◌, refl}
use mathlib.Core.List.{List, [], ◌∷◌, ◌++◌}
use Prim.Native.Nat.{ℕ, ◌+◌}
use lib.ListN.{length, replicate}
use Rattle.text.specs.Text.{put, written}
use Rattle.text.specs.Text as text
use Rattle.text.specs.Decimal.{decimal, digits}
use Rattle.conditions.specs.Computing.{computing}
use Rattle.conditions.specs.Value.{grow, tree_of}
use Rattle.conditions.specs.Show.{show}
use Rattle.lines.specs.Lines.{write_line, idle_line, bit_text, bits_text, read_line, assert_word, assert_line, check_line, end_line}
use Rattle.model.specs.Record.{Record, list_capacity, appended, replaced}
use Rattle.model.specs.Access.{unique_bit, Unique, Certain, Write, narrow_bit, Narrow, half_step, EachHalf, merge_half, entry_step, settle_half, Look, Read, inside_half, Inside, Check, Assert, hold_half}
use Rattle.model.specs.Rows.{row1, row3, ports_row}
use Rattle.model.specs.Step.{unless_full, enter, finish_write, finish_access, step}
use Rattle.model.specs.Step as model
use Rattle.format.specs.Bytes.{number_at, numbers_at}
use Rattle.format.specs.Kinds.{kind_of}
use Rattle.format.specs.Fields.{fields_of, fields_end, values_at}
use Rattle.format.specs.Accesses.{access_at}
use Rattle.format.specs.Sections.{with_nodes, sections}
use Rattle.format.proofs.ExampleLaws.{example}
use Rattle.cases.specs.Case.{call_of, done, one, rest, last, whole, accepts, case_of}

-- what a case answers and leaves of its text bytes, lent 16 nodes' words, two entries' and two bytes more than these lines, all 7: this record, and the lines
abbrev pub Prints : List ℕ → Record → List ℕ → Type 0
Prints file r lines =
    let c = case_of file (replicate 48 7) (replicate 12 7) (replicate (length lines + 2) 7) in
    (c.answer ≡ accepts (length lines) r) × (c.text ≡ lines ++ 7 ∷ 7 ∷ [])

-- "write 0", "read 1:(8 0 1)", "check (8 1 0)", "end 1"
abbrev example_lines : List ℕ
example_lines =
    119 ∷ 114 ∷ 105 ∷ 116 ∷ 101 ∷ 32 ∷ 48 ∷ 10 ∷ 114 ∷ 101 ∷ 97 ∷ 100 ∷ 32 ∷ 49 ∷ 58 ∷ 40
    ∷ 56 ∷ 32 ∷ 48 ∷ 32 ∷ 49 ∷ 41 ∷ 10 ∷ 99 ∷ 104 ∷ 101 ∷ 99 ∷ 107 ∷ 32 ∷ 40 ∷ 56 ∷ 32
    ∷ 49 ∷ 32 ∷ 48 ∷ 41 ∷ 10 ∷ 101 ∷ 110 ∷ 100 ∷ 32 ∷ 49 ∷ 10
    ∷ []

-- 1@0; read 0 by port 2; then not enabled, by port 3, which holds X, and by port 2, at 1, which holds 1
abbrev held : List ℕ
held =
    1 ∷ 1 ∷ 0 ∷ 0 ∷ 4 ∷ 0
    ∷ 1 ∷ 1 ∷ 0 ∷ 0 ∷ 0 ∷ 0 ∷ 0 ∷ 1 ∷ 0 ∷ 1 ∷ 0 ∷ 0 ∷ 0
    ∷ 2 ∷ 2 ∷ 1 ∷ 0 ∷ 0 ∷ 0 ∷ 0 ∷ 0 ∷ 1 ∷ 0
    ∷ 2 ∷ 3 ∷ 0 ∷ 0 ∷ 1 ∷ 0 ∷ 0 ∷ 0 ∷ 1 ∷ 0
    ∷ 2 ∷ 2 ∷ 0 ∷ 0 ∷ 1 ∷ 0 ∷ 1 ∷ 0 ∷ 0 ∷ 0
    ∷ []

-- "write 0", "read 1:0", "read 1:1", "read 1:0", "end 1"
abbrev held_lines : List ℕ
held_lines =
    119 ∷ 114 ∷ 105 ∷ 116 ∷ 101 ∷ 32 ∷ 48 ∷ 10 ∷ 114 ∷ 101 ∷ 97 ∷ 100 ∷ 32 ∷ 49 ∷ 58 ∷ 48 ∷ 10
    ∷ 114 ∷ 101 ∷ 97 ∷ 100 ∷ 32 ∷ 49 ∷ 58 ∷ 49 ∷ 10 ∷ 114 ∷ 101 ∷ 97 ∷ 100 ∷ 32 ∷ 49 ∷ 58 ∷ 48 ∷ 10
    ∷ 101 ∷ 110 ∷ 100 ∷ 32 ∷ 49 ∷ 10
    ∷ []

-- 1@0 with enable 0, 1@1, and 1@1 with enable 0
abbrev idling : List ℕ
idling =
    1 ∷ 1 ∷ 0 ∷ 0 ∷ 3 ∷ 0
    ∷ 1 ∷ 0 ∷ 0 ∷ 1 ∷ 0 ∷ 0 ∷ 0 ∷ 1 ∷ 0 ∷ 1 ∷ 0 ∷ 0 ∷ 0
    ∷ 1 ∷ 1 ∷ 0 ∷ 0 ∷ 0 ∷ 1 ∷ 0 ∷ 0 ∷ 0 ∷ 1 ∷ 0 ∷ 0 ∷ 0
    ∷ 1 ∷ 0 ∷ 0 ∷ 1 ∷ 0 ∷ 1 ∷ 0 ∷ 0 ∷ 0 ∷ 1 ∷ 0 ∷ 0 ∷ 0
    ∷ []

-- "write idle", "write 0", "write idle", "end 1"
abbrev idling_lines : List ℕ
idling_lines =
    119 ∷ 114 ∷ 105 ∷ 116 ∷ 101 ∷ 32 ∷ 105 ∷ 100 ∷ 108 ∷ 101 ∷ 10 ∷ 119 ∷ 114 ∷ 105 ∷ 116 ∷ 101 ∷ 32 ∷ 48 ∷ 10
    ∷ 119 ∷ 114 ∷ 105 ∷ 116 ∷ 101 ∷ 32 ∷ 105 ∷ 100 ∷ 108 ∷ 101 ∷ 10 ∷ 101 ∷ 110 ∷ 100 ∷ 32 ∷ 49 ∷ 10
    ∷ []

-- with variable 8 as node 2 and its Not as node 3: check 0 against 1 where 8 does not hold; where it holds, assert 1@0, 0@0 and again 0@0
abbrev asserting : List ℕ
asserting =
    1 ∷ 1 ∷ 2 ∷ 0 ∷ 8 ∷ 0 ∷ 0 ∷ 1 ∷ 0 ∷ 8 ∷ 1 ∷ 0 ∷ 0 ∷ 0 ∷ 4 ∷ 0
    ∷ 4 ∷ 3 ∷ 0 ∷ 0 ∷ 0 ∷ 1 ∷ 0 ∷ 1 ∷ 0 ∷ 0 ∷ 0
    ∷ 3 ∷ 2 ∷ 0 ∷ 0 ∷ 0 ∷ 1 ∷ 0 ∷ 1 ∷ 0 ∷ 0 ∷ 0
    ∷ 3 ∷ 2 ∷ 0 ∷ 0 ∷ 0 ∷ 1 ∷ 0 ∷ 0 ∷ 0 ∷ 1 ∷ 0
    ∷ 3 ∷ 2 ∷ 0 ∷ 0 ∷ 0 ∷ 1 ∷ 0 ∷ 0 ∷ 0 ∷ 1 ∷ 0
    ∷ []

-- "check (8 0 1)", "assert entered 1", "assert entered (8 1 0)", "assert kept (8 1 0)", "end 2"
abbrev asserting_lines : List ℕ
asserting_lines =
    99 ∷ 104 ∷ 101 ∷ 99 ∷ 107 ∷ 32 ∷ 40 ∷ 56 ∷ 32 ∷ 48 ∷ 32 ∷ 49 ∷ 41 ∷ 10
    ∷ 97 ∷ 115 ∷ 115 ∷ 101 ∷ 114 ∷ 116 ∷ 32 ∷ 101 ∷ 110 ∷ 116 ∷ 101 ∷ 114 ∷ 101 ∷ 100 ∷ 32 ∷ 49 ∷ 10
    ∷ 97 ∷ 115 ∷ 115 ∷ 101 ∷ 114 ∷ 116 ∷ 32 ∷ 101 ∷ 110 ∷ 116 ∷ 101 ∷ 114 ∷ 101 ∷ 100 ∷ 32 ∷ 40 ∷ 56 ∷ 32 ∷ 49 ∷ 32 ∷ 48 ∷ 41 ∷ 10
    ∷ 97 ∷ 115 ∷ 115 ∷ 101 ∷ 114 ∷ 116 ∷ 32 ∷ 107 ∷ 101 ∷ 112 ∷ 116 ∷ 32 ∷ 40 ∷ 56 ∷ 32 ∷ 49 ∷ 32 ∷ 48 ∷ 41 ∷ 10
    ∷ 101 ∷ 110 ∷ 100 ∷ 32 ∷ 50 ∷ 10
    ∷ []

abbrev pub ExamplesPrint : Type 0
ExamplesPrint =
    Prints example (record { sizes = record { n = 1; w = 1 }; count = 10; entries = 1; asserted = 1; checked = 3 }) example_lines
    × Prints held (record { sizes = record { n = 1; w = 1 }; count = 4; entries = 1; asserted = 1; checked = 1 }) held_lines
    × Prints idling (record { sizes = record { n = 1; w = 1 }; count = 2; entries = 1; asserted = 1; checked = 1 }) idling_lines
    × Prints asserting (record { sizes = record { n = 1; w = 1 }; count = 9; entries = 2; asserted = 3; checked = 2 }) asserting_lines

pub examples_print : ExamplesPrint
unfolding
    put written text.appended decimal digits computing grow tree_of show
    write_line idle_line bit_text bits_text read_line assert_word assert_line check_line end_line
    list_capacity appended replaced unique_bit Unique Certain Write narrow_bit Narrow half_step EachHalf merge_half entry_step settle_half Look hold_half Read inside_half Inside Check Assert
    row1 row3 ports_row model.closed unless_full enter finish_write finish_access step number_at numbers_at kind_of fields_of fields_end values_at access_at with_nodes sections call_of done one rest last whole case_of
examples_print = ((refl, refl), (refl, refl), (refl, refl), (refl, refl))
