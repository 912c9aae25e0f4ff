-- 01's file in the form of 02, and the table's small inputs of the rows that a reading can meet.
use mathlib.Core.Path.{◌≡◌, refl}
use mathlib.Core.List.{List, [], ◌∷◌}
use Prim.Native.Nat.{ℕ}
use lib.ListN.{replicate}
use Rattle.nodes.specs.Words.{has_words}
use Rattle.nodes.specs.Search.{seek, every}
use Rattle.nodes.specs.Standard.{counted, terminals, child_fits, shaped, lowest, first, is_standard}
use Rattle.model.specs.Rows.{row1}
use Rattle.format.specs.declared.Kind.TheVariants.{Write, Read, Assert, Check}
use Rattle.format.specs.Bytes.{number_at, numbers_at}
use Rattle.format.specs.Kinds.{kind_of}
use Rattle.format.specs.Fields.{fields_of, fields_end, values_at}
use Rattle.format.specs.Accesses as accesses
use Rattle.format.specs.Accesses.{access_at, found, goes_on}
use Rattle.format.specs.Sections.{with_nodes, sections, ready, refused}

abbrev pub example : List ℕ
example =
    1 ∷ 1 ∷ 2 ∷ 0 ∷ 8 ∷ 0 ∷ 0 ∷ 1 ∷ 0 ∷ 8 ∷ 1 ∷ 0 ∷ 0 ∷ 0 ∷ 3 ∷ 0
    ∷ 1 ∷ 1 ∷ 0 ∷ 0 ∷ 0 ∷ 2 ∷ 0 ∷ 3 ∷ 0 ∷ 1 ∷ 0 ∷ 0 ∷ 0
    ∷ 2 ∷ 0 ∷ 1 ∷ 0 ∷ 0 ∷ 0 ∷ 0 ∷ 0 ∷ 1 ∷ 0
    ∷ 4 ∷ 1 ∷ 0 ∷ 0 ∷ 0 ∷ 1 ∷ 0 ∷ 1 ∷ 0 ∷ 0 ∷ 0
    ∷ []

-- n = 1, w = 1, two nodes and three accesses; words past the nodes stay
example-sections : sections example (replicate 14 7) ≡ (64 ∷ 0 ∷ 0 ∷ 64 ∷ 1 ∷ 1 ∷ 8 ∷ 0 ∷ 1 ∷ 8 ∷ 1 ∷ 0 ∷ 7 ∷ 7 ∷ [], ready 1 1 4 3 16)
unfolding sections with_nodes number_at row1 counted is_standard terminals has_words shaped child_fits first lowest seek every
example-sections = refl

-- its accesses: their kinds, and what their fields hold
example-write : access_at example 16 1 1 ≡ found Write ((1 ∷ 0 ∷ []) ∷ (2 ∷ 3 ∷ []) ∷ (1 ∷ 0 ∷ []) ∷ [])
unfolding access_at kind_of fields_of fields_end values_at numbers_at number_at
example-write = refl

example-read : access_at example 29 1 1 ≡ found Read ((0 ∷ []) ∷ (1 ∷ 0 ∷ []) ∷ (0 ∷ 1 ∷ []) ∷ [])
unfolding access_at kind_of fields_of fields_end values_at numbers_at number_at
example-read = refl

example-check : access_at example 39 1 1 ≡ found Check ((1 ∷ []) ∷ (0 ∷ 1 ∷ []) ∷ (1 ∷ 0 ∷ []) ∷ [])
unfolding access_at kind_of fields_of fields_end values_at numbers_at number_at
example-check = refl

-- an assert, of 2 data bits
abbrev asserted : List ℕ
asserted = 3 ∷ 5 ∷ 1 ∷ 0 ∷ 0 ∷ 1 ∷ 0 ∷ 7 ∷ 0 ∷ 8 ∷ 0 ∷ 9 ∷ 0 ∷ 1 ∷ 1 ∷ []

example-assert : (access_at asserted 0 1 2 ≡ found Assert ((261 ∷ []) ∷ (0 ∷ 1 ∷ []) ∷ (7 ∷ 8 ∷ 9 ∷ 257 ∷ []) ∷ [])) × (goes_on asserted 0 1 2 ≡ 15)
unfolding access_at kind_of fields_of fields_end values_at numbers_at number_at
example-assert = (refl, refl)

-- from each access the reading goes on to the next, and from the last to the file's end; where none stands it stays
example-goes_on : (goes_on example 16 1 1 ≡ 29) × (goes_on example 29 1 1 ≡ 39) × (goes_on example 39 1 1 ≡ 50) × (goes_on example 50 1 1 ≡ 50)
unfolding access_at kind_of fields_of fields_end values_at numbers_at number_at
example-goes_on = (refl, refl, refl, refl)

-- row 1: n=9. Row 2: 5 words. Row 10: an empty file. Row 11: kind 0
n-nine : sections (9 ∷ 1 ∷ []) [] ≡ ([], refused 1)
unfolding sections row1
n-nine = refl

five-words : sections example (replicate 5 7) ≡ (replicate 5 7, refused 2)
unfolding sections number_at row1 counted
five-words = refl

empty_file : sections [] (replicate 6 7) ≡ (replicate 6 7, refused 10)
unfolding sections
empty_file = refl

kind_zero : access_at (0 ∷ []) 0 8 16 ≡ accesses.refused 11
unfolding access_at kind_of fields_of fields_end values_at numbers_at number_at
kind_zero = refl

-- "Tests follow the file". The byte of w is missing, and n=9
width-missing : sections (9 ∷ []) [] ≡ ([], refused 10)
unfolding sections
width-missing = refl

-- one node is announced and missing, and there are 5 words
nodes-missing : sections (1 ∷ 1 ∷ 1 ∷ 0 ∷ []) (replicate 5 7) ≡ (replicate 5 7, refused 10)
unfolding sections number_at row1
nodes-missing = refl

-- a node whose children are equal, and no count of accesses
not-standard : sections (1 ∷ 1 ∷ 1 ∷ 0 ∷ 8 ∷ 1 ∷ 0 ∷ 1 ∷ 0 ∷ []) (replicate 9 7) ≡ (64 ∷ 0 ∷ 0 ∷ 64 ∷ 1 ∷ 1 ∷ 8 ∷ 1 ∷ 1 ∷ [], refused 2)
unfolding sections with_nodes number_at row1 counted is_standard terminals has_words shaped child_fits first lowest seek every
not-standard = refl

-- no count of accesses after good nodes
count-missing : sections (1 ∷ 1 ∷ 0 ∷ 0 ∷ 0 ∷ []) (replicate 6 7) ≡ (64 ∷ 0 ∷ 0 ∷ 64 ∷ 1 ∷ 1 ∷ [], refused 10)
unfolding sections with_nodes number_at row1 counted is_standard terminals has_words shaped child_fits first lowest seek every
count-missing = refl

-- no kind byte; the bytes of a write missing but for one
kind-missing : access_at [] 0 1 1 ≡ accesses.refused 10
unfolding access_at
kind-missing = refl

write-missing : access_at (1 ∷ 0 ∷ []) 0 1 1 ≡ accesses.refused 10
unfolding access_at kind_of fields_of fields_end values_at numbers_at number_at
write-missing = refl

-- a read of whose bytes the last is missing: 10, whatever the port
read-missing : access_at (2 ∷ 9 ∷ 1 ∷ 0 ∷ 0 ∷ 0 ∷ 0 ∷ 0 ∷ 1 ∷ []) 0 1 1 ≡ accesses.refused 10
unfolding access_at kind_of fields_of fields_end values_at numbers_at number_at
read-missing = refl

-- a read by port 3: the byte after its kind is the port, and its nodes begin after that
abbrev by-port : List ℕ
by-port = 2 ∷ 3 ∷ 1 ∷ 0 ∷ 0 ∷ 0 ∷ 0 ∷ 0 ∷ 1 ∷ 0 ∷ []

read_by-port : access_at by-port 0 1 1 ≡ found Read ((3 ∷ []) ∷ (1 ∷ 0 ∷ []) ∷ (0 ∷ 1 ∷ []) ∷ [])
unfolding access_at kind_of fields_of fields_end values_at numbers_at number_at
read_by-port = refl
