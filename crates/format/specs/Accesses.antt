-- 01, 'Case file': the access that begins at a place of the file.
use Rattle.std.specs.Prelude.{List, [], ◌∷◌, ℕ, zero, suc, ◌+◌, ltb, leb, length, get_or}
use Rattle.model.specs.Rows.{Row, first_row}
use Rattle.format.specs.declared.Kind.{Kind}
use Rattle.format.specs.Kinds.{kind_of, is_known}
use Rattle.format.specs.Fields.{Field, fields_of, fields_end, values_at}

-- an access, its kind and what its fields hold; or a refusal's number
pub data Found : Type 0 where
  found : Kind → List (List ℕ) → Found
  refused : ℕ → Found

-- the kind that the byte at a place selects
abbrev pub kind_at : List ℕ → ℕ → Kind
kind_at file at = kind_of (get_or file at 0)

-- the fields of the access at a place, for n and w
abbrev pub fields_at : List ℕ → ℕ → ℕ → ℕ → List Field
fields_at file at n w = fields_of (kind_at file at) n w

-- what they hold, and the byte after them
abbrev pub held_at : List ℕ → ℕ → ℕ → ℕ → List (List ℕ)
held_at file at n w = values_at file (at + 1) (fields_at file at n w)

abbrev pub end_of : List ℕ → ℕ → ℕ → ℕ → ℕ
end_of file at n w = fields_end (at + 1) (fields_at file at n w)

-- "Tests follow the file: an unknown kind, then missing bytes of a section or access". Where the kind byte is missing there is no kind to test: 10
abbrev pub access_rows : List ℕ → ℕ → ℕ → ℕ → List Row
access_rows file at n w =
    (10, ltb at (length file))
    ∷ (11, is_known (kind_at file at))
    ∷ (10, leb (end_of file at n w) (length file))
    ∷ []

-- a refusal by this row, of which 0 is none
abbrev pub found_unless : ℕ → Found → Found
found_unless zero x = x
found_unless (suc k) x = refused (suc k)

-- the access at a place, for n and w
unfoldable pub access_at : List ℕ → ℕ → ℕ → ℕ → Found
access_at file at n w = found_unless (first_row (access_rows file at n w)) (found (kind_at file at) (held_at file at n w))

-- from the first of two bytes where an access stands, else from the second
abbrev pub goes_on_from : Found → ℕ → ℕ → ℕ
goes_on_from (found kind values) end at = end
goes_on_from (refused k) end at = at

-- "A reading of the case file goes on from the byte after the last access"; where none stands, from where it was
abbrev pub goes_on : List ℕ → ℕ → ℕ → ℕ → ℕ
goes_on file at n w = goes_on_from (access_at file at n w) (end_of file at n w) at
