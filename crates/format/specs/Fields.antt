-- 01, 'Case file': the fields of an access after its kind byte, in the order in which they stand. Size, places and values of an access all follow from them.
use Rattle.std.specs.Prelude.{List, [], ◌∷◌, ℕ, ◌+◌, ◌*◌, get_or}
use Rattle.format.specs.declared.Kind.{Kind}
use Rattle.format.specs.declared.Kind.TheVariants.{Write, Read, Assert, Check, Unknown}
use Rattle.format.specs.Bytes.{numbers_at}

-- a byte, or so many nodes
pub data Field : Type 0 where
  byte : Field
  nodes : ℕ → Field

-- "Then the control pair (b alone for 3 and 4), address, data (none for a read)"; 02: "A read in a case file has a port byte after its kind."
unfoldable pub fields_of : Kind → ℕ → ℕ → List Field
fields_of Write n w = nodes 2 ∷ nodes (2 * n) ∷ nodes (2 * w) ∷ []
fields_of Read n w = byte ∷ nodes 2 ∷ nodes (2 * n) ∷ []
fields_of Assert n w = nodes 1 ∷ nodes (2 * n) ∷ nodes (2 * w) ∷ []
fields_of Check n w = nodes 1 ∷ nodes (2 * n) ∷ nodes (2 * w) ∷ []
fields_of Unknown n w = []

-- the byte after fields that begin at a place: "every node 2 bytes"
unfoldable pub fields_end : ℕ → List Field → ℕ
fields_end at [] = at
fields_end at (byte ∷ fs) = fields_end (at + 1) fs
fields_end at (nodes k ∷ fs) = fields_end (at + 2 * k) fs

-- what fields that begin at a place hold: a byte's number, the nodes' numbers
unfoldable pub values_at : List ℕ → ℕ → List Field → List (List ℕ)
values_at file at [] = []
values_at file at (byte ∷ fs) = (get_or file at 0 ∷ []) ∷ values_at file (at + 1) fs
values_at file at (nodes k ∷ fs) = numbers_at file at k ∷ values_at file (at + 2 * k) fs
