-- 01, 'Case file': the sections before the accesses. "n and w (a byte each); 2-byte count of nodes from 2 up, each variable (1 byte), low, high (2 bytes each); 2-byte count of accesses."
use Rattle.std.specs.Prelude.{List, [], ◌∷◌, ◌++◌, ℕ, zero, suc, ◌+◌, ◌*◌, leb, length, get_or}
use Rattle.nodes.specs.Words.{with_node, with_terminals}
use Rattle.nodes.specs.Standard.{counted}
use Rattle.model.specs.Record.{Record}
use Rattle.model.specs.Rows.{Row, first_row, row1, row2}
use Rattle.model.specs.Record.{with_count}
use Rattle.model.specs.Step.{fresh_record}
use Rattle.format.specs.Bytes.{number_at}

-- the words with the k nodes from a place of the file on, stored from node 2 up
unfoldable pub with_nodes : List ℕ → ℕ → ℕ → List ℕ → List ℕ
with_nodes file at zero words = words
with_nodes file at (suc k) words =
    let from = at + 5 * k in
    with_node (with_nodes file at k words) (2 + k) (get_or file from 0) (number_at file (from + 1)) (number_at file (from + 3))

-- n, w, the node count, the count of accesses and the byte where they begin; or a refusal's number
pub data Sections : Type 0 where
  ready : ℕ → ℕ → ℕ → ℕ → ℕ → Sections
  refused : ℕ → Sections

-- the record with which a case begins: that of Fresh, with the file's nodes counted
abbrev pub first_record : ℕ → ℕ → ℕ → Record
first_record n w count = with_count (fresh_record (record { n = n; w = w })) count

-- "2-byte count of nodes"
abbrev pub nodes_in : List ℕ → ℕ
nodes_in file = number_at file 2

-- the byte after k nodes
abbrev pub nodes_end : ℕ → ℕ
nodes_end k = 4 + 5 * k

-- "2-byte count of accesses", and the byte after it
abbrev pub accesses_in : List ℕ → ℕ
accesses_in file = number_at file (nodes_end (nodes_in file))

abbrev pub first_at : List ℕ → ℕ
first_at file = nodes_end (nodes_in file) + 2

-- the record of the file
abbrev pub record_in : List ℕ → Record
record_in file = first_record (get_or file 0 0) (get_or file 1 0) (nodes_in file + 2)

-- the terminals and the file's nodes
abbrev pub stored : List ℕ → List ℕ → List ℕ
stored file words = with_nodes file 4 (nodes_in file) (with_terminals words)

-- "Tests follow the file: .. missing bytes of a section .., then its content (a store below 6 words counts with the nodes)".
-- First the tests up to the place where the nodes are stored,
abbrev pub early_rows : List ℕ → List ℕ → List Row
early_rows file words =
    (10, leb 2 (length file))
    ∷ (1, row1 (record_in file) words)
    ∷ (10, leb 4 (length file))
    ∷ (10, leb (nodes_end (nodes_in file)) (length file))
    ∷ (2, counted words (nodes_in file + 2))
    ∷ []

-- then those after it
abbrev pub late_rows : List ℕ → List ℕ → List Row
late_rows file words =
    (2, row2 (record_in file) (stored file words))
    ∷ (10, leb (first_at file) (length file))
    ∷ []

-- a refusal by this row, of which 0 is none
abbrev pub words_unless : ℕ → List ℕ → List ℕ → List ℕ
words_unless zero new words = new
words_unless (suc k) new words = words

abbrev pub sections_unless : ℕ → Sections → Sections
sections_unless zero x = x
sections_unless (suc k) x = refused (suc k)

-- what reading the sections leaves of the node words, and answers
unfoldable pub sections : List ℕ → List ℕ → List ℕ × Sections
sections file words = (
  words_unless (first_row (early_rows file words)) (stored file words) words,
  sections_unless (first_row (early_rows file words ++ late_rows file words)) (ready (get_or file 0 0) (get_or file 1 0) (nodes_in file + 2) (accesses_in file) (first_at file)),
)
