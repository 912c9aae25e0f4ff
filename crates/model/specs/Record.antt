-- 01, 'Pairs and the record': the record, and pairs and entries in words.
use Rattle.std.specs.Prelude.{Bool, List, [], ◌∷◌, ◌++◌, ℕ, ◌+◌, ◌*◌, ◌-◌, ◌/◌, min, length, get_or, take, drop, replicate}
use Rattle.semantics.specs.declared.Sizes.{Sizes}
use Rattle.semantics.specs.Sizes.{cell_bits, data_bits}
use Rattle.model.specs.declared.Fields.{Fields}

-- "The record has n, w, node count, entry count, assert condition, check condition.": the fields that the code's struct has
abbrev pub Record : Type 0
Record = Fields

-- the record with another node count, entry count, assert condition, check condition; nothing else of it ever changes
abbrev pub with_count : Record → ℕ → Record
with_count r c = record { sizes = r.sizes; count = c; entries = r.entries; asserted = r.asserted; checked = r.checked }

abbrev pub with_entries : Record → ℕ → Record
with_entries r k = record { sizes = r.sizes; count = r.count; entries = k; asserted = r.asserted; checked = r.checked }

abbrev pub with_asserted : Record → ℕ → Record
with_asserted r a = record { sizes = r.sizes; count = r.count; entries = r.entries; asserted = a; checked = r.checked }

abbrev pub with_checked : Record → ℕ → Record
with_checked r c = record { sizes = r.sizes; count = r.count; entries = r.entries; asserted = r.asserted; checked = c }

-- "lowest bit first, h before l, in words and in steps alike": the halves of pair i
abbrev pub h_at : List ℕ → ℕ → ℕ
h_at ws i = get_or ws (2 * i) 0

abbrev pub l_at : List ℕ → ℕ → ℕ
l_at ws i = get_or ws (2 * i + 1) 0

-- the words from a up to e
abbrev pub part : List ℕ → ℕ → ℕ → List ℕ
part l a e = take (e - a) (drop a l)

-- the words of an address, of a cell's data in an entry or beside a look, and of the data or answer of a write or a read
abbrev pub address_words : Record → ℕ
address_words r = 2 * r.sizes.n

abbrev pub cell_words : Record → ℕ
cell_words r = 2 * cell_bits r.sizes

abbrev pub data_words : Record → ℕ
data_words r = 2 * data_bits r.sizes

-- "An entry is 2+2n+2w words: h, s, address, data."
abbrev pub size : Record → ℕ
size r = 2 + address_words r + cell_words r

abbrev pub entry_at : Record → List ℕ → ℕ → List ℕ
entry_at r l j = part l (j * size r) (j * size r + size r)

abbrev pub address_of : Record → List ℕ → List ℕ
address_of r e = part e 2 (2 + address_words r)

abbrev pub data_of : Record → List ℕ → List ℕ
data_of r e = part e (2 + address_words r) (size r)

-- "List capacity is whole entries, at most 4,096."
unfoldable pub list_capacity : Record → List ℕ → ℕ
list_capacity r l = min (length l / size r) 4096

-- "Append h,s,a,d.": the list with this entry at the place after the last
unfoldable pub appended : Record → List ℕ → ℕ → ℕ → List ℕ → List ℕ → List ℕ
appended r l h s a d = take (r.entries * size r) l ++ ((h ∷ s ∷ (a ++ d)) ++ drop (r.entries * size r + size r) l)

-- 02, 'Ports that hold': "Four read ports, 0 to 3", 32 words each; port p's held word is the first 2w of its own
abbrev pub port_at : ℕ → ℕ
port_at p = p * 32

abbrev pub held_word : Record → List ℕ → ℕ → List ℕ
held_word r ps p = part ps (port_at p) (port_at p + data_words r)

-- "each port's held word is replaced by the read that uses it"
unfoldable pub replaced : List ℕ → ℕ → List ℕ → List ℕ
replaced ps p word = take (port_at p) ps ++ (word ++ drop (port_at p + length word) ps)

-- "All ports start X"
abbrev pub fresh_ports : List ℕ
fresh_ports = replicate 128 1
