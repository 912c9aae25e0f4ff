-- How an access is read: at most one byte, and its nodes together. All of it follows from the fields of its kind.
use Rattle.std.specs.Prelude.{List, [], ◌∷◌, ◌++◌, ℕ, zero, suc, ◌+◌, replicate}
use Rattle.model.specs.Record.{part}
use Rattle.format.specs.declared.Kind.{Kind}
use Rattle.format.specs.Fields.{Field, byte, nodes, fields_of}
use Rattle.reading.specs.declared.Ends.{Ends}

-- the bytes before the first node
abbrev pub bytes_first : List Field → ℕ
bytes_first [] = 0
bytes_first (byte ∷ fs) = suc (bytes_first fs)
bytes_first (nodes k ∷ fs) = 0

unfoldable pub lead_of : Kind → ℕ
lead_of k = bytes_first (fields_of k 0 0)

-- the port, by the byte after the kind: 0 where the first field is no byte
abbrev pub first_byte : List Field → ℕ → ℕ
first_byte [] b = 0
first_byte (byte ∷ fs) b = b
first_byte (nodes k ∷ fs) b = 0

unfoldable pub port_of : Kind → ℕ → ℕ
port_of k b = first_byte (fields_of k 0 0) b

-- where the first k fields of nodes end, among the nodes, after so many others
abbrev pub end_after : ℕ → ℕ → List Field → ℕ
end_after at zero fs = at
end_after at (suc k) [] = at
end_after at (suc k) (byte ∷ fs) = end_after at (suc k) fs
end_after at (suc k) (nodes m ∷ fs) = end_after (at + m) k fs

-- the ends of control, address and data
unfoldable pub ends_of : Kind → ℕ → ℕ → Ends
ends_of k n w = record { control = end_after 0 1 (fields_of k n w); address = end_after 0 2 (fields_of k n w); word = end_after 0 3 (fields_of k n w) }

-- how many nodes an access has
abbrev pub size_of : Kind → ℕ → ℕ → ℕ
size_of k n w = (ends_of k n w).word

-- what its fields hold, by its port and its nodes
abbrev pub parted : Ends → List ℕ → List (List ℕ)
parted e ops = part ops 0 e.control ∷ part ops e.control e.address ∷ part ops e.address e.word ∷ []

abbrev pub told : Kind → ℕ → ℕ → ℕ → List ℕ → List (List ℕ)
told k n w port ops = replicate (lead_of k) (port ∷ []) ++ parted (ends_of k n w) ops
