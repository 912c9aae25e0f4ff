-- 01, 'Pairs and the record': "Addresses have n pairs, 1 to 8; data w pairs, 1 to 16".
use Rattle.std.specs.Prelude.{ℕ}
use Rattle.semantics.specs.declared.Sizes.{Sizes}

-- the bits of a cell, which an entry has and asserts and checks go by; and those of the data that a write brings and a read returns, which a port holds
abbrev pub cell_bits : Sizes → ℕ
cell_bits z = z.w

abbrev pub data_bits : Sizes → ℕ
data_bits z = z.w
