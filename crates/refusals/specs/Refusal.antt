-- 01, 'Turned down', and 02's rows: their numbers, and the number that a call returns.
use Rattle.std.specs.Prelude.{ℕ, Result, Ok, Err}
use Rattle.refusals.specs.declared.Refusal.{Refusal}
use Rattle.refusals.specs.declared.Refusal.TheVariants as row

abbrev pub number : Refusal → ℕ
number row.Sizes = 1
number row.Store = 2
number row.Contents = 3
number row.Lengths = 4
number row.Nodes = 5
number row.Neither = 6
number row.UnknownAddress = 7
number row.ListFull = 8
number row.StoreFull = 9
number row.EndsEarly = 10
number row.UnknownKind = 11
number row.BytesLeft = 12
number row.BufferShort = 13
number row.Port = 14
number row.Language = 15
number row.Depth = 16

-- the number that a call returns: its row's, or 0 where it is accepted
abbrev pub row_of : {A : Type 0} → Result A Refusal → ℕ
row_of (Ok a) = 0
row_of (Err k) = number k
