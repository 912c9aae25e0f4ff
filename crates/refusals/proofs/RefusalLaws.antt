-- A refused call returns a number that is not 0.
use Rattle.std.proofs.Common.{◌≡◌, ℕ, ◌<◌, suc, refl, arith, Result, Ok, Err}
use Rattle.refusals.specs.declared.Refusal.{Refusal}
use Rattle.refusals.specs.declared.Refusal.TheVariants as row
use Rattle.refusals.specs.Refusal.{number, row_of}

-- the number of a row is one more than some
pub number-suc : (k : Refusal) → (n : ℕ) × (number k ≡ suc n)
number-suc row.Sizes = (0, refl)
number-suc row.Store = (1, refl)
number-suc row.Contents = (2, refl)
number-suc row.Lengths = (3, refl)
number-suc row.Nodes = (4, refl)
number-suc row.Neither = (5, refl)
number-suc row.UnknownAddress = (6, refl)
number-suc row.ListFull = (7, refl)
number-suc row.StoreFull = (8, refl)
number-suc row.EndsEarly = (9, refl)
number-suc row.UnknownKind = (10, refl)
number-suc row.BytesLeft = (11, refl)
number-suc row.BufferShort = (12, refl)
number-suc row.Port = (13, refl)
number-suc row.Language = (14, refl)
number-suc row.Depth = (15, refl)

pub number-above : (k : Refusal) → 0 < number k
number-above k =
    let h = number-suc k in
    omega (arith, h.1)
