-- 02, 'Units of several cells': the look and the read of a unit and the marks of a unit write, as the programs that build their conditions. The memory's m and order stand beside its record.
use Rattle.std.specs.Prelude.{List, [], ◌∷◌, ◌++◌, ℕ, zero, suc, ◌+◌, ◌*◌, ◌-◌, get_or}
use Rattle.conditions.specs.Build.{Build, pure, next, ◌>>=◌, for_each}
use Rattle.conditions.specs.Ite.{And}
use Rattle.model.specs.Record.{Record, part, cell_words}
use Rattle.model.specs.Access.{Marks, Write, EachHalf, Look, hold_half}
use Rattle.units.specs.Sum.{bits_of}
use Rattle.units.specs.Parts.{Shape, Order, offset}
use Rattle.unit_programs.specs.Add.{Add}

-- a record's sizes, with m and order
abbrev pub shaped : ℕ → Order → Record → Shape
shaped m o r = record { n = r.sizes.n; w = r.sizes.w; m = m; order = o }

-- the address of part j of a unit
unfoldable pub PartAddress : Order → Record → ℕ → List ℕ → ℕ → Build (List ℕ)
PartAddress o r unit a j = Add r.sizes.n a (bits_of r.sizes.n (offset o unit j))

-- each part's address, and then its look: part j + 1, after the parts before it
unfoldable pub look_part : Order → Record → List ℕ → ℕ → List ℕ → ℕ → List ℕ → Build (List ℕ)
look_part o r l unit a j word = do
  p ← PartAddress o r unit a (suc j)
  looked ← Look r l p
  pure (word ++ looked)

-- so many bits of 0, (0,1) each
abbrev pub zero_pairs : ℕ → List ℕ
zero_pairs zero = []
zero_pairs (suc k) = 0 ∷ 1 ∷ zero_pairs k

-- "What an enabled read of a small unit finds has zero above"
unfoldable pub LookUnit : ℕ → Order → Record → List ℕ → ℕ → List ℕ → Build (List ℕ)
LookUnit m o r l unit a = do
  word ← for_each (look_part o r l unit a) 0 unit []
  pure (word ++ zero_pairs ((m - unit) * r.sizes.w))

-- S once, and then each half of all m cells beside the port's, those above the unit too
unfoldable pub ReadUnit : ℕ → Order → Record → List ℕ → List ℕ → ℕ → ℕ → ℕ → List ℕ → Build (List ℕ)
ReadUnit m o r l held unit eh el a = do
  looked ← LookUnit m o r l unit a
  s ← And eh el
  EachHalf (λ k. hold_half s eh (get_or held k 0)) (2 * (m * r.sizes.w)) looked

-- an entry in words that does not stand in the list yet
pub record Ready : Type 0 where
  pub hard : ℕ
  pub soft : ℕ
  pub address : List ℕ
  pub word : List ℕ

-- "Part j is data cell j": part j + 1 with its address, cell j of the data counted from 0, and the marks that every part shares
unfoldable pub part_ready : Order → Record → ℕ → Marks → List ℕ → List ℕ → ℕ → List Ready → Build (List Ready)
part_ready o r unit k a d j xs = do
  p ← PartAddress o r unit a (suc j)
  pure (xs ++ (record { hard = k.hard; soft = k.soft; address = p; word = part d (j * cell_words r) (j * cell_words r + cell_words r) } ∷ []))

-- the marks once, of the unit's own address; then the parts' addresses, part 1 first
unfoldable pub UnitWrite : Order → Record → ℕ → ℕ → ℕ → List ℕ → List ℕ → Build (List Ready)
UnitWrite o r unit ch cl a d = do
  k ← Write r.sizes.n ch cl a
  for_each (part_ready o r unit k a d) 0 unit []
