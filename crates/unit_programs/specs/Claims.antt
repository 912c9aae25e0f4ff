-- Adding 0 to an address builds nothing, so that a unit of 1 is an access of one cell.
use Rattle.std.specs.Prelude.{◌≡◌, false, List, ℕ, ◌*◌, ◌<◌, ◌≤◌, length}
use Rattle.conditions.specs.Stores.{Standard}
use Rattle.conditions.specs.Build.{Store, pure}
use Rattle.conditions.specs.Meet.{neither}
use Rattle.model.specs.Record.{Record, h_at, l_at}
use Rattle.model.specs.Access.{Look, Read}
use Rattle.units.specs.Sum.{bits_of}
use Rattle.units.specs.Parts.{Order}
use Rattle.unit_programs.specs.Add.{Add}
use Rattle.unit_programs.specs.Units.{LookUnit, ReadUnit}

-- what rows 5 and 6 leave of a pair: its halves are nodes, and it is neither under no assignment
pub record Legal (w : List ℕ) (c h l : ℕ) : Type 0 where
  pub high : h < c
  pub low : l < c
  pub some : neither w h l ≡ false

-- an address in a standard store that is not full
pub record Lent (n : ℕ) (a : List ℕ) (w : List ℕ) (s : Store) : Type 0 where
  pub some : 1 ≤ n
  pub size : length a ≡ 2 * n
  pub standard : Standard w s.count
  pub free : s.full ≡ false
  pub legal : (i : ℕ) → i < n → Legal w s.count (h_at a i) (l_at a i)

-- words and store stay as they are, and the sum is the address's own nodes
unfoldable pub AddingNothing : Type 0
AddingNothing = (n : ℕ) (a : List ℕ) (w : List ℕ) (s : Store) → Lent n a w s → Add n a (bits_of n 0) w s ≡ pure a w s

-- in a memory whose m is 1 the look and the read of a unit of 1 build and answer what those of one cell do
pub record OneCell : Type 0 where
  pub look : (o : Order) (r : Record) (l a : List ℕ) (w : List ℕ) (s : Store) → Lent r.sizes.n a w s → LookUnit 1 o r l 1 a w s ≡ Look r l a w s
  pub read : (o : Order) (r : Record) (l held : List ℕ) (eh el : ℕ) (a : List ℕ) (w : List ℕ) (s : Store) → Lent r.sizes.n a w s → ReadUnit 1 o r l held 1 eh el a w s ≡ Read r l held eh el a w s
