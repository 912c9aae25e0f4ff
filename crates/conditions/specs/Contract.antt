-- What is so of a store in which conditions are built.
use Rattle.std.specs.Prelude.{List, ℕ}
use Rattle.nodes.specs.Standard.{Standard}
use Rattle.operations.specs.declared.Store.{Store}
use Rattle.conditions.specs.Table.{Remembers}

-- a store in standard form, and a computed table that is right there
pub record Sound (w t : List ℕ) (s : Store) : Type 0 where
  pub standard : Standard w s.count
  pub table : Remembers t w s
