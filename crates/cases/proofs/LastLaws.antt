-- The end of a case.
use mathlib.Core.Path.{◌≡◌}
use mathlib.Core.List.{List}
use Prim.Native.Nat.{ℕ, ◌<◌, ◌≤◌}
use lib.ListN.{length}
use borrow.Author.Tests.{lt-ltb, le-ltb}
use Rattle.text.specs.Text.{appended}
use Rattle.lines.specs.Lines.{end_line}
use Rattle.cases.specs.Case.{Running, stopped, last_printed, last}

-- the last line: 12 comes before it
module _ (file : List ℕ) (k : ℕ) (c : Running) where
  pub last-left : c.at < length file → last file k c ≡ stopped 12 k
  unfolding last
  last-left h = rw (lt-ltb c.at (length file) h)

  pub last-printed : length file ≤ c.at → last file k c ≡ last_printed c.state k (appended (end_line c.state.rec.entries) c.text)
  unfolding last
  last-printed h = rw (le-ltb c.at (length file) h)
