-- What the test of row 2 gives: diagrams over the same words and count where these are in standard form, else none.
use Rattle.std.specs.Prelude.{◌≡◌, true, false, Option, None, Some, List, ℕ}
use Rattle.nodes.specs.Standard.{is_standard}
use Rattle.nodes.specs.declared.diagrams.Diagrams.{Diagrams}

abbrev pub Reads : List ℕ → ℕ → Option Diagrams → Type 0
Reads w c (Some d) = (is_standard w c ≡ true) × (d.words.now ≡ w) × (d.count ≡ c)
Reads w c None = is_standard w c ≡ false
