-- Why the half `exact` asks for known addresses, and for units of no more parts than there are cells, under one assignment: lists whose bits, or whose check condition, are admitted and not exact.
use Rattle.std.specs.Prelude.{true, List, [], ◌∷◌}
use Rattle.semantics.specs.Pairs.{Pair, X}
use Rattle.semantics.specs.Rulings.{one, nought}
use Rattle.units.specs.Parts.{Order, little, Shape}
use Rattle.units.specs.Array.{Event, writes, reads, checks}
use Rattle.units.specs.Held.{AllAccepted}
use Rattle.units.specs.Claims.{OnlyRuns, published}
use Rattle.units.specs.ByHand.{four_cells, two_cells, ones}

-- a list of accepted events that is not exact
pub record NotExact (g : Shape) (es : List Event) : Type 0 where
  pub accepted : AllAccepted g es
  pub not : OnlyRuns g es (published g es) → ⊥

-- two cells, 1 written into both by a unit of two at X, whichever is first: a read of cell 0 may be 0, though every run returns 1; a check of it against 1 does not hold, though every run is allowed
abbrev pub write_then_read : List Event
write_then_read = writes one (X ∷ []) ones ∷ reads 0 1 one (nought ∷ []) ∷ []

abbrev pub write_then_check : List Event
write_then_check = writes one (X ∷ []) ones ∷ checks true (nought ∷ []) (one ∷ []) ∷ []

-- four cells, 1 written at 1 and at 2: part 2 of a unit of two at 0X looks at XX and may be 0, though every run finds 1
abbrev pub read_at_x : List Event
read_at_x = writes one (one ∷ nought ∷ []) ((one ∷ []) ∷ []) ∷ writes one (nought ∷ one ∷ []) ((one ∷ []) ∷ []) ∷ reads 0 2 one (X ∷ nought ∷ []) ∷ []

-- "m at most 2^n": two cells and a unit of four, in which parts 1 and 3 lie in cell 0. Cell 0 is 0, and under an enable of X part 1 is 1 there and part 3 is 0: a read of it may be 1, though every run returns 0
abbrev pub too_many : Shape
too_many = record { n = 1; w = 1; m = 4; order = little }

abbrev pub four_parts : List (List Pair)
four_parts = (one ∷ []) ∷ (nought ∷ []) ∷ (nought ∷ []) ∷ (nought ∷ []) ∷ []

abbrev pub write_over_itself : List Event
write_over_itself = writes one (nought ∷ []) ((nought ∷ []) ∷ []) ∷ writes X (nought ∷ []) four_parts ∷ reads 0 1 one (nought ∷ []) ∷ []

pub record NotExactElsewhere : Type 0 where
  pub after_x : (o : Order) → NotExact (two_cells o) write_then_read
  pub check_after_x : (o : Order) → NotExact (two_cells o) write_then_check
  pub at_x : NotExact (four_cells little) read_at_x
  pub many_parts : NotExact too_many write_over_itself
