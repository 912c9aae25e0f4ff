-- 02, 'Units of several cells', computed, under one assignment: both orders and the wrap, a carry left open, zero above a small read, a held word whole, and one enable for all parts.
use Rattle.std.specs.Prelude.{◌≡◌, true, false, List, [], ◌∷◌, ℕ}
use Rattle.semantics.specs.Pairs.{Pair, X}
use Rattle.semantics.specs.Published.{entry}
use Rattle.semantics.specs.Array.{Memory}
use Rattle.semantics.specs.Held.{holds_nothing}
use Rattle.semantics.specs.Rulings.{one, nought}
use Rattle.units.specs.Sum.{sum}
use Rattle.units.specs.Parts.{Order, little, big, Shape, unit_entries, answer_unit}
use Rattle.units.specs.Array.{Event, writes, reads, Choice, memory_after}
use Rattle.units.specs.Held.{held_after_all}

-- four cells of one bit, and two
abbrev pub four_cells : Order → Shape
four_cells o = record { n = 2; w = 1; m = 4; order = o }

abbrev pub two_cells : Order → Shape
two_cells o = record { n = 1; w = 1; m = 2; order = o }

-- addresses of four cells
abbrev pub cell0 : List Pair
cell0 = nought ∷ nought ∷ []

abbrev pub cell3 : List Pair
cell3 = one ∷ one ∷ []

-- a unit of two at 3: part 1 is 1, part 2 is 0
abbrev pub one_nought : List (List Pair)
one_nought = (one ∷ []) ∷ (nought ∷ []) ∷ []

-- what a read gives after these events, by its unit, enable and address
abbrev pub given : Order → List Event → ℕ → Pair → List Pair → List Pair
given o es unit e a =
    let h = held_after_all (four_cells o) holds_nothing es in
    let d = answer_unit (four_cells o) h.entries (h.ports 0) unit e a in
    d 0 ∷ d 1 ∷ d 2 ∷ d 3 ∷ []

abbrev pub wrote : List Event
wrote = writes one cell3 one_nought ∷ []

pub record ByHand : Type 0 where
  -- part 1 first: little at 3 and 0, big at 0 and 3
  pub little_parts : unit_entries little one cell3 one_nought ≡ entry one cell3 (one ∷ []) ∷ entry one cell0 (nought ∷ []) ∷ []
  pub big_parts : unit_entries big one cell3 one_nought ≡ entry one cell0 (one ∷ []) ∷ entry one cell3 (nought ∷ []) ∷ []
  -- 0X and 1 are XX
  pub open_carry : sum (true ∷ []) (X ∷ nought ∷ []) ≡ X ∷ X ∷ []
  -- a read of the unit that was written, in either order, and of one cell; zero above
  pub read_two : (o : Order) → given o wrote 2 one cell3 ≡ one ∷ nought ∷ nought ∷ nought ∷ []
  pub little_one : given little wrote 1 one cell3 ≡ one ∷ nought ∷ nought ∷ nought ∷ []
  pub big_one : given big wrote 1 one cell3 ≡ nought ∷ nought ∷ nought ∷ nought ∷ []
  -- cells 1 and 2 were not written
  pub little_four : given little wrote 4 one cell3 ≡ one ∷ nought ∷ X ∷ X ∷ []
  pub big_four : given big wrote 4 one cell3 ≡ X ∷ X ∷ one ∷ nought ∷ []
  -- a disabled read of one cell returns the four that its port holds
  pub held_whole : given little (writes one cell3 one_nought ∷ reads 0 4 one cell3 ∷ []) 1 nought cell3 ≡ one ∷ nought ∷ X ∷ X ∷ []

-- Two parts of 1. One enable for both: from two cells of 0, an enable of X leaves both or writes both
abbrev pub ones : List (List Pair)
ones = (one ∷ []) ∷ (one ∷ []) ∷ []

abbrev pub zeros : Memory
zeros = record { cells = λ x. false ∷ []; ports = λ p. false ∷ false ∷ [] }

unfoldable pub OneEnable : Type 0
OneEnable = (o : Order) (k : Choice (writes X (X ∷ []) ones)) → (memory_after (two_cells o) (writes X (X ∷ []) ones) k zeros).cells (false ∷ []) ≡ (memory_after (two_cells o) (writes X (X ∷ []) ones) k zeros).cells (true ∷ [])
