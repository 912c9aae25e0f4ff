-- 01, 'The plain array', with the ports and units of 02: its events, its choices and its runs, under one assignment. A write brings a word for each part and a read says its unit; memories and what is observed are those of the array of one cell.
use Rattle.std.specs.Prelude.{Bool, true, false, ◌||◌, cond, List, [], ◌∷◌, ℕ, zero, suc, ◌/◌, ◌%◌, T, leb, ltb, length}
use Rattle.semantics.specs.Pairs.{Pair, admits, unique, anything, bit}
use Rattle.semantics.specs.Array.{Memory, put, latch, Bit, Bits, Where, Observed, returned, found, silent}
use Rattle.units.specs.Parts.{Order, Shape, wide, part_of}

-- "Under one assignment it is fed each call with its arguments": of a write's data its parts, part 1 first, as many as its unit; of a read its port and unit. "asserts and checks stay by one cell"
pub data Event : Type 0 where
  writes : Pair → List Pair → List (List Pair) → Event
  reads : ℕ → ℕ → Pair → List Pair → Event
  asserts : Bool → List Pair → List Pair → Event
  checks : Bool → List Pair → List Pair → Event
  nothing : Event

-- a word for each part
abbrev pub Words : List (List Pair) → Type 0
Words [] = Unit {0}
Words (d ∷ ds) = Bits d × Words ds

-- "Write: choose an enable bit, address and data that the pairs admit": one enable and one address for all parts. "Read: choose an enable bit and address": one address for all parts
abbrev pub Choice : Event → Type 0
Choice (writes c a ds) = Bit c × Bits a × Words ds
Choice (reads p u e a) = Bit e × Bits a
Choice (asserts b a d) = Where b (Bits a × Bits d)
Choice (checks b a d) = Where b (Bits a)
Choice nothing = Unit {0}

-- "enabled, store the data at the address": each part where it lies, from part j on
abbrev pub stores_from : Order → ℕ → List Bool → ℕ → (ds : List (List Pair)) → Words ds → Memory → Memory
stores_from o unit x j [] vs m = m
stores_from o unit x j (d ∷ ds) vs m = stores_from o unit x (suc j) ds vs.1 (put m (part_of o unit x j) vs.0.0)

abbrev pub stores : Order → List Bool → (ds : List (List Pair)) → Words ds → Memory → Memory
stores o x ds vs m = stores_from o (length ds) x 1 ds vs m

-- the word of k bits, lowest first
abbrev pub word_of : ℕ → (ℕ → Bool) → List Bool
word_of zero f = []
word_of (suc k) f = f zero ∷ word_of k (λ i. f (suc i))

-- "What an enabled read of a small unit finds has zero above, in the plain array too"
abbrev pub find_unit : Shape → ℕ → List Bool → Memory → ℕ → Bool
find_unit g unit x m i = cond (ltb (i / g.w) unit) (bit (m.cells (part_of g.order unit x (suc (i / g.w)))) (i % g.w)) false

abbrev pub finds : Shape → ℕ → List Bool → Memory → List Bool
finds g unit x m = word_of (wide g) (find_unit g unit x m)

-- "a held word is returned whole, whatever the unit"
abbrev pub returns : Shape → ℕ → ℕ → Bool → List Bool → Memory → List Bool
returns g p unit on x m = cond on (finds g unit x m) (m.ports p)

-- the memory after a call
abbrev pub memory_after : Shape → (e : Event) → Choice e → Memory → Memory
memory_after g (writes c a ds) k m = cond k.0.0 (stores g.order k.1.0 ds k.2 m) m
memory_after g (reads p u e a) k m = latch m p (returns g p u k.0.0 k.1.0 m)
memory_after g (asserts true a d) k m = put m k.0.0 k.1.0
memory_after g (asserts false a d) k m = m
memory_after g (checks b a d) k m = m
memory_after g nothing k m = m

-- what a call returns, or finds
abbrev pub observes : Shape → (e : Event) → Choice e → Memory → Observed
observes g (writes c a ds) k m = silent
observes g (reads p u e a) k m = returned (returns g p u k.0.0 k.1.0 m)
observes g (asserts b a d) k m = silent
observes g (checks true a d) k m = found (m.cells k.0) d
observes g (checks false a d) k m = silent
observes g nothing k m = silent

-- "A plain run is one starting content with one choice wherever there is one." Cells of w bits, and in each port any word of m cells
abbrev pub Choices : List Event → Type 0
Choices [] = Unit {0}
Choices (e ∷ es) = Choice e × Choices es

abbrev pub Start : Shape → Type 0
Start g = (m : Memory) × ((x : List Bool) → T (admits (anything g.w) (m.cells x))) × ((p : ℕ) → T (admits (anything (wide g)) (m.ports p)))

abbrev pub Run : Shape → List Event → Type 0
Run g es = Start g × Choices es

-- what call j observes, from a memory on, and the memory after the last call
abbrev pub observes_from : Shape → (es : List Event) → Memory → Choices es → ℕ → Observed
observes_from g [] m ks j = silent
observes_from g (e ∷ es) m ks zero = observes g e ks.0 m
observes_from g (e ∷ es) m ks (suc j) = observes_from g es (memory_after g e ks.0 m) ks.1 j

abbrev pub last_from : Shape → (es : List Event) → Memory → Choices es → Memory
last_from g [] m ks = m
last_from g (e ∷ es) m ks = last_from g es (memory_after g e ks.0 m) ks.1

abbrev pub observed : (g : Shape) (es : List Event) → Run g es → ℕ → Observed
observed g es r j = observes_from g es r.0.0 r.1 j

abbrev pub last_memory : (g : Shape) (es : List Event) → Run g es → Memory
last_memory g es r = last_from g es r.0.0 r.1

-- "no accepted access of a unit above 1 in the list has an X in its address under the assignment"
abbrev pub Settled : ℕ → List Pair → Type 0
Settled unit a = T (leb unit 1 || unique a)

abbrev pub NoX : Event → Type 0
NoX (writes c a ds) = Settled (length ds) a
NoX (reads p u e a) = Settled u a
NoX (asserts b a d) = Unit {0}
NoX (checks b a d) = Unit {0}
NoX nothing = Unit {0}

abbrev pub NoUnitX : List Event → Type 0
NoUnitX [] = Unit {0}
NoUnitX (e ∷ es) = NoX e × NoUnitX es
