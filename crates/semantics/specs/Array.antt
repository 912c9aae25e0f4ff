-- 01, 'The plain array', with the ports of 02: its events, its choices and its runs, under one assignment.
use Rattle.std.specs.Prelude.{◌≡◌, Bool, true, false, ◌&&◌, cond, List, [], ◌∷◌, ℕ, zero, suc, T, eqb}
use Rattle.std.specs.Bool.{beq}
use Rattle.semantics.specs.declared.Sizes.{Sizes}
use Rattle.semantics.specs.Sizes.{cell_bits, data_bits}
use Rattle.semantics.specs.Pairs.{Pair, admit, admits, anything, bit}

-- "Under one assignment it is fed each call with its arguments, and which calls were refused."
-- An argument is its value, and a read says its port; `nothing` is a refused call or a node call, which "store, return and find nothing"
pub data Event : Type 0 where
  writes : Pair → List Pair → List Pair → Event
  reads : ℕ → Pair → List Pair → Event
  asserts : Bool → List Pair → List Pair → Event
  checks : Bool → List Pair → List Pair → Event
  nothing : Event

-- "It holds 2^n words of w bits": a word at each location, and a word in each port; a location and a word are lists of bits. No accepted read has a port above 3
pub record Memory : Type 0 where
  pub cells : List Bool → List Bool
  pub ports : ℕ → List Bool

abbrev pub same : List Bool → List Bool → Bool
same [] [] = true
same [] (b ∷ bs) = false
same (a ∷ as') [] = false
same (a ∷ as') (b ∷ bs) = beq a b && same as' bs

-- the memory with a word at a location, and with a word in a port
abbrev pub put : Memory → List Bool → List Bool → Memory
put m x v = record { cells = λ y. cond (same y x) v (m.cells y); ports = m.ports }

abbrev pub latch : Memory → ℕ → List Bool → Memory
latch m p v = record { cells = m.cells; ports = λ q. cond (eqb q p) v (m.ports q) }

-- a bit, and an address or a word, that the pairs admit
abbrev pub Bit : Pair → Type 0
Bit c = (b : Bool) × T (admit c b)

abbrev pub Bits : List Pair → Type 0
Bits ps = (v : List Bool) × T (admits ps v)

abbrev pub Where : Bool → Type 0 → Type 0
Where true A = A
Where false A = Unit {0}

-- "No choice binds another, so an X is settled anew at each access."
-- "Write: choose an enable bit, address and data that the pairs admit." "Read: choose an enable bit and address".
-- "Assert: where b holds, store an admitted word at the one address". "Check: where b holds .. choose an admitted address".
abbrev pub Choice : Event → Type 0
Choice (writes c a d) = Bit c × Bits a × Bits d
Choice (reads p e a) = Bit e × Bits a
Choice (asserts b a d) = Where b (Bits a × Bits d)
Choice (checks b a d) = Where b (Bits a)
Choice nothing = Unit {0}

-- "enabled, return the word there"; "a disabled read returns its port's word in place of any word"
abbrev pub returns : ℕ → Bool → List Bool → Memory → List Bool
returns p on x m = cond on (m.cells x) (m.ports p)

-- the memory after a call: "enabled, store the data at the address"; an assert stores "whether the assert is entered or kept"; "the word a read returns is then its port's"
abbrev pub memory_after : (e : Event) → Choice e → Memory → Memory
memory_after (writes c a d) k m = cond k.0.0 (put m k.1.0 k.2.0) m
memory_after (reads p e a) k m = latch m p (returns p k.0.0 k.1.0 m)
memory_after (asserts true a d) k m = put m k.0.0 k.1.0
memory_after (asserts false a d) k m = m
memory_after (checks b a d) k m = m
memory_after nothing k m = m

-- what a call returns, or finds; a word found stands beside the check's data
pub data Observed : Type 0 where
  returned : List Bool → Observed
  found : List Bool → List Pair → Observed
  silent : Observed

-- "Check: .. choose an admitted address and find its word". "Where b does not hold, an assert or check does nothing."
abbrev pub observes : (e : Event) → Choice e → Memory → Observed
observes (writes c a d) k m = silent
observes (reads p e a) k m = returned (returns p k.0.0 k.1.0 m)
observes (asserts b a d) k m = silent
observes (checks true a d) k m = found (m.cells k.0) d
observes (checks false a d) k m = silent
observes nothing k m = silent

-- "A plain run is one starting content with one choice wherever there is one." "In the plain array each port also starts with any word"
abbrev pub Choices : List Event → Type 0
Choices [] = Unit {0}
Choices (e ∷ es) = Choice e × Choices es

abbrev pub Start : Sizes → Type 0
Start z = (m : Memory) × ((x : List Bool) → T (admits (anything (cell_bits z)) (m.cells x))) × ((p : ℕ) → T (admits (anything (data_bits z)) (m.ports p)))

abbrev pub Run : Sizes → List Event → Type 0
Run z es = Start z × Choices es

-- what call j observes, from a memory on, and the memory after the last call
abbrev pub observes_from : (es : List Event) → Memory → Choices es → ℕ → Observed
observes_from [] m ks j = silent
observes_from (e ∷ es) m ks zero = observes e ks.0 m
observes_from (e ∷ es) m ks (suc j) = observes_from es (memory_after e ks.0 m) ks.1 j

abbrev pub last_from : (es : List Event) → Memory → Choices es → Memory
last_from [] m ks = m
last_from (e ∷ es) m ks = last_from es (memory_after e ks.0 m) ks.1

abbrev pub observed : (z : Sizes) (es : List Event) → Run z es → ℕ → Observed
observed z es r j = observes_from es r.0.0 r.1 j

abbrev pub last_memory : (z : Sizes) (es : List Event) → Run z es → Memory
last_memory z es r = last_from es r.0.0 r.1

-- a word is returned, with b at bit i
abbrev pub Returns : Observed → ℕ → Bool → Type 0
Returns (returned v) i b = bit v i ≡ b
Returns (found v d) i b = ⊥
Returns silent i b = ⊥

-- "the check allows it if d admits every bit"
abbrev pub Allowed : Observed → Type 0
Allowed (returned v) = Unit {0}
Allowed (found v d) = T (admits d v)
Allowed silent = Unit {0}
