-- Demand 3: "a single claim about the whole list of calls, and not one for each call".
use Rattle.std.specs.Prelude.{◌≡◌, ◌↔◌, Bool, List, [], ◌∷◌, ℕ, zero, suc, ◌^◌, ◌<◌, ◌≤◌, T}
use Rattle.conditions.specs.Stores.{Standard}
use Rattle.conditions.specs.Value.{value}
use Rattle.conditions.specs.Assignment.{bit_at}
use Rattle.semantics.specs.declared.Sizes.{Sizes}
use Rattle.semantics.specs.Sizes.{cell_bits, data_bits}
use Rattle.semantics.specs.Pairs.{Pair, admit}
use Rattle.model.specs.Record.{Record, h_at, l_at, held_word, fresh_ports}
use Rattle.model.specs.Step.{State, Access, write, read, assert, check, Call, access, node_call, upkeep, Answer, refused, done, Filling, fills, fills_none, filling, Result, step, run, fresh}
use Rattle.semantics.specs.Array.{Event, writes, reads, asserts, checks, nothing}
use Rattle.semantics.specs.Claims.{Told, ExactlyAsRuns}

-- "A node in an accepted call's arguments stands for its value under the assignment, in the node words lent to that call."
abbrev pub pair_at : (ℕ → Bool) → List ℕ → List ℕ → ℕ → Pair
pair_at φ w ws i = record { h = value w φ (h_at ws i); l = value w φ (l_at ws i) }

-- k pairs from pair i on
abbrev pub pairs_from : (ℕ → Bool) → List ℕ → List ℕ → ℕ → ℕ → List Pair
pairs_from φ w ws i zero = []
pairs_from φ w ws i (suc k) = pair_at φ w ws i ∷ pairs_from φ w ws (suc i) k

abbrev pub pairs : (ℕ → Bool) → List ℕ → List ℕ → ℕ → List Pair
pairs φ w ws k = pairs_from φ w ws 0 k

-- an accepted access as the array is fed it
abbrev pub argument : (ℕ → Bool) → State → Access → Event
argument φ s (write c a d) = writes (pair_at φ s.words c 0) (pairs φ s.words a s.rec.sizes.n) (pairs φ s.words d (data_bits s.rec.sizes))
argument φ s (read p e a out) = reads p (pair_at φ s.words e 0) (pairs φ s.words a s.rec.sizes.n)
argument φ s (assert b a d) = asserts (value s.words φ b) (pairs φ s.words a s.rec.sizes.n) (pairs φ s.words d (cell_bits s.rec.sizes))
argument φ s (check b a d) = checks (value s.words φ b) (pairs φ s.words a s.rec.sizes.n) (pairs φ s.words d (cell_bits s.rec.sizes))

-- "A refused call and a node call store, return and find nothing, and a refused check is not in force."
abbrev pub event : (ℕ → Bool) → State → Call → Answer → Event
event φ s c (refused k) = nothing
event φ s (access c) (done g) = argument φ s c
event φ s (node_call c) (done g) = nothing
event φ s (upkeep c) (done g) = nothing

-- a call as the array is fed it, under each assignment, and the calls of a list
abbrev pub Fed : Type 0
Fed = (ℕ → Bool) → Event

abbrev pub fed : State → List Call → List Fed
fed s [] = []
fed s (c ∷ cs) = (λ φ. event φ s c (step c s).answer) ∷ fed (step c s).after cs

-- under one
abbrev pub under : (ℕ → Bool) → List Fed → List Event
under φ [] = []
under φ (e ∷ es) = e φ ∷ under φ es

abbrev pub events : (ℕ → Bool) → State → List Call → List Event
events φ s cs = under φ (fed s cs)

-- "A read's answer is judged in its answer words and the node words as that read left them": bit i of it may be b
abbrev pub FillingMay : (ℕ → Bool) → List ℕ → Filling → ℕ → Bool → Type 0
FillingMay φ w (fills r) i b = T (admit (pair_at φ w r i) b)
FillingMay φ w fills_none i b = ⊥

abbrev pub BitMay : (ℕ → Bool) → List ℕ → Answer → ℕ → Bool → Type 0
BitMay φ w x i b = FillingMay φ w (filling x) i b

-- call j of the list is an accepted read, bit i of whose answer may be b
abbrev pub May : (ℕ → Bool) → State → List Call → ℕ → ℕ → Bool → Type 0
May φ s [] j i b = ⊥
May φ s (c ∷ cs) zero i b = BitMay φ (step c s).after.words (step c s).answer i b
May φ s (c ∷ cs) (suc j) i b = May φ (step c s).after cs j i b

-- "after the list": bit i of the word that port p holds may be b, in record, node words and ports of a state
abbrev pub HeldMay : (ℕ → Bool) → State → ℕ → ℕ → Bool → Type 0
HeldMay φ t p i b = T (admit (pair_at φ t.words (held_word t.rec t.ports p) i) b)

-- the check condition, "in record and node words after the last call"
abbrev pub CheckHolds : (ℕ → Bool) → State → Type 0
CheckHolds φ t = T (value t.words φ t.rec.checked)

-- what calls tell whose reads' bits may be 0 and 1 as this says, and that left the state t
abbrev pub told : (ℕ → Bool) → (ℕ → ℕ → Bool → Type 0) → State → Told
told φ may t = record { may = may; held = HeldMay φ t; checked = CheckHolds φ t }

abbrev pub Exactly : State → List Call → (ℕ → Bool) → Type 0
Exactly s cs φ = ExactlyAsRuns s.rec.sizes (events φ s cs) (told φ (May φ s cs) (run cs s))

-- a state in which lists of calls may begin: any standard store, no entries, both conditions 1, a list of any words, all ports X, and w that a port has words for
pub record Begins (s : State) : Type 0 where
  pub standard : Standard s.words s.rec.count
  pub entries : s.rec.entries ≡ 0
  pub asserted : s.rec.asserted ≡ 1
  pub checked : s.rec.checked ≡ 1
  pub ports : s.ports ≡ fresh_ports
  pub wide : s.rec.sizes.w ≤ 16

-- the whole claim, for any list of calls, refused ones and node calls included, and any 64-bit assignment
unfoldable pub Demand3 : Type 0
Demand3 = (s : State) → Begins s → (cs : List Call) (a : ℕ) → a < 2 ^ 64 → Exactly s cs (bit_at a)

-- and so "the first gets the record and node words that an accepted Fresh left, and a list of any words, for any n, w and sizes"
unfoldable pub FromFresh : Type 0
FromFresh =
    (given : Record) (z : Sizes) (ws ps list : List ℕ) → (fresh given z ws ps).answer ≡ 0
    → Begins (record { rec = (fresh given z ws ps).rec; words = (fresh given z ws ps).words; list = list; ports = (fresh given z ws ps).ports })
