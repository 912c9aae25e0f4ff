-- Of the calls as they ran: what a call promises, and demand 3 of every chain of states and answers in which each call met its promise.
use Rattle.std.specs.Prelude.{◌≡◌, Bool, List, [], ◌∷◌, ℕ, zero, suc, ◌^◌, ◌<◌}
use Rattle.conditions.specs.Assignment.{bit_at}
use Rattle.model.specs.Record.{Record}
use Rattle.model.specs.Step.{State, Access, NodeCall, Call, access, node_call, accepted, Answer, refused, done, Result, step, Fresh, fresh}
use Rattle.semantics.specs.declared.Sizes.{Sizes}
use Rattle.semantics.specs.Array.{Event}
use Rattle.semantics.specs.Claims.{ExactlyAsRuns}
use Rattle.model.specs.Claims.{event, Fed, under, BitMay, told}

-- a call takes a state to the next, with this answer
abbrev pub Answered : Call → State → State → Answer → Type 0
Answered c s t a = step c s ≡ record { answer = a; after = t }

-- the promise of an access, and of a node call
abbrev pub Answers : Access → State → State → Answer → Type 0
Answers c s t a = Answered (access c) s t a

abbrev pub AnswersNode : NodeCall → State → State → Answer → Type 0
AnswersNode c s t a = Answered (node_call c) s t a

-- what a Fresh answers by its number, of which 0 is no row's, and leaves
abbrev pub numbered : ℕ → Answer
numbered zero = done accepted
numbered (suc k) = refused (suc k)

abbrev pub freshed : Fresh → Answer × Record × List ℕ × List ℕ
freshed x = (numbered x.answer, x.rec, x.words, x.ports)

-- a call, what it answered, and the record, node words, list and ports that it left
pub record Link : Type 0 where
  pub call : Call
  pub answer : Answer
  pub after : State

-- "Record, node words and list go from call to call as the last one left them", and "the ports go from call to call as the list does": each link meets the call's contract
abbrev pub Chained : State → List Link → Type 0
Chained s [] = Unit {0}
Chained s (k ∷ ks) = Answered k.call s k.after k.answer × Chained k.after ks

abbrev pub last_state : State → List Link → State
last_state s [] = s
last_state s (k ∷ ks) = last_state k.after ks

-- what the array is fed: "each call with its arguments, and which calls were refused"
abbrev pub fed_of : State → List Link → List Fed
fed_of s [] = []
fed_of s (k ∷ ks) = (λ φ. event φ s k.call k.answer) ∷ fed_of k.after ks

abbrev pub events_of : (ℕ → Bool) → State → List Link → List Event
events_of φ s ks = under φ (fed_of s ks)

-- link j is an accepted read, bit i of whose answer may be b, "in its answer words and the node words as that read left them"
abbrev pub MayBe : (ℕ → Bool) → List Link → ℕ → ℕ → Bool → Type 0
MayBe φ [] j i b = ⊥
MayBe φ (k ∷ ks) zero i b = BitMay φ k.after.words k.answer i b
MayBe φ (k ∷ ks) (suc j) i b = MayBe φ ks j i b

-- the claim of one chain, under one assignment
abbrev pub ExactlyRuns : State → List Link → (ℕ → Bool) → Type 0
ExactlyRuns s ks φ = ExactlyAsRuns s.rec.sizes (events_of φ s ks) (told φ (MayBe φ ks) (last_state s ks))

-- "The first gets the record and node words that an accepted Fresh left, and a list of any words, for any n, w and sizes", and the ports that it left
unfoldable pub ChainExactly : Type 0
ChainExactly =
    (given : Record) (z : Sizes) (ws ps : List ℕ) (s : State) → freshed (fresh given z ws ps) ≡ (done accepted, s.rec, s.words, s.ports)
    → (ks : List Link) → Chained s ks → (a : ℕ) → a < 2 ^ 64 → ExactlyRuns s ks (bit_at a)
