-- Demand 3 under one assignment: what a list of calls tells, held to the plain runs of its events.
use Rattle.std.specs.Prelude.{◌≡◌, Bool, List, ℕ, ◌<◌, T}
use Rattle.semantics.specs.declared.Sizes.{Sizes}
use Rattle.semantics.specs.Sizes.{data_bits}
use Rattle.semantics.specs.Pairs.{admit, bit}
use Rattle.semantics.specs.Array.{Event, Run, observed, last_memory, Returns, Allowed}
use Rattle.semantics.specs.Held.{holds_nothing, held_after_all, RunMay, AllAccepted}

-- what calls tell: bit i of the answer of call j may be b; after the list, bit i of the word of port p may be b; the check condition holds
pub record Told : Type 1 where
  pub may : ℕ → ℕ → Bool → Type 0
  pub held : ℕ → ℕ → Bool → Type 0
  pub checked : Type 0

-- Admitted: a bit that some plain run returns may be so, and one that some plain run has in a port after the list; and where the check condition holds, every plain run finds, at every check in force, a word that the check allows
pub record AdmitsRuns (z : Sizes) (es : List Event) (t : Told) : Type 0 where
  pub bits : (j i : ℕ) → i < data_bits z → (b : Bool) → ((r : Run z es) × Returns (observed z es r j) i b) → t.may j i b
  pub holds : (p i : ℕ) → p < 4 → i < data_bits z → (b : Bool) → ((r : Run z es) × (bit ((last_memory z es r).ports p) i ≡ b)) → t.held p i b
  pub checking : t.checked → (r : Run z es) (j : ℕ) → Allowed (observed z es r j)

-- Exact: a bit may be so only where some plain run returns it, or has it in that port; and where every plain run finds such words, the check condition holds
pub record OnlyRuns (z : Sizes) (es : List Event) (t : Told) : Type 0 where
  pub bits : (j i : ℕ) → i < data_bits z → (b : Bool) → t.may j i b → (r : Run z es) × Returns (observed z es r j) i b
  pub holds : (p i : ℕ) → p < 4 → i < data_bits z → (b : Bool) → t.held p i b → (r : Run z es) × (bit ((last_memory z es r).ports p) i ≡ b)
  pub checking : ((r : Run z es) (j : ℕ) → Allowed (observed z es r j)) → t.checked

-- "read bits and the check condition are exactly what the plain runs of 01's array give"
pub record ExactlyAsRuns (z : Sizes) (es : List Event) (t : Told) : Type 0 where
  pub admitted : AdmitsRuns z es t
  pub exact : OnlyRuns z es t

-- what the published run of the events tells, from no entries on
abbrev pub published : Sizes → List Event → Told
published z es = record {
  may = RunMay z holds_nothing es;
  held = λ p i b. T (admit ((held_after_all z holds_nothing es).ports p i) b);
  checked = T (held_after_all z holds_nothing es).condition;
}

-- of every list of accepted events
unfoldable pub EventsAsRuns : Type 0
EventsAsRuns = (z : Sizes) (es : List Event) → AllAccepted z es → ExactlyAsRuns z es (published z es)
