-- 02, 'Entry count to the unit': "Over demand 3's lists, \"at most\" becomes exactly". "The count is defined from the accesses, not the list."
use Rattle.std.specs.Prelude.{◌≡◌, ◌↔◌, Bool, true, false, ◌||◌, cond, List, [], ◌∷◌, ◌++◌, ℕ, zero, suc, ◌+◌, ◌^◌, ◌<◌, ◌≤◌}
use Rattle.conditions.specs.Value.{value}
use Rattle.conditions.specs.Assignment.{bit_at}
use Rattle.semantics.specs.declared.Sizes.{Sizes}
use Rattle.semantics.specs.Sizes.{cell_bits}
use Rattle.semantics.specs.Pairs.{Pair, only, at}
use Rattle.model.specs.Record.{Record, list_capacity}
use Rattle.semantics.specs.Published.{Entry, look}
use Rattle.semantics.specs.Array.{Event, writes, reads, asserts, checks, nothing}
use Rattle.semantics.specs.Held.{entries_after}
use Rattle.semantics.specs.Count.{differs, adds_at, most_entries, entries_after_all, accesses_by_hand}
use Rattle.model.specs.Step.{State, Access, assert, Call, access, entered, kept, accepted, refused, done, is_refused, step, run, fresh}
use Rattle.model.specs.Claims.{argument, event, Fed, fed, events, Begins}
use Rattle.model.specs.Meanings.{entry_values, address_argument, word_argument}
use Rattle.model.specs.Chain.{Link, Chained, last_state, fed_of, freshed}

-- "under some assignment", which is a 64-bit number
unfoldable pub some_below : ℕ → (ℕ → Bool) → Bool
some_below zero f = false
some_below (suc k) f = f k || some_below k f

unfoldable pub under_some : ((ℕ → Bool) → Bool) → Bool
under_some f = some_below (2 ^ 64) (λ a. f (bit_at a))

-- as a sentence
unfoldable pub SomeExactly : Type 0
SomeExactly = (f : (ℕ → Bool) → Bool) → (under_some f ≡ true) ↔ ((a : ℕ) × (a < 2 ^ 64) × (f (bit_at a) ≡ true))

-- the k-th entry that a call may make is added under some assignment, after the published list that stands there under it; and how many of the first m are
abbrev pub adds_some : Sizes → ((ℕ → Bool) → List Entry) → Fed → ℕ → Bool
adds_some z list e k = under_some (λ φ. adds_at z (list φ) (e φ) k)

abbrev pub how_many : ℕ → (ℕ → Bool) → ℕ
how_many zero f = 0
how_many (suc m) f = cond (f zero) 1 0 + how_many m (λ k. f (suc k))

abbrev pub new_entries : Sizes → ((ℕ → Bool) → List Entry) → Fed → ℕ
new_entries z list e = how_many most_entries (adds_some z list e)

-- the count of a list of calls: each looks at the published list of all accepted writes and asserts before it, idle and kept ones too
abbrev pub entry_count_from : Sizes → ((ℕ → Bool) → List Entry) → List Fed → ℕ
entry_count_from z list [] = 0
entry_count_from z list (e ∷ es) = new_entries z list e + entry_count_from z (λ φ. entries_after (list φ) (e φ)) es

abbrev pub entry_count : Sizes → List Fed → ℕ
entry_count z es = entry_count_from z (λ φ. []) es

-- the entries that a memory has ever made: those of its record
abbrev pub total : Record → ℕ
total r = r.entries

-- of one call, from any state: they are more by those that it adds to the list of the state
abbrev pub AddsExactly : Call → State → Type 0
AddsExactly c s = total (step c s).after.rec ≡ total s.rec + new_entries s.rec.sizes (λ φ. entry_values φ s) (λ φ. event φ s c (step c s).answer)

unfoldable pub EntryExactly : Type 0
EntryExactly = (c : Call) (s : State) → AddsExactly c s

-- An assert: under an assignment with b its data differs from the look of the state's list. It is entered exactly where some assignment has that, and else kept
abbrev pub DiffersUnder : State → ℕ → List ℕ → List ℕ → ℕ → Type 0
DiffersUnder s b a d k =
    (value s.words (bit_at k) b ≡ true)
    × (differs (cell_bits s.rec.sizes) (at (word_argument (bit_at k) s d)) (look s.rec.sizes.n (entry_values (bit_at k) s) (address_argument (bit_at k) s a)) ≡ true)

pub record AssertAnswers (b : ℕ) (a d : List ℕ) (s : State) : Type 0 where
  pub enters : ((step (access (assert b a d)) s).answer ≡ done entered) ↔ ((k : ℕ) × (k < 2 ^ 64) × DiffersUnder s b a d k)
  pub keeps : ((step (access (assert b a d)) s).answer ≡ done kept) ↔ ((k : ℕ) → k < 2 ^ 64 → DiffersUnder s b a d k → ⊥)

unfoldable pub KeptExactly : Type 0
KeptExactly = (b : ℕ) (a d : List ℕ) (s : State) → is_refused (step (access (assert b a d)) s).answer ≡ false → AssertAnswers b a d s

-- those that are idle or kept change no cell: the published look is also the list's
unfoldable pub LookIsList : Type 0
LookIsList =
    (s : State) → Begins s → (cs : List Call) (a : ℕ) → a < 2 ^ 64 → (x : List Pair) (i : ℕ) → i < s.rec.sizes.w
    → look s.rec.sizes.n (entry_values (bit_at a) (run cs s)) x i ≡ look s.rec.sizes.n (entries_after_all [] (events (bit_at a) s cs)) x i

-- and so of the whole list: the entry count is the count of its accesses
unfoldable pub CountExactly : Type 0
CountExactly = (s : State) → Begins s → (cs : List Call) → total (run cs s).rec ≡ entry_count s.rec.sizes (fed s cs)

-- of every chain of calls that ran from an accepted Fresh
unfoldable pub ChainCount : Type 0
ChainCount =
    (given : Record) (z : Sizes) (ws ps : List ℕ) (s : State) → freshed (fresh given z ws ps) ≡ (done accepted, s.rec, s.words, s.ports)
    → (ks : List Link) → Chained s ks → total (last_state s ks).rec ≡ entry_count s.rec.sizes (fed_of s ks)

-- "Budgets are planned from the last line": the record has no more entries than the list takes, and 8 refuses an access only where with those that it would add there would be more
pub record Budget (s : State) (cs : List Call) : Type 0 where
  pub within : (run cs s).rec.entries ≤ list_capacity s.rec s.list
  pub eight : (c : Access) → (step (access c) (run cs s)).answer ≡ refused 8
      → list_capacity s.rec s.list < (run cs s).rec.entries + new_entries s.rec.sizes (λ φ. entries_after_all [] (events φ s cs)) (λ φ. argument φ (run cs s) c)

unfoldable pub BudgetExactly : Type 0
BudgetExactly = (s : State) → Begins s → (cs : List Call) → Budget s cs

-- Counted by hand: the accesses of `accessesByHand`, under each value of variable 8
abbrev pub of_variable8 : List (Bool → Event) → List Fed
of_variable8 [] = []
of_variable8 (e ∷ es) = (λ φ. e (φ 8)) ∷ of_variable8 es

unfoldable pub CountedByHand : Type 0
CountedByHand = entry_count (record { n = 1; w = 1 }) (of_variable8 accesses_by_hand) ≡ 3
