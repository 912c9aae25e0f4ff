-- The published run of a list of events, under one assignment: what the symbolic memory holds from call to call, and what its reads admit.
use Rattle.std.specs.Prelude.{◌≡◌, Bool, true, ◌&&◌, ◌||◌, not, cond, List, [], ◌∷◌, ◌++◌, ℕ, zero, suc, ◌<◌, T, eqb, length}
use Rattle.semantics.specs.declared.Sizes.{Sizes}
use Rattle.semantics.specs.Sizes.{cell_bits, data_bits}
use Rattle.semantics.specs.Pairs.{Pair, X, legal, legals, admit, unique}
use Rattle.semantics.specs.Published.{Entry, entry, answer, check_holds, control}
use Rattle.semantics.specs.Array.{Event, writes, reads, asserts, checks, nothing}

-- the entries, oldest first, each port's word, and the check condition
pub record Held : Type 0 where
  pub entries : List Entry
  pub ports : ℕ → ℕ → Pair
  pub condition : Bool

-- Fresh: no entry, "All ports start X", and the condition 1
abbrev pub holds_nothing : Held
holds_nothing = record { entries = []; ports = λ p i. X; condition = true }

-- what an event enters: each accepted write and assert, one that is idle or kept too, which would change no cell (`idle-same`, `Kept-same`)
abbrev pub stored : Event → List Entry
stored (writes c a d) = entry c a d ∷ []
stored (reads p e a) = []
stored (asserts b a d) = entry (control b) a d ∷ []
stored (checks b a d) = []
stored nothing = []

-- the published list after an event
abbrev pub entries_after : List Entry → Event → List Entry
entries_after es e = es ++ stored e

abbrev pub add : Held → Event → Held
add s e = record { entries = entries_after s.entries e; ports = s.ports; condition = s.condition }

-- "each port's held word is replaced by the read that uses it"
abbrev pub hold : Held → ℕ → (ℕ → Pair) → Held
hold s p word = record { entries = s.entries; ports = λ q. cond (eqb q p) word (s.ports q); condition = s.condition }

abbrev pub demand : Held → Bool → Held
demand s c = record { entries = s.entries; ports = s.ports; condition = s.condition && c }

abbrev pub held_after : Sizes → Held → Event → Held
held_after z s (writes c a d) = add s (writes c a d)
held_after z s (reads p e a) = hold s p (answer z s.entries (s.ports p) e a)
held_after z s (asserts b a d) = add s (asserts b a d)
held_after z s (checks b a d) = demand s (check_holds z s.entries b a d)
held_after z s nothing = s

abbrev pub held_after_all : Sizes → Held → List Event → Held
held_after_all z s [] = s
held_after_all z s (e ∷ es) = held_after_all z (held_after z s e) es

-- bit i of what a read answers admits b; no other call answers a word
abbrev pub NowMay : Sizes → Held → Event → ℕ → Bool → Type 0
NowMay z s (writes c a d) i b = ⊥
NowMay z s (reads p e a) i b = T (admit (answer z s.entries (s.ports p) e a i) b)
NowMay z s (asserts c a d) i b = ⊥
NowMay z s (checks c a d) i b = ⊥
NowMay z s nothing i b = ⊥

-- the same of call j of the list
abbrev pub RunMay : Sizes → Held → List Event → ℕ → ℕ → Bool → Type 0
RunMay z s [] j i b = ⊥
RunMay z s (e ∷ es) zero i b = NowMay z s e i b
RunMay z s (e ∷ es) (suc j) i b = RunMay z (held_after z s e) es j i b

-- What the refusals leave of an event. 4: n pairs of address, w of data. 14: no port above 3. 6: no illegal pair. 7: where b holds, an assert's address has no X.
abbrev pub Sized : ℕ → List Pair → Type 0
Sized k ps = T (legals ps) × (length ps ≡ k)

abbrev pub Accepted : Sizes → Event → Type 0
Accepted z (writes c a d) = T (legal c) × Sized z.n a × Sized (data_bits z) d
Accepted z (reads p e a) = T (legal e) × Sized z.n a × (p < 4)
Accepted z (asserts b a d) = Sized z.n a × Sized (cell_bits z) d × T (not b || unique a)
Accepted z (checks b a d) = Sized z.n a × Sized (cell_bits z) d
Accepted z nothing = Unit {0}

abbrev pub AllAccepted : Sizes → List Event → Type 0
AllAccepted z [] = Unit {0}
AllAccepted z (e ∷ es) = Accepted z e × AllAccepted z es
