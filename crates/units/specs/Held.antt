-- The published run of a list of events with units, under one assignment: a write enters an entry for each part, and a read answers m cells.
use Rattle.std.specs.Prelude.{Bool, ◌||◌, not, List, [], ◌∷◌, ◌++◌, ℕ, zero, suc, ◌<◌, ◌≤◌, T, length}
use Rattle.semantics.specs.Pairs.{Pair, legal, admit, unique}
use Rattle.semantics.specs.Published.{Entry, entry, check_holds, control}
use Rattle.semantics.specs.Held.{Held, hold, demand, Sized}
use Rattle.units.specs.Parts.{Shape, sizes, unit_entries, answer_unit}
use Rattle.units.specs.Array.{Event, writes, reads, asserts, checks, nothing}

-- what an event enters: each accepted write part by part, each assert as one entry
abbrev pub stored : Shape → Event → List Entry
stored g (writes c a ds) = unit_entries g.order c a ds
stored g (reads p u e a) = []
stored g (asserts b a d) = entry (control b) a d ∷ []
stored g (checks b a d) = []
stored g nothing = []

-- the published list after an event
abbrev pub entries_after : Shape → List Entry → Event → List Entry
entries_after g es e = es ++ stored g e

abbrev pub add : Shape → Held → Event → Held
add g s e = record { entries = entries_after g s.entries e; ports = s.ports; condition = s.condition }

abbrev pub held_after : Shape → Held → Event → Held
held_after g s (writes c a ds) = add g s (writes c a ds)
held_after g s (reads p u e a) = hold s p (answer_unit g s.entries (s.ports p) u e a)
held_after g s (asserts b a d) = add g s (asserts b a d)
held_after g s (checks b a d) = demand s (check_holds (sizes g) s.entries b a d)
held_after g s nothing = s

abbrev pub held_after_all : Shape → Held → List Event → Held
held_after_all g s [] = s
held_after_all g s (e ∷ es) = held_after_all g (held_after g s e) es

-- bit i of what a read answers admits b; no other call answers a word
abbrev pub NowMay : Shape → Held → Event → ℕ → Bool → Type 0
NowMay g s (writes c a ds) i b = ⊥
NowMay g s (reads p u e a) i b = T (admit (answer_unit g s.entries (s.ports p) u e a i) b)
NowMay g s (asserts c a d) i b = ⊥
NowMay g s (checks c a d) i b = ⊥
NowMay g s nothing i b = ⊥

-- the same of call j of the list
abbrev pub RunMay : Shape → Held → List Event → ℕ → ℕ → Bool → Type 0
RunMay g s [] j i b = ⊥
RunMay g s (e ∷ es) zero i b = NowMay g s e i b
RunMay g s (e ∷ es) (suc j) i b = RunMay g (held_after g s e) es j i b

-- What the refusals leave of an event, 17 with them: a unit from 1 to m
abbrev pub Parts : ℕ → List (List Pair) → Type 0
Parts w [] = Unit {0}
Parts w (d ∷ ds) = Sized w d × Parts w ds

abbrev pub IsUnit : Shape → ℕ → Type 0
IsUnit g unit = (1 ≤ unit) × (unit ≤ g.m)

abbrev pub Accepted : Shape → Event → Type 0
Accepted g (writes c a ds) = T (legal c) × Sized g.n a × Parts g.w ds × IsUnit g (length ds)
Accepted g (reads p u e a) = T (legal e) × Sized g.n a × (p < 4) × IsUnit g u
Accepted g (asserts b a d) = Sized g.n a × Sized g.w d × T (not b || unique a)
Accepted g (checks b a d) = Sized g.n a × Sized g.w d
Accepted g nothing = Unit {0}

abbrev pub AllAccepted : Shape → List Event → Type 0
AllAccepted g [] = Unit {0}
AllAccepted g (e ∷ es) = Accepted g e × AllAccepted g es
