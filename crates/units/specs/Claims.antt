-- Demand 3 of lists with units, under one assignment, in two halves: what is admitted under every assignment, and what is exact where no unit above 1 has an X in its address.
use Rattle.std.specs.Prelude.{◌≡◌, Bool, List, [], ◌∷◌, ℕ, ◌^◌, ◌<◌, ◌≤◌, T, length}
use Rattle.semantics.specs.Pairs.{admit, bit}
use Rattle.semantics.specs.Array.{Returns, Allowed}
use Rattle.semantics.specs.Held.{holds_nothing}
use Rattle.semantics.specs.Claims.{Told}
use Rattle.units.specs.Parts.{Shape, wide}
use Rattle.units.specs.Array.{Event, writes, reads, asserts, checks, nothing, Run, observed, last_memory, NoUnitX}
use Rattle.units.specs.Held.{held_after_all, RunMay, AllAccepted}

-- Admitted, "every word a plain run returns is admitted": a bit that some plain run returns may be so, and one that some plain run has in a port after the list; and where the check condition holds, every plain run finds, at every check in force, a word that the check allows
pub record AdmitsRuns (g : Shape) (es : List Event) (t : Told) : Type 0 where
  pub bits : (j i : ℕ) → i < wide g → (b : Bool) → ((r : Run g es) × Returns (observed g es r j) i b) → t.may j i b
  pub holds : (p i : ℕ) → p < 4 → i < wide g → (b : Bool) → ((r : Run g es) × (bit ((last_memory g es r).ports p) i ≡ b)) → t.held p i b
  pub checking : t.checked → (r : Run g es) (j : ℕ) → Allowed (observed g es r j)

-- Exact, "bits are exact under the plain array of cells": a bit may be so only where some plain run returns it, or has it in that port; and where every plain run finds such words, the check condition holds
pub record OnlyRuns (g : Shape) (es : List Event) (t : Told) : Type 0 where
  pub bits : (j i : ℕ) → i < wide g → (b : Bool) → t.may j i b → (r : Run g es) × Returns (observed g es r j) i b
  pub holds : (p i : ℕ) → p < 4 → i < wide g → (b : Bool) → t.held p i b → (r : Run g es) × (bit ((last_memory g es r).ports p) i ≡ b)
  pub checking : ((r : Run g es) (j : ℕ) → Allowed (observed g es r j)) → t.checked

-- admitted under every assignment, exact "where no accepted access of a unit above 1 in the list has an X in its address under the assignment"
pub record AsRuns (g : Shape) (es : List Event) (t : Told) : Type 0 where
  pub admitted : AdmitsRuns g es t
  pub exact : NoUnitX es → OnlyRuns g es t

-- what the published run of the events tells, from no entries on
abbrev pub published : Shape → List Event → Told
published g es = record {
  may = RunMay g holds_nothing es;
  held = λ p i b. T (admit ((held_after_all g holds_nothing es).ports p i) b);
  checked = T (held_after_all g holds_nothing es).condition;
}

-- of every list of accepted events, "for all units and both orders together"; "m at most 2^n"
unfoldable pub UnitsAsRuns : Type 0
UnitsAsRuns = (g : Shape) → g.m ≤ 2 ^ g.n → (es : List Event) → AllAccepted g es → AsRuns g es (published g es)

-- the units of a list are all 1
abbrev pub IsOne : Event → Type 0
IsOne (writes c a ds) = length ds ≡ 1
IsOne (reads p u e a) = u ≡ 1
IsOne (asserts b a d) = Unit {0}
IsOne (checks b a d) = Unit {0}
IsOne nothing = Unit {0}

abbrev pub AllOne : List Event → Type 0
AllOne [] = Unit {0}
AllOne (e ∷ es) = IsOne e × AllOne es

-- such a list is exact under every assignment, whatever its addresses
unfoldable pub OnesExactly : Type 0
OnesExactly = (g : Shape) → g.m ≤ 2 ^ g.n → (es : List Event) → AllAccepted g es → AllOne es → OnlyRuns g es (published g es)
