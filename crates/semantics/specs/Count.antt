-- 02, 'Entry count to the unit', under one assignment: which entries an event adds.
use Rattle.std.specs.Prelude.{◌≡◌, Bool, true, false, ◌&&◌, ◌||◌, not, List, [], ◌∷◌, ℕ, zero, suc, get_or}
use Rattle.std.specs.Bool.{beq}
use Rattle.semantics.specs.declared.Sizes.{Sizes}
use Rattle.semantics.specs.Sizes.{cell_bits}
use Rattle.semantics.specs.Pairs.{Pair, only, at}
use Rattle.semantics.specs.Published.{Entry, look}
use Rattle.semantics.specs.Array.{Event, writes, reads, asserts, checks, nothing}
use Rattle.semantics.specs.Held.{entries_after}

-- two pairs are the same; two words differ in one of the first w bits
abbrev pub same_pair : Pair → Pair → Bool
same_pair p q = beq p.h q.h && beq p.l q.l

abbrev pub differs : ℕ → (ℕ → Pair) → (ℕ → Pair) → Bool
differs zero d r = false
differs (suc k) d r = not (same_pair (d zero) (r zero)) || differs k (λ i. d (suc i)) (λ i. r (suc i))

-- of each entry that an event may make, after a published list, whether it is added: "accepted writes whose enable may be 1 .., plus accepted asserts whose data differs from the look .. with b", and nothing else
abbrev pub adds : Sizes → List Entry → Event → List Bool
adds z es (writes c a d) = c.h ∷ []
adds z es (reads p e a) = []
adds z es (asserts b a d) = (b && differs (cell_bits z) (at d) (look z.n es a)) ∷ []
adds z es (checks b a d) = []
adds z es nothing = []

abbrev pub adds_at : Sizes → List Entry → Event → ℕ → Bool
adds_at z es e k = get_or (adds z es e) k false

-- no event makes more entries than this
abbrev pub most_entries : ℕ
most_entries = 1

-- the published list after a list of events
abbrev pub entries_after_all : List Entry → List Event → List Entry
entries_after_all es [] = es
entries_after_all es (e ∷ fs) = entries_after_all (entries_after es e) fs

-- By hand: accesses of one location bit and one data bit, under each value of one variable
abbrev pub accesses_by_hand : List (Bool → Event)
accesses_by_hand =
    (λ v. writes (only true) (only false ∷ []) (only true ∷ []))  -- one
    ∷ (λ v. writes (only v) (only true ∷ []) (only false ∷ []))  -- one: the enable may be 1
    ∷ (λ v. writes (only false) (only true ∷ []) (only true ∷ []))  -- none: it is 0 under every assignment
    ∷ (λ v. asserts true (only false ∷ []) (only true ∷ []))  -- none: the look is 1
    ∷ (λ v. asserts v (only true ∷ []) (only false ∷ []))  -- none: where b holds, the look is 0
    ∷ (λ v. asserts true (only true ∷ []) (only false ∷ []))  -- one: where the variable is 0, the look is X
    ∷ (λ v. reads 0 (only true) (only true ∷ []))  -- none
    ∷ (λ v. checks true (only true ∷ []) (only false ∷ []))  -- none
    ∷ (λ v. nothing)  -- none: refused, or a node call
    ∷ []

-- what each adds after those before it
abbrev pub added_from : Sizes → Bool → List Entry → List (Bool → Event) → List (List Bool)
added_from z v es [] = []
added_from z v es (e ∷ fs) = adds z es (e v) ∷ added_from z v (entries_after es (e v)) fs

abbrev pub added_by_hand : Bool → List (List Bool)
added_by_hand v = (true ∷ []) ∷ (v ∷ []) ∷ (false ∷ []) ∷ (false ∷ []) ∷ (false ∷ []) ∷ (not v ∷ []) ∷ [] ∷ [] ∷ [] ∷ []

unfoldable pub AddedByHand : Type 0
AddedByHand = (v : Bool) → added_from (record { n = 1; w = 1 }) v [] accesses_by_hand ≡ added_by_hand v
