-- The count under one assignment: an assert that its look keeps adds no entry, and lists that say the same of each location are added to alike.
use mathlib.Core.Path.{◌≡◌, refl, ap}
use mathlib.Core.Bool.{Bool, true, false, ◌&&◌, beq}
use mathlib.Core.List.{List, [], ◌∷◌}
use Prim.Native.Nat.{ℕ, zero, suc, ◌<◌, ◌≤◌}
use native.Mathlib.Omega.{arith}
use lib.ListN.{length}
use Rattle.semantics.specs.declared.Sizes.{Sizes}
use Rattle.semantics.specs.Sizes.{cell_bits}
use Rattle.semantics.specs.Pairs.{Pair, at}
use Rattle.semantics.specs.Published.{Entry, look, inside, keeps}
use Rattle.semantics.specs.Array.{Event, writes, reads, asserts, checks, nothing}
use Rattle.semantics.specs.Count.{same_pair, differs, adds, adds_at, most_entries, AddedByHand}
use Rattle.semantics.proofs.PairLaws.{and_left, and_right, T→eq, eq→T, beq_refl, beq_eq, inside_to}
use Rattle.semantics.proofs.KeptLaws.{SameCells, same-look, pair_same}

both : (a b : Bool) → (a && b) ≡ true → (a ≡ true) × (b ≡ true)
both a b e = (T→eq a (and_left a b (eq→T e)), T→eq b (and_right a b (eq→T e)))

-- two words that differ in no bit are the same
pub same_pair_lem : (p q : Pair) → same_pair p q ≡ true → p ≡ q
same_pair_lem p q e = let m = both (beq p.h q.h) (beq p.l q.l) e in λ i. record { h = beq_eq p.h q.h m.0 i; l = beq_eq p.l q.l m.1 i }

pair_itself : (p : Pair) → same_pair p p ≡ true
pair_itself p = rw (beq_refl p.h, beq_refl p.l)

differs_none : (w : ℕ) (d r : ℕ → Pair) → ((i : ℕ) → i < w → d i ≡ r i) → differs w d r ≡ false
differs_none zero d r same = refl
differs_none (suc k) d r same = rw (same 0 (omega arith), pair_itself (r 0)) (differs_none k (λ i. d (suc i)) (λ i. r (suc i)) (λ i l. same (suc i) (omega arith)))

-- an assert that its look keeps adds no entry
pub kept-none : (z : Sizes) (es : List Entry) (b : Bool) (a d : List Pair) → keeps z es b a d ≡ true → adds_at z es (asserts b a d) 0 ≡ false
kept-none z es false a d e = refl
kept-none z es true a d e =
    let m = both (inside (cell_bits z) (at d) (look z.n es a)) (inside (cell_bits z) (look z.n es a) (at d)) e in
    differs_none (cell_bits z) (at d) (look z.n es a) (λ i l. pair_same (at d i) (look z.n es a i) (inside_to (cell_bits z) (at d) (look z.n es a) (eq→T m.0) i l) (inside_to (cell_bits z) (look z.n es a) (at d) (eq→T m.1) i l))

-- lists that say the same of each location ask the same
differs_as : (w : ℕ) (d r s : ℕ → Pair) → ((i : ℕ) → i < w → r i ≡ s i) → differs w d r ≡ differs w d s
differs_as zero d r s same = refl
differs_as (suc k) d r s same = rw (same 0 (omega arith), differs_as k (λ i. d (suc i)) (λ i. r (suc i)) (λ i. s (suc i)) (λ i l. same (suc i) (omega arith)))

pub adds_as : (z : Sizes) (es fs : List Entry) → SameCells (cell_bits z) es fs → (e : Event) → adds z es e ≡ adds z fs e
adds_as z es fs S (writes c a d) = refl
adds_as z es fs S (reads p e a) = refl
adds_as z es fs S (asserts b a d) = ap (λ (x : Bool). (b && x) ∷ []) (differs_as (cell_bits z) (at d) (look z.n es a) (look z.n fs a) (λ i l. same-look z.n (cell_bits z) es fs S a i l))
adds_as z es fs S (checks b a d) = refl
adds_as z es fs S nothing = refl

-- no event adds more than it may
pub adds-most : (z : Sizes) (es : List Entry) (e : Event) → length (adds z es e) ≤ most_entries
adds-most z es (writes c a d) = omega arith
adds-most z es (reads p e a) = omega arith
adds-most z es (asserts b a d) = omega arith
adds-most z es (checks b a d) = omega arith
adds-most z es nothing = omega arith

pub added_by_hand : AddedByHand
unfolding AddedByHand
added_by_hand true = refl
added_by_hand false = refl
