-- What an entry adds to a look, and the programs that an access begins with, make the store full at capacity alone, and in longer words do the same up to there.
use mathlib.Core.List.{List}
use Prim.Native.Nat.{ℕ, ◌*◌}
use lib.ListN.{get_or}
use Rattle.conditions.specs.Build.{Build}
use Rattle.conditions.specs.Meaning.{Fills}
use Rattle.conditions.proofs.Promises.{pure-fills, next-fills, each-fills, variable-fills, ite-fills}
use Rattle.model.specs.Record.{Record, h_at, l_at, address_of, data_of}
use Rattle.model.specs.Access.{unique_bit, Unique, Certain, Write, narrow_bit, Narrow, half_step, EachHalf, merge_half, entry_step}

certain-fills : (h l : ℕ) → Fills (Certain h l)
unfolding Certain
certain-fills h l = next-fills (ite-fills l 0 1) (λ x. ite-fills h x 0)

unique-fills : (n : ℕ) (a : List ℕ) → Fills (Unique n a)
unfolding Unique unique_bit
unique-fills n a = each-fills _ (λ i u. next-fills (ite-fills (h_at a i) (l_at a i) 0) (λ x. next-fills (ite-fills x 0 1) (λ y. ite-fills u y 0))) 0 n 1

pub write-fills : (n h l : ℕ) (a : List ℕ) → Fills (Write n h l a)
unfolding Write
write-fills n ch cl a =
    next-fills (certain-fills ch cl)
    (λ hard. next-fills (unique-fills n a)
    (λ u. next-fills (ite-fills hard u 0)
    (λ h. next-fills (ite-fills ch cl 0) (λ x. next-fills (ite-fills u 0 1) (λ y. next-fills (ite-fills hard y 0) (λ z. next-fills (ite-fills x 1 z) (λ s. pure-fills _)))))))

pub narrow-fills : (n : ℕ) (a : List ℕ) (m : ℕ) → Fills (Narrow n a m)
unfolding Narrow narrow_bit
narrow-fills n a m = each-fills _ (λ i m. next-fills (variable-fills i) (λ x. next-fills (ite-fills x (h_at a i) (l_at a i)) (λ t. ite-fills m t 0))) 0 n m

pub halves-fills : (f : ℕ → ℕ → Build ℕ) → ((j x : ℕ) → Fills (f j x)) → (k : ℕ) (r : List ℕ) → Fills (EachHalf f k r)
unfolding EachHalf half_step
halves-fills f F k r = each-fills _ (λ j r. next-fills (F j (get_or r j 0)) (λ x. pure-fills _)) 0 k r

pub entry-fills : (r : Record) (inside : ℕ) (entry word : List ℕ) → Fills (entry_step r inside entry word)
unfolding entry_step merge_half
entry-fills r inside entry word =
    next-fills (narrow-fills r.sizes.n (address_of r entry) inside)
    (λ m. next-fills (ite-fills m (get_or entry 0 0) 0)
    (λ hm. next-fills (ite-fills m (get_or entry 1 0) 0)
    (λ sm. halves-fills _ (λ k x. next-fills (ite-fills (get_or (data_of r entry) k 0) 1 x) (λ y. next-fills (ite-fills sm y x) (λ z. ite-fills hm (get_or (data_of r entry) k 0) z))) (2 * r.sizes.w) word)))
