-- The programs of the accesses that look (a look, a read, a check, an assert) make the store full at capacity alone, and in longer words do the same up to there.
use mathlib.Core.List.{List}
use Prim.Native.Nat.{ℕ, ◌*◌}
use lib.ListN.{get_or}
use Rattle.conditions.specs.Meaning.{Fills}
use Rattle.conditions.proofs.Promises.{pure-fills, next-fills, each-fills, ite-fills, any-fills}
use Rattle.model.specs.Record.{Record, entry_at}
use Rattle.model.specs.Access.{settle_half, Look, Read, inside_half, Inside, Check, Assert, hold_half}
use Rattle.model.proofs.EntryFills.{narrow-fills, halves-fills, entry-fills}

look-fills : (r : Record) (l a : List ℕ) → Fills (Look r l a)
unfolding Look settle_half
look-fills r l a =
    next-fills (narrow-fills r.sizes.n a 1)
    (λ inside. next-fills (each-fills _ (λ j. entry-fills r inside (entry_at r l j)) 0 r.entries _)
    (λ word. halves-fills _ (λ k x. next-fills (ite-fills inside x 0) (λ y. any-fills y)) (2 * r.sizes.w) word))

pub read-fills : (r : Record) (l held : List ℕ) (h e : ℕ) (a : List ℕ) → Fills (Read r l held h e a)
unfolding Read hold_half
read-fills r l held h e a =
    next-fills (look-fills r l a)
    (λ word. next-fills (ite-fills h e 0) (λ c. halves-fills _ (λ k x. next-fills (ite-fills c x h) (λ t. ite-fills t x (get_or held k 0))) (2 * r.sizes.w) word))

inside-fills : (k : ℕ) (x y : List ℕ) → Fills (Inside k x y)
unfolding Inside inside_half
inside-fills k x y = each-fills _ (λ j c. next-fills (ite-fills (get_or x j 0) 0 1) (λ p. next-fills (ite-fills p 1 (get_or y j 0)) (λ q. ite-fills c q 0))) 0 k 1

pub check-fills : (r : Record) (l : List ℕ) (b : ℕ) (a d : List ℕ) → Fills (Check r l b a d)
unfolding Check
check-fills r l b a d =
    next-fills (look-fills r l a)
    (λ word. next-fills (inside-fills (2 * r.sizes.w) word d) (λ c. next-fills (ite-fills b 0 1) (λ x. next-fills (ite-fills x 1 c) (λ y. ite-fills r.checked y 0))))

pub assert-fills : (r : Record) (l : List ℕ) (b : ℕ) (a d : List ℕ) → Fills (Assert r l b a d)
unfolding Assert
assert-fills r l b a d =
    next-fills (look-fills r l a)
    (λ word. next-fills (inside-fills (2 * r.sizes.w) d word)
    (λ x. next-fills (ite-fills b 0 1)
    (λ v. next-fills (ite-fills v 1 x)
    (λ y. next-fills (ite-fills r.asserted y 0)
    (λ condition. next-fills (inside-fills (2 * r.sizes.w) word d) (λ c. next-fills (ite-fills x c 0) (λ z. next-fills (ite-fills v 1 z) (λ k. pure-fills _))))))))
