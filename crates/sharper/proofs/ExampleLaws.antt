-- The pairs of lists of accesses, computed.
use mathlib.Core.Path.{refl}
use mathlib.Core.Bool.{true, false}
use mathlib.Core.List.{[], ◌∷◌}
use Prim.Native.Nat.{zero-le, suc-le-suc}
use Rattle.semantics.specs.Pairs.{Pair, X}
use Rattle.semantics.specs.Held.{Accepted, AllAccepted}
use Rattle.semantics.specs.Rulings.{one, nought, put, small}
use Rattle.sharper.specs.Sharper.{Sharper, alike, settled, AllSharper, SharperAccess, write, read, assert, check, end, both, first, second}
use Rattle.sharper.specs.Examples.{read_at, asserted, checked, NarrowsByHand}

-- a bit that stays 0 or 1, and one that is settled; a word of one bit
pub stays0 : Sharper nought nought
stays0 = alike

pub stays1 : Sharper one one
stays1 = alike

pub to0 : Sharper X nought
to0 = settled false

pub to1 : Sharper X one
to1 = settled true

pub bit : {p p' : Pair} → Sharper p p' → AllSharper (p ∷ []) (p' ∷ [])
bit f = (f, tt)

-- accesses that stay, and X@0 settled
wrote : SharperAccess (put one one nought) (put one one nought)
wrote = write stays1 (bit stays0) (bit stays1)

looked : SharperAccess (read_at one nought) (read_at one nought)
looked = read stays1 (bit stays0)

wrote-X : SharperAccess (put one X nought) (put one one nought)
wrote-X = write stays1 (bit stays0) (bit to1)

-- an access of one legal bit each is accepted, whatever they are
put_ok : Accepted small (put one one one)
put_ok = (tt, (tt, refl), (tt, refl))

read_ok : Accepted small (read_at one one)
read_ok = (tt, (tt, refl), suc-le-suc zero-le)

assert_ok : Accepted small (asserted true one one)
assert_ok = ((tt, refl), (tt, refl), tt)

check_ok : Accepted small (checked true one one)
check_ok = ((tt, refl), (tt, refl))

put-read : AllAccepted small (put one one one ∷ read_at one one ∷ [])
put-read = (put_ok, (read_ok, tt))

put_put-read : AllAccepted small (put one one one ∷ put one one one ∷ read_at one one ∷ [])
put_put-read = (put_ok, put-read)

put-read-read : AllAccepted small (put one one one ∷ read_at one one ∷ read_at one one ∷ [])
put-read-read = (put_ok, (read_ok, (read_ok, tt)))

assert-read : AllAccepted small (asserted true one one ∷ read_at one one ∷ [])
assert-read = (assert_ok, (read_ok, tt))

put-assert-read : AllAccepted small (put one one one ∷ asserted true one one ∷ read_at one one ∷ [])
put-assert-read = (put_ok, assert-read)

put-check : AllAccepted small (put one one one ∷ checked true one one ∷ [])
put-check = (put_ok, (check_ok, tt))

pub narrows : NarrowsByHand
narrows =
    record {
      write-enable_0 = record { sharper = record { accepted = put_put-read; accepted' = put_put-read; list = both wrote (both (write to0 (bit stays0) (bit stays0)) (both looked end)) }; matched = tt; before = tt; after = λ y. y };
      write-enable_1 = record { sharper = record { accepted = put_put-read; accepted' = put_put-read; list = both wrote (both (write to1 (bit stays0) (bit stays0)) (both looked end)) }; matched = tt; before = tt; after = λ y. y };
      read-enable = record { sharper = record { accepted = put-read; accepted' = put-read; list = both wrote (both (read to1 (bit stays0)) end) }; matched = tt; before = tt; after = λ y. y };
      held = record { sharper = record { accepted = put-read-read; accepted' = put-read-read; list = both wrote (both (read to1 (bit stays0)) (both (read stays0 (bit stays1)) end)) }; matched = tt; before = tt; after = λ y. y };
      write-address = record { sharper = record { accepted = put_put-read; accepted' = put_put-read; list = both wrote (both (write stays1 (bit to1) (bit stays0)) (both looked end)) }; matched = tt; before = tt; after = λ y. y };
      read-address = record { sharper = record { accepted = put-read; accepted' = put-read; list = both wrote (both (read stays1 (bit to0)) end) }; matched = tt; before = tt; after = λ y. y };
      written_data = record { sharper = record { accepted = put-read; accepted' = put-read; list = both wrote-X (both looked end) }; matched = tt; before = tt; after = λ y. y };
      asserted_data = record { sharper = record { accepted = assert-read; accepted' = assert-read; list = both (assert (bit stays0) (bit to1)) (both looked end) }; matched = tt; before = tt; after = λ y. y };
      assert-address = record { sharper = record { accepted = put-assert-read; accepted' = put-assert-read; list = both wrote-X (both (assert (bit to0) (bit stays1)) (both looked end)) }; matched = tt; before = tt; after = λ y. y };
      check-address = record { sharper = record { accepted = put-check; accepted' = put-check; list = both wrote (both (check (bit to0)) end) }; before = λ y. y; after = tt };
      before-check = record { sharper = record { accepted = put-check; accepted' = put-check; list = both wrote-X (both (check (bit stays0)) end) }; before = λ y. y; after = tt };
      node-calls = record { sharper = record { accepted = (tt, put-read); accepted' = (put_ok, (tt, (tt, (read_ok, tt)))); list = first (both (write stays1 (bit stays0) (bit to0)) (second (second (both looked end)))) }; matched = tt; before = tt; after = λ y. y };
    }
