-- The pairs of lists, computed.
use mathlib.Core.Path.{◌≡◌, refl}
use mathlib.Core.Bool.{Bool, true, false}
use mathlib.Core.List.{List, [], ◌∷◌}
use Prim.Native.Nat.{ℕ, zero, suc}
use native.Mathlib.Omega.{arith}
use Rattle.conditions.specs.Computing.{computing}
use Rattle.conditions.specs.Value.{value, eval, tree_of, grow}
use Rattle.conditions.specs.Assignment.{bit_at}
use Rattle.semantics.specs.Pairs.{X, only}
use Rattle.semantics.specs.Array.{Event, writes, reads, asserts, nothing}
use Rattle.conditions.proofs.Promises.{user_stands}
use Rattle.model.specs.Table.{Names}
use Rattle.model.specs.Rulings.{one, nought, unknown}
use Rattle.model.specs.Record.{h_at, l_at, list_capacity, appended, replaced}
use Rattle.model.specs.Access.{unique_bit, Unique, Certain, Write, narrow_bit, Narrow, half_step, EachHalf, merge_half, entry_step, settle_half, Look, hold_half, Read, inside_half, Inside, Check, Assert}
use Rattle.model.specs.Rows.{row1, row3, ports_row}
use Rattle.model.specs.Step.{Call, closed, unless_full, enter, finish_write, finish_access, finish_node, step, run, fresh}
use Rattle.model.specs.Claims.{events, May, CheckHolds}
use Rattle.model.specs.Formula.{Triples}
use Rattle.formula_calls.specs.Call.{make, read_formula, formula_step}
use Rattle.formula_calls.specs.Claims.{tried, calls_of}
use Rattle.sharper.specs.Sharper.{write, read, assert, end, both, first}
use Rattle.sharper.specs.Examples as accesses
use Rattle.sharper.proofs.ExampleLaws.{stays0, stays1, to0, to1, bit}
use Rattle.sharper.proofs.ExampleLaws as laws
use Rattle.sharpening.specs.Replaced.{ReplacedPair, same, by1, Replaced, of-write, of-read, then}
use Rattle.sharpening.specs.Replaced as replaced
use Rattle.sharpening.specs.Examples.{begun, IsSharper, Narrows, Passes, by_formula, by_call, FormulaNarrows, NarrowsByHand, NeedsByHand, ByHand}

-- to unfold this is to unfold what a call and a condition's value are computed by
unfoldable computes : Unit {0}
unfolding
    computing
    list_capacity appended replaced unique_bit Unique Certain Write narrow_bit Narrow half_step EachHalf merge_half entry_step settle_half Look hold_half Read inside_half Inside Check Assert
    row1 row3 ports_row closed unless_full enter finish_write finish_access finish_node step run fresh value eval tree_of grow bit_at
    Triples make read_formula formula_step tried calls_of
computes = tt

-- calls that feed a pair of lists of accesses
module _ {φ : ℕ → Bool} {cs ds : List Call} {es fs : List Event} where
  abbrev fed : accesses.IsSharper es fs → events φ begun cs ≡ es → events φ begun ds ≡ fs → IsSharper φ cs ds
  fed S e f = record { es = es; fs = fs; feeds = e; feeds' = f; list = S.list }

  narrowing : {j k : ℕ} {b : Bool} → accesses.Narrows es fs j k b → events φ begun cs ≡ es → events φ begun ds ≡ fs → May φ begun cs j 0 b → (May φ begun ds k 0 b → ⊥) → Narrows φ cs ds j k b
  narrowing N e f x y = record { sharper = fed N.sharper e f; matched = N.matched; before = x; after = y }

  passing : accesses.Passes es fs → events φ begun cs ≡ es → events φ begun ds ≡ fs → (CheckHolds φ (run cs begun) → ⊥) → CheckHolds φ (run ds begun) → Passes φ cs ds
  passing P e f x y = record { sharper = fed P.sharper e f; before = x; after = y }

narrows : (φ : ℕ → Bool) → NarrowsByHand φ
unfolding computes
narrows φ =
    record {
      write-enable_0 = narrowing (laws.narrows).write-enable_0 refl refl tt (λ y. y);
      write-enable_1 = narrowing (laws.narrows).write-enable_1 refl refl tt (λ y. y);
      read-enable = narrowing (laws.narrows).read-enable refl refl tt (λ y. y);
      held = narrowing (laws.narrows).held refl refl tt (λ y. y);
      write-address = narrowing (laws.narrows).write-address refl refl tt (λ y. y);
      read-address = narrowing (laws.narrows).read-address refl refl tt (λ y. y);
      written_data = narrowing (laws.narrows).written_data refl refl tt (λ y. y);
      asserted_data = narrowing (laws.narrows).asserted_data refl refl tt (λ y. y);
      check-address = passing (laws.narrows).check-address refl refl (λ y. y) tt;
      before-check = passing (laws.narrows).before-check refl refl (λ y. y) tt;
    }

formulas : (φ : ℕ → Bool) → FormulaNarrows φ by_formula by_call 2 1 false
unfolding computes
formulas φ =
    record {
      chained = (refl, (refl, tt));
      chained' = (refl, (refl, tt));
      es = nothing ∷ asserts true (only false ∷ []) (X ∷ []) ∷ reads 0 (only true) (only false ∷ []) ∷ [];
      fs = asserts true (only false ∷ []) (only true ∷ []) ∷ reads 0 (only true) (only false ∷ []) ∷ [];
      feeds = refl;
      feeds' = refl;
      sharper = first (both (assert (bit stays0) (bit to1)) (both (read stays1 (bit stays0)) end));
      matched = tt;
      before = tt;
      after = λ y. y;
    }

needs : (φ : ℕ → Bool) → NeedsByHand φ
unfolding computes
needs φ =
    record {
      refused_by_8 = refl;
      write-refused = record { before = λ y. y; after = tt };
      write-left_out = record { before = λ y. y; after = tt };
      other-port = record { before = λ y. y; after = tt };
      assert_b = record { before = λ y. y; after = tt };
      check_b = record { before = tt; after = λ y. y };
      check_data = record { before = tt; after = λ y. y };
      assert_fails = record { sharper = record { es = writes (only true) ((only false) ∷ []) (X ∷ []) ∷ asserts true ((only false) ∷ []) ((only true) ∷ []) ∷ []; fs = writes (only true) ((only false) ∷ []) ((only false) ∷ []) ∷ asserts true ((only false) ∷ []) ((only true) ∷ []) ∷ []; feeds = refl; feeds' = refl; list = both (write stays1 (bit stays0) (bit to0)) (both (assert (bit stays0) (bit stays1)) end) }; before = tt; after = λ y. y };
      assert-passes = record { sharper = record { es = writes (only true) ((only false) ∷ []) ((only false) ∷ []) ∷ asserts true ((only false) ∷ []) (X ∷ []) ∷ []; fs = writes (only true) ((only false) ∷ []) ((only false) ∷ []) ∷ asserts true ((only false) ∷ []) ((only false) ∷ []) ∷ []; feeds = refl; feeds' = refl; list = both (write stays1 (bit stays0) (bit stays0)) (both (assert (bit stays0) (bit to0)) end) }; before = λ y. y; after = tt };
    }

-- nodes 0 and 1 are there, and words of one pair
named0 : Names begun.rec begun.words 0
unfolding computes
named0 = user_stands refl

named1 : Names begun.rec begun.words 1
unfolding computes
named1 = user_stands refl

one_pair : (ws vs : List ℕ) → ReplacedPair begun (h_at ws 0) (l_at ws 0) (h_at vs 0) (l_at vs 0) → Replaced begun 1 ws vs
one_pair ws vs R zero h = R
one_pair ws vs R (suc i) h = absurd (omega arith)

pub by_hand : ByHand
unfolding computes
by_hand =
    record {
      narrows = narrows;
      formulas = λ φ. formulas φ;
      entered-idle = (refl, refl);
      kept-entered = (refl, refl);
      replaced = then (of-write (one_pair one one (same named1 named0)) (one_pair nought nought (same named0 named1)) (one_pair unknown one by1)) (then (of-read (one_pair one one (same named1 named0)) (one_pair nought nought (same named0 named1))) replaced.end);
      accepted = ((refl, (refl, tt)), (refl, (refl, tt)));
      needs = needs;
      one_assignment = narrowing (laws.narrows).node-calls refl refl tt (λ y. y);
      another = record { before = λ y. y; after = tt };
      refused_by_6 = refl;
      alike_but-refused = record { before = λ y. y; after = tt };
    }
