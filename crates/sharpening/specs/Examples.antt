-- 02, 'Sharpening an input': pairs of lists, computed. Answers do become narrower; and what each need is for. n = 1, w = 1; pairs and writes are as in the rulings of 01.
use Rattle.std.specs.Prelude.{◌≡◌, Bool, true, false, List, [], ◌∷◌, ◌++◌, ℕ, T, replicate}
use Rattle.conditions.specs.Value.{value}
use Rattle.conditions.specs.Assignment.{bit_at}
use Rattle.semantics.specs.Array.{Event}
use Rattle.semantics.specs.Rulings.{small}
use Rattle.model.specs.Step.{State, write, read, assert, check, variable, Call, access, node_call, place, idle, entered, kept, refused, done, step, run, fresh_record, fresh, AllAccepted}
use Rattle.model.specs.Claims.{events, May, CheckHolds}
use Rattle.model.specs.Rulings.{one, nought, unknown, ◌at◌, lent}
use Rattle.model.specs.Chain.{events_of, MayBe}
use Rattle.formula_calls.specs.Call.{asserting, formula_step}
use Rattle.formula_calls.specs.Chain.{AnyLink, call, formula, after_link, AllChained, spelled_out}
use Rattle.sharper.specs.Sharper.{SharperList, Matched}
use Rattle.sharpening.specs.Replaced.{ReplacedCalls}

-- a fresh memory, lent so many list words; an entry is of six
abbrev pub lent_list : ℕ → State
lent_list k =
    let x = fresh (fresh_record small) small (replicate 30 0) [] in
    record { rec = x.rec; words = x.words; list = replicate k 0; ports = x.ports }

abbrev pub begun : State
begun = lent_list 12

-- a read by a port, of enable and address; an assert of b, address and data, and a check
abbrev pub read_by : ℕ → List ℕ → List ℕ → Call
read_by p e a = access (read p e a lent)

abbrev pub asserted : ℕ → List ℕ → List ℕ → Call
asserted b a d = access (assert b a d)

abbrev pub checked : ℕ → List ℕ → List ℕ → Call
checked b a d = access (check b a d)

-- the second list is sharper under an assignment: of the events that the array is fed of both
pub record IsSharper (φ : ℕ → Bool) (cs ds : List Call) : Type 0 where
  pub es : List Event
  pub fs : List Event
  pub feeds : events φ begun cs ≡ es
  pub feeds' : events φ begun ds ≡ fs
  pub list : SharperList es fs

-- "Against an empty claim": the bit of call j, matched with call k, which might be b, no longer may
pub record Narrows (φ : ℕ → Bool) (cs ds : List Call) (j k : ℕ) (b : Bool) : Type 0 where
  pub sharper : IsSharper φ cs ds
  pub matched : Matched sharper.list j k
  pub before : May φ begun cs j 0 b
  pub after : May φ begun ds k 0 b → ⊥

-- and the check condition, which did not hold, does
pub record Passes (φ : ℕ → Bool) (cs ds : List Call) : Type 0 where
  pub sharper : IsSharper φ cs ds
  pub before : CheckHolds φ (run cs begun) → ⊥
  pub after : CheckHolds φ (run ds begun)

-- under every assignment
pub record NarrowsByHand (φ : ℕ → Bool) : Type 0 where
  -- 1@0, 0@0 with enable X, read 0: X. With enable 0, an idle write, 1; with enable 1, 0
  pub write-enable_0 : Narrows φ (one at nought ∷ access (write unknown nought nought) ∷ read_by 0 one nought ∷ []) (one at nought ∷ access (write nought nought nought) ∷ read_by 0 one nought ∷ []) 2 2 false
  pub write-enable_1 : Narrows φ (one at nought ∷ access (write unknown nought nought) ∷ read_by 0 one nought ∷ []) (one at nought ∷ access (write one nought nought) ∷ read_by 0 one nought ∷ []) 2 2 true
  -- 1@0, read 0 with enable X: X, for the port holds X. With enable 1, 1
  pub read-enable : Narrows φ (one at nought ∷ read_by 0 unknown nought ∷ []) (one at nought ∷ read_by 0 one nought ∷ []) 1 1 false
  -- and what the port then holds: read with enable 0
  pub held : Narrows φ (one at nought ∷ read_by 0 unknown nought ∷ read_by 0 nought one ∷ []) (one at nought ∷ read_by 0 one nought ∷ read_by 0 nought one ∷ []) 2 2 false
  -- 1@0, 0@X, read 0: X. 0@1 in place of it: 1
  pub write-address : Narrows φ (one at nought ∷ nought at unknown ∷ read_by 0 one nought ∷ []) (one at nought ∷ nought at one ∷ read_by 0 one nought ∷ []) 2 2 false
  -- 1@0, read X: X. Read 0: 1
  pub read-address : Narrows φ (one at nought ∷ read_by 0 one unknown ∷ []) (one at nought ∷ read_by 0 one nought ∷ []) 1 1 false
  -- X@0, read 0: X. 1@0: 1
  pub written_data : Narrows φ (unknown at nought ∷ read_by 0 one nought ∷ []) (one at nought ∷ read_by 0 one nought ∷ []) 1 1 false
  -- X asserted at 0, which is kept: X. 1 asserted, which is entered: 1
  pub asserted_data : Narrows φ (asserted 1 nought unknown ∷ read_by 0 one nought ∷ []) (asserted 1 nought one ∷ read_by 0 one nought ∷ []) 1 1 false
  -- 1@0, check X for 1: not. Check 0: it holds
  pub check-address : Passes φ (one at nought ∷ checked 1 unknown one ∷ []) (one at nought ∷ checked 1 nought one ∷ [])
  -- X@0, check 0 for 1: not. 1@0: it holds
  pub before-check : Passes φ (unknown at nought ∷ checked 1 nought one ∷ []) (one at nought ∷ checked 1 nought one ∷ [])

-- "matched access by access": node calls anywhere, and other numbers for one node. Where variable 8 is 1 the data is X in the first list and 0 in the second; where it is 0 the data is 1 in the first, and the lists differ freely
abbrev pub of_variable : List Call
of_variable = node_call (variable 8) ∷ access (write one nought (1 ∷ 2 ∷ [])) ∷ read_by 0 one nought ∷ []

abbrev pub zero_written : List Call
zero_written = access (write one nought nought) ∷ node_call (variable 9) ∷ node_call (variable 8) ∷ read_by 0 one nought ∷ []

-- a call and a formula that ran, from a state
abbrev pub called : State → Call → AnyLink
called s c = call (record { call = c; answer = (step c s).answer; after = (step c s).after })

abbrev pub asserted_by : State → List ℕ → List ℕ → AnyLink
asserted_by s text table =
    let x = formula_step asserting text table (replicate 3 0) s in
    formula (record { making = asserting; text = text; table = table; out = replicate 3 0; answer = x.answer; after = x.after; words = x.words })

-- of lists with formulas
pub record FormulaNarrows (φ : ℕ → Bool) (ks ls : List AnyLink) (j k : ℕ) (b : Bool) : Type 0 where
  pub chained : AllChained begun ks
  pub chained' : AllChained begun ls
  pub es : List Event
  pub fs : List Event
  pub feeds : events_of φ begun (spelled_out begun ks) ≡ es
  pub feeds' : events_of φ begun (spelled_out begun ls) ≡ fs
  pub sharper : SharperList es fs
  pub matched : Matched sharper j k
  pub before : MayBe φ (spelled_out begun ks) j 0 b
  pub after : MayBe φ (spelled_out begun ls) k 0 b → ⊥

-- `m0` asserts X at 0, as its conditions and one assert; in the second list a plain assert of 1 stands in its place
abbrev pub formula_x : AnyLink
formula_x = asserted_by begun (109 ∷ 48 ∷ []) (nought ++ unknown)

abbrev pub by_formula : List AnyLink
by_formula = formula_x ∷ called (after_link formula_x) (read_by 0 one nought) ∷ []

abbrev pub by_call : List AnyLink
by_call = called begun (asserted 1 nought one) ∷ called (step (asserted 1 nought one) begun).after (read_by 0 one nought) ∷ []

-- The needs. The second list may read b, at call k, which the first may not, at call j; the check condition held, and no longer does; the assert condition
pub record Widens (φ : ℕ → Bool) (s t : State) (cs ds : List Call) (j k : ℕ) (b : Bool) : Type 0 where
  pub before : May φ s cs j 0 b → ⊥
  pub after : May φ t ds k 0 b

pub record Fails (φ : ℕ → Bool) (cs ds : List Call) : Type 0 where
  pub before : CheckHolds φ (run cs begun)
  pub after : CheckHolds φ (run ds begun) → ⊥

abbrev pub AssertHolds : (ℕ → Bool) → State → Type 0
AssertHolds φ t = T (value t.words φ t.rec.asserted)

pub record AssertFails (φ : ℕ → Bool) (cs ds : List Call) : Type 0 where
  pub sharper : IsSharper φ cs ds
  pub before : AssertHolds φ (run cs begun)
  pub after : AssertHolds φ (run ds begun) → ⊥

pub record AssertPasses (φ : ℕ → Bool) (cs ds : List Call) : Type 0 where
  pub sharper : IsSharper φ cs ds
  pub before : AssertHolds φ (run cs begun) → ⊥
  pub after : AssertHolds φ (run ds begun)

pub record NeedsByHand (φ : ℕ → Bool) : Type 0 where
  -- "accepted": 1@0, read 0, lent no list: the write is refused by 8 in the second alone
  pub refused_by_8 : (step (one at nought) (lent_list 0)).answer ≡ refused 8
  pub write-refused : Widens φ begun (lent_list 0) (one at nought ∷ read_by 0 one nought ∷ []) (one at nought ∷ read_by 0 one nought ∷ []) 1 1 false
  -- "access by access": the write is left out
  pub write-left_out : Widens φ begun begun (one at nought ∷ read_by 0 one nought ∷ []) (read_by 0 one nought ∷ []) 1 0 false
  -- "the same ports": 1@0, read 0, and again with enable 0, by another port
  pub other-port : Widens φ begun begun (one at nought ∷ read_by 0 one nought ∷ read_by 0 nought nought ∷ []) (one at nought ∷ read_by 0 one nought ∷ read_by 1 nought nought ∷ []) 2 2 false
  -- the same b: 1 asserted at 0 where b is 1, read 0; b is 0
  pub assert_b : Widens φ begun begun (asserted 1 nought one ∷ read_by 0 one nought ∷ []) (asserted 0 nought one ∷ read_by 0 one nought ∷ []) 1 1 false
  -- check 0 for 1, where b is 0; b is 1
  pub check_b : Fails φ (checked 0 nought one ∷ []) (checked 1 nought one ∷ [])
  -- "the same .. check data": check 0 for X; for 1
  pub check_data : Fails φ (checked 1 nought unknown ∷ []) (checked 1 nought one ∷ [])
  -- Nothing is claimed of the assert condition. X@0, 1 asserted at 0: it holds. 0@0: not
  pub assert_fails : AssertFails φ (unknown at nought ∷ asserted 1 nought one ∷ []) (nought at nought ∷ asserted 1 nought one ∷ [])
  -- 0@0, X asserted at 0: not. 0 asserted: it holds
  pub assert-passes : AssertPasses φ (nought at nought ∷ asserted 1 nought unknown ∷ []) (nought at nought ∷ asserted 1 nought nought ∷ [])

pub record ByHand : Type 0 where
  pub narrows : (φ : ℕ → Bool) → NarrowsByHand φ
  pub formulas : (φ : ℕ → Bool) → FormulaNarrows φ by_formula by_call 2 1 false
  -- entered in one and idle in the other, kept in one and entered in the other
  pub entered-idle : ((step (access (write unknown nought nought)) begun).answer ≡ done (place 0)) × ((step (access (write nought nought nought)) begun).answer ≡ done idle)
  pub kept-entered : ((step (asserted 1 nought unknown) begun).answer ≡ done kept) × ((step (asserted 1 nought one) begun).answer ≡ done entered)
  pub needs : (φ : ℕ → Bool) → NeedsByHand φ
  -- what `Replacing` asks of two lists, of those of `written-data`
  pub replaced : ReplacedCalls begun (unknown at nought ∷ read_by 0 one nought ∷ []) (one at nought ∷ read_by 0 one nought ∷ [])
  pub accepted : AllAccepted (unknown at nought ∷ read_by 0 one nought ∷ []) begun × AllAccepted (one at nought ∷ read_by 0 one nought ∷ []) begun
  -- where variable 8 is 1; where it is 0 the lists are not sharper, and the second reads 0 where the first reads 1
  pub one_assignment : Narrows (bit_at 256) of_variable zero_written 2 3 true
  pub another : Widens (bit_at 0) begun begun of_variable zero_written 2 3 false
  -- "accepted": where variable 8 is 1 both write 1@0, in the second by a pair that is neither elsewhere, and 6 refuses it
  pub refused_by_6 : (step (access (write one nought (2 ∷ 0 ∷ []))) (run (node_call (variable 8) ∷ []) begun)).answer ≡ refused 6
  pub alike_but-refused : Widens (bit_at 256) begun begun (node_call (variable 8) ∷ one at nought ∷ read_by 0 one nought ∷ []) (node_call (variable 8) ∷ access (write one nought (2 ∷ 0 ∷ [])) ∷ read_by 0 one nought ∷ []) 2 2 false
