-- Of two lists of accepted accesses alone, those of one number are matched.
use mathlib.Core.Path.{◌≡◌, sym, subst}
use mathlib.Core.Bool.{Bool, false, true≢false}
use mathlib.Core.List.{List, [], ◌∷◌}
use Prim.Native.Nat.{ℕ, zero, suc, ◌<◌, zero-le, suc-le-suc}
use native.Mathlib.Nat.{le_of_suc-le-suc, not-suc-le-zero}
use lib.ListN.{length}
use Rattle.model.specs.Step.{State, write, read, assert, check, Call, access, node_call, upkeep, Answer, refused, done, is_refused, step, AllAccepted}
use Rattle.semantics.specs.declared.Sizes.{Sizes}
use Rattle.semantics.specs.Array.{Event, writes, reads, asserts, checks, nothing}
use Rattle.model.specs.Claims.{event, events, May}
use Rattle.sharper.specs.Sharper.{SharperList, end, both, first, second, Matched}
use Rattle.sharpening.specs.Claims.{AnswersNarrower, SameNumber}

-- each event is an accepted access
abbrev Accesses : List Event → Type 0
Accesses [] = Unit {0}
Accesses (writes c a d ∷ es) = Accesses es
Accesses (reads p e a ∷ es) = Accesses es
Accesses (asserts b a d ∷ es) = Accesses es
Accesses (checks b a d ∷ es) = Accesses es
Accesses (nothing ∷ es) = ⊥

accesses-after : (e : Event) (es : List Event) → Accesses (e ∷ es) → Accesses es
accesses-after (writes c a d) es q = q
accesses-after (reads p e a) es q = q
accesses-after (asserts b a d) es q = q
accesses-after (checks b a d) es q = q
accesses-after nothing es q = absurd q

-- of two lists of accesses alone, those of one number are matched
same_number : (es fs : List Event) (M : SharperList es fs) → Accesses es → Accesses fs → (j : ℕ) → j < length fs → Matched M j j
same_number [] [] end q q' j h = absurd (not-suc-le-zero h)
same_number (e ∷ es) (f ∷ fs) (both m M) q q' zero h = tt
same_number (e ∷ es) (f ∷ fs) (both m M) q q' (suc j) h = same_number es fs M (accesses-after e es q) (accesses-after f fs q') j (le_of_suc-le-suc h)
same_number (nothing ∷ es) fs (first M) q q' j h = absurd q
same_number es (nothing ∷ fs) (second M) q q' j h = absurd q'

-- a call that answers a bit is there
may_there : (φ : ℕ → Bool) (s : State) (cs : List Call) (j i : ℕ) (b : Bool) → May φ s cs j i b → j < length (events φ s cs)
may_there φ s [] j i b z = absurd z
may_there φ s (c ∷ cs) zero i b z = suc-le-suc zero-le
may_there φ s (c ∷ cs) (suc j) i b z = suc-le-suc (may_there φ (step c s).after cs j i b z)

-- calls that are accesses, of which all are accepted, feed accesses alone
abbrev pub IsAccess : Call → Type 0
IsAccess (access c) = Unit {0}
IsAccess (node_call c) = ⊥
IsAccess (upkeep c) = ⊥

abbrev pub AllAccesses : List Call → Type 0
AllAccesses [] = Unit {0}
AllAccesses (c ∷ cs) = IsAccess c × AllAccesses cs

event-access : (φ : ℕ → Bool) (s : State) (c : Call) (x : Answer) → IsAccess c → is_refused x ≡ false → (es : List Event) → Accesses es → Accesses (event φ s c x ∷ es)
event-access φ s c (refused k) A f es q = absurd (true≢false f)
event-access φ s (access (write c a d)) (done g) A f es q = q
event-access φ s (access (read p e a out)) (done g) A f es q = q
event-access φ s (access (assert b a d)) (done g) A f es q = q
event-access φ s (access (check b a d)) (done g) A f es q = q
event-access φ s (node_call c) (done g) A f es q = absurd A
event-access φ s (upkeep c) (done g) A f es q = absurd A

fed-accesses : (φ : ℕ → Bool) (s : State) (cs : List Call) → AllAccesses cs → AllAccepted cs s → Accesses (events φ s cs)
fed-accesses φ s [] A q = tt
fed-accesses φ s (c ∷ cs) A q =
    let x = step c s in
    event-access φ s c x.answer A.0 q.0 (events φ x.after cs) (fed-accesses φ x.after cs A.1 q.1)

-- so what holds of those that are matched holds of those of one number
pub numbered : (φ : ℕ → Bool) (s t : State) (cs ds : List Call) → AllAccesses cs → AllAccesses ds → AllAccepted cs s → AllAccepted ds t → {z : Sizes} (M : SharperList (events φ s cs) (events φ t ds)) {x y : State}
    → AnswersNarrower φ z (Matched M) (May φ s cs) (May φ t ds) x y → AnswersNarrower φ z SameNumber (May φ s cs) (May φ t ds) x y
numbered φ s t cs ds A B q q' M N =
    record {
      bits = λ j k e i h b y.
          N.bits j k (subst (λ (l : ℕ). Matched M l k) (sym e) (same_number (events φ s cs) (events φ t ds) M (fed-accesses φ s cs A q) (fed-accesses φ t ds B q') k (may_there φ t ds k i b y))) i h b y;
      holds = N.holds;
      checking = N.checking;
    }
