-- What a call leaves of the two conditions, and by what it is refused.
use mathlib.Core.Path.{◌≡◌, refl, sym, ap}
use mathlib.Core.Bool.{true, false, ◌&&◌, ◌||◌, true≢false}
use Prim.Native.Nat.{ℕ, zero, suc}
use native.Mathlib.Omega.{arith}
use lib.Dec.{eqb}
use borrow.Author.Tests.{eq-eqb}
use Rattle.nodes.proofs.BoolLaws.{split}
use Rattle.model.specs.Step.{State, write, read, assert, check, evaluate, variable, ite, conditions, Call, access, node_call, upkeep, refused, is_refused, refusal, Finish, full, short, gives, closed, finish_access, finish_node, finish, turned_down_by, step, is_kind}
use Rattle.model.specs.Frames.{late_row, RefusedByRow, RowRefuses, ConditionsStay}
use Rattle.model.proofs.FinishProgram.{of-program}
use Rattle.model.proofs.FinishLaws.{of-write, of-assert}

-- what is closed is refused by its late row, and else not
closed-refused : (s : State) (x : Finish) (k : ℕ) → (closed s x).answer ≡ refused k → eqb (late_row x) k ≡ true
unfolding closed
closed-refused s (full t) k e = let z : 9 ≡ k = cc in rw (eq-eqb 9 k z)
closed-refused s short k e = let z : 8 ≡ k = cc in rw (eq-eqb 8 k z)
closed-refused s (gives g t) k e = absurd (true≢false (sym (ap is_refused e)))

late-closed : (s : State) (x : Finish) (k : ℕ) → late_row x ≡ suc k → (closed s x).answer ≡ refused (suc k)
unfolding closed
late-closed s (full t) k e = rw e
late-closed s short k e = rw e
late-closed s (gives g t) k e = absurd (omega arith)

-- 9 is met where the program leaves a full store
pub nine-full : (s : State) (x : Finish) → (closed s x).answer ≡ refused 9 → late_row x ≡ 9
unfolding closed
nine-full s (full t) e = refl
nine-full s short e = let z : ◌≡◌ {A = ℕ} 8 9 = cc in z
nine-full s (gives g t) e = absurd (true≢false (sym (ap is_refused e)))

-- a state with the conditions of s, but for those that c changes
record Stays (c : Call) (s t : State) : Type 0 where
  asserted : is_kind 3 c ≡ false → t.rec.asserted ≡ s.rec.asserted
  checked : is_kind 4 c ≡ false → t.rec.checked ≡ s.rec.checked

-- what a call comes to stays so
abbrev FinishStays : Call → State → Finish → Type 0
FinishStays c s (full t) = Unit {0}
FinishStays c s short = Unit {0}
FinishStays c s (gives g t) = Stays c s t

finish-stays : (c : Call) (s : State) → FinishStays c s (finish c s)
unfolding finish_access finish_node
finish-stays (access (write c a d)) s =
    of-write (FinishStays (access (write c a d)) s) c a d s (λ i. record { asserted = λ e. refl; checked = λ e. refl }) (λ i f. tt) (λ i f r. record { asserted = λ e. refl; checked = λ e. refl }) (λ i f r. tt)
finish-stays (access (read p c a d)) s = of-program (FinishStays (access (read p c a d)) s) _ _ (λ f. tt) (λ f. record { asserted = λ e. refl; checked = λ e. refl })
finish-stays (access (check c a d)) s = of-program (FinishStays (access (check c a d)) s) _ _ (λ f. tt) (λ f. record { asserted = λ e. refl; checked = λ e. absurd (true≢false e) })
finish-stays (access (assert b a d)) s =
    of-assert (FinishStays (access (assert b a d)) s) b a d s (λ f. tt) (λ f k. record { asserted = λ z. absurd (true≢false z); checked = λ z. refl }) (λ f k r. tt) (λ f k r g. tt)
    (λ f k r g. record { asserted = λ z. absurd (true≢false z); checked = λ z. refl })
finish-stays (node_call (evaluate f a)) s = record { asserted = λ e. refl; checked = λ e. refl }
finish-stays (node_call (variable v)) s = of-program (FinishStays (node_call (variable v)) s) _ _ (λ f. tt) (λ f. record { asserted = λ e. refl; checked = λ e. refl })
finish-stays (node_call (ite f g h)) s = of-program (FinishStays (node_call (ite f g h)) s) _ _ (λ f. tt) (λ f. record { asserted = λ e. refl; checked = λ e. refl })
finish-stays (node_call (conditions t)) s = of-program (FinishStays (node_call (conditions t)) s) _ _ (λ f. tt) (λ f. record { asserted = λ e. refl; checked = λ e. refl })
finish-stays (upkeep c) s = absurd c

closed-stays : (c : Call) (s : State) (x : Finish) → FinishStays c s x → Stays c s (closed s x).after
unfolding closed
closed-stays c s (full t) h = record { asserted = λ e. refl; checked = λ e. refl }
closed-stays c s short h = record { asserted = λ e. refl; checked = λ e. refl }
closed-stays c s (gives g t) h = h

pub conditions_stay : ConditionsStay
unfolding ConditionsStay step
conditions_stay c s u = go (refusal c s)
  where
    go : (k : ℕ) → (is_kind 3 c ≡ false → (turned_down_by k s (closed s (finish c s))).after.rec.asserted ≡ s.rec.asserted) × (is_kind 4 c ≡ false → (turned_down_by k s (closed s (finish c s))).after.rec.checked ≡ s.rec.checked)
    go zero = let S = closed-stays c s (finish c s) (finish-stays c s) in (S.asserted, S.checked)
    go (suc k) = (λ e. refl, λ e. refl)

pub refused_by_row : RefusedByRow
unfolding RefusedByRow step
refused_by_row c s k e = go (refusal c s) e
  where
    go : (j : ℕ) → (turned_down_by j s (closed s (finish c s))).answer ≡ refused k → (eqb j k || eqb j 0 && eqb (late_row (finish c s)) k) ≡ true
    go zero e = split (eqb 0 k) (λ t. rw t) (λ t. rw (t, closed-refused s (finish c s) k e))
    go (suc j) e = let z : suc j ≡ k = cc in rw (eq-eqb (suc j) k z)

pub row-refuses : RowRefuses
unfolding RowRefuses step
row-refuses c s k = (λ e. rw e, λ e l. rw e (late-closed s (finish c s) k l))
