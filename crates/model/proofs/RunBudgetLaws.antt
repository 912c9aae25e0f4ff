-- Each call and each run keeps the entries within what the list takes, and meets 8 only where it takes no more.
use mathlib.Core.Path.{◌≡◌, refl, sym, ap, ◌∙◌}
use mathlib.Core.Bool.{Bool, false, cond, true≢false}
use mathlib.Core.List.{List, [], ◌∷◌}
use Prim.Native.Nat.{ℕ, zero, suc, ◌+◌, ◌^◌, ◌<◌, ◌≤◌}
use native.Mathlib.Omega.{arith}
use Rattle.conditions.specs.Value.{value}
use Rattle.conditions.specs.Assignment.{bit_at}
use Rattle.model.specs.Record.{list_capacity}
use Rattle.model.specs.Step.{State, Access, write, read, assert, check, evaluate, variable, ite, conditions, Call, access, node_call, upkeep, refused, refusal, closed, finish_access, finish_node, finish, turned_down_by, step, run}
use Rattle.model.specs.Claims.{argument, Fed, events}
use Rattle.model.specs.Meanings.{entry_values, address_argument, word_argument}
use Rattle.semantics.specs.Published.{keeps}
use Rattle.model.specs.Frames.{SizesStay}
use Rattle.model.specs.Count.{SomeExactly, new_entries, BudgetExactly}
use Rattle.model.proofs.FinishLaws.{of-write, of-assert}
use Rattle.model.proofs.CallFactLaws.{write-facts}
use Rattle.model.proofs.FrameLaws.{rows-plain, sizes_stay}
use Rattle.model.proofs.Demand2.{needs_where}
use Rattle.model.proofs.IdleLaws.{not-idle_may}
use Rattle.model.proofs.SomeLaws.{some-exactly}
use Rattle.model.proofs.AgreeLaws.{agrees_values, run_agrees}
use Rattle.semantics.specs.Count.{adds_at, entries_after_all}
use Rattle.semantics.proofs.KeepsLaws.{not-kept-adds}
use Rattle.model.proofs.CountLaws.{new_as}
use Rattle.model.proofs.BudgetLaws.{takes, Adds, Within, Stays, full-within, done-within, short-within, one-within, program-within}

-- an assert that its look does not keep
not-kept : (b : ℕ) (a d : List ℕ) (s : State) → (k : ℕ) × (k < 2 ^ 64) × (keeps s.rec.sizes (entry_values (bit_at k) s) (value s.words (bit_at k) b) (address_argument (bit_at k) s a) (word_argument (bit_at k) s d) ≡ false) → Adds (access (assert b a d)) s
not-kept b a d s m = (m.0, m.1, not-kept-adds s.rec.sizes (entry_values (bit_at m.0) s) (value s.words (bit_at m.0) b) (address_argument (bit_at m.0) s a) (word_argument (bit_at m.0) s d) m.2)

finish-within : (c : Call) (s : State) → refusal c s ≡ 0 → Stays c s (finish c s)
unfolding finish_access finish_node
finish-within (access (write c a d)) s q =
    let C = access (write c a d) in
    of-write (Stays C s) c a d s (λ i. done-within C s _ _ (λ h. h)) (λ i f. full-within C s _) (λ i f r. done-within C s _ _ (one-within C s r)) (λ i f r. short-within C s r (not-idle_may (write-facts s c a d q) i))
finish-within (access (read p e a out)) s q = program-within (access (read p e a out)) s _ _ (done-within (access (read p e a out)) s _ _ (λ h. h))
finish-within (access (assert b a d)) s q =
    let C = access (assert b a d) in
    of-assert (Stays C s) b a d s (λ f. full-within C s _) (λ f k. done-within C s _ _ (λ h. h)) (λ f k r. short-within C s r (not-kept b a d s (needs_where s b a d q f k))) (λ f k r g. full-within C s _) (λ f k r g. done-within C s _ _ (one-within C s r))
finish-within (access (check b a d)) s q = program-within (access (check b a d)) s _ _ (done-within (access (check b a d)) s _ _ (λ h. h))
finish-within (node_call (evaluate f a)) s q = done-within (node_call (evaluate f a)) s _ _ (λ h. h)
finish-within (node_call (variable v)) s q = program-within (node_call (variable v)) s _ _ (done-within (node_call (variable v)) s _ _ (λ h. h))
finish-within (node_call (ite f g h)) s q = program-within (node_call (ite f g h)) s _ _ (done-within (node_call (ite f g h)) s _ _ (λ h. h))
finish-within (node_call (conditions t)) s q = program-within (node_call (conditions t)) s _ _ (done-within (node_call (conditions t)) s _ _ (λ h. h))
finish-within (upkeep c) s q = absurd c

step-within : (c : Call) (s : State) → Within c s (step c s)
unfolding step
step-within c s = go (refusal c s) refl
  where
    go : (k : ℕ) → refusal c s ≡ k → Within c s (turned_down_by k s (closed s (finish c s)))
    go zero e = finish-within c s e
    go (suc k) e = record { below = λ h. h; eight = λ q. let z : suc k ≡ 8 = cc in absurd (true≢false (sym (rows-plain c s k e) ∙ rw z)) }

-- no call changes how many it takes
step_takes : (c : Call) (s : State) → takes (step c s).after ≡ takes s
unfolding list_capacity SizesStay
step_takes c s = let E = sizes_stay c s in rw (E.len, E.sizes)

run-within : (cs : List Call) (s : State) → s.rec.entries ≤ takes s → (takes (run cs s) ≡ takes s) × ((run cs s).rec.entries ≤ takes s)
unfolding run
run-within [] s h = (refl, h)
run-within (c ∷ cs) s h =
    let t = step_takes c s in
    let R = run-within cs (step c s).after (omega (arith, t, (step-within c s).below h)) in
    (R.0 ∙ t, omega (arith, R.1, t))

pub budget-exactly : BudgetExactly
unfolding BudgetExactly SomeExactly
budget-exactly s B cs =
    let R = run-within cs s (omega (arith, B.entries)) in
    record { within = R.1; eight = λ c e. more c e R.0 }
  where
    more : (c : Access) → (step (access c) (run cs s)).answer ≡ refused 8 → takes (run cs s) ≡ takes s
        → takes s < (run cs s).rec.entries + new_entries s.rec.sizes (λ φ. entries_after_all [] (events φ s cs)) (λ φ. argument φ (run cs s) c)
    more c e R =
        let t = run cs s in
        let A = run_agrees s B cs 0 (omega arith) in
        let f : Fed = λ φ. argument φ t c in
        let one : new_entries t.rec.sizes (λ φ. entry_values φ t) f ≡ 1 = ap (λ (b : Bool). cond b 1 0 + 0) ((some-exactly (λ φ. adds_at t.rec.sizes (entry_values φ t) (f φ) 0)).1 ((step-within (access c) t).eight e).1) in
        let same = new_as t.rec.sizes s.rec.sizes (λ φ. entry_values φ t) (λ φ. entries_after_all [] (events φ s cs)) f A.sizes_are (λ a small. agrees_values (run_agrees s B cs a small)) in
        omega (arith, R, ((step-within (access c) t).eight e).0, one, same)
