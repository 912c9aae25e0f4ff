-- A call that is lent no ports does the same whatever they hold, and leaves them.
use mathlib.Core.Path.{◌≡◌, refl, ap, ◌∙◌}
use mathlib.Core.Bool.{false, true≢false}
use mathlib.Core.List.{List}
use Prim.Native.Nat.{ℕ, zero, suc}
use lib.Dec.{eqb}
use Rattle.nodes.proofs.BoolLaws.{split}
use Rattle.conditions.specs.Build.{Outcome}
use Rattle.model.specs.Rows.{space_for}
use Rattle.model.specs.Step.{State, with_ports, write, read, assert, check, evaluate, variable, ite, conditions, Call, access, node_call, upkeep, Result, refusal, Finish, full, short, gives, closed, unless_full, assert_first, enter, is_idle, finish_write, finish_access, finish_node, finish, turned_down_by, step, Answer}
use Rattle.model.specs.Frames.{sees_ports, PortsUnseen}
use Rattle.model.specs.Chain.{Answered}

-- what a call comes to, with other ports
abbrev finished : List ℕ → Finish → Finish
finished ps (full t) = full t
finished ps short = short
finished ps (gives g t) = gives g (with_ports t ps)

abbrev resulted : List ℕ → Result → Result
resulted ps x = record { answer = x.answer; after = with_ports x.after ps }

closed-unseen : (s : State) (ps : List ℕ) (x : Finish) → closed (with_ports s ps) (finished ps x) ≡ resulted ps (closed s x)
unfolding closed
closed-unseen s ps (full t) = refl
closed-unseen s ps short = refl
closed-unseen s ps (gives g t) = refl

full-unseen : {A : Type 0} (ps : List ℕ) (x : Outcome A) (p q : A → List ℕ → ℕ → Finish) → q x.answer x.words x.store.count ≡ finished ps (p x.answer x.words x.store.count) → unless_full x q ≡ finished ps (unless_full x p)
unfolding unless_full
full-unseen ps x p q h = split x.store.full (λ f. rw f refl) (λ f. rw f h)

finish-unseen : (c : Call) (s : State) (ps : List ℕ) → sees_ports c ≡ false → finish c (with_ports s ps) ≡ finished ps (finish c s)
unfolding finish_access finish_write finish_node enter
finish-unseen (access (write c a d)) s ps e =
    split (is_idle c) (λ i. rw i refl)
    (λ i. rw i (full-unseen ps _ _ _ (split (space_for s.rec s.words 1 s.list) (λ r. rw r refl) (λ r. rw r refl))))
finish-unseen (access (read p c a d)) s ps e = absurd (true≢false e)
finish-unseen (access (check b a d)) s ps e = full-unseen ps _ _ _ refl
finish-unseen (access (assert b a d)) s ps e =
    let x = assert_first b a d s in
    full-unseen ps x (enter s b a d) (enter (with_ports s ps) b a d)
    (split (eqb x.answer.keep 1) (λ k. rw k refl)
    (λ k. split (space_for s.rec s.words 1 s.list) (λ r. rw (k, r) (full-unseen ps _ _ _ refl)) (λ r. rw (k, r) refl)))
finish-unseen (node_call (evaluate f a)) s ps e = refl
finish-unseen (node_call (variable v)) s ps e = full-unseen ps _ _ _ refl
finish-unseen (node_call (ite f g h)) s ps e = full-unseen ps _ _ _ refl
finish-unseen (node_call (conditions t)) s ps e = full-unseen ps _ _ _ refl
finish-unseen (upkeep c) s ps e = absurd c

refusal-unseen : (c : Call) (s : State) (ps : List ℕ) → sees_ports c ≡ false → refusal c (with_ports s ps) ≡ refusal c s
refusal-unseen (access (write c a d)) s ps e = refl
refusal-unseen (access (read p c a d)) s ps e = absurd (true≢false e)
refusal-unseen (access (check b a d)) s ps e = refl
refusal-unseen (access (assert b a d)) s ps e = refl
refusal-unseen (node_call (evaluate f a)) s ps e = refl
refusal-unseen (node_call (variable v)) s ps e = refl
refusal-unseen (node_call (ite f g h)) s ps e = refl
refusal-unseen (node_call (conditions t)) s ps e = refl
refusal-unseen (upkeep c) s ps e = absurd c

turned-unseen : (k : ℕ) (s : State) (ps : List ℕ) (x : Result) → turned_down_by k (with_ports s ps) (resulted ps x) ≡ resulted ps (turned_down_by k s x)
turned-unseen zero s ps x = refl
turned-unseen (suc k) s ps x = refl

pub ports-unseen : PortsUnseen
unfolding PortsUnseen step
ports-unseen c s ps e = rw (refusal-unseen c s ps e, finish-unseen c s ps e, closed-unseen s ps (finish c s)) (turned-unseen (refusal c s) s ps (closed s (finish c s)))

-- so what such a call promises of one it promises of all
pub any-ports : (c : Call) → sees_ports c ≡ false → (s t : State) (a : Answer) → Answered c s t a → (ps : List ℕ) → Answered c (with_ports s ps) (with_ports t ps) a
unfolding PortsUnseen
any-ports c e s t a A ps = ports-unseen c s ps e ∙ ap (λ (x : Result). record { answer = x.answer; after = with_ports x.after ps }) A
