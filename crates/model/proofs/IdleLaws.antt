-- Writes that are idle, and asserts, none of which is.
use mathlib.Core.Path.{◌≡◌, refl, sym, ap, ◌∙◌}
use mathlib.Core.Bool.{Bool, true, false, true≢false, false≢true}
use mathlib.Core.List.{List}
use Prim.Native.Nat.{ℕ, zero, suc}
use native.Mathlib.Omega.{arith}
use lib.ListN.{get_or}
use Rattle.model.specs.Step.{State, write, read, assert, check, evaluate, variable, ite, conditions, Call, access, node_call, upkeep, Given, place, idle, filled, entered, kept, accepted, valued, node, triples, Answer, refused, done, Result, refusal, Finish, full, short, gives, closed, is_idle, finish_access, finish_node, finish, turned_down_by, step, is_kind}
use Rattle.model.specs.Frames.{IdleLeaves}
use Rattle.model.specs.Table.{WriteFacts, NeverOne, MayBeOne, IdleExactly}
use Rattle.model.specs.Meanings.{KeptWhereNever}
use Rattle.model.proofs.TerminalLaws.{node_0-alone, somewhere_true, idle_zero, other_not_zero}
use Rattle.model.proofs.CallFactLaws.{write-facts}
use Rattle.model.proofs.FinishProgram.{of-program}
use Rattle.model.proofs.FinishLaws.{of-write, of-assert}
use Rattle.model.proofs.StepLaws.{is_left_out}
use Rattle.model.proofs.Demand2.{acts, idle_or-entered, kept_or-entered, entered_where}

-- the test of a write that no row refuses tells whether its enable is 0 under every assignment, or may be 1
module _ {s : State} {c a d : List ℕ} (F : WriteFacts s c a d) where
  pub idle_never : is_idle c ≡ true → NeverOne s c
  idle_never e = (node_0-alone F.memory.standard (get_or c 0 0) (F.enable.names 0 (omega arith)).below).0 (idle_zero c e)

  pub not-idle_may : is_idle c ≡ false → MayBeOne s c
  not-idle_may e = somewhere_true F.memory.standard (get_or c 0 0) (F.enable.names 0 (omega arith)).below (other_not_zero c e)

pub idle-exactly : IdleExactly
unfolding IdleExactly
idle-exactly c a d s n =
    let F = write-facts s c a d (acts (access (write c a d)) s n).0 in
    idle_or-entered s c a d n
    (λ i e.
    let never = idle_never F i in
    record { idles = (λ q. never, λ q. ap (λ (x : Result). x.answer) e); enters = (λ q. absurd (true≢false (ap is_left_out (rw e at q))), λ m. absurd (true≢false (sym m.2 ∙ never m.0 m.1))) })
    (λ i e.
    let may = not-idle_may F i in
    record { idles = (λ q. absurd (false≢true (ap is_left_out (rw e at q))), λ never. absurd (true≢false (sym may.2 ∙ never may.0 may.1))); enters = (λ q. may, λ q. ap (λ (x : Result). x.answer) e) })

-- what a call comes to, where it gives idle
abbrev gives_idle : Given → Bool
gives_idle (place k) = false
gives_idle idle = true
gives_idle (filled r) = false
gives_idle entered = false
gives_idle kept = false
gives_idle accepted = false
gives_idle (valued b) = false
gives_idle (node n) = false
gives_idle (triples ts) = false

abbrev answers_idle : Answer → Bool
answers_idle (refused k) = false
answers_idle (done g) = gives_idle g

abbrev Idles : Call → State → Finish → Type 0
Idles c s (full t) = Unit {0}
Idles c s short = Unit {0}
Idles c s (gives g t) = gives_idle g ≡ true → (is_kind 1 c ≡ true) × (t ≡ s)

finish-idles : (c : Call) (s : State) → Idles c s (finish c s)
unfolding finish_access finish_node
finish-idles (access (write c a d)) s = of-write (Idles (access (write c a d)) s) c a d s (λ i z. (refl, refl)) (λ i f. tt) (λ i f r z. absurd (false≢true z)) (λ i f r. tt)
finish-idles (access (read p e a out)) s = of-program (Idles (access (read p e a out)) s) _ _ (λ f. tt) (λ f z. absurd (false≢true z))
finish-idles (access (assert b a d)) s = of-assert (Idles (access (assert b a d)) s) b a d s (λ f. tt) (λ f k z. absurd (false≢true z)) (λ f k r. tt) (λ f k r g. tt) (λ f k r g z. absurd (false≢true z))
finish-idles (access (check b a d)) s = of-program (Idles (access (check b a d)) s) _ _ (λ f. tt) (λ f z. absurd (false≢true z))
finish-idles (node_call (evaluate f a)) s = λ z. absurd (false≢true z)
finish-idles (node_call (variable v)) s = of-program (Idles (node_call (variable v)) s) _ _ (λ f. tt) (λ f z. absurd (false≢true z))
finish-idles (node_call (ite f g h)) s = of-program (Idles (node_call (ite f g h)) s) _ _ (λ f. tt) (λ f z. absurd (false≢true z))
finish-idles (node_call (conditions t)) s = of-program (Idles (node_call (conditions t)) s) _ _ (λ f. tt) (λ f z. absurd (false≢true z))
finish-idles (upkeep c) s = absurd c

pub idle-leaves : IdleLeaves
unfolding IdleLeaves step closed
idle-leaves c s e = go (refusal c s) e
  where
    ended : (x : Finish) → Idles c s x → answers_idle (closed s x).answer ≡ true → (is_kind 1 c ≡ true) × ((closed s x).after ≡ s)
    ended (full t) h e = absurd (false≢true e)
    ended short h e = absurd (false≢true e)
    ended (gives g t) h e = h e

    go : (k : ℕ) → (turned_down_by k s (closed s (finish c s))).answer ≡ done idle → (is_kind 1 c ≡ true) × ((turned_down_by k s (closed s (finish c s))).after ≡ s)
    go zero e = ended (finish c s) (finish-idles c s) (ap answers_idle e)
    go (suc k) e = absurd (false≢true (ap answers_idle e))

pub kept_where_never : KeptWhereNever
unfolding KeptWhereNever
kept_where_never s b a d n never =
    kept_or-entered s b a d n (λ e. ap (λ (x : Result). x.answer) e)
    (λ t f e. let m = entered_where s b a d (ap (λ (x : Result). x.answer) e) in absurd (true≢false (rw (never m.0 m.1) at m.2)))
