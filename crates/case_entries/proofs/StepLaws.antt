-- An access done: it goes on with its line, or is refused.
use Rattle.std.proofs.Common.{◌≡◌, refl, sym, ap, subst, ◌∙◌, Bool, true, false, cond, List, ℕ, Result, Ok, Err}
use Rattle.text.specs.declared.Writer.{Writer}
use Rattle.text.specs.Text.{Out, appended}
use Rattle.text.specs.Writer.{out_of}
use Rattle.refusals.specs.declared.Refusal.{Refusal}
use Rattle.refusals.specs.declared.Refusal.TheVariants as row
use Rattle.refusals.specs.Refusal.{number}
use Rattle.model.specs.Step.{State, Access, Call, access, Answer, refused, is_refused, step}
use Rattle.model.specs.Step as model
use Rattle.model.specs.Frames.{Valid}
use Rattle.memory.specs.declared.Record.{Record}
use Rattle.memory.specs.Contract.{state_of, AnswersOn, AnswersOnAnyPorts}
use Rattle.case_entries.specs.declared.Run.{Run}
use Rattle.cases.specs.Case.{goes, stops, line_of, printed, said, done}
use Rattle.case_entries.specs.Contract.{next_of, printed_as, Ready, ReadyNext, StepAs}
use Rattle.cases.proofs.WayLaws.{said-printed}
use Rattle.case_entries.proofs.WordLaws.{valid_ported, valid-plain, after-valid}

-- the answer of a call that is lent no ports, with any
pub any_ports : {c : Access} {r r' : Record} {w l w' l' : List ℕ} {a : Answer} {table : List ℕ} → AnswersOnAnyPorts c r w l r' w' l' a table → (ps : List ℕ) → AnswersOn c (state_of r w l ps) (state_of r' w' l' ps) a table
any_ports N ps = record { is = N.is ps; sound = N.sound }

module _ (c : Access) {s : State} {a : Answer} {m : Record} {w l ps table : List ℕ} (K : Valid s) (N : AnswersOn c s (state_of m w l ps) a table) (at : ℕ) (o : Out) where
  done_is : done (access c) s at o ≡ said a (state_of m w l ps) at o
  unfolding done
  done_is = ap (λ (x : model.Result). said x.answer x.after at o) N.is

  module _ (f : is_refused a ≡ false) (b : Writer) {r : Result Run Refusal} (p : out_of b ≡ appended (line_of a (state_of m w l ps)) o) (q : r ≡ printed_as b.text (record { memory = m; at = at })) where
    next_is : next_of r w l b ps ≡ printed (state_of m w l ps) at (out_of b)
    next_is = ap (λ (x : Result Run Refusal). next_of x w l b ps) q ∙ go b.text.full
      where
        go : (f : Bool) → next_of (cond f (Err row.BufferShort) (Ok (record { memory = m; at = at }))) w l b ps ≡ cond f (stops 13) (goes (record { state = state_of m w l ps; at = at; text = out_of b }))
        go true = refl
        go false = refl

    next-ready : ReadyNext r w l table
    next-ready = subst (λ (x : Result Run Refusal). ReadyNext x w l table) (sym q) (go b.text.full)
      where
        go : (f : Bool) → ReadyNext (cond f (Err row.BufferShort) (Ok (record { memory = m; at = at }))) w l table
        go true = tt
        go false = record { valid = valid-plain m w l ps (after-valid (access c) K N.is); sound = N.sound f }

    -- accepted, and printed as it is
    pub step_on : StepAs r w l b table ps (done (access c) s at o)
    step_on = record { is = next_is ∙ ap (printed (state_of m w l ps) at) p ∙ sym (said-printed a (state_of m w l ps) at o f) ∙ sym done_is; ready = next-ready }

-- refused
pub step-stop : (c : Access) {s t : State} {r : Result Run Refusal} {k : Refusal} {w l ps table table' : List ℕ} {b : Writer} (at : ℕ) (o : Out) → r ≡ Err k → AnswersOn c s t (refused (number k)) table → StepAs r w l b table' ps (done (access c) s at o)
unfolding done
step-stop c at o e N = rw e (record { is = sym (ap (λ (x : model.Result). said x.answer x.after at o) N.is); ready = tt })

-- an access that is lent no ports
module _ {m m' : Record} {w l w' l' table table' : List ℕ} (c : Access) {a : Answer} {call : Call} (at : ℕ) (o : Out) (told : call ≡ access c) (K : Ready m w l table) (N : AnswersOnAnyPorts c m w l m' w' l' a table') where
  pub plain_on : is_refused a ≡ false → (b : Writer) {r : Result Run Refusal} → ((ps : List ℕ) → out_of b ≡ appended (line_of a (state_of m' w' l' ps)) o) → r ≡ printed_as b.text (record { memory = m'; at = at }) → (ps : List ℕ) → StepAs r w' l' b table' ps (done call (state_of m w l ps) at o)
  plain_on f b p q ps = rw told (step_on c (valid_ported m w l ps K.valid) (any_ports N ps) at o f b (p ps) q)

  pub plain-stop : {k : Refusal} → a ≡ refused (number k) → {b : Writer} {r : Result Run Refusal} → r ≡ Err k → (ps : List ℕ) → StepAs r w' l' b table' ps (done call (state_of m w l ps) at o)
  plain-stop {k} e {b} {r} q ps = rw told (step-stop c {table = table'} at o q (rw e at (any_ports N ps)))
