-- The access at a place of the file.
use Rattle.std.proofs.Common.{◌≡◌, sym, ap, subst, ◌∙◌, Bool, true, false, cond, List, ℕ, ◌+◌, get_or, Result, Ok, Err}
use Rattle.refusals.specs.declared.Refusal.{Refusal}
use Rattle.refusals.specs.Refusal.{number}
use Rattle.format.specs.declared.Kind.{Kind}
use Rattle.format.specs.Bytes.{numbers_at}
use Rattle.format.specs.Fields.{fields_of, values_at}
use Rattle.format.specs.Accesses.{Found, held_at, access_at, goes_on}
use Rattle.format.specs.Accesses as accesses
use Rattle.reading.specs.declared.Access.{Access}
use Rattle.reading.specs.Layout.{lead_of, port_of, size_of, told}
use Rattle.reading.proofs.FindLaws.{Stands}
use Rattle.case_access.proofs.ToldLaws.{call-told}
use Rattle.cases.specs.Case.{Running, stops, call_of, done, done_as, one, Next, goes, said, given_line}
use Rattle.case_entries.specs.declared.Run.{Run}
use Rattle.case_entries.specs.Contract.{StepAs, next_of, PortsReadyNext}
use Rattle.text.specs.declared.Writer.{Writer}
use Rattle.text.specs.Text.{Out, appended}
use Rattle.model.specs.Step as model
use Rattle.model.specs.Step.{State, Call, Answer, step}
use Rattle.model.specs.Frames.{Valid, PortsValid, PortsStayValid}
use Rattle.model.proofs.FrameLaws.{ports_stay-valid}

module _ (file : List ℕ) (c : Running) where
  -- none is found
  pub one-missing : {k : Refusal} → access_at file c.at c.state.rec.sizes.n c.state.rec.sizes.w ≡ accesses.refused (number k) → {r : Result Run Refusal} → r ≡ Err k → {w l table ps : List ℕ} {b : Writer} → StepAs r w l b table ps (one file c) × PortsReadyNext r w l ps
  unfolding one
  one-missing {k} e q = rw q (record { is = sym (ap (λ (x : Found). done_as x (goes_on file c.at c.state.rec.sizes.n c.state.rec.sizes.w) c.state c.text) e); ready = tt }, tt)

  -- the call by the nodes from a byte on
  abbrev called_by : Kind → ℕ → List ℕ → Call
  called_by k q ops = call_of k c.state.rec.sizes.w (told k c.state.rec.sizes.n c.state.rec.sizes.w q ops)

  module _ {a : Access} (S : Stands file c.at c.state.rec.sizes.n c.state.rec.sizes.w a) {at : ℕ} (g : at ≡ goes_on file c.at c.state.rec.sizes.n c.state.rec.sizes.w) {size : ℕ} (z : size ≡ size_of a.kind c.state.rec.sizes.n c.state.rec.sizes.w) {ops : List ℕ} (o : ops ≡ numbers_at file a.from size) where
    one_here : done (called_by a.kind a.port ops) c.state at c.text ≡ one file c
    unfolding one
    one_here =
        let n = c.state.rec.sizes.n in
        let w = c.state.rec.sizes.w in
        let k = a.kind in
        let port : a.port ≡ port_of k (get_or file (c.at + 1) 0) = S.port_is ∙ ap (λ (x : Kind). port_of x (get_or file (c.at + 1) 0)) (sym S.kind_is) in
        let begin : a.from ≡ c.at + 1 + lead_of k = S.from_is ∙ ap (λ (x : Kind). c.at + 1 + lead_of x) (sym S.kind_is) in
        let fields : call_of k w (values_at file (c.at + 1) (fields_of k n w)) ≡ call_of k w (held_at file c.at n w) = ap (λ (x : Kind). call_of k w (values_at file (c.at + 1) (fields_of x n w))) S.kind_is in
        let call : called_by k a.port ops ≡ call_of k w (held_at file c.at n w) = ap (called_by k a.port) o ∙ (λ i. called_by k (port i) (numbers_at file (begin i) (z i))) ∙ call-told file (c.at + 1) n w k ∙ fields in
        (λ i. done (call i) c.state (g i) c.text) ∙ ap (λ (x : Found). done_as x (goes_on file c.at n w) c.state c.text) (sym S.is)

    pub step_here : {r : Result Run Refusal} {w l table ps : List ℕ} {b : Writer} → StepAs r w l b table ps (done (called_by a.kind a.port ops) c.state at c.text) → StepAs r w l b table ps (one file c)
    step_here {r} {w} {l} {table} {ps} {b} C = subst (StepAs r w l b table ps) one_here C

-- after an access row 3 refuses no port to a read, where it refused none before
abbrev NextPorts : Next → Type 0
NextPorts (goes x) = PortsValid x.state
NextPorts (stops k) = Unit {0}

module _ (c : Call) (s : State) (at : ℕ) (o : Out) (K : Valid s) (P : PortsValid s) where
  next-ports : NextPorts (done c s at o)
  unfolding done PortsStayValid
  next-ports = go (step c s).answer
    where
      fits : (f : Bool) (t : Out) → NextPorts (cond f (stops 13) (goes (record { state = (step c s).after; at = at; text = t })))
      fits true t = tt
      fits false t = ports_stay-valid c s K P

      go : (a : Answer) → NextPorts (said a (step c s).after at o)
      go (model.refused k) = tt
      go (model.done g) = let t = appended (given_line g (step c s).after) o in fits t.text.full t

  ports-next : (w l : List ℕ) (b : Writer) (ps : List ℕ) (r : Result Run Refusal) → next_of r w l b ps ≡ done c s at o → PortsReadyNext r w l ps
  ports-next w l b ps r e = back r (subst NextPorts (sym e) next-ports)
    where
      back : (r : Result Run Refusal) → NextPorts (next_of r w l b ps) → PortsReadyNext r w l ps
      back (Ok d) p = p
      back (Err k) p = tt

pub step-ports : (c : Call) {s : State} (at : ℕ) (o : Out) → Valid s → PortsValid s → {r : Result Run Refusal} {w l table ps : List ℕ} {b : Writer} → StepAs r w l b table ps (done c s at o) → PortsReadyNext r w l ps
step-ports c {s} at o K P {r} {w} {l} {table} {ps} {b} C = ports-next c s at o K P w l b ps r C.is
