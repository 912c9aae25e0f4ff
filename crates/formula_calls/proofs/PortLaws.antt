-- A formula sees no ports, and leaves them.
use mathlib.Core.Path.{◌≡◌, refl, ap, ◌∙◌}
use mathlib.Core.Bool.{false}
use mathlib.Core.List.{List, [], ◌∷◌}
use Prim.Native.Nat.{ℕ, suc}
use lib.ListN.{length}
use Rattle.model.specs.Record.{Record}
use Rattle.model.specs.Formula.{Triple}
use Rattle.model.specs.Step.{State, with_ports, conditions, access, node_call, Answer, refused, done, triples_of, Result, step}
use Rattle.model.specs.Frames.{sees_ports, PortsUnseen}
use Rattle.model.proofs.UnseenLaws.{ports-unseen}
use Rattle.formula_calls.specs.Call.{Making, asserting, checking, in_order, listed_over, access_by, accesses_by, Made, unless_refused, make, FormulaAnswer, FormulaResult, Found, turns_down, reads, read_formula, answer_by, after_building, finish_formula, formula_step}
use Rattle.formula_calls.specs.Claims.{FormulaPortsUnseen}
use Rattle.formula_calls.specs.Chain.{FormulaAnswered}

-- what was made, with other ports
abbrev made_with : List ℕ → Made → Made
made_with ps m = record { many = m.many; row = m.row; after = with_ports m.after ps }

abbrev left_with : List ℕ → FormulaResult → FormulaResult
left_with ps x = record { answer = x.answer; after = with_ports x.after ps; words = x.words }

no_read : (k : Making) (r : Record) (table : List ℕ) (t : Triple) → sees_ports (access (access_by k r table t)) ≡ false
no_read asserting r table t = refl
no_read checking r table t = refl

unless-unseen : (ps : List ℕ) (a : Answer) (t : State) (m n : Made) → m ≡ made_with ps n → unless_refused a (with_ports t ps) m ≡ made_with ps (unless_refused a t n)
unless-unseen ps (refused k) t m n e = refl
unless-unseen ps (done g) t m n e = ap (λ (x : Made). record { many = suc x.many; row = x.row; after = x.after }) e

make-unseen : (k : Making) (r : Record) (table : List ℕ) (ts : List Triple) (s : State) (ps : List ℕ) → make (accesses_by k r table ts) (with_ports s ps) ≡ made_with ps (make (accesses_by k r table ts) s)
unfolding make PortsUnseen
make-unseen k r table [] s ps = refl
make-unseen k r table (t ∷ ts) s ps =
    let c = access (access_by k r table t) in
    ap (λ (x : Result). unless_refused x.answer x.after (make (accesses_by k r table ts) x.after)) (ports-unseen c s ps (no_read k r table t))
    ∙ unless-unseen ps (step c s).answer (step c s).after _ _ (make-unseen k r table ts (step c s).after ps)

after-unseen : (k : Making) (r : Record) (table out : List ℕ) (a : Answer) (t : State) (ps : List ℕ) → after_building k r table out a (with_ports t ps) ≡ left_with ps (after_building k r table out a t)
after-unseen k r table out (refused j) t ps = refl
after-unseen k r table out (done g) t ps =
    ap (λ (m : Made). record { answer = answer_by m.row (length (in_order (triples_of g))) m.many; after = m.after; words = listed_over (in_order (triples_of g)) out }) (make-unseen k r table (in_order (triples_of g)) t ps)

finish-unseen : (k : Making) (table out : List ℕ) (s : State) (ps : List ℕ) (f : Found) → finish_formula k table out (with_ports s ps) f ≡ left_with ps (finish_formula k table out s f)
unfolding PortsUnseen
finish-unseen k table out s ps (turns_down a) = refl
finish-unseen k table out s ps (reads t) =
    let c = node_call (conditions t) in
    ap (λ (x : Result). after_building k s.rec table out x.answer x.after) (ports-unseen c s ps refl) ∙ after-unseen k s.rec table out (step c s).answer (step c s).after ps

pub formula-ports-unseen : FormulaPortsUnseen
unfolding FormulaPortsUnseen formula_step read_formula
formula-ports-unseen k text table out s ps = finish-unseen k table out s ps (read_formula text table out s)

-- so a promise for no ports is one for any
pub formula_any-ports : (k : Making) (text table out : List ℕ) (s t : State) (out' : List ℕ) (a : FormulaAnswer) → FormulaAnswered k text table out s t out' a → (ps : List ℕ) → FormulaAnswered k text table out (with_ports s ps) (with_ports t ps) out' a
unfolding FormulaPortsUnseen
formula_any-ports k text table out s t out' a e ps = formula-ports-unseen k text table out s ps ∙ ap (left_with ps) e
