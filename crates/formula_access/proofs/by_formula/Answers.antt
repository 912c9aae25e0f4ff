use Rattle.std.proofs.Common.{◌≡◌, ℕ, List, [], Err, subst, rules}
use Rattle.conditions.proofs.Promises.{zeros-sound}
use Rattle.refusals.specs.Refusal.{number}
use Rattle.model.specs.Rows.{first_row, memory_rows}
use Rattle.rows.specs.Contract.{state_of}
use Rattle.rows.proofs.CallLaws.{valid-standard}
use Rattle.formula_access.specs.declared.FormulaRefusal.TheVariants.{Refused}
use Rattle.formula_access.specs.Contract.{unlisted_as}
use Rattle.formula_access.proofs.FormulaLaws.{memory-refuses, valid, may_prepare, formula-unlisted, may-make, formula-whole, formula-stopped}
use Rattle.formula_access.proofs.by_formula.Goals as goal

pub returns-in_err-memory_row-clause-answers : goal.returns-in_err-memory_row-clause-answers
returns-in_err-memory_row-clause-answers g c =
    let e : c.from_residual.result ≡ Err (Refused c.in_err-memory_row.field-0.0) = search rules in
    let z = subst (λ (l : List ℕ). number c.in_err-memory_row.field-0.0 ≡ first_row (memory_rows c.args.r.now c.args.words.now l [])) c.list.ensures c.in_err-memory_row.ensures in
    rw e (memory-refuses g.A.Access.kind c.args.text.now c.args.predicates.now c.args.answer.now c.args.r.now c.args.words.now (g.A.Access.lent c.args.by.now) c.in_err-memory_row.field-0.0 z)

pub prepare-requires : goal.prepare-requires
prepare-requires g c =
    let z = subst (λ (l : List ℕ). ◌≡◌ {A = ℕ} 0 (first_row (memory_rows c.args.r.now c.args.words.now l []))) c.list.ensures c.in_ok-memory_row.ensures in
    let r = c.args.r.now in
    let w = c.args.words.now in
    let l = g.A.Access.lent c.args.by.now in
    may_prepare r w l z _ (zeros-sound _ 32768 (valid-standard (state_of r w l) (valid r w l z)))

pub returns-in_err-x-clause-answers : goal.returns-in_err-x-clause-answers
returns-in_err-x-clause-answers g c =
    let e : c.from_residual-in_err-x.result ≡ Err (unlisted_as c.in_err-x.field-0.0) = search rules in
    let z = subst (λ (l : List ℕ). ◌≡◌ {A = ℕ} 0 (first_row (memory_rows c.args.r.now c.args.words.now l []))) c.list.ensures c.in_ok-memory_row.ensures in
    rw e (formula-unlisted c.args.r.now c.args.words.now (g.A.Access.lent c.args.by.now) z g.A.Access.kind c.args.text.now c.args.predicates.now c.args.answer.now c.prepare.new.table c.in_err-x.field-0.0 c.in_err-x.ensures)

pub make-requires : goal.make-requires
make-requires g c =
    let z = subst (λ (l : List ℕ). ◌≡◌ {A = ℕ} 0 (first_row (memory_rows c.args.r.now c.args.words.now l []))) c.list.ensures c.in_ok-memory_row.ensures in
    may-make c.args.r.now c.args.words.now (g.A.Access.lent c.args.by.now) z g.A.Access.kind c.args.text.now c.args.predicates.now c.args.answer.now c.prepare.new.table c.in_ok-x.ensures

pub returns-in-Err-clause-answers : goal.returns-in-Err-clause-answers
returns-in-Err-clause-answers g c =
    let z = subst (λ (l : List ℕ). ◌≡◌ {A = ℕ} 0 (first_row (memory_rows c.args.r.now c.args.words.now l []))) c.list.ensures c.in_ok-memory_row.ensures in
    formula-stopped c.args.r.now c.args.words.now (g.A.Access.lent c.args.by.now) z g.A.Access.kind c.args.text.now c.args.predicates.now c.args.answer.now c.prepare.new.table c.in_ok-x.ensures c.in-Err.ensures.made

pub returns-clause-answers : goal.returns-clause-answers
returns-clause-answers g c =
    let z = subst (λ (l : List ℕ). ◌≡◌ {A = ℕ} 0 (first_row (memory_rows c.args.r.now c.args.words.now l []))) c.list.ensures c.in_ok-memory_row.ensures in
    formula-whole c.args.r.now c.args.words.now (g.A.Access.lent c.args.by.now) z g.A.Access.kind c.args.text.now c.args.predicates.now c.args.answer.now c.prepare.new.table c.in_ok-x.ensures c.in_default.ensures.made
