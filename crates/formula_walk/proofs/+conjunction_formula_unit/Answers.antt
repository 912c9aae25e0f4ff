use Rattle.std.proofs.Common.{◌≡◌, Ok, Err, List, ℕ, sym, subst, ◌∙◌, rules, arith}
use Rattle.tokens.proofs.TokenLaws.{starts_in}
use Rattle.formulas.specs.Language.{formula as formula-part, unit as unit-part}
use Rattle.formula_walk.specs.Contract.{Goes}
use Rattle.formula_walk.proofs.JoinLaws.{joining_unit, unit-stopped, joining-more, joining-stopped, joins_less, behind_later, walks_behind}
use Rattle.formula_walk.proofs.+conjunction_formula_unit.Goals as goal

pub conjunction-returns-in_err-y : goal.conjunction-returns-in_err-y
conjunction-returns-in_err-y t c =
    let e : c.from_residual.result ≡ Err c.in_err-y.field-0.0 = search rules in
    rw e (unit-stopped c.in_err-y.ensures)

pub conjunction-unit-requires-in-loop-g : goal.conjunction-unit-requires-in-loop-g
conjunction-unit-requires-in-loop-g t c =
    let J = c.loop-g.invariant c.args.build.now c.args.out.now c.args.x (joining_unit c.requires c.in_ok-y.ensures) in
    let h = starts_in c.args.text.now c.loop-g.y.at 38 (sym c.stands.ensures ∙ c.loop-g-test.true) in
    (omega (arith, c.decreases, J.later, behind_later h c.behind-z.ensures), walks_behind J.walks h c.behind-z.ensures)

pub conjunction-returns-in_err-y-2 : goal.conjunction-returns-in_err-y-2
conjunction-returns-in_err-y-2 t c =
    let J = c.loop-g.invariant c.args.build.now c.args.out.now c.args.x (joining_unit c.requires c.in_ok-y.ensures) in
    let e : c.from_residual-in_err-y-2.result ≡ Err c.in_err-y-2.field-0.0 = search rules in
    rw e (joining-stopped J (sym c.stands.ensures ∙ c.loop-g-test.true) c.behind-z.ensures c.in_err-y-2.ensures)

pub conjunction-loop-g-smaller : goal.conjunction-loop-g-smaller
conjunction-loop-g-smaller t c =
    let J = c.loop-g.invariant c.args.build.now c.args.out.now c.args.x (joining_unit c.requires c.in_ok-y.ensures) in
    joins_less J (sym c.stands.ensures ∙ c.loop-g-test.true) c.behind-z.ensures c.in_ok-y-2.ensures

pub conjunction-loop-g-preserved : goal.conjunction-loop-g-preserved
conjunction-loop-g-preserved t c = λ b out x J. joining-more (c.loop-g.invariant b out x J) (sym c.stands.ensures ∙ c.loop-g-test.true) c.behind-z.ensures c.in_ok-y-2.ensures

pub conjunction-returns : goal.conjunction-returns
conjunction-returns t c =
    let J = c.loop-g.invariant c.args.build.now c.args.out.now c.args.x (joining_unit c.requires c.in_ok-y.ensures) in
    J.last (sym c.stands.ensures ∙ c.loop-g-test.false)

pub formula-returns-in_err-b : goal.formula-returns-in_err-b
formula-returns-in_err-b t c =
    let e : c.from_residual.result ≡ Err c.in_err-b.field-0.0 = search rules in
    rw e (c.in_err-b.ensures c.args.out.now)

pub formula-returns-in-None : goal.formula-returns-in-None
formula-returns-in-None t c =
    let A = rw c.in-None.is at c.in_ok-b.ensures in
    A.1 c.args.out.now c.conjunction.new.build c.conjunction.new.out c.conjunction.result c.conjunction.ensures

pub formula-returns-in-Some : goal.formula-returns-in-Some
formula-returns-in-Some t c =
    let A = rw c.in-Some.is at c.in_ok-b.ensures in
    A.2 c.args.out.now c.formula.new.build c.formula.new.out c.formula.result c.formula.ensures

pub unit-returns-in_err-z-in-Group : goal.unit-returns-in_err-z-in-Group
unit-returns-in_err-z-in-Group t c =
    let e : c.from_residual-in_err-z-in-Group.result ≡ Err c.in_err-z-in-Group.field-0.0 = search rules in
    let B = rw c.in-Group.is at c.in_ok-b.ensures in
    let G = subst (λ (out : List ℕ). Goes c.args.g c.in-Group.a formula-part c.args.text.now c.args.build.now out c.in-Group.y c.formula.new.build c.formula.new.out (Err c.in_err-z-in-Group.field-0.0)) B.0 c.in_err-z-in-Group.ensures in
    rw e ((B.2 c.args.build.now c.requires).1 c.formula.new.build c.formula.new.out _ G)

pub unit-returns-in-Next : goal.unit-returns-in-Next
unit-returns-in-Next t c =
    let B = rw c.in-Next.is at c.in_ok-b.ensures in
    let W = B.2 c.args.build.now c.requires in
    let G = subst (λ (out : List ℕ). Goes c.args.g c.in-Next.a unit-part c.args.text.now c.args.build.now out c.in-Next.y c.unit.new.build c.unit.new.out c.unit.result) B.0 c.unit.ensures in
    W.1 c.unit.new.build c.unit.new.out c.unit.result G

pub unit-returns-in_ok-z-in-Group : goal.unit-returns-in_ok-z-in-Group
unit-returns-in_ok-z-in-Group t c =
    let B = rw c.in-Group.is at c.in_ok-b.ensures in
    let G = subst (λ (out : List ℕ). Goes c.args.g c.in-Group.a formula-part c.args.text.now c.args.build.now out c.in-Group.y c.formula.new.build c.formula.new.out (Ok c.in_ok-z-in-Group.z)) B.0 c.in_ok-z-in-Group.ensures in
    (B.2 c.args.build.now c.requires).2 c.formula.new.build c.formula.new.out _ _ G c.close.ensures
