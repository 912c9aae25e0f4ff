use Rattle.std.proofs.Common.{◌≡◌, [], Ok, Err, sym, ◌∙◌, arith, rules}
use Rattle.std.proofs.lemmas.Bool.{true≢false}
use borrow.Author.Tests.{eq-eqb, ne_eqb, not-true, not-false}
use Rattle.model.specs.Record.{appended}
use Rattle.model.specs.Step.{closed, enter}
use Rattle.model.proofs.FactLaws.{space-room}
use Rattle.model.proofs.ListLaws.{capacity-most}
use Rattle.refusals.specs.declared.Refusal.TheVariants.{StoreFull}
use Rattle.rows.specs.Contract.{state_of, Cleared}
use Rattle.rows.proofs.CallLaws.{nine_acts, done_acts, not_full, over-sound, cleared_by, left_by}
use Rattle.assert_access.proofs.enter.Goals as goal

pub returns-then-q-eq1 : goal.returns-then-q-eq1
unfolding enter closed
returns-then-q-eq1 c = record { is = rw (eq-eqb _ _ c.if-q-eq1.true); sound = λ z. not_full _ c.requires.fits c.requires.sound }

pub returns-in_err-clear_where : goal.returns-in_err-clear_where
unfolding enter closed
returns-in_err-clear_where c =
    let g = cleared_by c.in_err-clear_where.ensures in
    let u = sym c.has_space-space.ensures ∙ not-true c.has_space-space.result g.1 in
    let e : c.from_residual.result ≡ Err c.in_err-clear_where.field-0.0 = search rules in
    rw (e, g.2) (record { is = rw (ne_eqb _ _ c.if-q-eq1.false, u, g.0); sound = λ z. absurd (true≢false z) })

pub returns-in_err-clear_where-2 : goal.returns-in_err-clear_where-2
unfolding enter closed
returns-in_err-clear_where-2 c =
    let p = c.requires in
    let g = left_by c.in_ok-clear_where.ensures in
    let u = sym c.has_space-space.ensures ∙ not-false c.has_space-space.result g.1 in
    let i = rw (g.0, p.fits) at c.write_marks-m.ensures.is in
    let o : Cleared c.write_marks-m.new.build.words.now c.args.r.now.count c.write_marks-m.new.build.store.full StoreFull c.clear_where-2.new.words (Err c.in_err-clear_where-2.field-0.0) = search rules in
    let e : c.from_residual-in_err-clear_where-2.result ≡ Err c.in_err-clear_where-2.field-0.0 = search rules in
    rw e (record { is = rw (ne_eqb _ _ c.if-q-eq1.false, u) (nine_acts (state_of c.args.r.now c.args.words.now c.args.list.now) _ _ i p.clears o); sound = λ z. absurd (true≢false z) })

pub overflow_add-r : goal.overflow_add-r
overflow_add-r c =
    let g = left_by c.in_ok-clear_where.ensures in
    let u = sym c.has_space-space.ensures ∙ not-false c.has_space-space.result g.1 in
    omega (arith, capacity-most _ _ _ (space-room c.args.r.now [] c.args.list.now u))

pub returns : goal.returns
unfolding enter closed appended
returns c =
    let p = c.requires in
    let g = left_by c.in_ok-clear_where.ensures in
    let u = sym c.has_space-space.ensures ∙ not-false c.has_space-space.result g.1 in
    let i = rw (g.0, p.fits) at c.write_marks-m.ensures.is in
    let o : Cleared c.write_marks-m.new.build.words.now c.args.r.now.count c.write_marks-m.new.build.store.full StoreFull c.clear_where-2.new.words (Ok tt) = search rules in
    record { is = rw (ne_eqb _ _ c.if-q-eq1.false, u, c.append_entry.ensures) (done_acts (state_of c.args.r.now c.args.words.now c.args.list.now) _ _ i o); sound = λ z. over-sound _ _ o (search (rules, c.write_marks-m.new.build.sound)) }
