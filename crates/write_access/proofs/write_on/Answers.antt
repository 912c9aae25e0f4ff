use Rattle.std.proofs.Common.{◌≡◌, Err, ◌∙◌, arith, rules}
use borrow.Author.Tests.{eq-eqb, ne_eqb}
use Rattle.model.specs.Step.{write}
use Rattle.rows.specs.Contract.{state_of}
use Rattle.rows.proofs.CallLaws.{turned_on, valid_few, valid-standard}
use Rattle.write_access.proofs.WriteLaws.{write_row_is, idle_done}
use Rattle.write_access.proofs.write_on.Goals as goal

pub argument_row-requires : goal.argument_row-requires
argument_row-requires c =
    let p = c.requires in
    let f = valid_few (state_of c.args.r.now c.args.words.now c.args.list.now) p.0 in
    (valid-standard (state_of c.args.r.now c.args.words.now c.args.list.now) p.0, f.0, p.3, omega (arith, p.2), omega arith, omega (arith, p.4), f.1)

pub returns-in_err-argument_row : goal.returns-in_err-argument_row
returns-in_err-argument_row c =
    let p = c.requires in
    let e : c.from_residual.result ≡ Err c.in_err-argument_row.field-0.0 = search rules in
    rw e (turned_on (write c.args.enable.now c.args.address.now c.args.«data».now) (state_of c.args.r.now c.args.words.now c.args.list.now) _ (c.in_err-argument_row.ensures ∙ write_row_is (state_of c.args.r.now c.args.words.now c.args.list.now) p.0 _ _ _ p.2 p.3 p.4))

pub returns-then-this-eq0 : goal.returns-then-this-eq0
returns-then-this-eq0 c =
    let p = c.requires in
    record { is = idle_done (state_of c.args.r.now c.args.words.now c.args.list.now) _ _ _ (c.in_ok-argument_row.ensures ∙ write_row_is (state_of c.args.r.now c.args.words.now c.args.list.now) p.0 _ _ _ p.2 p.3 p.4) (eq-eqb _ _ c.if-this-eq0.true); sound = λ z. p.1 }

pub enter-requires : goal.enter-requires
enter-requires c =
    let p = c.requires in
    (p.1, c.in_ok-argument_row.ensures ∙ write_row_is (state_of c.args.r.now c.args.words.now c.args.list.now) p.0 _ _ _ p.2 p.3 p.4, ne_eqb _ _ c.if-this-eq0.false)
