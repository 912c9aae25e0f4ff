use Rattle.std.proofs.Common.{sym, ◌∙◌, arith}
use Rattle.rows.specs.Contract.{state_of}
use Rattle.rows.proofs.CallLaws.{valid_few, valid-standard, check_row_is}
use Rattle.rows.proofs.check_row.Goals as goal

pub argument_row-requires : goal.argument_row-requires
argument_row-requires c =
    let s = state_of c.args.r c.args.words.now c.args.list.now in
    let f = valid_few s c.requires.0 in
    (valid-standard s c.requires.0, f.0, c.requires.1, omega arith, omega arith, omega (arith, c.requires.2), f.1)

pub returns : goal.returns
returns c =
    let s = state_of c.args.r c.args.words.now c.args.list.now in
    c.argument_row.ensures ∙ sym (check_row_is s c.requires.0 c.args.b.0 c.args.address.now c.args.«data».now c.requires.1 c.requires.2)
