use Rattle.std.proofs.Common.{sym, ◌∙◌, arith}
use Rattle.rows.specs.Contract.{ported_of}
use Rattle.rows.proofs.CallLaws.{valid_few, valid-standard}
use Rattle.read_access.proofs.ReadLaws.{read-port, read_row_is}
use Rattle.read_access.proofs.read_row.Goals as goal

pub returns-then-port-gt3 : goal.returns-then-port-gt3
returns-then-port-gt3 c =
    let p = c.requires in
    read-port (ported_of c.args.r c.args.words.now c.args.list.now c.args.ports.now) c.args.port c.args.enable.now c.args.address.now c.args.answer.now p.0 p.1 p.2 p.3 p.4 c.if-port-gt3.true

pub argument_row-requires : goal.argument_row-requires
argument_row-requires c =
    let s = (ported_of c.args.r c.args.words.now c.args.list.now c.args.ports.now) in
    let p = c.requires in
    let f = valid_few s p.0 in
    (valid-standard s p.0, f.0, p.3, omega (arith, p.2), omega arith, omega arith, omega arith)

pub returns : goal.returns
returns c =
    let p = c.requires in
    c.argument_row.ensures ∙ sym (read_row_is (ported_of c.args.r c.args.words.now c.args.list.now c.args.ports.now) c.args.port c.args.enable.now c.args.address.now c.args.answer.now p.0 p.1 p.2 p.3 p.4 c.if-port-gt3.false)
