use Rattle.std.proofs.Common.{◌≡◌, Err, refl, arith, rules, length-take}
use Rattle.model.specs.Step.{read}
use Rattle.rows.specs.Contract.{ported_of}
use Rattle.rows.proofs.CallLaws.{turned_on}
use Rattle.read_access.proofs.ReadLaws.{read-holds}
use Rattle.read_access.proofs.read_on.Goals as goal

pub returns-in_err-read_row : goal.returns-in_err-read_row
returns-in_err-read_row c =
    let e : c.from_residual.result ≡ Err c.in_err-read_row.field-0.0 = search rules in
    let T = turned_on (read c.args.port c.args.enable.now c.args.address.now c.args.answer.now) (ported_of c.args.r.now c.args.words.now c.args.list.now c.args.ports.now) _ c.in_err-read_row.ensures in
    rw e (record { is = record { is = T.is; leaves = refl }; sound = T.sound })

pub slice_bounds-word-end : goal.slice_bounds-word-end
slice_bounds-word-end c =
    let H = read-holds c.args.r.now c.args.words.now c.args.list.now c.args.ports.now c.args.port c.args.enable.now c.args.address.now c.args.answer.now c.requires.1.long c.in_ok-read_row.ensures in
    omega (arith, H.wide, c.data_words-size.ensures)

pub slice_bounds-read_into-end : goal.slice_bounds-read_into-end
slice_bounds-read_into-end c =
    let H = read-holds c.args.r.now c.args.words.now c.args.list.now c.args.ports.now c.args.port c.args.enable.now c.args.address.now c.args.answer.now c.requires.1.long c.in_ok-read_row.ensures in
    simp length-take (omega (arith, H.wide, c.data_words-size.ensures))

pub read_into-requires : goal.read_into-requires
read_into-requires c =
    let p = c.requires in
    let H = read-holds c.args.r.now c.args.words.now c.args.list.now c.args.ports.now c.args.port c.args.enable.now c.args.address.now c.args.answer.now c.requires.1.long c.in_ok-read_row.ensures in
    (c.in_ok-read_row.ensures, p.2, simp length-take (omega (arith, H.wide, c.data_words-size.ensures)), p.1.long)
