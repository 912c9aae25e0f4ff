use Rattle.std.proofs.Common.{◌≡◌, Err, rules}
use Rattle.conditions.proofs.Promises.{zeros-sound}
use Rattle.model.specs.Step.{ite}
use Rattle.rows.specs.Contract.{state_of}
use Rattle.rows.proofs.CallLaws.{node-turned}
use Rattle.node_calls.proofs.NodeLaws.{ite-holds}
use Rattle.node_calls.proofs.ite.Goals as goal

pub returns-in_err-ite_row : goal.returns-in_err-ite_row
returns-in_err-ite_row c =
    let e : c.from_residual.result ≡ Err c.in_err-ite_row.field-0.0 = search rules in
    λ l. rw e (node-turned (ite c.args.f c.args.g c.args.h) (state_of c.args.r.now c.args.words.now l) c.in_err-ite_row.field-0.0 c.in_err-ite_row.ensures)

pub ite_on-requires : goal.ite_on-requires
ite_on-requires c = (zeros-sound _ 32768 (ite-holds c.args.r.now c.args.words.now c.args.f c.args.g c.args.h c.in_ok-ite_row.ensures).0, c.in_ok-ite_row.ensures)
