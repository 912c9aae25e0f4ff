use Rattle.std.proofs.Common.{◌≡◌, Err, rules}
use Rattle.conditions.proofs.Promises.{zeros-sound}
use Rattle.model.specs.Step.{variable}
use Rattle.rows.specs.Contract.{state_of}
use Rattle.rows.proofs.CallLaws.{node-turned}
use Rattle.node_calls.proofs.NodeLaws.{variable-holds}
use Rattle.node_calls.proofs.variable.Goals as goal

pub returns-in_err-variable_row : goal.returns-in_err-variable_row
returns-in_err-variable_row c =
    let e : c.from_residual.result ≡ Err c.in_err-variable_row.field-0.0 = search rules in
    λ l. rw e (node-turned (variable c.args.v) (state_of c.args.r.now c.args.words.now l) c.in_err-variable_row.field-0.0 c.in_err-variable_row.ensures)

pub variable_on-requires : goal.variable_on-requires
variable_on-requires c = (zeros-sound _ 32768 (variable-holds c.args.r.now c.args.words.now c.args.v c.in_ok-variable_row.ensures).0, c.in_ok-variable_row.ensures)
