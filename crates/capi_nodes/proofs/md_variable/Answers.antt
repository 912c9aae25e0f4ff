use Rattle.std.proofs.Common.{refl, []}
use Rattle.model.specs.Step.{variable, node_call}
use Rattle.record_words.proofs.CallLaws.{call_is}
use Rattle.capi_nodes.proofs.md_variable.Goals as goal

pub returns-in-Ok : goal.returns-in-Ok
returns-in-Ok c = call_is (node_call (variable _)) c.args.record.now c.args.nodes.now [] [] [] c.args.node.now c.record_of.ensures ((rw c.in-Ok.is at c.variable-x.ensures) [] []) c.put_record.ensures refl refl

pub returns-in-Err : goal.returns-in-Err
returns-in-Err c = call_is (node_call (variable _)) c.args.record.now c.args.nodes.now [] [] [] c.args.node.now c.record_of.ensures ((rw c.in-Err.is at c.variable-x.ensures) [] []) c.put_record.ensures c.number.ensures refl
