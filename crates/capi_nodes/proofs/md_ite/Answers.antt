use Rattle.std.proofs.Common.{refl, []}
use Rattle.model.specs.Step.{ite, node_call}
use Rattle.record_words.proofs.CallLaws.{call_is}
use Rattle.capi_nodes.proofs.md_ite.Goals as goal

pub returns-in-Ok : goal.returns-in-Ok
returns-in-Ok c = call_is (node_call (ite _ _ _)) c.args.record.now c.args.nodes.now [] [] [] c.args.node.now c.record_of.ensures ((rw c.in-Ok.is at c.ite-x.ensures) [] []) c.put_record.ensures refl refl

pub returns-in-Err : goal.returns-in-Err
returns-in-Err c = call_is (node_call (ite _ _ _)) c.args.record.now c.args.nodes.now [] [] [] c.args.node.now c.record_of.ensures ((rw c.in-Err.is at c.ite-x.ensures) [] []) c.put_record.ensures c.number.ensures refl
