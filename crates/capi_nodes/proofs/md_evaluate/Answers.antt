use Rattle.std.proofs.Common.{refl, ◌∙◌}
use Rattle.capi_nodes.proofs.CallLaws.{evaluate_is, as_number}
use Rattle.capi_nodes.proofs.md_evaluate.Goals as goal

pub returns-in-Ok : goal.returns-in-Ok
returns-in-Ok c = evaluate_is _ _ c.args.record.now c.args.nodes.now c.args.value.now c.record_of.ensures (rw c.in-Ok.is at c.evaluate-x.ensures) refl (c.from.ensures ∙ as_number c.in-Ok.b)

pub returns-in-Err : goal.returns-in-Err
returns-in-Err c = evaluate_is _ _ c.args.record.now c.args.nodes.now c.args.value.now c.record_of.ensures (rw c.in-Err.is at c.evaluate-x.ensures) c.number.ensures refl
