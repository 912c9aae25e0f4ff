use Rattle.std.proofs.Common.{arith, rules}
use Rattle.node_calls.proofs.NodeLaws.{evaluate-holds}
use Rattle.capi_nodes.proofs.AskedLaws.{row_is, text-turned, text-told, text-over, wrote_first}
use Rattle.capi_nodes.proofs.md_text.Goals as goal

pub returns-in-Err : goal.returns-in-Err
returns-in-Err c = text-turned c.args.node c.args.record.now c.args.nodes.now c.args.text.now c.args.length.now c.in-Err.row (row_is c.args.node c.args.record.now c.args.nodes.now c.record_of.ensures c.in-Err.ensures.0) c.number.ensures

pub put_condition-requires : goal.put_condition-requires
put_condition-requires c = omega (arith, (evaluate-holds _ _ _ c.in-Ok.ensures.0).1, c.in-Ok.ensures.1.1)

pub returns-then-t : goal.returns-then-t
returns-then-t c = text-over c.args.node c.args.record.now c.args.nodes.now c.args.text.now c.args.length.now (row_is c.args.node c.args.record.now c.args.nodes.now c.record_of.ensures c.in-Ok.ensures.0) (wrote_first c.new-w.ensures.begun (rw c.in-Ok.ensures.1.0 at c.put_condition.ensures) (search rules)) c.if-t.true c.number-then-t.ensures (c.fill.ensures.after (λ y e. e))

pub returns : goal.returns
returns c = text-told c.args.node c.args.record.now c.args.nodes.now c.args.text.now c.args.length.now (row_is c.args.node c.args.record.now c.args.nodes.now c.record_of.ensures c.in-Ok.ensures.0) (wrote_first c.new-w.ensures.begun (rw c.in-Ok.ensures.1.0 at c.put_condition.ensures) (search rules)) c.if-t.false
