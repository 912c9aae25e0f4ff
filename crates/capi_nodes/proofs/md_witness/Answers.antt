use Rattle.std.proofs.Common.{arith}
use Rattle.node_calls.proofs.NodeLaws.{evaluate-holds}
use Rattle.capi_nodes.proofs.AskedLaws.{row_is, witness-turned, witness-told}
use Rattle.capi_nodes.proofs.md_witness.Goals as goal

pub returns-in-Err : goal.returns-in-Err
returns-in-Err c = witness-turned c.args.node c.args.record.now c.args.nodes.now c.args.assignment.now c.in-Err.k (row_is c.args.node c.args.record.now c.args.nodes.now c.record_of.ensures c.in-Err.ensures.0) c.number.ensures

pub witness-requires : goal.witness-requires
witness-requires c = omega (arith, (evaluate-holds _ _ _ c.in-Ok.ensures.0).1, c.in-Ok.ensures.1.1)

pub returns-in-Ok : goal.returns-in-Ok
returns-in-Ok c = witness-told c.args.node c.args.record.now c.args.nodes.now c.args.assignment.now (row_is c.args.node c.args.record.now c.args.nodes.now c.record_of.ensures c.in-Ok.ensures.0) (rw c.in-Ok.ensures.1.0 at c.witness.ensures)
