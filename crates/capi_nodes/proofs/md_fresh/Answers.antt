use Rattle.std.proofs.Common.{refl}
use Rattle.capi_nodes.proofs.CallLaws.{fresh_is}
use Rattle.capi_nodes.proofs.md_fresh.Goals as goal

pub returns-in-Ok : goal.returns-in-Ok
returns-in-Ok c = fresh_is _ c.args.record.now c.args.nodes.now c.args.ports.now c.record_of.ensures (rw c.in-Ok.is at c.fresh-x.ensures) c.put_record.ensures refl

pub returns-in-Err : goal.returns-in-Err
returns-in-Err c = fresh_is _ c.args.record.now c.args.nodes.now c.args.ports.now c.record_of.ensures (rw c.in-Err.is at c.fresh-x.ensures) c.put_record.ensures c.number.ensures
