use Rattle.std.proofs.Common.{refl, Ok, Err}
use Rattle.capi.proofs.CallLaws.{read_is}
use Rattle.capi.proofs.md_read.Goals as goal

pub returns-in-Ok : goal.returns-in-Ok
returns-in-Ok c = read_is (Ok tt) c.args.record.now c.args.nodes.now c.args.list.now c.args.ports.now _ c.args.enable.now c.args.address.now c.args.answer.now c.record_of.ensures (rw c.in-Ok.is at c.read-x.ensures) c.put_record.ensures refl

pub returns-in-Err : goal.returns-in-Err
returns-in-Err c = read_is (Err _) c.args.record.now c.args.nodes.now c.args.list.now c.args.ports.now _ c.args.enable.now c.args.address.now c.args.answer.now c.record_of.ensures (rw c.in-Err.is at c.read-x.ensures) c.put_record.ensures c.number.ensures
