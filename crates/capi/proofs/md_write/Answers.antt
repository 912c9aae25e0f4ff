use Rattle.std.proofs.Common.{refl, []}
use Rattle.model.specs.Step.{write, access}
use Rattle.record_words.proofs.CallLaws.{call_is}
use Rattle.capi.proofs.CallLaws.{write_is}
use Rattle.capi.proofs.md_write.Goals as goal

pub returns-in-Ok : goal.returns-in-Ok
returns-in-Ok c = write_is c.in-Ok.entered c.args.record.now c.args.nodes.now c.args.list.now c.args.enable.now c.args.address.now c.args.data.now c.args.place.now c.record_of.ensures (rw c.in-Ok.is at c.write-x.ensures) c.put_record.ensures c.unwrap_or.ensures

pub returns-in-Err : goal.returns-in-Err
returns-in-Err c = call_is (access (write c.args.enable.now c.args.address.now c.args.data.now)) c.args.record.now c.args.nodes.now c.args.list.now [] [] c.args.place.now c.record_of.ensures ((rw c.in-Err.is at c.write-x.ensures) []) c.put_record.ensures c.number.ensures refl
