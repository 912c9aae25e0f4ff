use Rattle.std.proofs.Common.{refl, []}
use Rattle.model.specs.Step.{check, access}
use Rattle.record_words.proofs.CallLaws.{call_is}
use Rattle.capi.proofs.md_check.Goals as goal

pub returns-in-Ok : goal.returns-in-Ok
returns-in-Ok c = call_is (access (check _ c.args.address.now c.args.data.now)) c.args.record.now c.args.nodes.now c.args.list.now [] [] 0 c.record_of.ensures ((rw c.in-Ok.is at c.check-x.ensures) []) c.put_record.ensures refl refl

pub returns-in-Err : goal.returns-in-Err
returns-in-Err c = call_is (access (check _ c.args.address.now c.args.data.now)) c.args.record.now c.args.nodes.now c.args.list.now [] [] 0 c.record_of.ensures ((rw c.in-Err.is at c.check-x.ensures) []) c.put_record.ensures c.number.ensures refl
