use Rattle.std.proofs.Common.{refl, []}
use Rattle.model.specs.Step.{assert, access}
use Rattle.record_words.proofs.CallLaws.{call_is}
use Rattle.capi.proofs.md_assert.Goals as goal
use Rattle.capi.proofs.md_assert.Goals.{in-Entered, in_default}

pub returns-after-matches : goal.returns-after-matches
returns-after-matches c =
    elim c.match-matches.branch [
      | in-Entered w ↦ call_is (access (assert _ c.args.address.now c.args.data.now)) c.args.record.now c.args.nodes.now c.args.list.now [] [] c.args.entered.now c.record_of.ensures (rw w.in-Entered.is at ((rw c.in-Ok.is at c.assert-x.ensures) [])) c.put_record.ensures refl (rw w.matches-is at c.from.ensures)
      | in_default w ↦ call_is (access (assert _ c.args.address.now c.args.data.now)) c.args.record.now c.args.nodes.now c.args.list.now [] [] c.args.entered.now c.record_of.ensures (rw w.in_default.is at ((rw c.in-Ok.is at c.assert-x.ensures) [])) c.put_record.ensures refl (rw w.matches-is at c.from.ensures)
    ]

pub returns-in-Err : goal.returns-in-Err
returns-in-Err c = call_is (access (assert _ c.args.address.now c.args.data.now)) c.args.record.now c.args.nodes.now c.args.list.now [] [] c.args.entered.now c.record_of.ensures ((rw c.in-Err.is at c.assert-x.ensures) []) c.put_record.ensures c.number.ensures refl
