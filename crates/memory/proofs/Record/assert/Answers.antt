use Rattle.std.proofs.Common.{refl}
use Rattle.model.specs.Step.{assert}
use Rattle.memory.proofs.HandLaws.{handed}
use Rattle.memory.proofs.Record.assert.Goals as goal

pub returns : goal.returns
returns c = handed (assert c.args.b.0 c.args.address.now c.args.«data».now) refl c.args.self c.args.words.now c.args.list.now _ _ _ _ c.assert-answer.ensures
