use Rattle.std.proofs.Common.{refl}
use Rattle.model.specs.Step.{assert}
use Rattle.memory.proofs.HandLaws.{handed_on}
use Rattle.memory.proofs.Record.assert_on.Goals as goal

pub returns : goal.returns
returns c = handed_on (assert c.args.b.0 c.args.address.now c.args.«data».now) refl c.args.self.now c.args.words.now c.args.list.now _ _ _ _ c.assert_on.ensures
