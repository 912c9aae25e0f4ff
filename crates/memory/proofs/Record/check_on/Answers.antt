use Rattle.std.proofs.Common.{refl}
use Rattle.model.specs.Step.{check}
use Rattle.memory.proofs.HandLaws.{handed_on}
use Rattle.memory.proofs.Record.check_on.Goals as goal

pub returns : goal.returns
returns c = handed_on (check c.args.b.0 c.args.address.now c.args.«data».now) refl c.args.self.now c.args.words.now c.args.list.now _ _ _ _ c.check_on.ensures
