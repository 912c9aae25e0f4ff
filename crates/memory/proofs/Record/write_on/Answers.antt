use Rattle.std.proofs.Common.{refl}
use Rattle.model.specs.Step.{write}
use Rattle.memory.proofs.HandLaws.{handed_on}
use Rattle.memory.proofs.Record.write_on.Goals as goal

pub returns : goal.returns
returns c = handed_on (write c.args.enable.now c.args.address.now c.args.«data».now) refl c.args.self.now c.args.words.now c.args.list.now _ _ _ _ c.write_on.ensures
