use Rattle.std.proofs.Common.{refl}
use Rattle.model.specs.Step.{check}
use Rattle.memory.proofs.HandLaws.{handed}
use Rattle.memory.proofs.Record.check.Goals as goal

pub returns : goal.returns
returns c = handed (check c.args.b.0 c.args.address.now c.args.«data».now) refl c.args.self c.args.words.now c.args.list.now _ _ _ _ c.check-answer.ensures
