use Rattle.model.specs.Step.{ite}
use Rattle.memory.proofs.HandLaws.{handed-node}
use Rattle.memory.proofs.Record.ite.Goals as goal

pub returns : goal.returns
returns c = handed-node (ite c.args.f c.args.g c.args.h) c.args.self c.args.words.now _ _ _ c.ite-answer.ensures
