use Rattle.model.specs.Step.{evaluate}
use Rattle.memory.proofs.HandLaws.{handed-node}
use Rattle.memory.proofs.Record.evaluate.Goals as goal

pub returns : goal.returns
returns c = handed-node (evaluate c.args.f c.args.a) c.args.self c.args.words.now _ _ _ c.evaluate-answer.ensures
