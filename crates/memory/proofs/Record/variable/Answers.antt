use Rattle.model.specs.Step.{variable}
use Rattle.memory.proofs.HandLaws.{handed-node}
use Rattle.memory.proofs.Record.variable.Goals as goal

pub returns : goal.returns
returns c = handed-node (variable c.args.v) c.args.self c.args.words.now _ _ _ c.variable-answer.ensures
