use Rattle.std.proofs.Common.{arith}
use Rattle.nodes.proofs.ClearLaws.{filled_clear}
use Rattle.nodes.proofs.clear.Goals as goal

pub returns : goal.returns
returns c = filled_clear c.args.words.now c.args.count (omega (arith, c.capacity.ensures)) c.min-from.ensures (c.fill.ensures.after (λ y e. e))
