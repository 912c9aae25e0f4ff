use Rattle.std.proofs.Common.{arith, refl, ◌∙◌}
use Rattle.format.proofs.BytesLaws.{filled_none, filled_more, filled_all}
use lib.ListN.{length-set}
use Rattle.reading.proofs.bytes.read_numbers.Goals as goal

pub loop-i-init : goal.loop-i-init
loop-i-init c = (refl, filled_none c.args.bytes.now c.args.at c.args.to.now)

pub loop-i-preserved : goal.loop-i-preserved
loop-i-preserved c = (simp length-set c.loop-i.invariant.0, filled_more c.args.bytes.now c.args.at c.loop-i.i c.args.to.now (omega arith) c.loop-i.invariant.1 c.number_at.ensures.value)

pub returns : goal.returns
returns c = c.loop-i.invariant.1 ∙ filled_all c.args.bytes.now c.args.at c.loop-i.i c.args.to.now (omega arith)
