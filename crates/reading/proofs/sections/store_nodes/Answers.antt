use Rattle.std.proofs.Common.{refl, rules}
use Rattle.format.proofs.SectionLaws.{nodes-none, nodes-more}
use Rattle.reading.proofs.sections.store_nodes.Goals as goal

pub loop-i-init : goal.loop-i-init
loop-i-init c = (refl, nodes-none c.args.bytes.now c.args.at c.args.words.now)

pub loop-i-preserved : goal.loop-i-preserved
loop-i-preserved c = (search rules, nodes-more c.args.bytes.now c.args.at c.args.words.now c.loop-i.i c.loop-i.invariant.1 c.store_from.ensures)
