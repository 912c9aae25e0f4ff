use Rattle.nodes.specs.Standard.{first}
use Rattle.nodes.proofs.standard.is_first.Goals as goal

pub returns : goal.returns
unfolding first
returns c = rw (c.find_lowest.ensures, c.high-hi.ensures, c.low-lo.ensures, c.top-v.ensures)
