use Rattle.nodes.specs.Standard.{shaped}
use Rattle.nodes.proofs.standard.is_shaped.Goals as goal

pub returns : goal.returns
unfolding shaped
returns c = rw (c.child_fits-2.ensures, c.child_fits.ensures, c.top.ensures, c.high-hi.ensures, c.low-lo.ensures)
