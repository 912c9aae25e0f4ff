use Rattle.nodes.specs.Standard.{counted}
use Rattle.nodes.proofs.standard.is_counted.Goals as goal

pub returns : goal.returns
unfolding counted
returns c = rw c.capacity.ensures
