use Rattle.conditions.proofs.Promises.{did_next}
use Rattle.model.specs.Access.{settle_half}
use Rattle.merging.proofs.settle_half.Goals as goal

pub returns : goal.returns
unfolding settle_half
returns c = did_next _ c.and-x.ensures c.any.ensures
