use Rattle.conditions.proofs.Promises.{did_next}
use Rattle.model.specs.Access.{merge_half}
use Rattle.merging.proofs.merge_half.Goals as goal

pub returns : goal.returns
unfolding merge_half
returns c = did_next _ c.or-x.ensures (did_next _ c.ite-y.ensures c.ite.ensures)
