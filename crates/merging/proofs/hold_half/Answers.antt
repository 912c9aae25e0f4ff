use Rattle.conditions.proofs.Promises.{did_next}
use Rattle.model.specs.Access.{hold_half}
use Rattle.merging.proofs.hold_half.Goals as goal

pub returns : goal.returns
unfolding hold_half
returns c = did_next _ c.ite-t.ensures c.ite.ensures
