use Rattle.conditions.proofs.Promises.{did_next}
use Rattle.model.specs.Access.{Certain}
use Rattle.building.proofs.certain.Goals as goal

pub returns : goal.returns
unfolding Certain
returns c = did_next _ c.not-x.ensures c.and.ensures
