use Rattle.conditions.proofs.Promises.{did_next}
use Rattle.model.specs.Access.{inside_half}
use Rattle.building.proofs.inside_half.Goals as goal

pub returns : goal.returns
unfolding inside_half
returns c = did_next _ c.not-p.ensures (did_next _ c.or-q.ensures c.and.ensures)
