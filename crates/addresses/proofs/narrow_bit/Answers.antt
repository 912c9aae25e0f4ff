use Rattle.conditions.proofs.Promises.{did_next}
use Rattle.model.specs.Access.{narrow_bit}
use Rattle.addresses.proofs.narrow_bit.Goals as goal

pub returns : goal.returns
unfolding narrow_bit
returns c = did_next _ c.variable-x.ensures (did_next _ c.ite-t.ensures c.and.ensures)
