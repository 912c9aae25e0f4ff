use Rattle.conditions.proofs.Promises.{did_next}
use Rattle.model.specs.Access.{unique_bit}
use Rattle.addresses.proofs.unique_bit.Goals as goal

pub returns : goal.returns
unfolding unique_bit
returns c = did_next _ c.and-x.ensures (did_next _ c.not-y.ensures c.and.ensures)
