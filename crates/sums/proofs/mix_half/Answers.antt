use Rattle.conditions.proofs.Promises.{did_next}
use Rattle.unit_programs.specs.Add.{mix_half}
use Rattle.sums.proofs.mix_half.Goals as goal

pub returns : goal.returns
unfolding mix_half
returns c = did_next _ c.or-x.ensures c.ite.ensures
