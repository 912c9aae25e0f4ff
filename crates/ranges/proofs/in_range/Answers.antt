use Rattle.model.specs.Rows.{row1}
use Rattle.std.proofs.Common.{refl}
use Rattle.ranges.proofs.in_range.Goals as goal

pub returns : goal.returns
unfolding row1
returns c = refl
