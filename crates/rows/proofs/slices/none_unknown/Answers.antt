use Rattle.std.proofs.Common.{rules}
use Rattle.conditions.specs.Meet.{together}
use Rattle.rows.proofs.slices.none_unknown.Goals as goal

pub returns : goal.returns
returns c = c.no_fault.ensures (together c.args.d.words.now c.args.b.0) (λ h l b e. search rules)
