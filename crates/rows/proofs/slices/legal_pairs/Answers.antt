use Rattle.std.proofs.Common.{rules}
use Rattle.conditions.specs.Meet.{neither}
use Rattle.rows.proofs.slices.legal_pairs.Goals as goal

pub returns : goal.returns
returns c = c.no_fault.ensures (neither c.args.d.words.now) (λ h l b e. search rules)
