use Rattle.std.proofs.Common.{rules}
use Rattle.format.specs.Bytes.{number_at}
use Rattle.reading.proofs.bytes.number_at.Goals as goal

pub returns-clause-value : goal.returns-clause-value
unfolding number_at
returns-clause-value c = search rules
