use Rattle.std.proofs.Common.{rules}
use Rattle.model.specs.Record.{replaced}
use Rattle.ports.proofs.replace.Goals as goal

pub returns : goal.returns
unfolding replaced
returns c = search rules
