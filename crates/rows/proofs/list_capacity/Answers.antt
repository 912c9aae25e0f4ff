use Rattle.std.proofs.Common.{arith}
use Rattle.model.specs.Record.{list_capacity}
use Rattle.rows.proofs.list_capacity.Goals as goal

pub returns : goal.returns
unfolding list_capacity
returns c = rw (← c.entry_words.ensures) (omega arith)
