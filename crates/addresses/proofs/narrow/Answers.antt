use Rattle.std.proofs.Common.{arith}
use Rattle.model.specs.Access.{Narrow}
use Rattle.addresses.proofs.LoopLaws.{loop-goes_on, loop_did}
use Rattle.addresses.proofs.narrow.Goals as goal

pub loop-i-preserved : goal.loop-i-preserved
loop-i-preserved c = loop-goes_on c.loop-i.invariant (omega arith) (rw c.address_pair.ensures at c.narrow_bit-m.ensures)

pub returns : goal.returns
unfolding Narrow
returns c = loop_did c.loop-i.invariant (omega arith)
