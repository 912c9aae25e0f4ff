use Rattle.std.proofs.Common.{arith}
use Rattle.model.specs.Access.{Unique}
use Rattle.addresses.proofs.LoopLaws.{loop-goes_on, loop_did}
use Rattle.addresses.proofs.unique.Goals as goal

pub loop-i-preserved : goal.loop-i-preserved
loop-i-preserved c = loop-goes_on c.loop-i.invariant (omega arith) (rw c.address_pair.ensures at c.unique_bit-u.ensures)

pub returns : goal.returns
unfolding Unique
returns c = loop_did c.loop-i.invariant (omega arith)
