use Rattle.std.proofs.Common.{arith}
use Rattle.sums.proofs.AddLaws.{loop-goes_on, loop-ends}
use Rattle.sums.proofs.add.Goals as goal

pub loop-i-preserved : goal.loop-i-preserved
loop-i-preserved c = loop-goes_on _ _ _ c.loop-i.invariant (omega arith) c.add_bit-c.auto.out c.add_bit-c.ensures

pub returns : goal.returns
returns c = loop-ends _ _ _ c.requires.0 (omega arith) c.loop-i.invariant c.place_bit.auto.out c.place_bit.ensures
