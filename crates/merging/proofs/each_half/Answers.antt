use Rattle.std.proofs.Common.{arith}
use Rattle.model.specs.Access.{EachHalf}
use Rattle.addresses.proofs.LoopLaws.{word_did, half-goes_on}
use Rattle.merging.proofs.each_half.Goals as goal

pub half-requires : goal.half-requires
half-requires g c =
    let L = c.loop-k.invariant in
    c.requires.1.0 _ _ _ L.later.more (omega arith) (L.nodes.at c.loop-k.k (omega arith))

pub loop-k-preserved : goal.loop-k-preserved
loop-k-preserved g c = half-goes_on _ c.loop-k.invariant (omega arith) (c.requires.1.1.0 _ _ _ _ _ c.half.ensures)

pub returns : goal.returns
unfolding EachHalf
returns g c = word_did c.loop-k.invariant (omega arith)
