use Rattle.std.proofs.Common.{◌∙◌, arith}
use Rattle.diagrams.specs.Assignment.{bit_at}
use Rattle.diagrams.proofs.ValueLaws.{value_child, value_end}
use Rattle.diagrams.proofs.evaluate.Goals as goal

pub bit-requires : goal.bit-requires
bit-requires c =
    let p = c.args.d.standard in
    let n = c.loop-n.n in
    omega (arith, (p.shape n (omega arith) (omega arith)).small)

pub loop-n-smaller : goal.loop-n-smaller
loop-n-smaller c =
    (value_child c.args.d.standard (bit_at c.args.a) c.loop-n.n _ _ (omega arith) (omega arith) c.top-v.ensures c.bit.ensures c.child-n.ensures).0

pub loop-n-preserved : goal.loop-n-preserved
loop-n-preserved c =
    let i = c.loop-n.invariant in
    let q = value_child c.args.d.standard (bit_at c.args.a) c.loop-n.n _ _ (omega arith) (omega arith) c.top-v.ensures c.bit.ensures c.child-n.ensures in
    (omega (arith, q.0, i.0), q.1 ∙ i.1)

pub returns : goal.returns
returns c = value_end _ _ _ (omega arith) ∙ c.loop-n.invariant.1
