use Rattle.std.proofs.Common.{true, ◌+◌, sym, ap, ◌∙◌, arith}
use Rattle.diagrams.specs.Value.{tree_of}
use Rattle.diagrams.specs.Witness.{path}
use Rattle.diagrams.proofs.AssignmentLaws.{number_fits}
use Rattle.diagrams.proofs.WitnessLaws.{witness_end, witness_low, witness-high}
use Rattle.diagrams.proofs.witness.Goals as goal

pub power-a-requires : goal.power-a-requires
power-a-requires c = omega (arith, c.top.ensures, (c.args.d.standard.shape c.loop-n.n c.loop-n-test.true c.loop-n.invariant.0).small)

pub overflow_add-a : goal.overflow_add-a
overflow_add-a c =
    let e = witness-high c.args.d.standard c.loop-n.n c.top.result c.loop-n-test.true c.loop-n.invariant.0 (sym c.low-low.ensures ∙ c.if-low-eq0.true) c.top.ensures in
    omega (arith, e, c.power-a.ensures, c.loop-n.invariant.1, number_fits 64 (path (tree_of c.args.d.words.now c.args.node)))

pub loop-n-smaller-then-low-eq0 : goal.loop-n-smaller-then-low-eq0
loop-n-smaller-then-low-eq0 c = omega (arith, c.high-n.ensures, (c.args.d.standard.shape c.loop-n.n c.loop-n-test.true c.loop-n.invariant.0).below true)

pub loop-n-preserved-then-low-eq0 : goal.loop-n-preserved-then-low-eq0
loop-n-preserved-then-low-eq0 c =
    let e = witness-high c.args.d.standard c.loop-n.n c.top.result c.loop-n-test.true c.loop-n.invariant.0 (sym c.low-low.ensures ∙ c.if-low-eq0.true) c.top.ensures in
    let b = (c.args.d.standard.shape c.loop-n.n c.loop-n-test.true c.loop-n.invariant.0).below true in
    (omega (arith, b, c.high-n.ensures, c.loop-n.invariant.0), rw c.high-n.ensures (omega (arith, e, c.power-a.ensures, c.loop-n.invariant.1)))

pub loop-n-smaller : goal.loop-n-smaller
loop-n-smaller c = (witness_low c.args.d.standard c.loop-n.n c.low-low.result c.loop-n-test.true c.loop-n.invariant.0 c.low-low.ensures c.if-low-eq0.false).0

pub loop-n-preserved : goal.loop-n-preserved
loop-n-preserved c =
    let s = witness_low c.args.d.standard c.loop-n.n c.low-low.result c.loop-n-test.true c.loop-n.invariant.0 c.low-low.ensures c.if-low-eq0.false in
    (omega (arith, s.0, c.loop-n.invariant.0), ap (c.loop-n.a +◌) s.1 ∙ c.loop-n.invariant.1)

pub returns : goal.returns
returns c = omega (arith, witness_end c.args.d.standard c.loop-n.n (omega arith), c.loop-n.invariant.1)
