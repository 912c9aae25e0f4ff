use Rattle.std.proofs.Common.{Bool, not, ap, arith}
use Rattle.nodes.proofs.TestLaws.{every_fails, every-goes_on, every-stops}
use Rattle.rows.proofs.slices.no_fault.Goals as goal

pub returns-then-fault : goal.returns-then-fault
returns-then-fault g c = λ test ok. every_fails _ _ _ (c.loop-i.invariant test ok) c.loop-i-test.true (ap not (ok _ _ _ c.fault.ensures)) (ap (λ (x : Bool). not (not x)) c.if-fault.true)

pub loop-i-preserved : goal.loop-i-preserved
loop-i-preserved g c = λ test ok. every-goes_on _ _ _ (c.loop-i.invariant test ok) c.loop-i-test.true (ap not (ok _ _ _ c.fault.ensures)) (ap (λ (x : Bool). not (not x)) c.if-fault.false)

pub returns : goal.returns
returns g c = λ test ok. every-stops _ _ _ (c.loop-i.invariant test ok) (omega arith)
