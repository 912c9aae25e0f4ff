use Rattle.std.proofs.Common.{not, ap, arith}
use Rattle.nodes.proofs.TestLaws.{every_fails, every-goes_on, every-stops}
use Rattle.rows.proofs.slices.all_users.Goals as goal

pub returns-then-not-is_user : goal.returns-then-not-is_user
returns-then-not-is_user c = every_fails _ _ _ c.loop-i.invariant c.loop-i-test.true c.is_user.ensures (ap not c.if-not-is_user.true)

pub loop-i-preserved : goal.loop-i-preserved
loop-i-preserved c = every-goes_on _ _ _ c.loop-i.invariant c.loop-i-test.true c.is_user.ensures (ap not c.if-not-is_user.false)

pub returns : goal.returns
returns c = every-stops _ _ _ c.loop-i.invariant (omega arith)
