use Rattle.std.proofs.Common.{not, ap, arith}
use Rattle.nodes.proofs.TestLaws.{every_fails, every-goes_on, every-stops}
use Rattle.ports.proofs.NameLaws.{told}
use Rattle.ports.proofs.all_name_nodes.Goals as goal

pub returns-then-not-all_users : goal.returns-then-not-all_users
returns-then-not-all_users c = every_fails _ _ _ c.loop-p.invariant c.loop-p-test.true (told c.args.d.words.now c.args.d.count c.args.ports.now c.args.k c.loop-p.p (omega (arith, c.requires)) c.all_users.ensures) (ap not c.if-not-all_users.true)

pub loop-p-preserved : goal.loop-p-preserved
loop-p-preserved c = every-goes_on _ _ _ c.loop-p.invariant c.loop-p-test.true (told c.args.d.words.now c.args.d.count c.args.ports.now c.args.k c.loop-p.p (omega (arith, c.requires)) c.all_users.ensures) (ap not c.if-not-all_users.false)

pub returns : goal.returns
returns c = every-stops _ _ _ c.loop-p.invariant (omega arith)
