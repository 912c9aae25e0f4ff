use Rattle.std.proofs.Common.{ap, not}
use Rattle.nodes.proofs.TestLaws.{test_fails, test-holds}
use Rattle.model.specs.Rows.{row1}
use Rattle.rows.proofs.CallLaws.{store_read}
use Rattle.rows.proofs.store_row.Goals as goal

pub returns-then-not-in_range : goal.returns-then-not-in_range
unfolding row1
returns-then-not-in_range c = (rw (test_fails c.in_range.ensures (ap not c.if-not-in_range.true)), tt)

pub returns : goal.returns
unfolding row1
returns c = rw c.ok_or.ensures.value (store_read c.args.r c.args.words.now (rw (test-holds c.in_range.ensures (ap not c.if-not-in_range.false))) c.read.result c.read.ensures)
