use Rattle.std.proofs.Common.{ap, not}
use Rattle.model.specs.Rows.{row1}
use borrow.Author.Tests.{lt-leb, le-leb}
use Rattle.nodes.proofs.TestLaws.{test_fails, test-holds}
use Rattle.node_calls.proofs.fresh_row.Goals as goal

pub returns-then-not-in_range : goal.returns-then-not-in_range
unfolding row1
returns-then-not-in_range c = rw (test_fails c.in_range.ensures (ap not c.if-not-in_range.true))

pub returns-then-words-lt6 : goal.returns-then-words-lt6
unfolding row1
returns-then-words-lt6 c = rw (test-holds c.in_range.ensures (ap not c.if-not-in_range.false), lt-leb _ _ c.if-words-lt6.true)

pub returns : goal.returns
unfolding row1
returns c = rw (test-holds c.in_range.ensures (ap not c.if-not-in_range.false), le-leb _ _ c.if-words-lt6.false)
