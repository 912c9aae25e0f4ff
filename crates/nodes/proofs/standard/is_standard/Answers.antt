use Rattle.std.proofs.Common.{ap, not}
use native.Mathlib.Omega.{arith}
use Rattle.nodes.specs.Standard.{is_standard}
use Rattle.nodes.proofs.StandardLaws.{counted_is}
use Rattle.nodes.proofs.TestLaws.{test_fails, test-holds}
use Rattle.nodes.proofs.standard.is_standard.Goals as goal

pub returns-then-not-is_counted : goal.returns-then-not-is_counted
unfolding is_standard
returns-then-not-is_counted c = rw (test_fails c.is_counted.ensures (ap not c.if-not-is_counted.true))

pub has_terminals-requires : goal.has_terminals-requires
has_terminals-requires c = (counted_is _ _ (test-holds c.is_counted.ensures (ap not c.if-not-is_counted.false))).six

pub returns-then-not-has_terminals : goal.returns-then-not-has_terminals
unfolding is_standard
returns-then-not-has_terminals c = rw (test-holds c.is_counted.ensures (ap not c.if-not-is_counted.false), test_fails c.has_terminals.ensures (ap not c.if-not-has_terminals.true))

pub all_shaped-requires : goal.all_shaped-requires
all_shaped-requires c = let k = counted_is _ _ (test-holds c.is_counted.ensures (ap not c.if-not-is_counted.false)) in omega arith

pub returns-then-not-all_shaped : goal.returns-then-not-all_shaped
unfolding is_standard
returns-then-not-all_shaped c = rw (test-holds c.is_counted.ensures (ap not c.if-not-is_counted.false), test-holds c.has_terminals.ensures (ap not c.if-not-has_terminals.false), test_fails c.all_shaped.ensures (ap not c.if-not-all_shaped.true))

pub all_differ-requires : goal.all_differ-requires
all_differ-requires c = let k = counted_is _ _ (test-holds c.is_counted.ensures (ap not c.if-not-is_counted.false)) in omega arith

pub returns : goal.returns
unfolding is_standard
returns c = rw (test-holds c.is_counted.ensures (ap not c.if-not-is_counted.false), test-holds c.has_terminals.ensures (ap not c.if-not-has_terminals.false), test-holds c.all_shaped.ensures (ap not c.if-not-all_shaped.false)) c.all_differ.ensures
