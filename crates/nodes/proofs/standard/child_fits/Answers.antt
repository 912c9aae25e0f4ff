use mathlib.Core.Bool.{and-true, and-false}
use borrow.Author.Tests.{lt-ltb, le-ltb}
use Rattle.nodes.specs.Standard.{child_fits}
use Rattle.nodes.proofs.standard.child_fits.Goals as goal

pub returns-then-child-node : goal.returns-then-child-node
unfolding child_fits
returns-then-child-node c = rw (le-ltb _ _ c.if-child-node.true, and-false)

pub returns : goal.returns
unfolding child_fits
returns c = rw (c.top-2.ensures, c.top.ensures, lt-ltb _ _ c.if-child-node.false, and-true)
