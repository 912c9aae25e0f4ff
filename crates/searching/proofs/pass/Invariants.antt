use Rattle.std.proofs.Common.{◌-◌}
use Rattle.searching.specs.Children.{Passed}
use Rattle.searching.proofs.pass.Given as goal

abbrev pub invariant-loop-i : goal.invariant-loop-i
invariant-loop-i l = Passed l.words l.count l.x l.from l.i

abbrev pub decreases-loop-i : goal.decreases-loop-i
decreases-loop-i l = l.count - l.i
