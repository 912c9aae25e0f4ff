use Rattle.std.proofs.Common.{◌-◌}
use Rattle.searching.proofs.SearchingLaws.{Came}
use Rattle.searching.proofs.search.Given as goal

abbrev pub invariant-loop-i : goal.invariant-loop-i
invariant-loop-i l = Came l.words l.count l.v l.low l.high l.i

abbrev pub decreases-loop-i : goal.decreases-loop-i
decreases-loop-i l = l.count - l.i
