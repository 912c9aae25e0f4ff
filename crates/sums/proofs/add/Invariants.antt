use Rattle.sums.proofs.AddLaws.{AddLoop}
use Rattle.sums.proofs.add.Given as goal

abbrev pub invariant-loop-i : goal.invariant-loop-i
invariant-loop-i l = AddLoop l.n l.k l.address l.initial.build l.build l.out l.c l.i
