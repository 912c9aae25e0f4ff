use Rattle.std.proofs.Common.{length}
use Rattle.model.specs.Access.{half_step}
use Rattle.addresses.proofs.LoopLaws.{WordLoop}
use Rattle.merging.proofs.each_half.Given as goal

abbrev pub invariant-loop-k : goal.invariant-loop-k
invariant-loop-k g l = WordLoop (half_step g.x) (length l.initial.word) l.initial.word l.initial.build l.build l.word l.k
