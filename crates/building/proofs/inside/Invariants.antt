use Rattle.std.proofs.Common.{length, get_or}
use Rattle.model.specs.Access.{inside_half}
use Rattle.addresses.proofs.LoopLaws.{Loop}
use Rattle.building.proofs.inside.Given as goal

abbrev pub invariant-loop-p : goal.invariant-loop-p
invariant-loop-p l = Loop (λ j. inside_half (get_or l.x j 0) (get_or l.y j 0)) (length l.x) 1 l.initial.build l.build l.c (length l.yielded)
