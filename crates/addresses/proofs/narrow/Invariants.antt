use Rattle.model.specs.Record.{h_at, l_at}
use Rattle.model.specs.Access.{narrow_bit}
use Rattle.addresses.proofs.LoopLaws.{Loop}
use Rattle.addresses.proofs.narrow.Given as goal

abbrev pub invariant-loop-i : goal.invariant-loop-i
invariant-loop-i l = Loop (λ j. narrow_bit j (h_at l.address j) (l_at l.address j)) l.n l.initial.m l.initial.build l.build l.m l.i
