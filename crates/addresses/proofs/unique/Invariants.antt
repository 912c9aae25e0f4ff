use Rattle.model.specs.Record.{h_at, l_at}
use Rattle.model.specs.Access.{unique_bit}
use Rattle.addresses.proofs.LoopLaws.{Loop}
use Rattle.addresses.proofs.unique.Given as goal

abbrev pub invariant-loop-i : goal.invariant-loop-i
invariant-loop-i l = Loop (λ j. unique_bit (h_at l.address j) (l_at l.address j)) l.n 1 l.initial.build l.build l.u l.i
