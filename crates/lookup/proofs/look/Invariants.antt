use Rattle.model.specs.Record.{entry_at}
use Rattle.model.specs.Access.{entry_step}
use Rattle.addresses.specs.Contract.{shape}
use Rattle.addresses.proofs.LoopLaws.{WordLoop}
use Rattle.lookup.proofs.look.Given as goal

abbrev pub invariant-loop-j : goal.invariant-loop-j
invariant-loop-j l = WordLoop (λ k. entry_step (shape l.z 0) l.inside (entry_at (shape l.z 0) l.entries.list.now k)) l.entries.count l.initial.word l.initial.build l.build l.word l.j
