use Rattle.casefile.proofs.RestLaws.{Done}
use Rattle.case_entries.specs.Contract.{running_of}
use Rattle.cases.specs.Case.{rest}
use Rattle.casefile.proofs.accesses.do_all.Given as goal

abbrev pub invariant-loop-after : goal.invariant-loop-after
invariant-loop-after l = Done l.file l.accesses (rest l.file l.accesses 0 (running_of l.initial.c l.initial.words l.initial.list l.initial.w l.initial.ports)) l.initial.w l.words l.list l.table l.ports l.w l.c l.after-counter
