use Rattle.preparing.proofs.PassLaws.{WrittenTo}
use Rattle.preparing.proofs.list_steps.Given as goal

abbrev pub invariant-loop-step : goal.invariant-loop-step
invariant-loop-step l = WrittenTo l.text l.initial.build l.initial.answer l.predicates l.count l.listed l.build l.answer l.written l.step
