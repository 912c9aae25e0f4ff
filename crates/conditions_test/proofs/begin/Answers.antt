use Rattle.std.proofs.Common.{sym, ◌∙◌}
use Rattle.conditions.proofs.Promises.{standard_is, zeros-sound}
use Rattle.conditions_test.proofs.begin.Goals as goal

pub invariant_of-build : goal.invariant_of-build
invariant_of-build g c = record { sound = zeros-sound _ 32768 (standard_is _ _ (sym c.is_standard-standard.ensures ∙ c.if-standard.true)) }
