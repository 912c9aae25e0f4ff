use Rattle.std.proofs.Common.{ℕ, ◌+◌, ◌*◌, ◌-◌, List, length}
use Rattle.conditions.specs.declared.builder.Builder.{Builder}
use Rattle.formula_walk.specs.declared.Walk.{Walk}
use Rattle.formula_walk.proofs.JoinLaws.{Joining}
use Rattle.formula_walk.proofs.+conjunction_formula_unit.Given as goal

-- three calls for each byte that is left, and the part's rank
abbrev pub decreases-conjunction : goal.decreases-conjunction
decreases-conjunction l = 3 * (length l.text.now - l.x.at) + 1

-- however far the conjunction had come behind its first unit, it has come as far behind this one
abbrev pub invariant-conjunction-loop-g : goal.invariant-conjunction-loop-g
invariant-conjunction-loop-g l =
    (b : Builder) (out' : List ℕ) (x : Walk) → Joining l.g l.o l.text b out' x l.initial.build l.initial.out l.initial.y → Joining l.g l.o l.text b out' x l.build l.out l.y

abbrev pub decreases-conjunction-loop-g : goal.decreases-conjunction-loop-g
decreases-conjunction-loop-g l = length l.text - l.y.at

abbrev pub decreases-formula : goal.decreases-formula
decreases-formula l = 3 * (length l.text.now - l.x.at) + 2

abbrev pub decreases-unit : goal.decreases-unit
decreases-unit l = 3 * (length l.text.now - l.x.at)
