-- What a formula promises of the record.
use Rattle.std.specs.Prelude.{List, ℕ, Result}
use Rattle.formula_calls.specs.Call.{Making}
use Rattle.formula_calls.specs.Chain.{FormulaAnswered}
use Rattle.formula_access.specs.declared.FormulaRefusal.{FormulaRefusal}
use Rattle.formula_access.specs.Contract.{answer_of}
use Rattle.memory.specs.declared.Record.{Record}
use Rattle.memory.specs.Contract.{state_of}

-- a formula, which is lent no ports: whatever they are, they stay
abbrev pub FormulaAnswersAnyPorts : Making → List ℕ → List ℕ → List ℕ → Record → List ℕ → List ℕ → Record → List ℕ → List ℕ → List ℕ → Result ℕ FormulaRefusal → Type 0
FormulaAnswersAnyPorts k text predicates out r w l r' w' l' out' x = (ps : List ℕ) → FormulaAnswered k text predicates out (state_of r w l ps) (state_of r' w' l' ps) out' (answer_of x)
