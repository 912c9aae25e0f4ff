-- What a written formula promises: it is `formulaStep`.
use Rattle.std.specs.Prelude.{List, ℕ, Result, Ok, Err}
use Rattle.refusals.specs.Refusal.{number}
use Rattle.formula_calls.specs.Call as calls
use Rattle.formula_calls.specs.Call.{Making}
use Rattle.formula_calls.specs.Chain.{FormulaAnswered}
use Rattle.model.specs.declared.Fields.{Fields}
use Rattle.rows.specs.Contract.{state_of}
use Rattle.preparing.specs.declared.Unlisted.{Unlisted}
use Rattle.preparing.specs.declared.Unlisted.TheVariants as unlisted
use Rattle.formula_access.specs.declared.FormulaRefusal.{FormulaRefusal}
use Rattle.formula_access.specs.declared.FormulaRefusal.TheVariants as refusals

-- 02's number and values for each answer
abbrev pub answer_of : Result ℕ FormulaRefusal → calls.FormulaAnswer
answer_of (Ok listed) = calls.all_made listed
answer_of (Err (refusals.Stopped k listed made)) = calls.stopped (number k) listed made
answer_of (Err (refusals.Refused k)) = calls.refused_by (number k)
answer_of (Err (refusals.Faulty k place)) = calls.faulty (number k) place

-- a formula that is not listed refuses the call itself
abbrev pub unlisted_as : Unlisted → FormulaRefusal
unlisted_as (unlisted.Refused k) = refusals.Refused k
unlisted_as (unlisted.Faulty f) = refusals.Faulty f.refusal f.at

abbrev pub FormulaAnswers : Making → List ℕ → List ℕ → List ℕ → Fields → List ℕ → List ℕ → Fields → List ℕ → List ℕ → List ℕ → Result ℕ FormulaRefusal → Type 0
FormulaAnswers k text predicates out r w l r' w' l' out' x = FormulaAnswered k text predicates out (state_of r w l) (state_of r' w' l') out' (answer_of x)
