-- What a write promises.
use Rattle.std.specs.Prelude.{ℕ, Option, Some, None, Result}
use Rattle.refusals.specs.declared.Refusal.{Refusal}
use Rattle.model.specs.Step.{Given, Answer, place, idle}
use Rattle.rows.specs.Contract.{answer_by}

-- the place of its entry, or idle
abbrev pub written : Option ℕ → Given
written (Some k) = place k
written None = idle

abbrev pub write_answer : Result (Option ℕ) Refusal → Answer
write_answer x = answer_by x written
