-- What a read promises.
use Rattle.std.specs.Prelude.{◌≡◌, List, ℕ, Result}
use Rattle.refusals.specs.declared.Refusal.{Refusal}
use Rattle.model.specs.Step.{State, read, filled, Answer, answer_words}
use Rattle.rows.specs.Contract.{Answers, Next, answer_by}

-- what a read answers: the words that it fills
abbrev pub read_answer : Result (Unit {0}) Refusal → List ℕ → Answer
read_answer x out = answer_by x (λ u. filled out)

-- its step, and the answer words as it leaves them
pub record Reads (s : State) (p : ℕ) (e a out : List ℕ) (t : State) (x : Answer) (out' : List ℕ) : Type 0 where
  pub is : Answers (read p e a out) s t x
  pub leaves : out' ≡ answer_words x out

-- of a valid memory, with the table lent
pub record ReadsOn (s : State) (p : ℕ) (e a out : List ℕ) (t : State) (x : Answer) (out' table : List ℕ) : Type 0 where
  pub is : Reads s p e a out t x out'
  pub sound : Next t x table
