-- What the calls promise: each is the model's `step`.
use Rattle.std.specs.Prelude.{◌≡◌, Bool, List, ℕ, Result}
use Rattle.refusals.specs.declared.Refusal.{Refusal}
use Rattle.model.specs.Step.{State, NodeCall, read, accepted, valued, node, Answer, answer_words, Access}
use Rattle.model.specs.Chain.{AnswersNode}
use Rattle.rows.specs.Contract as rows
pub use Rattle.rows.specs.Contract.{Answers, Next, AnswersOn}
pub use Rattle.node_calls.specs.Contract.{numbered, freshed}
-- what a write, a read and an assert answer by their results
pub use Rattle.write_access.specs.Contract.{write_answer}
pub use Rattle.read_access.specs.Contract.{read_answer}
pub use Rattle.assert_access.specs.Contract.{assert_answer}
use Rattle.memory.specs.declared.Record.{Record}

-- the record, node words, list and ports of a call
abbrev pub state_of : Record → List ℕ → List ℕ → List ℕ → State
state_of r w l ps = rows.ported_of r.fields w l ps

-- of a call that sees no ports
abbrev pub memory_of : Record → List ℕ → List ℕ → State
memory_of r w l = rows.state_of r.fields w l

-- what the other calls answer by their results
abbrev pub fresh_answer : Result (Unit {0}) Refusal → Answer
fresh_answer x = rows.answer_by x (λ u. accepted)

abbrev pub check_answer : Result (Unit {0}) Refusal → Answer
check_answer x = rows.answer_by x (λ u. accepted)

abbrev pub node_answer : Result ℕ Refusal → Answer
node_answer x = rows.answer_by x node

abbrev pub value_answer : Result Bool Refusal → Answer
value_answer x = rows.answer_by x valued

-- an access that is lent no ports: whatever they are, they stay
abbrev pub AnswersAnyPorts : Access → Record → List ℕ → List ℕ → Record → List ℕ → List ℕ → Answer → Type 0
AnswersAnyPorts c r w l r' w' l' a = (ps : List ℕ) → Answers c (state_of r w l ps) (state_of r' w' l' ps) a

-- to a valid memory, with the table lent
pub record AnswersOnAnyPorts (c : Access) (r : Record) (w l : List ℕ) (r' : Record) (w' l' : List ℕ) (a : Answer) (table : List ℕ) : Type 0 where
  pub is : AnswersAnyPorts c r w l r' w' l' a
  pub sound : Next (memory_of r' w' l') a table

-- a call that is lent no list and no ports: whatever they are, they stay
abbrev pub AnswersNoList : NodeCall → Record → List ℕ → Record → List ℕ → Answer → Type 0
AnswersNoList c r w r' w' a = (l ps : List ℕ) → AnswersNode c (state_of r w l ps) (state_of r' w' l ps) a

-- a read at port p: its step, and the answer words as it leaves them
pub record ReadAnswers (r : Record) (w l ps : List ℕ) (p : ℕ) (e a out : List ℕ) (r' : Record) (w' ps' out' : List ℕ) (x : Result (Unit {0}) Refusal) : Type 0 where
  pub is : Answers (read p e a out) (state_of r w l ps) (state_of r' w' l ps') (read_answer x out')
  pub leaves : out' ≡ answer_words (read_answer x out') out

pub record ReadAnswersOn (r : Record) (w l ps : List ℕ) (p : ℕ) (e a out : List ℕ) (r' : Record) (w' ps' out' : List ℕ) (x : Result (Unit {0}) Refusal) (table : List ℕ) : Type 0 where
  pub is : ReadAnswers r w l ps p e a out r' w' ps' out' x
  pub sound : Next (state_of r' w' l ps') (read_answer x out') table
