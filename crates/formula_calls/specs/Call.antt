-- 02, 'Written formulas': the two calls, asserts by a written formula and checks by one.
use Rattle.std.specs.Prelude.{cond, ◌&&◌, List, [], ◌∷◌, ◌++◌, ℕ, zero, suc, ◌+◌, ◌*◌, ◌-◌, ◌/◌, ltb, leb, length, drop}
use Rattle.formulas.specs.Language.{Tree, listed, by_step}
use Rattle.formulas.specs.Reading.{Limits, Verdict, fine, wrong, judge_text}
use Rattle.conditions.specs.User.{is_user}
use Rattle.model.specs.Record.{Record, part, address_words, cell_words}
use Rattle.model.specs.Formula.{Triple}
use Rattle.model.specs.Rows.{first_row, memory_rows}
use Rattle.model.specs.Step.{State, Access, assert, check, conditions, access, node_call, Answer, refused, done, triples_of, step}

-- "Asserts or checks are then made"
pub data Making : Type 0 where
  asserting checking : Making

-- "predicate 3, counted from 0, of a lent table (address, then data; an unfinished last one is unread)"
abbrev pub predicate_words : Record → ℕ
predicate_words r = address_words r + cell_words r

abbrev pub predicates_in : Record → List ℕ → ℕ
predicates_in r table = length table / predicate_words r

abbrev pub address_at : Record → List ℕ → ℕ → List ℕ
address_at r table p = part table (p * predicate_words r) (p * predicate_words r + address_words r)

abbrev pub word_at : Record → List ℕ → ℕ → List ℕ
word_at r table p = part table (p * predicate_words r + address_words r) (p * predicate_words r + predicate_words r)

-- "a predicate past the table or 4,294,967,295, or a node that 5 would refuse": the numbers that are none of these
abbrev pub limits_of : State → List ℕ → Limits
limits_of s table = record { predicates = λ p. ltb p (predicates_in s.rec table) && leb p 4294967295; nodes = is_user s.words s.rec.count }

-- "ordered by step, then text"
abbrev pub in_order : List Triple → List Triple
in_order ts = by_step (λ (t : Triple). t.step) ts

-- "The answer lists, three words each": answer words past them stay
abbrev pub triple_words : List Triple → List ℕ
triple_words [] = []
triple_words (t ∷ ts) = t.step ∷ t.condition ∷ t.named ∷ triple_words ts

abbrev pub listed_over : List Triple → List ℕ → List ℕ
listed_over ts out = triple_words ts ++ drop (3 * length ts) out

-- the access by a triple
abbrev pub access_by : Making → Record → List ℕ → Triple → Access
access_by asserting r table t = assert t.condition (address_at r table t.named) (word_at r table t.named)
access_by checking r table t = check t.condition (address_at r table t.named) (word_at r table t.named)

abbrev pub accesses_by : Making → Record → List ℕ → List Triple → List Access
accesses_by k r table [] = []
accesses_by k r table (t ∷ ts) = access_by k r table t ∷ accesses_by k r table ts

-- accesses made "in that order up to the first refusal": how many were made, the row of that refusal, or 0, and the state that is left; "those made stand"
pub record Made : Type 0 where
  pub many : ℕ
  pub row : ℕ
  pub after : State

abbrev pub one_more : Made → Made
one_more m = record { many = suc m.many; row = m.row; after = m.after }

abbrev pub unless_refused : Answer → State → Made → Made
unless_refused (refused k) t m = record { many = 0; row = k; after = t }
unless_refused (done g) t m = one_more m

unfoldable pub make : List Access → State → Made
make [] s = record { many = 0; row = 0; after = s }
make (c ∷ cs) s = unless_refused (step (access c) s).answer (step (access c) s).after (make cs (step (access c) s).after)

-- What is answered: refused by the call itself, by 15 or 16 at a place of the text, counted from 0, or by another row; stopped at an access, by its row, with how many are listed and how many were made; or all that are listed were made
pub data FormulaAnswer : Type 0 where
  faulty : ℕ → ℕ → FormulaAnswer
  refused_by : ℕ → FormulaAnswer
  stopped : ℕ → ℕ → ℕ → FormulaAnswer
  all_made : ℕ → FormulaAnswer

-- and what is left, the answer words with it
pub record FormulaResult : Type 0 where
  pub answer : FormulaAnswer
  pub after : State
  pub words : List ℕ

-- a formula is refused before anything is built, or read
pub data Found : Type 0 where
  turns_down : FormulaAnswer → Found
  reads : Tree → Found

abbrev pub unless_row : ℕ → Found → Found
unless_row zero f = f
unless_row (suc k) f = turns_down (refused_by (suc k))

-- "13 for a short answer slice"
abbrev pub by_verdict : List ℕ → List ℕ → Verdict → Found
by_verdict text out (fine t r) = cond (leb (3 * length (listed 0 [] t)) (length out)) (reads t) (turns_down (refused_by 13))
by_verdict text out (wrong k x) = turns_down (faulty k (length text - length x))

-- "15 ..; 16 ..; both after 3, the earlier place first, then 13 for a short answer slice"
unfoldable pub read_formula : List ℕ → List ℕ → List ℕ → State → Found
read_formula text table out s = unless_row (first_row (memory_rows s.rec s.words s.list [])) (by_verdict text out (judge_text (limits_of s table) text))

abbrev pub refused_itself : FormulaAnswer → State → List ℕ → FormulaResult
refused_itself a t out = record { answer = a; after = t; words = out }

-- by the row of the first refusal, or 0
abbrev pub answer_by : ℕ → ℕ → ℕ → FormulaAnswer
answer_by zero listed many = all_made listed
answer_by (suc k) listed many = stopped (suc k) listed many

-- the conditions were built, and their triples are in order: the accesses are made, and "the answer stays written"
abbrev pub make_listed : Making → Record → List ℕ → List ℕ → List Triple → State → FormulaResult
make_listed k r table out ts t =
    let m = make (accesses_by k r table ts) t in
    record { answer = answer_by m.row (length ts) m.many; after = m.after; words = listed_over ts out }

-- 9 of the conditions refuses the call itself
abbrev pub after_building : Making → Record → List ℕ → List ℕ → Answer → State → FormulaResult
after_building k r table out (refused j) t = refused_itself (refused_by j) t out
after_building k r table out (done g) t = make_listed k r table out (in_order (triples_of g)) t

abbrev pub finish_formula : Making → List ℕ → List ℕ → State → Found → FormulaResult
finish_formula k table out s (turns_down a) = refused_itself a s out
finish_formula k table out s (reads t) = after_building k s.rec table out (step (node_call (conditions t)) s).answer (step (node_call (conditions t)) s).after

-- the call, lent a text, a table of predicates and an answer slice
unfoldable pub formula_step : Making → List ℕ → List ℕ → List ℕ → State → FormulaResult
formula_step k text table out s = finish_formula k table out s (read_formula text table out s)
