-- What making the accesses of a formula asks and promises, with its triples in words.
use Rattle.std.specs.Prelude.{◌≡◌, List, [], ◌∷◌, ℕ, zero, suc, ◌+◌, ◌*◌, ◌<◌, ◌≤◌, length, get_or, Result, Ok, Err}
use Rattle.conditions.specs.Contract.{Sound}
use Rattle.refusals.specs.declared.Refusal.{Refusal}
use Rattle.refusals.specs.Refusal.{number}
use Rattle.model.specs.Record.{address_words, cell_words}
use Rattle.model.specs.Formula.{Triple}
use Rattle.model.specs.Step.{State, Access, Given, assert, check, begin}
use Rattle.model.specs.Frames.{Valid}
use Rattle.formula_calls.specs.Call.{Making, asserting, checking, predicate_words, accesses_by, make}
use Rattle.model.specs.declared.Fields.{Fields}
use Rattle.rows.specs.Contract.{state_of, answer_by, AnswersOn}
use Rattle.making.specs.declared.Stopped.{Stopped}

-- the triple of three words
abbrev pub triple_at : List ℕ → ℕ → Triple
triple_at ws i = record { step = get_or ws (3 * i) 0; condition = get_or ws (3 * i + 1) 0; named = get_or ws (3 * i + 2) 0 }

-- k of them, from place i on
abbrev pub triples_from : List ℕ → ℕ → ℕ → List Triple
triples_from ws i zero = []
triples_from ws i (suc k) = triple_at ws i ∷ triples_from ws (suc i) k

-- triple i stands in the words, and the table has the predicate that it names
pub record Named (r : Fields) (predicates triples : List ℕ) (i : ℕ) : Type 0 where
  pub few : r.sizes.n ≤ 8
  pub wide : r.sizes.w ≤ 16
  pub within : 3 * i + 3 ≤ length triples
  pub fits : get_or triples (3 * i + 2) 0 * predicate_words r + predicate_words r ≤ length predicates

-- a valid memory, with a computed table that is right for it
pub record Ready (r : Fields) (w l t : List ℕ) : Type 0 where
  pub valid : Valid (state_of r w l)
  pub sound : Sound w t (begin r)

-- an access of these sizes may be made
pub record MayAccess (r : Fields) (w l t a d : List ℕ) : Type 0 where
  pub ready : Ready r w l t
  pub pairs : length a ≡ address_words r
  pub word : length d ≡ cell_words r

-- an assert, or a check
abbrev pub access_of : Making → ℕ → List ℕ → List ℕ → Access
access_of asserting b a d = assert b a d
access_of checking b a d = check b a d

-- it was made, whatever it gives where it is accepted
pub record Accessed (c : Access) (s s' : State) (x : Result (Unit {0}) Refusal) (t : List ℕ) : Type 0 where
  pub gives : Given
  pub is : AnswersOn c s s' (answer_by x (λ u. gives)) t

-- accesses by the first so many
pub record MayMake (r : Fields) (w l t predicates triples : List ℕ) (listed : ℕ) : Type 0 where
  pub ready : Ready r w l t
  pub named : (i : ℕ) → i < listed → Named r predicates triples i

-- how many were made, and by what row the next is refused, or 0
abbrev pub made_many : ℕ → Result (Unit {0}) Stopped → ℕ
made_many listed (Ok u) = listed
made_many listed (Err x) = x.made

abbrev pub made_row : Result (Unit {0}) Stopped → ℕ
made_row (Ok u) = 0
made_row (Err x) = number x.refusal

-- they were made
pub record MadeAs (k : Making) (r : Fields) (w l predicates triples : List ℕ) (listed : ℕ) (r' : Fields) (w' l' : List ℕ) (x : Result (Unit {0}) Stopped) : Type 0 where
  pub is : make (accesses_by k r predicates (triples_from triples 0 listed)) (state_of r w l) ≡ record { many = made_many listed x; row = made_row x; after = state_of r' w' l' }
