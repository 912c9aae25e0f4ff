-- What the calls promise: each is the model's `step`.
use Rattle.std.specs.Prelude.{◌≡◌, Bool, false, cond, ◌&&◌, List, [], ◌∷◌, ℕ, ◌<◌, ◌≤◌, length, get_or, Result, Ok, Err}
use Rattle.refusals.specs.declared.Refusal.{Refusal}
use Rattle.refusals.specs.Refusal.{number}
use Rattle.conditions.specs.Stores.{Diagrams}
use Rattle.conditions.specs.Stores.{clear_of}
use Rattle.conditions.specs.Contract.{Sound}
use Rattle.model.specs.Record as model
use Rattle.model.specs.Rows.{Row, users, legal_pairs}
use Rattle.model.specs.Step.{State, Access, NodeCall, Given, Answer, refused, done, is_refused, begin}
use Rattle.model.specs.Chain.{AnswersNode}
pub use Rattle.model.specs.Chain.{Answers}

-- the record, node words and list of a call that is lent no ports: none are seen
abbrev pub state_of : model.Record → List ℕ → List ℕ → State
state_of r w l = record { rec = r; words = w; list = l; ports = [] }

-- and of one that is lent ports
abbrev pub ported_of : model.Record → List ℕ → List ℕ → List ℕ → State
ported_of r w l ps = record { rec = r; words = w; list = l; ports = ps }

-- what a call answers by its result: refused by a row's number, or what it gives
abbrev pub answer_by : {A : Type 0} → Result A Refusal → (A → Given) → Answer
answer_by (Ok a) g = done (g a)
answer_by (Err k) g = refused (number k)

-- diagrams over these words and this count, where there are any
abbrev pub Over : List ℕ → ℕ → Result Diagrams Refusal → Type 0
Over w c (Ok d) = (d.words.now ≡ w) × (d.count ≡ c)
Over w c (Err k) = Unit {0}

-- a call that is lent no list: whatever the list is, it stays
abbrev pub AnswersAnyList : NodeCall → model.Record → List ℕ → model.Record → List ℕ → Answer → Type 0
AnswersAnyList c r w r' w' a = (l : List ℕ) → AnswersNode c (state_of r w l) (state_of r' w' l) a

-- where an access is accepted, the computed table is right for the next
abbrev pub Next : State → Answer → List ℕ → Type 0
Next t a table = is_refused a ≡ false → Sound t.words table (begin t.rec)

-- an access to a valid memory, with the table lent
pub record AnswersOn (c : Access) (s t : State) (a : Answer) (table : List ℕ) : Type 0 where
  pub is : Answers c s t a
  pub sound : Next t a table

-- the words of a call that is refused after it has built, or is not, and its result: "After 9 .. all node words from the count to capacity are 0"
abbrev pub cleared_where : List ℕ → ℕ → Bool → Refusal → List ℕ × Result (Unit {0}) Refusal
cleared_where w c refuses k = (cond refuses (clear_of w c) w, cond refuses (Err k) (Ok tt))

-- these are the words w' and the result x
pub record Cleared (w : List ℕ) (c : ℕ) (refuses : Bool) (k : Refusal) (w' : List ℕ) (x : Result (Unit {0}) Refusal) : Type 0 where
  pub is : (w', x) ≡ cleared_where w c refuses k

-- rows 5 and 6 of an access: of words of control with k pairs, of an address, and of data with m pairs
abbrev pub argument_rows : model.Record → List ℕ → List ℕ → ℕ → List ℕ → List ℕ → ℕ → List Row
argument_rows r w c k a d m = (5, users r w c && users r w a && users r w d) ∷ (6, legal_pairs r w c k && legal_pairs r w a r.sizes.n && legal_pairs r w d m) ∷ []

-- the first k words of a slice are nodes
pub record FirstNodes (c k : ℕ) (ws : List ℕ) : Type 0 where
  pub at : (i : ℕ) → i < k → get_or ws i 0 < c

-- a list with space for one entry more, and the entry's address and data
pub record EntryFits (r : model.Record) (l a d : List ℕ) : Type 0 where
  pub few : r.sizes.n ≤ 8
  pub wide : r.sizes.w ≤ 16
  pub space : r.entries < model.list_capacity r l
  pub pairs : length a ≡ model.address_words r
  pub word : length d ≡ model.cell_words r
