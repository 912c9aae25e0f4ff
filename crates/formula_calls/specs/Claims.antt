-- 02, 'Written formulas': what is claimed of the two calls.
use Rattle.std.specs.Prelude.{◌≡◌, ◌⊎◌, ◌↔◌, true, false, List, [], ◌∷◌, ◌++◌, ℕ, zero, suc, ◌+◌, ◌*◌, ◌-◌, ◌^◌, ◌<◌, ◌≤◌, T, length, get_or, take}
use Rattle.formulas.specs.Language.{Tree, Text, ordered}
use Rattle.formulas.specs.Claims.{depth, numbers, First}
use Rattle.conditions.specs.Assignment.{bit_at}
use Rattle.model.specs.Record.{Record}
use Rattle.model.specs.Formula.{Triple}
use Rattle.model.specs.Step.{State, with_words, with_ports, Access, assert, check, conditions, Call, access, node_call, Answer, refused, done, is_refused, triples_of, step, run, AllAccepted}
use Rattle.model.specs.Frames.{words_after, clears}
use Rattle.model.specs.Meanings.{AreListed}
use Rattle.model.specs.Table.{Names, memory_facts, AllHold, FirstFails, Overflows}
use Rattle.formula_calls.specs.Call.{Making, asserting, checking, limits_of, in_order, accesses_by, FormulaAnswer, faulty, refused_by, stopped, all_made, Found, turns_down, reads, read_formula, formula_step}

-- The calls that a formula stands for: none where it is refused before anything is built; else its conditions, as one node call, and its accesses in order, up to and with the first that is refused
abbrev pub unless_refused : Answer → List Call → List Call
unless_refused (refused k) cs = []
unless_refused (done g) cs = cs

unfoldable pub tried : List Access → State → List Call
tried [] s = []
tried (c ∷ cs) s = access c ∷ unless_refused (step (access c) s).answer (tried cs (step (access c) s).after)

abbrev pub tried_after : Making → Record → List ℕ → Answer → State → List Call
tried_after k r table (refused j) t = []
tried_after k r table (done g) t = tried (accesses_by k r table (in_order (triples_of g))) t

abbrev pub calls_found : Making → List ℕ → State → Found → List Call
calls_found k table s (turns_down a) = []
calls_found k table s (reads t) = node_call (conditions t) ∷ tried_after k s.rec table (step (node_call (conditions t)) s).answer (step (node_call (conditions t)) s).after

unfoldable pub calls_of : Making → List ℕ → List ℕ → List ℕ → State → List Call
calls_of k text table out s = calls_found k table s (read_formula text table out s)

-- the first m calls of a list are accepted, and the next, which is the last, is refused by row k
abbrev pub RefusedAfter : ℕ → ℕ → List Call → State → Type 0
RefusedAfter m k [] s = ⊥
RefusedAfter zero k (c ∷ cs) s = ((step c s).answer ≡ refused k) × (cs ≡ [])
RefusedAfter (suc m) k (c ∷ cs) s = (is_refused (step c s).answer ≡ false) × RefusedAfter m k cs (step c s).after

-- what an answer says of the calls: "the first refusal, which is returned with the number made"
abbrev pub Tells : FormulaAnswer → List Call → State → Type 0
Tells (faulty k p) cs s = cs ≡ []
Tells (refused_by k) cs s = (cs ≡ []) ⊎ ((k ≡ 9) × RefusedAfter 0 9 cs s)
Tells (stopped k n m) cs s = (m < n) × RefusedAfter (suc m) k cs s
Tells (all_made n) cs s = (length cs ≡ suc n) × AllAccepted cs s

-- a formula call leaves what the calls that it stands for leave, one after the other, and says which of them were accepted
pub record IsCalls (k : Making) (text table out : List ℕ) (s : State) : Type 0 where
  pub leaves : (formula_step k text table out s).after ≡ run (calls_of k text table out s) s
  pub tells : Tells (formula_step k text table out s).answer (calls_of k text table out s) s

unfoldable pub FormulaIsCalls : Type 0
FormulaIsCalls = (k : Making) (text table out : List ℕ) (s : State) → IsCalls k text table out s

-- What each refusal leaves. By the call itself: record, list and answer words as they were, and node words too, but for those that 9 clears. At an access: "those made stand, and the answer stays written"; what the
-- refused access itself leaves is as of any access
pub record RefusalLeaves (k : Making) (text table out : List ℕ) (s : State) : Type 0 where
  pub by-text : (j p : ℕ) → (formula_step k text table out s).answer ≡ faulty j p → ((formula_step k text table out s).after ≡ s) × ((formula_step k text table out s).words ≡ out)
  pub by_row : (j : ℕ) → (formula_step k text table out s).answer ≡ refused_by j → ((formula_step k text table out s).after ≡ with_words s (words_after (clears j) s)) × ((formula_step k text table out s).words ≡ out)
  pub at-access : (j n m : ℕ) → (formula_step k text table out s).answer ≡ stopped j n m
      → let t = run (take (suc m) (calls_of k text table out s)) s in (formula_step k text table out s).after ≡ with_words t (words_after (clears j) t)

unfoldable pub FormulaRefusalLeaves : Type 0
FormulaRefusalLeaves = (k : Making) (text table out : List ℕ) (s : State) → RefusalLeaves k text table out s

-- The rows once more, as facts. The text is read as the tree t
pub record ReadAs (text table : List ℕ) (s : State) (t : Tree) : Type 0 where
  pub spelled : Text text t
  pub named : T (numbers (limits_of s table) t)
  pub nested : depth t ≤ 32

-- the numbers that are not refused: a predicate of 2n + 2w words that the table has whole, and no number past 4,294,967,295; a node that 5 would not refuse
pub record NumbersExactly (table : List ℕ) (s : State) : Type 0 where
  pub predicates : (p : ℕ) → 1 ≤ s.rec.sizes.n → ((limits_of s table).predicates p ≡ true) ↔ (((p + 1) * (2 * s.rec.sizes.n + 2 * s.rec.sizes.w) ≤ length table) × (p ≤ 4294967295))
  pub nodes : (b : ℕ) → ((limits_of s table).nodes b ≡ true) ↔ Names s.rec s.words b

-- each row of the call itself is met exactly there: 1 to 3 by the memory; 15 and 16 at the first place of the text at which a row is met; 13 by an answer slice of fewer than three words for each predicate; 9 by the conditions
pub record RowsExactly (k : Making) (text table out : List ℕ) (s : State) : Type 0 where
  pub memory : (j : ℕ) → j ≤ 3 → ((formula_step k text table out s).answer ≡ refused_by j) ↔ FirstFails j (memory_facts s.rec s.words s.list [])
  pub fault : (j p : ℕ) → ((formula_step k text table out s).answer ≡ faulty j p) ↔ (AllHold (memory_facts s.rec s.words s.list []) × ((x : List ℕ) × First (limits_of s table) text j x × (p + length x ≡ length text)))
  pub short : ((formula_step k text table out s).answer ≡ refused_by 13) ↔ (AllHold (memory_facts s.rec s.words s.list []) × ((t : Tree) × ReadAs text table s t × (length out < 3 * length (ordered t))))
  pub nine : ((formula_step k text table out s).answer ≡ refused_by 9)
      ↔ (AllHold (memory_facts s.rec s.words s.list []) × ((t : Tree) × ReadAs text table s t × (3 * length (ordered t) ≤ length out) × Overflows (node_call (conditions t)) s))
  pub no_other : (j : ℕ) → (formula_step k text table out s).answer ≡ refused_by j → (j ≤ 3) ⊎ ((j ≡ 9) ⊎ (j ≡ 13))

unfoldable pub FormulaRows : Type 0
FormulaRows = (k : Making) (text table out : List ℕ) (s : State) → NumbersExactly table s × RowsExactly k text table out s

-- "three words each, step .., condition .. and predicate": these triples stand in the words ws, one after the other, and past them ws is as out
pub record StandInWords (ts : List Triple) (out ws : List ℕ) : Type 0 where
  pub long : length ws ≡ length out
  pub at : (us vs : List Triple) (t : Triple) → ts ≡ us ++ (t ∷ vs) → (get_or ws (3 * length us) 0 ≡ t.step) × (get_or ws (3 * length us + 1) 0 ≡ t.condition) × (get_or ws (3 * length us + 2) 0 ≡ t.named)
  pub past : (i : ℕ) → 3 * length ts ≤ i → get_or ws i 0 ≡ get_or out i 0

-- so many are listed
abbrev pub HasListed : FormulaAnswer → ℕ → Type 0
HasListed (faulty k p) n = ⊥
HasListed (refused_by k) n = ⊥
HasListed (stopped k j m) n = j ≡ n
HasListed (all_made j) n = j ≡ n

-- "The answer lists, three words each, step .., condition (And of the enclosing ones, outermost first) and predicate, ordered by step, then text": what stands in the answer words is what the text lists, each
-- condition under each assignment the And of the enclosing nodes, in the node words that the call left
pub record ListsText (k : Making) (text table out : List ℕ) (s : State) (n : ℕ) : Type 0 where
  pub tree : Tree
  pub triples : List Triple
  pub read : ReadAs text table s tree
  pub many : n ≡ length (ordered tree)
  pub some : 1 ≤ n
  pub fits : 3 * n ≤ length out
  pub words : StandInWords triples out (formula_step k text table out s).words
  pub means : (a : ℕ) → a < 2 ^ 64 → AreListed (bit_at a) s.words (formula_step k text table out s).after.words triples (ordered tree)

unfoldable pub FormulaLists : Type 0
FormulaLists = (k : Making) (text table out : List ℕ) (s : State) (n : ℕ) → HasListed (formula_step k text table out s).answer n → ListsText k text table out s n

-- Which accesses are made, by the words of the table alone: those of predicate p are the 2n + 2w from p(2n + 2w) on, "address, then data"
pub record PredicateAt (r : Record) (table : List ℕ) (p : ℕ) (address word : List ℕ) : Type 0 where
  pub before : List ℕ
  pub past : List ℕ
  pub is : table ≡ before ++ (address ++ (word ++ past))
  pub at : length before ≡ p * (2 * r.sizes.n + 2 * r.sizes.w)
  pub address-long : length address ≡ 2 * r.sizes.n
  pub word-long : length word ≡ 2 * r.sizes.w

-- the call is an assert, or a check, of predicate p under node b
pub data MadeOf (r : Record) (table : List ℕ) (b p : ℕ) : Making → Call → Type 0 where
  is-assert : (a d : List ℕ) → PredicateAt r table p a d → MadeOf r table b p asserting (access (assert b a d))
  is-check : (a d : List ℕ) → PredicateAt r table p a d → MadeOf r table b p checking (access (check b a d))

-- these calls, the first of which is the i-th access, are of the conditions and predicates that the answer words ws list at their places
abbrev pub MadeAsListed : Making → Record → List ℕ → List ℕ → ℕ → List Call → Type 0
MadeAsListed k r table ws i [] = Unit {0}
MadeAsListed k r table ws i (c ∷ cs) = MadeOf r table (get_or ws (3 * i + 1) 0) (get_or ws (3 * i + 2) 0) k c × MadeAsListed k r table ws (suc i) cs

-- "Asserts or checks are then made in that order": the calls that a formula stands for are the conditions of its text, and accesses as the answer words list them
pub record MakesListed (k : Making) (text table out : List ℕ) (s : State) : Type 0 where
  pub tree : Tree
  pub read : ReadAs text table s tree
  pub accesses : List Call
  pub are : calls_of k text table out s ≡ node_call (conditions tree) ∷ accesses
  pub made : MadeAsListed k s.rec table (formula_step k text table out s).words 0 accesses

unfoldable pub FormulaMakes : Type 0
FormulaMakes = (k : Making) (text table out : List ℕ) (s : State) (n : ℕ) → HasListed (formula_step k text table out s).answer n → MakesListed k text table out s

-- No port is lent to a formula: what it answers, and leaves of record, node words, list and answer words, turns on none, and all stay
unfoldable pub FormulaPortsUnseen : Type 0
FormulaPortsUnseen =
    (k : Making) (text table out : List ℕ) (s : State) (ps : List ℕ)
    → formula_step k text table out (with_ports s ps)
    ≡ record { answer = (formula_step k text table out s).answer; after = with_ports (formula_step k text table out s).after ps; words = (formula_step k text table out s).words }

-- the numbers that are answered: none is 0
abbrev pub Numbered : FormulaAnswer → Type 0
Numbered (faulty k p) = (k ≡ 15) ⊎ (k ≡ 16)
Numbered (refused_by k) = ((1 ≤ k) × (k ≤ 3)) ⊎ ((k ≡ 9) ⊎ (k ≡ 13))
Numbered (stopped k n m) = 1 ≤ k
Numbered (all_made n) = Unit {0}

unfoldable pub FormulaNumbers : Type 0
FormulaNumbers = (k : Making) (text table out : List ℕ) (s : State) → Numbered (formula_step k text table out s).answer
