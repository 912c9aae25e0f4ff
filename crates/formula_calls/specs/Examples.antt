-- 02, 'Written formulas': calls worked out by a program written from the papers alone, with truth tables, and not from these definitions. n = 1, w = 2, so that an address has two words and a predicate six.
use Rattle.std.specs.Prelude.{◌≡◌, List, [], ◌∷◌, ◌++◌, ℕ, replicate}
use Rattle.model.specs.Step.{State}
use Rattle.model.specs.Orders.{record_of, stray}
use Rattle.formula_calls.specs.Call.{Making, asserting, checking, FormulaAnswer, faulty, refused_by, stopped, all_made, formula_step}

-- with node count c, entry count e, assert condition a and check condition k: nodes 2, 3 and 4 are on variables 8, 9 and 10, and past them stand these words
abbrev pub memory : ℕ → ℕ → ℕ → ℕ → List ℕ → List ℕ → State
memory c e a k past list = record { rec = record_of 1 2 c e a k; words = (64 ∷ 0 ∷ 0 ∷ 64 ∷ 1 ∷ 1 ∷ 8 ∷ 0 ∷ 1 ∷ 9 ∷ 0 ∷ 1 ∷ 10 ∷ 0 ∷ 1 ∷ []) ++ (past ++ stray); list = list; ports = 7 ∷ [] }

-- m0 is of address 1 and data X, 0, lowest bit first, m1 of address 0 and data 0, 1; the third lacks its last word
abbrev pub predicates : List ℕ
predicates = 1 ∷ 0 ∷ 1 ∷ 1 ∷ 0 ∷ 1 ∷ 0 ∷ 1 ∷ 0 ∷ 1 ∷ 1 ∷ 0 ∷ 1 ∷ 0 ∷ 1 ∷ 1 ∷ 1 ∷ []

-- five predicates, of which m2 is of address 1 and data 1, 0, m3 of address 1 and data X, 1
abbrev pub five : List ℕ
five = 1 ∷ 0 ∷ 1 ∷ 1 ∷ 0 ∷ 1 ∷ 0 ∷ 1 ∷ 0 ∷ 1 ∷ 1 ∷ 0 ∷ 1 ∷ 0 ∷ 1 ∷ 0 ∷ 0 ∷ 1 ∷ 1 ∷ 0 ∷ 1 ∷ 1 ∷ 1 ∷ 0 ∷ 0 ∷ 1 ∷ 0 ∷ 1 ∷ 0 ∷ 1 ∷ []

-- `N(b2 -> b3 -> b4 -> m0) & (b3 -> b4 -> m1)`, with this digit for the last
abbrev pub nested : ℕ → List ℕ
nested d =
    78 ∷ 40 ∷ 98 ∷ 50 ∷ 32 ∷ 45 ∷ 62 ∷ 32 ∷ 98 ∷ 51 ∷ 32 ∷ 45 ∷ 62 ∷ 32 ∷ 98 ∷ 52 ∷ 32 ∷ 45 ∷ 62 ∷ 32 ∷ 109 ∷ 48 ∷ 41 ∷ 32 ∷ 38
    ∷ 32 ∷ 40 ∷ 98 ∷ 51 ∷ 32 ∷ 45 ∷ 62 ∷ 32 ∷ 98 ∷ 52 ∷ 32 ∷ 45 ∷ 62 ∷ 32 ∷ 109 ∷ d ∷ 41 ∷ []

-- a call by a text, lent a table, answer words and a memory: its answer, and what it leaves of the memory and of the answer words
abbrev pub Gives : Making → List ℕ → List ℕ → List ℕ → State → FormulaAnswer → State → List ℕ → Type 0
Gives k text table out s a t words = formula_step k text table out s ≡ record { answer = a; after = t; words = words }

pub record FormulasByHand : Type 0 where
  -- "And of the enclosing ones, outermost first", in text order: And(2, 3) is node 5, And(5, 4) makes 6 and 7, and And(3, 4) is 6. Asserts "ordered by step, then text": m1 is entered first
  pub arrows : Gives asserting (nested 49) predicates (replicate 7 5) (memory 5 0 1 1 (replicate 24 7) (replicate 17 5)) (all_made 2) (memory 13 2 1 1 (8 ∷ 0 ∷ 3 ∷ 9 ∷ 0 ∷ 4 ∷ 8 ∷ 0 ∷ 6 ∷ 0 ∷ 0 ∷ 1 ∷ 0 ∷ 1 ∷ 0 ∷ 10 ∷ 1 ∷ 0 ∷ 9 ∷ 1 ∷ 10 ∷ 8 ∷ 1 ∷ 11 ∷ []) (6 ∷ 0 ∷ 0 ∷ 1 ∷ 0 ∷ 1 ∷ 1 ∷ 0 ∷ 7 ∷ 0 ∷ 1 ∷ 0 ∷ 1 ∷ 1 ∷ 0 ∷ 1 ∷ 5 ∷ [])) (0 ∷ 6 ∷ 1 ∷ 1 ∷ 7 ∷ 0 ∷ 5 ∷ [])
  -- lent words for the conditions alone, the first assert meets 9; "the answer stays written"
  pub conditions-alone : Gives asserting (nested 49) predicates (replicate 7 5) (memory 5 0 1 1 (replicate 9 7) (replicate 17 5)) (stopped 9 2 0) (memory 8 0 1 1 (8 ∷ 0 ∷ 3 ∷ 9 ∷ 0 ∷ 4 ∷ 8 ∷ 0 ∷ 6 ∷ []) (replicate 17 5)) (0 ∷ 6 ∷ 1 ∷ 1 ∷ 7 ∷ 0 ∷ 5 ∷ [])
  -- lent one node less, the call itself does: it clears, and writes no answer
  pub one-node_less : Gives asserting (nested 49) predicates (replicate 7 5) (memory 5 0 1 1 (replicate 6 7) (replicate 17 5)) (refused_by 9) (memory 5 0 1 1 (replicate 6 0) (replicate 17 5)) (replicate 7 5)
  -- and with one answer word too few it meets 13 before
  pub answer-short : Gives asserting (nested 49) predicates (replicate 5 5) (memory 5 0 1 1 (replicate 6 7) (replicate 17 5)) (refused_by 13) (memory 5 0 1 1 (replicate 6 7) (replicate 17 5)) (replicate 5 5)
  -- and with `m2`, "an unfinished last one is unread", 15 before that, at its letter
  pub unfinished : Gives asserting (nested 50) predicates (replicate 5 5) (memory 5 0 1 1 (replicate 6 7) (replicate 17 5)) (faulty 15 39) (memory 5 0 1 1 (replicate 6 7) (replicate 17 5)) (replicate 5 5)
  -- `b4 -> b3 -> b2 -> m0`, lent words for its conditions alone: And(4, 3), then And with 2; innermost first would make And(3, 2)
  pub outermost-first : Gives asserting (98 ∷ 52 ∷ 32 ∷ 45 ∷ 62 ∷ 32 ∷ 98 ∷ 51 ∷ 32 ∷ 45 ∷ 62 ∷ 32 ∷ 98 ∷ 50 ∷ 32 ∷ 45 ∷ 62 ∷ 32 ∷ 109 ∷ 48 ∷ []) predicates (replicate 4 5) (memory 5 0 1 1 (replicate 6 7) (replicate 8 5)) (stopped 9 1 0) (memory 7 0 1 1 (9 ∷ 0 ∷ 4 ∷ 8 ∷ 0 ∷ 5 ∷ []) (replicate 8 5)) (0 ∷ 6 ∷ 0 ∷ 5 ∷ [])
  -- `(b2 -> b3 -> m0) & (b5 -> m1)`: And(2, 3) would be node 5; it is not there when the text is read
  pub node_of_the-text : Gives asserting (40 ∷ 98 ∷ 50 ∷ 32 ∷ 45 ∷ 62 ∷ 32 ∷ 98 ∷ 51 ∷ 32 ∷ 45 ∷ 62 ∷ 32 ∷ 109 ∷ 48 ∷ 41 ∷ 32 ∷ 38 ∷ 32 ∷ 40 ∷ 98 ∷ 53 ∷ 32 ∷ 45 ∷ 62 ∷ 32 ∷ 109 ∷ 49 ∷ 41 ∷ []) predicates (replicate 6 5) (memory 5 0 1 1 (replicate 6 7) (replicate 17 5)) (faulty 15 20) (memory 5 0 1 1 (replicate 6 7) (replicate 17 5)) (replicate 6 5)
  -- `N N(b3 -> m2) & m3`: the entries have the words of the fourth predicate and of the third, this one under node 3
  pub third_and_fourth : Gives asserting (78 ∷ 32 ∷ 78 ∷ 40 ∷ 98 ∷ 51 ∷ 32 ∷ 45 ∷ 62 ∷ 32 ∷ 109 ∷ 50 ∷ 41 ∷ 32 ∷ 38 ∷ 32 ∷ 109 ∷ 51 ∷ []) five (replicate 7 5) (memory 5 0 1 1 (replicate 9 7) (replicate 17 5)) (all_made 2) (memory 8 2 7 1 (0 ∷ 0 ∷ 1 ∷ 0 ∷ 1 ∷ 0 ∷ 9 ∷ 1 ∷ 0 ∷ []) (1 ∷ 0 ∷ 1 ∷ 0 ∷ 1 ∷ 1 ∷ 1 ∷ 0 ∷ 3 ∷ 0 ∷ 1 ∷ 0 ∷ 1 ∷ 0 ∷ 0 ∷ 1 ∷ 5 ∷ [])) (0 ∷ 1 ∷ 3 ∷ 2 ∷ 3 ∷ 2 ∷ 5 ∷ [])
  -- `(b3 -> N m0) & (b4 -> m1)`: checks, over an entry
  pub checks : Gives checking (40 ∷ 98 ∷ 51 ∷ 32 ∷ 45 ∷ 62 ∷ 32 ∷ 78 ∷ 32 ∷ 109 ∷ 48 ∷ 41 ∷ 32 ∷ 38 ∷ 32 ∷ 40 ∷ 98 ∷ 52 ∷ 32 ∷ 45 ∷ 62 ∷ 32 ∷ 109 ∷ 49 ∷ 41 ∷ []) predicates (replicate 7 5) (memory 5 1 1 1 (replicate 33 7) (1 ∷ 0 ∷ 0 ∷ 1 ∷ 2 ∷ 1 ∷ 1 ∷ 0 ∷ 5 ∷ [])) (all_made 2) (memory 15 1 1 14 (0 ∷ 0 ∷ 1 ∷ 0 ∷ 1 ∷ 0 ∷ 0 ∷ 2 ∷ 1 ∷ 0 ∷ 2 ∷ 0 ∷ 8 ∷ 1 ∷ 0 ∷ 10 ∷ 1 ∷ 0 ∷ 8 ∷ 1 ∷ 10 ∷ 9 ∷ 1 ∷ 0 ∷ 9 ∷ 10 ∷ 0 ∷ 8 ∷ 12 ∷ 13 ∷ 7 ∷ 7 ∷ 7 ∷ []) (1 ∷ 0 ∷ 0 ∷ 1 ∷ 2 ∷ 1 ∷ 1 ∷ 0 ∷ 5 ∷ [])) (0 ∷ 4 ∷ 1 ∷ 1 ∷ 3 ∷ 0 ∷ 5 ∷ [])
  -- `(b3 -> N m0) & m1 & m0`, space for one entry: "up to the first refusal, which is returned with the number made; those made stand"
  pub stopped_by-space : Gives asserting (40 ∷ 98 ∷ 51 ∷ 32 ∷ 45 ∷ 62 ∷ 32 ∷ 78 ∷ 32 ∷ 109 ∷ 48 ∷ 41 ∷ 32 ∷ 38 ∷ 32 ∷ 109 ∷ 49 ∷ 32 ∷ 38 ∷ 32 ∷ 109 ∷ 48 ∷ []) predicates (replicate 9 5) (memory 5 0 1 1 (replicate 12 7) (replicate 15 5)) (stopped 8 3 1) (memory 7 1 1 1 (0 ∷ 0 ∷ 1 ∷ 0 ∷ 1 ∷ 0 ∷ 0 ∷ 0 ∷ 0 ∷ 0 ∷ 0 ∷ 0 ∷ []) (1 ∷ 0 ∷ 0 ∷ 1 ∷ 0 ∷ 1 ∷ 1 ∷ 0 ∷ 5 ∷ 5 ∷ 5 ∷ 5 ∷ 5 ∷ 5 ∷ 5 ∷ [])) (0 ∷ 1 ∷ 1 ∷ 0 ∷ 1 ∷ 0 ∷ 1 ∷ 3 ∷ 0 ∷ [])
  -- `(b2 -> b3 -> m0) & m1`: the words of the table are tested by the check that uses them; the first names node 5, which the conditions made, the second node 40, which is not there
  pub stopped_by_a-word : Gives checking (40 ∷ 98 ∷ 50 ∷ 32 ∷ 45 ∷ 62 ∷ 32 ∷ 98 ∷ 51 ∷ 32 ∷ 45 ∷ 62 ∷ 32 ∷ 109 ∷ 48 ∷ 41 ∷ 32 ∷ 38 ∷ 32 ∷ 109 ∷ 49 ∷ []) (1 ∷ 0 ∷ 5 ∷ 1 ∷ 1 ∷ 0 ∷ 0 ∷ 1 ∷ 1 ∷ 1 ∷ 40 ∷ 0 ∷ []) (replicate 6 5) (memory 5 0 1 1 (replicate 15 7) (replicate 8 5)) (stopped 5 2 1) (memory 9 0 1 8 (8 ∷ 0 ∷ 3 ∷ 0 ∷ 0 ∷ 1 ∷ 9 ∷ 1 ∷ 0 ∷ 8 ∷ 1 ∷ 7 ∷ 7 ∷ 7 ∷ 7 ∷ []) (replicate 8 5)) (0 ∷ 5 ∷ 0 ∷ 0 ∷ 1 ∷ 1 ∷ [])
