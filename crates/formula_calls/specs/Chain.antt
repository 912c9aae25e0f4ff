-- Of the calls as they ran, formulas among them: "demand 3's lists" hold the accesses that a formula made.
use Rattle.std.specs.Prelude.{◌≡◌, Bool, List, [], ◌∷◌, ◌++◌, ℕ, ◌^◌, ◌<◌}
use Rattle.conditions.specs.Assignment.{bit_at}
use Rattle.semantics.specs.declared.Sizes.{Sizes}
use Rattle.model.specs.Record.{Record}
use Rattle.model.specs.Step.{State, Call, accepted, done, step, fresh}
use Rattle.semantics.specs.Claims.{ExactlyAsRuns}
use Rattle.model.specs.Claims.{told}
use Rattle.model.specs.Chain.{Answered, Link, Chained, last_state, fed_of, events_of, MayBe, freshed}
use Rattle.model.specs.Count.{entry_count, total}
use Rattle.formula_calls.specs.Call.{Making, FormulaAnswer, formula_step}
use Rattle.formula_calls.specs.Claims.{calls_of}

-- a formula call, what it answered, and what it left, its answer words with it
pub record FormulaLink : Type 0 where
  pub making : Making
  pub text : List ℕ
  pub table : List ℕ
  pub out : List ℕ
  pub answer : FormulaAnswer
  pub after : State
  pub words : List ℕ

-- the promise of a formula call
abbrev pub FormulaAnswered : Making → List ℕ → List ℕ → List ℕ → State → State → List ℕ → FormulaAnswer → Type 0
FormulaAnswered k text table out s t out' a = formula_step k text table out s ≡ record { answer = a; after = t; words = out' }

-- a list of calls that ran, formulas among them
pub data AnyLink : Type 0 where
  call : Link → AnyLink
  formula : FormulaLink → AnyLink

abbrev pub after_link : AnyLink → State
after_link (call k) = k.after
after_link (formula k) = k.after

-- each met its promise, on what the last one left
abbrev pub AnswersLink : State → AnyLink → Type 0
AnswersLink s (call k) = Answered k.call s k.after k.answer
AnswersLink s (formula k) = FormulaAnswered k.making k.text k.table k.out s k.after k.words k.answer

abbrev pub AllChained : State → List AnyLink → Type 0
AllChained s [] = Unit {0}
AllChained s (k ∷ ks) = AnswersLink s k × AllChained (after_link k) ks

abbrev pub last_of : State → List AnyLink → State
last_of s [] = s
last_of s (k ∷ ks) = last_of (after_link k) ks

-- the links of calls that are made one after the other
abbrev pub links_of : State → List Call → List Link
links_of s [] = []
links_of s (c ∷ cs) = record { call = c; answer = (step c s).answer; after = (step c s).after } ∷ links_of (step c s).after cs

-- the list with each formula as the calls that it stands for: its conditions, and the accesses up to and with the first that was refused
abbrev pub spelled_out : State → List AnyLink → List Link
spelled_out s [] = []
spelled_out s (call k ∷ ks) = k ∷ spelled_out k.after ks
spelled_out s (formula k ∷ ks) = links_of s (calls_of k.making k.text k.table k.out s) ++ spelled_out k.after ks

-- it is a chain of calls that ran, and leaves the same state
pub record SpelledOut (s : State) (ks : List AnyLink) : Type 0 where
  pub chained : Chained s (spelled_out s ks)
  pub last : last_state s (spelled_out s ks) ≡ last_of s ks

unfoldable pub AnySpelledOut : Type 0
AnySpelledOut = (s : State) (ks : List AnyLink) → AllChained s ks → SpelledOut s ks

-- demand 3 of every list of calls and formulas that ran from an accepted Fresh: read bits, held words and the check condition in the state after the last are exactly what the plain runs of its accesses give
abbrev pub AnyExactlyRuns : State → List AnyLink → (ℕ → Bool) → Type 0
AnyExactlyRuns s ks φ = ExactlyAsRuns s.rec.sizes (events_of φ s (spelled_out s ks)) (told φ (MayBe φ (spelled_out s ks)) (last_of s ks))

unfoldable pub FormulaChainExactly : Type 0
FormulaChainExactly =
    (given : Record) (z : Sizes) (ws ps : List ℕ) (s : State) → freshed (fresh given z ws ps) ≡ (done accepted, s.rec, s.words, s.ports)
    → (ks : List AnyLink) → AllChained s ks → (a : ℕ) → a < 2 ^ 64 → AnyExactlyRuns s ks (bit_at a)

-- and the count of its entries
unfoldable pub FormulaChainCount : Type 0
FormulaChainCount =
    (given : Record) (z : Sizes) (ws ps : List ℕ) (s : State) → freshed (fresh given z ws ps) ≡ (done accepted, s.rec, s.words, s.ports)
    → (ks : List AnyLink) → AllChained s ks → total (last_of s ks).rec ≡ entry_count s.rec.sizes (fed_of s (spelled_out s ks))
