-- What a formula promises for C: it is `formulaStep` on the record that the six words are.
use Rattle.std.specs.Prelude.{List, [], ℕ}
use Rattle.formula_calls.specs.Call.{Making, FormulaAnswer, faulty, refused_by, stopped, all_made, FormulaResult, formula_step}
use Rattle.record_words.specs.Words.{words_of, state_in}

-- the number, and the three out-words
pub record Told : Type 0 where
  pub number : ℕ
  pub listed : ℕ
  pub made : ℕ
  pub place : ℕ

abbrev pub told : ℕ → ℕ → ℕ → ℕ → Told
told k n m p = record { number = k; listed = n; made = m; place = p }

-- "`listed` and `made` are written where the formula was read and built, `place` for 15 and 16 alone"
abbrev pub tells : FormulaAnswer → ℕ → ℕ → ℕ → Told
tells (all_made j) n m p = told 0 j j p
tells (stopped k j i) n m p = told k j i p
tells (refused_by k) n m p = told k n m p
tells (faulty k i) n m p = told k n m i

-- and what is left of the record's words, node words, list and answer words
pub record LeftFormula : Type 0 where
  pub told : Told
  pub rec : List ℕ
  pub nodes : List ℕ
  pub list : List ℕ
  pub answer : List ℕ

abbrev pub left_formula : ℕ → List ℕ → List ℕ → List ℕ → List ℕ → ℕ → ℕ → ℕ → LeftFormula
left_formula k r w l a n m p = record { told = told k n m p; rec = r; nodes = w; list = l; answer = a }

-- by a formula's result, from out-words n, m and p
abbrev pub formula_by : FormulaResult → ℕ → ℕ → ℕ → LeftFormula
formula_by x n m p = record { told = tells x.answer n m p; rec = words_of x.after.rec; nodes = x.after.words; list = x.after.list; answer = x.words }

unfoldable pub formula_called : Making → List ℕ → List ℕ → List ℕ → List ℕ → List ℕ → List ℕ → ℕ → ℕ → ℕ → LeftFormula
formula_called k text table r w l a n m p = formula_by (formula_step k text table a (state_in r w l [])) n m p
