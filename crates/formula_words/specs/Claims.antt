-- What follows of every formula, for C: 0 is all made, and what a formula that is refused by itself leaves.
use Rattle.std.specs.Prelude.{◌≡◌, ◌↔◌, List, [], ℕ, length}
use Rattle.model.specs.Frames.{clears, words_after}
use Rattle.formula_calls.specs.Call.{Making, faulty, refused_by, all_made, formula_step}
use Rattle.record_words.specs.Words.{state_in}
use Rattle.formula_words.specs.Contract.{left_formula, formula_called}

-- "0 or the number": 0 exactly where all that are listed were made
unfoldable pub ZeroMakesAll : Type 0
ZeroMakesAll =
    (k : Making) (text table r w l a : List ℕ) (n m p : ℕ)
    → ((formula_called k text table r w l a n m p).told.number ≡ 0) ↔ ((j : ℕ) × ((formula_step k text table a (state_in r w l [])).answer ≡ all_made j))

-- refused by the call itself: record, list and answer words are untouched, node words too, but for those that 9 clears, and of the out-words all but the place of a fault
pub record RefusedLeft (k : Making) (text table r w l a : List ℕ) (n m p : ℕ) : Type 0 where
  pub by_row : (j : ℕ) → (formula_step k text table a (state_in r w l [])).answer ≡ refused_by j → formula_called k text table r w l a n m p ≡ left_formula j r (words_after (clears j) (state_in r w l [])) l a n m p
  pub by-text : (j i : ℕ) → (formula_step k text table a (state_in r w l [])).answer ≡ faulty j i → formula_called k text table r w l a n m p ≡ left_formula j r w l a n m i

unfoldable pub FormulaRefusedLeft : Type 0
FormulaRefusedLeft = (k : Making) (text table r w l a : List ℕ) (n m p : ℕ) → length r ≡ 6 → RefusedLeft k text table r w l a n m p
