-- 0 is all made, and what a formula that is refused by itself leaves.
use mathlib.Core.Path.{◌≡◌, refl, ap, ap₂, ◌∙◌}
use mathlib.Core.Logic.{inl, inr}
use mathlib.Core.List.{List, []}
use Prim.Native.Nat.{ℕ}
use native.Mathlib.Omega.{arith}
use Rattle.model.specs.Step.{State}
use Rattle.model.specs.Frames.{clears, words_after}
use Rattle.formula_calls.specs.Call.{FormulaAnswer, faulty, refused_by, stopped, all_made, FormulaResult, formula_step}
use Rattle.formula_calls.specs.Claims.{Numbered, FormulaNumbers, FormulaRefusalLeaves}
use Rattle.formula_calls.proofs.NumberLaws.{formula-numbers}
use Rattle.formula_calls.proofs.LeaveLaws.{formula-refusal-leaves}
use Rattle.record_words.specs.Words.{state_in}
use Rattle.record_words.proofs.WordsLaws.{words_back}
use Rattle.formula_words.specs.Contract.{tells, left_formula, formula_by, formula_called}
use Rattle.formula_words.specs.Claims.{ZeroMakesAll, FormulaRefusedLeft}

zero_all : (x : FormulaAnswer) (n m p : ℕ) → Numbered x → (tells x n m p).number ≡ 0 → (j : ℕ) × (x ≡ all_made j)
zero_all (faulty k i) n m p (inl e) z = absurd (omega (arith, e, z))
zero_all (faulty k i) n m p (inr e) z = absurd (omega (arith, e, z))
zero_all (refused_by k) n m p (inl e) z = absurd (omega (arith, e.0, z))
zero_all (refused_by k) n m p (inr (inl e)) z = absurd (omega (arith, e, z))
zero_all (refused_by k) n m p (inr (inr e)) z = absurd (omega (arith, e, z))
zero_all (stopped k i j) n m p e z = absurd (omega (arith, e, z))
zero_all (all_made j) n m p e z = (j, refl)

pub zero_makes_all : ZeroMakesAll
unfolding ZeroMakesAll formula_called FormulaNumbers
zero_makes_all k text table r w l a n m p =
    let x = (formula_step k text table a (state_in r w l [])).answer in
    (zero_all x n m p (formula-numbers k text table a (state_in r w l [])), λ e. ap (λ (y : FormulaAnswer). (tells y n m p).number) e.1)

-- a result as it is left, by its answer, state and answer words
left_as : (x : FormulaResult) (n m p : ℕ) (b : FormulaAnswer) (t : State) (ws : List ℕ) → x.answer ≡ b → x.after ≡ t → x.words ≡ ws → formula_by x n m p ≡ formula_by (record { answer = b; after = t; words = ws }) n m p
left_as x n m p b t ws e f g = ap₂ (λ (y : FormulaAnswer) (u : State). formula_by (record { answer = y; after = u; words = x.words }) n m p) e f ∙ ap (λ (o : List ℕ). formula_by (record { answer = b; after = t; words = o }) n m p) g

pub formula-refused-left : FormulaRefusedLeft
unfolding FormulaRefusedLeft formula_called FormulaRefusalLeaves
formula-refused-left k text table r w l a n m p six =
    let s = state_in r w l [] in
    let L = formula-refusal-leaves k text table a s in
    record {
      by_row = λ j e. left_as (formula_step k text table a s) n m p (refused_by j) _ a e (L.by_row j e).0 (L.by_row j e).1 ∙ ap (λ (z : List ℕ). left_formula j z (words_after (clears j) s) l a n m p) (words_back r six);
      by-text = λ j i e. left_as (formula_step k text table a s) n m p (faulty j i) s a e (L.by-text j i e).0 (L.by-text j i e).1 ∙ ap (λ (z : List ℕ). left_formula j z w l a n m i) (words_back r six);
    }
