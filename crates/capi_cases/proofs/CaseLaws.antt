-- A case by its answer, and the record written where it is accepted.
use Rattle.std.proofs.Common.{◌≡◌, ap, ◌∙◌, List, ℕ, Ok, Err}
use Rattle.refusals.specs.Refusal.{number}
use Rattle.casefile.specs.declared.CaseDone.{CaseDone}
use Rattle.casefile.specs.declared.CaseRefused.{CaseRefused}
use Rattle.cases.specs.Case.{Case, case_of}
use Rattle.casefile.specs.Contract.{case_as}
use Rattle.record_words.specs.Words.{words_of}
use Rattle.capi_cases.specs.Contract.{left_case, case_by, cased}

module _ (file w l b r : List ℕ) {w' l' b' : List ℕ} where
  pub case-accepted : {d : CaseDone} {r' : List ℕ} → case_as (Ok d) w' l' b' ≡ case_of file w l b → r' ≡ words_of d.memory.fields → left_case 0 w' l' b' r' d.length ≡ cased file w l b r
  unfolding cased
  case-accepted {d} p o = ap (λ (z : List ℕ). left_case 0 w' l' b' z d.length) o ∙ ap (λ (z : Case). case_by z.answer z.words z.list z.text r) p

  pub case-refused : (k : CaseRefused) {n i : ℕ} → case_as (Err k) w' l' b' ≡ case_of file w l b → n ≡ number k.refusal → i ≡ k.after → left_case n w' l' b' r i ≡ cased file w l b r
  unfolding cased
  case-refused k p e f = (λ j. left_case (e j) w' l' b' r (f j)) ∙ ap (λ (z : Case). case_by z.answer z.words z.list z.text r) p
