-- What is printed of a case lies in the text buffer.
use Rattle.std.proofs.Common.{◌≡◌, sym, ap, ◌∙◌, false, List, ℕ, ◌≤◌, length, Result, Ok, Err}
use Rattle.refusals.specs.Refusal.{number}
use Rattle.text.specs.declared.Writer.{Writer}
use Rattle.text.specs.Text.{growing, appended}
use Rattle.text.specs.Writer.{out_of}
use Rattle.lines.specs.Lines.{refused_line}
use Rattle.cases.specs.Case.{Case, case_of, output_of}
use Rattle.cases.specs.Claims.{CaseText}
use Rattle.cases.proofs.CaseLaws.{case-text}
use Rattle.casefile.specs.declared.CaseDone.{CaseDone}
use Rattle.casefile.specs.declared.CaseRefused.{CaseRefused}
use Rattle.casefile.specs.Contract.{answered, case_as, output_as}

-- the text length that is answered lies in the text buffer
pub done-fits : (file words list text : List ℕ) (w l b : List ℕ) {r : Result CaseDone CaseRefused} {d : CaseDone} → r ≡ Ok d → case_as r w l b ≡ case_of file words list text → d.length ≤ length text
unfolding CaseText
done-fits file words list text w l b {d = d} e f = (case-text file words list text d.length d.memory.fields (sym (ap (λ (x : Case). x.answer) f) ∙ ap answered e)).fits

-- accepted, and refused: what is to be printed
module _ (file words list text : List ℕ) (w l b : List ℕ) {r : Result CaseDone CaseRefused} (f : case_as r w l b ≡ case_of file words list text) where
  pub output-text : {d : CaseDone} → r ≡ Ok d → output_as (record { at = d.length; full = false }) w l b ≡ output_of (case_of file words list text)
  output-text e = ap (λ (x : Result CaseDone CaseRefused). output_of (case_as x w l b)) (sym e) ∙ ap output_of f

  pub output-line : {k : CaseRefused} (b' : Writer) → r ≡ Err k → out_of b' ≡ appended (refused_line (number k.refusal) k.after) (growing b 0) → output_as b'.text w l b'.buf.now ≡ output_of (case_of file words list text)
  output-line b' e g = (λ i. record { text = g i; words = w; list = l }) ∙ ap (λ (x : Result CaseDone CaseRefused). output_of (case_as x w l b)) (sym e) ∙ ap output_of f
