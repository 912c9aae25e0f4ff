-- The bytes that are printed of a case.
use mathlib.Core.Path.{◌≡◌, ap, ◌∙◌}
use mathlib.Core.List.{List, ◌++◌}
use Prim.Native.Nat.{ℕ, ◌+◌, ◌≤◌}
use native.Mathlib.Omega.{arith}
use native.Mathlib.Nat.{zero-add}
use lib.ListN.{length, take, drop}
use lib.Seq.{take-append_seam}
use Rattle.text.proofs.TextLaws.{appended-fits}
use Rattle.lines.specs.Lines.{refused_line}
use Rattle.model.specs.Record.{Record}
use Rattle.cases.specs.Case.{Answered, accepts, refuses, case_of, shown, output_of, bytes_of}
use Rattle.cases.specs.Claims.{calls_in, state_in, lines_of, CaseText, CaseRefused, CasePrints}
use Rattle.cases.proofs.CaseLaws.{case-text}
use Rattle.cases.proofs.RefusedLaws.{case-refused-after}

module _ (file words list text : List ℕ) where
  accepted_prints : (k : ℕ) (r : Record) → (case_of file words list text).answer ≡ accepts k r → bytes_of (output_of (case_of file words list text)).text ≡ lines_of (calls_in file) (state_in file words list)
  unfolding CaseText
  accepted_prints k r e =
      let P = case-text file words list text k r e in
      let xs = lines_of (calls_in file) (state_in file words list) in
      ap (λ (a : Answered). bytes_of (shown a (case_of file words list text).text)) e
      ∙ ap (λ (l : List ℕ). take k l) P.bytes
      ∙ ap (λ (i : ℕ). take i (xs ++ drop k text)) P.size
      ∙ take-append_seam xs (drop k text)

  refused_prints : (number after : ℕ) → (case_of file words list text).answer ≡ refuses number after → length (refused_line number after) ≤ length text
      → bytes_of (output_of (case_of file words list text)).text ≡ refused_line number after
  unfolding CaseRefused
  refused_prints number after e h =
      let R = case-refused-after file words list text number after e in
      let l = refused_line number after in
      let b = (case_of file words list text).text in
      let fits : 0 + length l ≤ length b = omega (arith, h, R.bytes.size) in
      ap (λ (a : Answered). bytes_of (shown a b)) e
      ∙ ap bytes_of (appended-fits l b 0 fits)
      ∙ ap (λ (i : ℕ). take i (l ++ drop (0 + length l) b)) (zero-add (length l))
      ∙ take-append_seam l _

pub case_prints : CasePrints
unfolding CasePrints
case_prints file words list text = (accepted_prints file words list text, refused_prints file words list text)
