-- The number on the last line of an accepted case.
use mathlib.Core.Path.{◌≡◌, refl, ap, ◌∙◌}
use mathlib.Core.List.{List, [], ◌∷◌, ◌++◌, append_assoc}
use Prim.Native.Nat.{ℕ}
use Rattle.lines.specs.Lines.{end_line}
use Rattle.model.specs.Record.{Record}
use Rattle.model.specs.Step.{State, Call, step, run}
use Rattle.model.specs.Count.{CountExactly}
use Rattle.model.proofs.CountFresh.{count-exactly}
use Rattle.cases.specs.Case.{line_of}
use Rattle.cases.specs.Claims.{calls_in, state_in, lines_of, CaseText, access_lines, CasePrints, CaseCount}
use Rattle.cases.proofs.CaseLaws.{case-text, case-begins}
use Rattle.cases.proofs.PrintLaws.{case_prints}

-- the lines are those of the accesses, and then the last
lines_end : (cs : List Call) (s : State) → lines_of cs s ≡ access_lines cs s ++ end_line (run cs s).rec.entries
unfolding run
lines_end [] s = refl
lines_end (c ∷ cs) s = rw (append_assoc) (ap (λ (l : List ℕ). line_of (step c s).answer (step c s).after ++ l) (lines_end cs (step c s).after))

pub case_count : CaseCount
unfolding CaseCount CaseText CasePrints CountExactly
case_count file words list text k r e =
    let s = state_in file words list in
    let C = count-exactly s (case-begins file words list text k r e) (calls_in file) in
    record {
      entries = ap (λ (x : Record). x.entries) (case-text file words list text k r e).last ∙ C;
      ends = (case_prints file words list text).0 k r e ∙ lines_end (calls_in file) s ∙ ap (λ (j : ℕ). access_lines (calls_in file) s ++ end_line j) C;
    }
