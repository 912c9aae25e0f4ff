-- What the functions promise, in the words of `Case`.
use Rattle.std.specs.Prelude.{◌≡◌, false, List, ℕ, Result, Ok, Err}
use Rattle.refusals.specs.declared.Refusal.{Refusal}
use Rattle.refusals.specs.Refusal.{number}
use Rattle.text.specs.declared.Text.{Text}
use Rattle.text.specs.declared.Writer.{Writer}
use Rattle.text.specs.Text.{out}
use Rattle.memory.specs.Contract.{state_of}
use Rattle.cases.specs.Case.{Ended, ended, stopped, Answered, accepts, refuses, Case, last, Output}
use Rattle.case_entries.specs.declared.Run.{Run}
use Rattle.case_entries.specs.Contract.{running_of}
use Rattle.casefile.specs.declared.CaseDone.{CaseDone}
use Rattle.casefile.specs.declared.CaseRefused.{CaseRefused}

-- 01's number and values for each answer
abbrev pub answered : Result CaseDone CaseRefused → Answered
answered (Ok d) = accepts d.length d.memory.fields
answered (Err r) = refuses (number r.refusal) r.after

-- the end of a case, with node words, list, text bytes and ports; the text is not full
abbrev pub ended_of : Result CaseDone CaseRefused → List ℕ → List ℕ → List ℕ → List ℕ → Ended
ended_of (Ok d) w l b ps = ended (state_of d.memory w l ps) (out b (record { at = d.length; full = false }))
ended_of (Err r) w l b ps = stopped (number r.refusal) r.after

-- with the ports as it left its own
abbrev pub EndsAs : Result CaseDone CaseRefused → List ℕ → List ℕ → List ℕ → Ended → Type 0
EndsAs r w l b x = (ps : List ℕ) × (ended_of r w l b ps ≡ x)

abbrev pub case_as : Result CaseDone CaseRefused → List ℕ → List ℕ → List ℕ → Case
case_as r w l b = record { answer = answered r; words = w; list = l; text = b }

-- a case as it is printed, with node words, list and text bytes
abbrev pub output_as : Text → List ℕ → List ℕ → List ℕ → Output
output_as t w l b = record { text = out b t; words = w; list = l }

-- an answer after so many accesses
abbrev pub after_as : {A : Type 0} → ℕ → Result A Refusal → Result A CaseRefused
after_as k (Ok a) = Ok a
after_as k (Err e) = Err (record { refusal = e; after = k })

-- the last line, whatever node words, list, ports and the number of accesses are
abbrev pub Finishes : Result CaseDone Refusal → Writer → List ℕ → Run → Writer → Type 0
Finishes r b' file c b = (k : ℕ) (w l ps : List ℕ) → ended_of (after_as k r) w l b'.buf.now ps ≡ last file k (running_of c w l b ps)
