-- What the functions promise, in the words of `Case`.
use Rattle.std.specs.Prelude.{◌≡◌, cond, List, ℕ, Result, Ok, Err}
use Rattle.refusals.specs.declared.Refusal.{Refusal}
use Rattle.refusals.specs.declared.Refusal.TheVariants as row
use Rattle.refusals.specs.Refusal.{number}
use Rattle.text.specs.declared.Text.{Text}
use Rattle.text.specs.declared.Writer.{Writer}
use Rattle.text.specs.Writer.{out_of}
use Rattle.conditions.specs.Contract.{Sound}
use Rattle.model.specs.Step.{begin}
use Rattle.model.specs.Frames.{Valid, PortsValid}
use Rattle.memory.specs.declared.Record.{Record}
use Rattle.memory.specs.Contract.{state_of, memory_of}
use Rattle.cases.specs.Case.{Running, Next, goes, stops}
use Rattle.case_entries.specs.declared.Run.{Run}

-- a running case, with node words, list, writer and ports
abbrev pub running_of : Run → List ℕ → List ℕ → Writer → List ℕ → Running
running_of c w l b ps = record { state = state_of c.memory w l ps; at = c.at; text = out_of b }

abbrev pub next_of : Result Run Refusal → List ℕ → List ℕ → Writer → List ℕ → Next
next_of (Ok c) w l b ps = goes (running_of c w l b ps)
next_of (Err k) w l b ps = stops (number k)

abbrev pub printed_as : Text → Run → Result Run Refusal
printed_as t c = cond t.full (Err row.BufferShort) (Ok c)

-- rows 1 to 3 refuse nothing, and the computed table is right: an access that sees no ports may be done. No field of a type: a refused access leaves a table that may name nodes which were cleared
pub record Ready (m : Record) (w l table : List ℕ) : Type 0 where
  pub valid : Valid (memory_of m w l)
  pub sound : Sound w table (begin m.fields)

abbrev pub ReadyNext : Result Run Refusal → List ℕ → List ℕ → List ℕ → Type 0
ReadyNext (Ok c) w l table = Ready c.memory w l table
ReadyNext (Err k) w l table = Unit {0}

-- and row 3 refuses no port to a read
abbrev pub PortsReadyNext : Result Run Refusal → List ℕ → List ℕ → List ℕ → Type 0
PortsReadyNext (Ok c) w l ps = PortsValid (state_of c.memory w l ps)
PortsReadyNext (Err k) w l ps = Unit {0}

-- the case after an access; and, as it implies, the next access may be done
pub record StepAs (r : Result Run Refusal) (w l : List ℕ) (b : Writer) (table ps : List ℕ) (x : Next) : Type 0 where
  pub is : next_of r w l b ps ≡ x
  pub ready : ReadyNext r w l table
