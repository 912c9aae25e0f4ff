-- A node stands for what it stood for, whatever calls are made.
use mathlib.Core.Path.{◌≡◌, refl, sym, ap, subst}
use mathlib.Core.Bool.{Bool, true, false, true≢false}
use mathlib.Core.List.{List, [], ◌∷◌}
use Prim.Native.Nat.{ℕ}
use Rattle.formulas.specs.Language.{Listed}
use Rattle.conditions.specs.Build.{Outcome}
use Rattle.conditions.specs.Meaning.{Meaning, Stands, Builds}
use Rattle.conditions.proofs.Promises.{standard_is, is-standard, keep, clear-keep}
use Rattle.model.specs.Formula.{Triple}
use Rattle.model.specs.Step.{State, with_words, Call, Answer, refused, done, is_refused, begin, step, run}
use Rattle.model.specs.Frames.{words_after, clears, Extended, SuccessLeaves, RefusalLeaves, Valid, StaysValid}
use Rattle.model.specs.Table.{AllHold}
use Rattle.model.proofs.FactLaws.{row1-tells, row3-tells}
use Rattle.model.proofs.FrameLaws.{stays-valid, no-upkeep}
use Rattle.model.proofs.StandLaws.{StandsIn, step_stands}
use Rattle.model.proofs.FormulaLaws.{StandListed}
use Rattle.formula_calls.proofs.FoundLaws.{memory}

-- rows 1 to 3 do not refuse
pub memory-valid : (s : State) → AllHold (memory s) → Valid s
memory-valid s A =
    record {
      one = (row1-tells s.rec s.words).so A.0;
      two = is-standard s.words s.rec.count A.1.0;
      three = (row3-tells s.rec s.words s.list).so A.1.1.0;
    }

module _ (m : Meaning) (n : ℕ) where
  run_stands : (cs : List Call) (s : State) → Valid s → StandsIn m n s → StandsIn m n (run cs s)
  unfolding run StaysValid
  run_stands [] s H N = N
  run_stands (c ∷ cs) s H N = run_stands cs (step c s).after (stays-valid c s H) (step_stands m n c s (no-upkeep c) H N)

-- and triples stay what they are
pub run-listed : (v : List ℕ) (cs : List Call) (s : State) → Valid s → (ls : List Listed) (ts : List Triple) → StandListed v ls s.words (begin s.rec) ts → let t = run cs s in StandListed v ls t.words (begin t.rec) ts
run-listed v cs s H [] [] L = tt
run-listed v cs s H [] (t ∷ ts) L = absurd L
run-listed v cs s H (l ∷ ls) [] L = absurd L
run-listed v cs s H (l ∷ ls) (t ∷ ts) L = (
  record { same_step = L.0.same_step; condition = run_stands _ t.condition cs s H L.0.condition; same-named = L.0.same-named },
  run-listed v cs s H ls ts L.1,
)
