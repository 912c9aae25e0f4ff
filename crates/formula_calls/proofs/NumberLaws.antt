-- The numbers that a formula answers.
use mathlib.Core.Path.{◌≡◌, refl}
use mathlib.Core.Logic.{◌⊎◌, inl, inr}
use mathlib.Core.List.{List}
use Prim.Native.Nat.{ℕ, zero, suc}
use native.Mathlib.Omega.{arith}
use Rattle.formulas.specs.Reading.{Limits}
use Rattle.formulas.specs.Faults.{Wrong, outside, wrong-predicate, wrong-node, deep_group, deep-next, deep_arrow}
use Rattle.model.specs.Step.{State, conditions, node_call, Answer, refused, done, triples_of, step}
use Rattle.formula_calls.specs.Call.{Making, in_order, accesses_by, make, Found, read_formula, answer_by, after_building, finish_formula, formula_step}
use Rattle.formula_calls.specs.Claims.{Numbered, FormulaNumbers}
use Rattle.formula_calls.proofs.FoundLaws.{memory_row, Finds, by-memory, by-fault, by-short, by-tree, finds, conditions-nine}

wrong_row : {l : Limits} {s x : List ℕ} {k : ℕ} → Wrong l s k x → (k ≡ 15) ⊎ (k ≡ 16)
wrong_row (outside F) = inl refl
wrong_row (wrong-predicate S N P e) = inl refl
wrong_row (wrong-node S N P e) = inl refl
wrong_row (deep_group S) = inr refl
wrong_row (deep-next S) = inr refl
wrong_row (deep_arrow S) = inr refl

made-numbered : (j n m : ℕ) → Numbered (answer_by j n m)
made-numbered zero n m = tt
made-numbered (suc j) n m = omega arith

module _ (k : Making) (text table out : List ℕ) (s : State) where
  found-numbered : (f : Found) → Finds text table out s f → Numbered (finish_formula k table out s f).answer
  found-numbered f (by-memory j F) = inl (memory_row s j F)
  found-numbered f (by-fault j p x A F e) = wrong_row F.wrong
  found-numbered f (by-short t A e l) = inr (inr refl)
  found-numbered f (by-tree t A e l) = built (step (node_call (conditions t)) s).answer refl
    where
      built : (x : Answer) → (step (node_call (conditions t)) s).answer ≡ x → Numbered (after_building k s.rec table out x (step (node_call (conditions t)) s).after).answer
      built (refused j) z = inr (inl (conditions-nine text table s t A e j z).0)
      built (done g) z = made-numbered (make (accesses_by k s.rec table (in_order (triples_of g))) (step (node_call (conditions t)) s).after).row _ _

pub formula-numbers : FormulaNumbers
unfolding FormulaNumbers formula_step
formula-numbers k text table out s = found-numbered k text table out s (read_formula text table out s) (finds text table out s)
