-- A formula call is the calls that it stands for.
use mathlib.Core.Path.{◌≡◌, refl, ap, subst, ◌∙◌}
use mathlib.Core.Bool.{false}
use mathlib.Core.Logic.{inl, inr}
use mathlib.Core.List.{List, ◌∷◌}
use Prim.Native.Nat.{ℕ, zero, suc}
use lib.ListN.{length}
use Rattle.model.specs.Step.{State, conditions, Call, node_call, Answer, refused, done, is_refused, triples_of, step, run}
use Rattle.formula_calls.specs.Call.{Making, in_order, accesses_by, make, Found, turns_down, reads, read_formula, answer_by, after_building, finish_formula, formula_step}
use Rattle.formula_calls.specs.Claims.{tried_after, tried, calls_found, calls_of, Tells, FormulaIsCalls}
use Rattle.formula_calls.proofs.FoundLaws.{Finds, by-memory, by-fault, by-short, by-tree, finds, conditions-nine}
use Rattle.formula_calls.proofs.MakeLaws.{accesses-length, make-leaves, Ended, make_ended}

module _ (k : Making) (text table out : List ℕ) (s : State) where
  found-leaves : (f : Found) → (finish_formula k table out s f).after ≡ run (calls_found k table s f) s
  unfolding run
  found-leaves (turns_down a) = refl
  found-leaves (reads t) = built (step (node_call (conditions t)) s).answer
    where
      u : State
      u = (step (node_call (conditions t)) s).after

      built : (x : Answer) → (after_building k s.rec table out x u).after ≡ run (tried_after k s.rec table x u) u
      built (refused j) = refl
      built (done g) = make-leaves (accesses_by k s.rec table (in_order (triples_of g))) u

  ended-tells : (c : Call) (j n m : ℕ) (cs : List Call) → is_refused (step c s).answer ≡ false → Ended j n m cs (step c s).after → Tells (answer_by j n m) (c ∷ cs) s
  ended-tells c zero n m cs a E = (ap suc E.0, (a, E.1))
  ended-tells c (suc j) n m cs a E = (E.0, (a, E.1))

  found-tells : (f : Found) → Finds text table out s f → Tells (finish_formula k table out s f).answer (calls_found k table s f) s
  found-tells f (by-memory j F) = inl refl
  found-tells f (by-fault j p x A F e) = refl
  found-tells f (by-short t A e h) = inl refl
  found-tells f (by-tree t A e h) = built (step (node_call (conditions t)) s).answer refl
    where
      c : Call
      c = node_call (conditions t)

      u : State
      u = (step c s).after

      built : (x : Answer) → (step c s).answer ≡ x → Tells (after_building k s.rec table out x u).answer (c ∷ tried_after k s.rec table x u) s
      built (refused j) z = let N = conditions-nine text table s t A e j z in inr (N.0, (z ∙ ap refused N.0, refl))
      built (done g) z =
          let ts = in_order (triples_of g) in
          let cs = accesses_by k s.rec table ts in
          let E = make_ended cs u in
          ended-tells c (make cs u).row (length ts) (make cs u).many (tried cs u) (ap is_refused z) (subst (λ n. Ended (make cs u).row n (make cs u).many (tried cs u) u) (accesses-length k s.rec table ts) E)

pub formula_is-calls : FormulaIsCalls
unfolding FormulaIsCalls formula_step calls_of
formula_is-calls k text table out s = record { leaves = found-leaves k text table out s (read_formula text table out s); tells = found-tells k text table out s (read_formula text table out s) (finds text table out s) }
