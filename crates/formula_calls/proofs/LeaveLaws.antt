-- What each refusal of a formula call leaves.
use mathlib.Core.Path.{◌≡◌, refl, ap, ◌∙◌}
use mathlib.Core.List.{List, ◌∷◌}
use Prim.Native.Nat.{ℕ, zero, suc}
use native.Mathlib.Omega.{arith}
use lib.ListN.{length, take}
use borrow.Author.Tests.{ne_eqb}
use Rattle.model.specs.Formula.{Triple}
use Rattle.model.specs.Step.{State, with_words, Access, conditions, Call, node_call, Answer, refused, done, triples_of, step, run}
use Rattle.model.specs.Frames.{words_after, clears}
use Rattle.model.specs.Frames as frames
use Rattle.model.proofs.FrameLaws.{refusal-leaves}
use Rattle.formula_calls.specs.Call.{Making, in_order, accesses_by, make, faulty, refused_by, stopped, all_made, FormulaResult, Found, turns_down, read_formula, answer_by, after_building, finish_formula, formula_step}
use Rattle.formula_calls.specs.Claims.{tried, tried_after, calls_found, calls_of, RefusalLeaves, FormulaRefusalLeaves}
use Rattle.formula_calls.proofs.AnswerLaws.{apart, refused-same, made_kind}
use Rattle.formula_calls.proofs.FoundLaws.{memory_row, Finds, by-memory, by-fault, by-short, by-tree, finds}
use Rattle.formula_calls.proofs.MakeLaws.{make-stopped}

-- of the rows but 8 and 9 nothing is left changed
unchanged : (s : State) (j : ℕ) → (j ≡ 9 → ⊥) → (j ≡ 8 → ⊥) → s ≡ with_words s (words_after (clears j) s)
unchanged s j n e = rw (ne_eqb j 9 n, ne_eqb j 8 e)

-- what is left, of an answer
record Leaves (s : State) (out : List ℕ) (cs : List Call) (x : FormulaResult) : Type 0 where
  by-text : (j p : ℕ) → x.answer ≡ faulty j p → (x.after ≡ s) × (x.words ≡ out)
  by_row : (j : ℕ) → x.answer ≡ refused_by j → (x.after ≡ with_words s (words_after (clears j) s)) × (x.words ≡ out)
  at-access : (j n m : ℕ) → x.answer ≡ stopped j n m → let t = run (take (suc m) cs) s in x.after ≡ with_words t (words_after (clears j) t)

module _ (k : Making) (text table out : List ℕ) (s : State) where
  abbrev LeavesFound : Found → Type 0
  LeavesFound f = Leaves s out (calls_found k table s f) (finish_formula k table out s f)

  row-leaves : (i : ℕ) → (i ≡ 9 → ⊥) → (i ≡ 8 → ⊥) → LeavesFound (turns_down (refused_by i))
  row-leaves i n e =
      record {
        by-text = λ j p z. apart (refused_by i) (faulty j p) z (λ q. omega arith);
        by_row = λ j z. rw (← refused-same i j z) (unchanged s i n e, refl);
        at-access = λ j n m z. apart (refused_by i) (stopped j n m) z (λ q. omega arith);
      }

  built-leaves : (c : Call) (x : Answer) → (step c s).answer ≡ x
      → Leaves s out (c ∷ tried_after k s.rec table x (step c s).after) (after_building k s.rec table out x (step c s).after)
  unfolding run frames.RefusalLeaves
  built-leaves c (refused i) z =
      record {
        by-text = λ j p e. apart (refused_by i) (faulty j p) e (λ q. omega arith);
        by_row = λ j e. (refusal-leaves c s j (z ∙ ap refused (refused-same i j e)), refl);
        at-access = λ j n m e. apart (refused_by i) (stopped j n m) e (λ q. omega arith);
      }
  built-leaves c (done g) z =
      record {
        by-text = λ j p e. apart _ (faulty j p) e (λ q. omega (arith, made_kind (make cs u).row (length ts) (make cs u).many));
        by_row = λ j e. apart _ (refused_by j) e (λ q. omega (arith, made_kind (make cs u).row (length ts) (make cs u).many));
        at-access = λ j n m e. at (make cs u).row refl j n m e;
      }
    where
      u : State
      u = (step c s).after

      ts : List Triple
      ts = in_order (triples_of g)

      cs : List Access
      cs = accesses_by k s.rec table ts

      at : (i : ℕ) → (make cs u).row ≡ i → (j n m : ℕ) → answer_by i (length ts) (make cs u).many ≡ stopped j n m → let t = run (take m (tried cs u)) u in (make cs u).after ≡ with_words t (words_after (clears j) t)
      at zero q j n m e = apart (all_made (length ts)) (stopped j n m) e (λ q. omega arith)
      at (suc i) q j n m e =
          let a : suc i ≡ j = cc in
          let b : (make cs u).many ≡ m = cc in
          rw (← a, ← b) (make-stopped cs u i q)

  found-leaves : (f : Found) → Finds text table out s f → LeavesFound f
  found-leaves f (by-memory j F) = let (l, m) = memory_row s j F in row-leaves j (λ q. omega arith) (λ q. omega arith)
  found-leaves f (by-fault i p x A F e) =
      record {
        by-text = λ j q z. (refl, refl);
        by_row = λ j z. apart (faulty i p) (refused_by j) z (λ q. omega arith);
        at-access = λ j n m z. apart (faulty i p) (stopped j n m) z (λ q. omega arith);
      }
  found-leaves f (by-short t A e h) = row-leaves 13 (λ q. omega arith) (λ q. omega arith)
  found-leaves f (by-tree t A e h) = let c = node_call (conditions t) in built-leaves c (step c s).answer refl

pub formula-refusal-leaves : FormulaRefusalLeaves
unfolding FormulaRefusalLeaves formula_step calls_of
formula-refusal-leaves k text table out s =
    let L = found-leaves k text table out s (read_formula text table out s) (finds text table out s) in
    record { by-text = L.by-text; by_row = L.by_row; at-access = L.at-access }
