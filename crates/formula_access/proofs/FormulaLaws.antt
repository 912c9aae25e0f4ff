-- A written formula by its parts: rows 1 to 3, what is prepared, and what is made.
use Rattle.std.proofs.Common.{◌≡◌, ℕ, List, [], Ok, Err, refl, sym, ap, ap₂, ◌∙◌}
use Rattle.refusals.specs.declared.Refusal.{Refusal}
use Rattle.refusals.specs.Refusal.{number}
use Rattle.refusals.proofs.RefusalLaws.{number-suc}
use Rattle.conditions.specs.Contract.{Sound}
use Rattle.model.specs.Record.{with_count}
use Rattle.model.specs.Rows.{first_row, memory_rows}
use Rattle.model.specs.Step.{Access, begin}
use Rattle.model.specs.Frames.{Valid}
use Rattle.formula_calls.specs.Call.{Making, FormulaAnswer, refused_by, stopped, accesses_by, Made, make, listed_over, unless_row, by_verdict, read_formula, limits_of, refused_itself, answer_by, finish_formula, formula_step}
use Rattle.formula_calls.specs.Chain.{FormulaAnswered}
use Rattle.formula_calls.proofs.FoundLaws.{memory-told}
use Rattle.formulas.specs.Reading.{judge_text}
use Rattle.model.specs.declared.Fields.{Fields}
use Rattle.rows.specs.Contract.{state_of}
use Rattle.rows.proofs.CallLaws.{memory-valid, valid-standard, valid_rows}
use Rattle.making.specs.declared.Stopped.{Stopped}
use Rattle.making.specs.Contract.{triples_from, MayMake, MadeAs}
use Rattle.making.proofs.MakingLaws.{accesses-same}
use Rattle.preparing.specs.declared.Listed.{Listed}
use Rattle.preparing.specs.declared.Unlisted.{Unlisted}
use Rattle.preparing.specs.declared.Unlisted.TheVariants as unlisted
use Rattle.preparing.specs.Contract.{Prepares, comes_to, PreparedAs}
use Rattle.preparing.proofs.TripleLaws.{from-many}
use Rattle.formula_access.specs.declared.FormulaRefusal.TheVariants as refusals
use Rattle.formula_access.specs.declared.FormulaRefusal.TheVariants.{Refused}
use Rattle.formula_access.specs.Contract.{unlisted_as, FormulaAnswers}

-- rows 1 to 3 refuse it
pub memory-refuses : (k : Making) (text predicates out : List ℕ) (r : Fields) (w l : List ℕ) (j : Refusal) → number j ≡ first_row (memory_rows r w l []) → FormulaAnswers k text predicates out r w l r w l out (Err (Refused j))
unfolding formula_step read_formula
memory-refuses k text predicates out r w l j e =
    let n = number-suc j in
    let f = λ (i : ℕ). finish_formula k predicates out (state_of r w l) (unless_row i (by_verdict text out (judge_text (limits_of (state_of r w l) predicates) text))) in
    ap f (sym e ∙ n.1) ∙ ap (λ (i : ℕ). refused_itself (refused_by i) (state_of r w l) out) (sym n.1)

-- they do not
module _ (r : Fields) (w l : List ℕ) (e : 0 ≡ first_row (memory_rows r w l [])) where
  pub valid : Valid (state_of r w l)
  valid = memory-valid (state_of r w l) e

  pub may_prepare : (t : List ℕ) → Sound w t (begin r) → Prepares r w t
  may_prepare t S = record { range = ((memory-told (state_of r w l)).none (valid_rows (state_of r w l) valid [])).0; standard = valid-standard (state_of r w l) valid; sound = S }

  module _ (k : Making) (text predicates out : List ℕ) where
    comes : formula_step k text predicates out (state_of r w l) ≡ comes_to k r w l text predicates out
    unfolding formula_step read_formula
    comes = ap (λ (j : ℕ). finish_formula k predicates out (state_of r w l) (unless_row j (by_verdict text out (judge_text (limits_of (state_of r w l) predicates) text)))) (sym e)

    pub formula-unlisted : {w' out' : List ℕ} (t' : List ℕ) (x : Unlisted) → PreparedAs r w text predicates out w' t' out' (Err x) → FormulaAnswers k text predicates out r w l r w' l out' (Err (unlisted_as x))
    formula-unlisted t' (unlisted.Refused j) P = comes ∙ P k l valid
    formula-unlisted t' (unlisted.Faulty f) P = comes ∙ P k l valid

    module _ {w' out' : List ℕ} (t' : List ℕ) {x : Listed} (P : PreparedAs r w text predicates out w' t' out' (Ok x)) where
      pub may-make : MayMake (with_count r x.count) w' l t' predicates out' x.listed
      may-make = (P l valid).may

      formula-made : {r'' : Fields} {w'' l'' : List ℕ} (j many : ℕ) → make (accesses_by k (with_count r x.count) predicates (triples_from out' 0 x.listed)) (state_of (with_count r x.count) w' l) ≡ record { many = many; row = j; after = state_of r'' w'' l'' }
          → FormulaAnswered k text predicates out (state_of r w l) (state_of r'' w'' l'') out' (answer_by j x.listed many)
      formula-made {r''} {w''} {l''} j many M =
          let L = P l valid in
          let ts = triples_from out' 0 x.listed in
          let same = accesses-same k r (with_count r x.count) predicates ts refl in
          let m : make (accesses_by k r predicates ts) (state_of (with_count r x.count) w' l) ≡ record { many = many; row = j; after = state_of r'' w'' l'' } = ap (λ (cs : List Access). make cs (state_of (with_count r x.count) w' l)) (sym same) ∙ M in
          comes ∙ L.comes k
          ∙ ap₂ (λ (x : Made) (n : ℕ). record { answer = answer_by x.row n x.many; after = x.after; words = listed_over ts out }) m (from-many out' 0 x.listed)
          ∙ ap (λ (o : List ℕ). record { answer = answer_by j x.listed many; after = state_of r'' w'' l''; words = o }) (sym L.words)

      -- all were made, or a row refused one
      pub formula-whole : {r'' : Fields} {w'' l'' : List ℕ} {u : Unit {0}} → MadeAs k (with_count r x.count) w' l predicates out' x.listed r'' w'' l'' (Ok u) → FormulaAnswers k text predicates out r w l r'' w'' l'' out' (Ok x.listed)
      formula-whole M = formula-made 0 x.listed M.is

      pub formula-stopped : {r'' : Fields} {w'' l'' : List ℕ} {s : Stopped} → MadeAs k (with_count r x.count) w' l predicates out' x.listed r'' w'' l'' (Err s)
          → FormulaAnswers k text predicates out r w l r'' w'' l'' out' (Err (refusals.Stopped s.refusal x.listed s.made))
      formula-stopped {r''} {w''} {l''} {s} M =
          let n = number-suc s.refusal in
          let stopped_by : answer_by (number s.refusal) x.listed s.made ≡ stopped (number s.refusal) x.listed s.made =
          ap (λ (j : ℕ). answer_by j x.listed s.made) n.1 ∙ ap (λ (j : ℕ). stopped j x.listed s.made) (sym n.1) in
          formula-made (number s.refusal) s.made M.is ∙ ap (λ (a : FormulaAnswer). record { answer = a; after = state_of r'' w'' l''; words = out' }) stopped_by
