-- Each row of the call itself is met exactly where its fact says.
use mathlib.Core.Path.{◌≡◌, refl, sym, ap, subst, ◌∙◌}
use mathlib.Core.Bool.{true}
use mathlib.Core.Logic.{◌⊎◌, inl, inr, ◌↔◌}
use mathlib.Core.List.{List, []}
use Prim.Native.Nat.{ℕ, ◌+◌, ◌*◌, ◌-◌, ◌<◌, ◌≤◌}
use native.Mathlib.Nat.{le-div_iff_mul-le}
use native.Mathlib.Omega.{arith}
use lib.ListN.{length}
use borrow.Author.Tests.{ltb-true, leb-true, lt-ltb, le-leb}
use Rattle.nodes.proofs.BoolLaws.{and_both, both_and}
use Rattle.formulas.specs.Language.{Tree, listed, ordered}
use Rattle.formulas.specs.Reading.{fine, wrong, judge_text}
use Rattle.formulas.specs.Claims.{First}
use Rattle.formulas.proofs.ClaimLaws.{reads as reader, orders}
use Rattle.model.specs.Table.{AllHold, FirstFails, Overflows}
use Rattle.model.specs.Step.{State, conditions, Call, node_call, Answer, refused, done, triples_of, step}
use Rattle.model.proofs.FactLaws.{names}
use Rattle.formula_calls.specs.Call.{Making, predicate_words, predicates_in, limits_of, in_order, accesses_by, make, FormulaAnswer, faulty, refused_by, Found, reads, read_formula, answer_by, after_building, finish_formula, formula_step}
use Rattle.formula_calls.specs.Claims.{ReadAs, NumbersExactly, RowsExactly, FormulaRows}
use Rattle.formula_calls.proofs.AnswerLaws.{kind, apart, refused-same, made_kind}
use Rattle.formula_calls.proofs.FoundLaws.{memory, memory_row, Finds, by-memory, by-fault, by-short, by-tree, finds, found-memory, found_judged, found-short, found-tree, conditions-nine, nine-conditions}

-- the numbers
module _ (table : List ℕ) (s : State) where
  -- a predicate that the table has whole
  whole : (p : ℕ) → 1 ≤ s.rec.sizes.n → (p < predicates_in s.rec table) ↔ ((p + 1) * (2 * s.rec.sizes.n + 2 * s.rec.sizes.w) ≤ length table)
  whole p l =
      let positive : 0 < predicate_words s.rec = omega arith in
      (λ h. let q : p + 1 ≤ predicates_in s.rec table = omega (arith, h) in (le-div_iff_mul-le positive).0 q, λ h. let q : p + 1 ≤ predicates_in s.rec table = (le-div_iff_mul-le positive).1 h in omega (arith, q))

  predicate_is : (p : ℕ) → 1 ≤ s.rec.sizes.n → (limits_of s table).predicates p ≡ true → ((p + 1) * (2 * s.rec.sizes.n + 2 * s.rec.sizes.w) ≤ length table) × (p ≤ 4294967295)
  predicate_is p l e = let (a, b) = and_both _ _ e in ((whole p l).0 (ltb-true _ _ a), leb-true _ _ b)

  is-predicate : (p : ℕ) → 1 ≤ s.rec.sizes.n → ((p + 1) * (2 * s.rec.sizes.n + 2 * s.rec.sizes.w) ≤ length table) × (p ≤ 4294967295) → (limits_of s table).predicates p ≡ true
  is-predicate p l h = both_and (lt-ltb _ _ ((whole p l).1 h.0)) (le-leb _ _ h.1)

  pub numbers-exactly : NumbersExactly table s
  numbers-exactly = record { predicates = λ p l. (predicate_is p l, is-predicate p l); nodes = λ b. let N = names s.rec s.words b in (N.is, N.so) }

-- a text is read as a tree where the reader reads it so
module _ (text table : List ℕ) (s : State) (t : Tree) where
  pub read_as : judge_text (limits_of s table) text ≡ fine t [] → ReadAs text table s t
  read_as e = let (x, n, d) = ((reader (limits_of s table)).exactly text t).0 e in record { spelled = x; named = n; nested = d }

  pub as_read : ReadAs text table s t → judge_text (limits_of s table) text ≡ fine t []
  as_read R = ((reader (limits_of s table)).exactly text t).1 (R.spelled, R.named, R.nested)

pub as_many : (t : Tree) → length (ordered t) ≡ length (listed 0 [] t)
as_many t = (orders t).as_many

module _ (k : Making) (text table out : List ℕ) (s : State) where
  -- row j is met at place p
  abbrev FaultAt : ℕ → ℕ → Type 0
  FaultAt j p = AllHold (memory s) × ((x : List ℕ) × First (limits_of s table) text j x × (p + length x ≡ length text))

  -- the ways in which a formula call answers
  data Answers : FormulaAnswer → Type 0 where
    at-memory : (j : ℕ) → FirstFails j (memory s) → Answers (refused_by j)
    at-fault : (j p : ℕ) → FaultAt j p → Answers (faulty j p)
    at-short : (t : Tree) → AllHold (memory s) → ReadAs text table s t → length out < 3 * length (ordered t) → Answers (refused_by 13)
    at-nine : (t : Tree) → AllHold (memory s) → ReadAs text table s t → 3 * length (ordered t) ≤ length out → Overflows (node_call (conditions t)) s → Answers (refused_by 9)
    at-accesses : (j n m : ℕ) → Answers (answer_by j n m)

  found-answers : (f : Found) → Finds text table out s f → Answers (finish_formula k table out s f).answer
  found-answers f (by-memory j F) = at-memory j F
  found-answers f (by-fault j p x A F e) = at-fault j p (A, (x, F, e))
  found-answers f (by-short t A e h) = at-short t A (read_as text table s t e) (omega (arith, as_many t))
  found-answers f (by-tree t A e h) = built (step c s).answer refl
    where
      c : Call
      c = node_call (conditions t)

      built : (x : Answer) → (step c s).answer ≡ x → Answers (after_building k s.rec table out x (step c s).after).answer
      built (refused j) z =
          let N = conditions-nine text table s t A e j z in
          subst (λ i. Answers (refused_by i)) (sym N.0) (at-nine t A (read_as text table s t e) (omega (arith, as_many t)) N.1)
      built (done g) z = let ts = in_order (triples_of g) in let m = make (accesses_by k s.rec table ts) (step c s).after in at-accesses m.row (length ts) m.many

  answers : Answers (formula_step k text table out s).answer
  unfolding formula_step
  answers = found-answers (read_formula text table out s) (finds text table out s)

  not_made : {C : Type 0} (j n m : ℕ) (a : FormulaAnswer) → answer_by j n m ≡ a → kind a ≤ 1 → C
  not_made j n m a e h = apart (answer_by j n m) a e (λ q. omega (arith, made_kind j n m))

  is-memory : (a : FormulaAnswer) → Answers a → (j : ℕ) → j ≤ 3 → a ≡ refused_by j → FirstFails j (memory s)
  is-memory a (at-memory i F) j l e = subst (λ (i : ℕ). FirstFails i (memory s)) (refused-same i j e) F
  is-memory a (at-fault i r F) j l e = apart (faulty i r) (refused_by j) e (λ q. omega arith)
  is-memory a (at-short t A R h) j l e = absurd (omega (arith, refused-same 13 j e))
  is-memory a (at-nine t A R h O) j l e = absurd (omega (arith, refused-same 9 j e))
  is-memory a (at-accesses i n m) j l e = not_made i n m (refused_by j) e (omega arith)

  is-fault : (a : FormulaAnswer) → Answers a → (j p : ℕ) → a ≡ faulty j p → FaultAt j p
  is-fault a (at-memory i F) j p e = apart (refused_by i) (faulty j p) e (λ q. omega arith)
  is-fault a (at-fault i r F) j p e =
      let m : i ≡ j = cc in
      let n : r ≡ p = cc in
      rw (← m, ← n) F
  is-fault a (at-short t A R h) j p e = apart (refused_by 13) (faulty j p) e (λ q. omega arith)
  is-fault a (at-nine t A R h O) j p e = apart (refused_by 9) (faulty j p) e (λ q. omega arith)
  is-fault a (at-accesses i n m) j p e = not_made i n m (faulty j p) e (omega arith)

  is-short : (a : FormulaAnswer) → Answers a → a ≡ refused_by 13 → AllHold (memory s) × ((t : Tree) × ReadAs text table s t × (length out < 3 * length (ordered t)))
  is-short a (at-memory i F) e = absurd (omega (arith, refused-same i 13 e, (memory_row s i F).1))
  is-short a (at-fault i r F) e = apart (faulty i r) (refused_by 13) e (λ q. omega arith)
  is-short a (at-short t A R h) e = (A, (t, R, h))
  is-short a (at-nine t A R h O) e = absurd (omega (arith, refused-same 9 13 e))
  is-short a (at-accesses i n m) e = not_made i n m (refused_by 13) e (omega arith)

  is-nine : (a : FormulaAnswer) → Answers a → a ≡ refused_by 9 → AllHold (memory s) × ((t : Tree) × ReadAs text table s t × (3 * length (ordered t) ≤ length out) × Overflows (node_call (conditions t)) s)
  is-nine a (at-memory i F) e = absurd (omega (arith, refused-same i 9 e, (memory_row s i F).1))
  is-nine a (at-fault i r F) e = apart (faulty i r) (refused_by 9) e (λ q. omega arith)
  is-nine a (at-short t A R h) e = absurd (omega (arith, refused-same 13 9 e))
  is-nine a (at-nine t A R h O) e = (A, (t, R, h, O))
  is-nine a (at-accesses i n m) e = not_made i n m (refused_by 9) e (omega arith)

  is_one : (a : FormulaAnswer) → Answers a → (j : ℕ) → a ≡ refused_by j → (j ≤ 3) ⊎ ((j ≡ 9) ⊎ (j ≡ 13))
  is_one a (at-memory i F) j e = inl (omega (arith, refused-same i j e, (memory_row s i F).1))
  is_one a (at-fault i r F) j e = apart (faulty i r) (refused_by j) e (λ q. omega arith)
  is_one a (at-short t A R h) j e = inr (inr (sym (refused-same 13 j e)))
  is_one a (at-nine t A R h O) j e = inr (inl (sym (refused-same 9 j e)))
  is_one a (at-accesses i n m) j e = not_made i n m (refused_by j) e (omega arith)

  -- and back: the answer by what is found
  by-found : (f : Found) → read_formula text table out s ≡ f → (formula_step k text table out s).answer ≡ (finish_formula k table out s f).answer
  unfolding formula_step
  by-found f e = ap (λ (f : Found). (finish_formula k table out s f).answer) e

  nine_is : AllHold (memory s) × ((t : Tree) × ReadAs text table s t × (3 * length (ordered t) ≤ length out) × Overflows (node_call (conditions t)) s) → (formula_step k text table out s).answer ≡ refused_by 9
  nine_is x =
      let (A, y) = x in
      let (t, R, h, O) = y in
      let e = as_read text table s t R in
      let c = node_call (conditions t) in
      by-found (reads t) (found-tree text table out s A t e (omega (arith, as_many t))) ∙ ap (λ (z : Answer). (after_building k s.rec table out z (step c s).after).answer) (nine-conditions text table s t A e O)

  fault_is : (j p : ℕ) → FaultAt j p → (formula_step k text table out s).answer ≡ faulty j p
  fault_is j p y =
      let (A, y) = y in
      let (x, F, z) = y in
      by-found _ (found_judged text table out s A (wrong j x) (((reader (limits_of s table)).refused text j x).1 F)) ∙ ap (faulty j) (omega arith)

  rows-exactly : RowsExactly k text table out s
  rows-exactly =
      record {
        memory = λ j l. (is-memory _ answers j l, λ F. by-found _ (found-memory text table out s j F));
        fault = λ j p. (is-fault _ answers j p, fault_is j p);
        short = (is-short _ answers, λ x. by-found _ (found-short text table out s x.0 x.1.0 (as_read text table s x.1.0 x.1.1) (omega (arith, x.1.2, as_many x.1.0))));
        nine = (is-nine _ answers, nine_is);
        no_other = is_one _ answers;
      }

pub formula_rows : FormulaRows
unfolding FormulaRows
formula_rows k text table out s = (numbers-exactly table s, rows-exactly k text table out s)
