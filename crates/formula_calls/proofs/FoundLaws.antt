-- What is found before anything is built, as facts; and that the conditions of a formula that is read are refused by 9 alone.
use mathlib.Core.Path.{◌≡◌, refl, sym, ap, subst, ◌∙◌}
use mathlib.Core.Bool.{Bool, true, false, cond}
use mathlib.Core.Logic.{inl, inr}
use mathlib.Core.List.{List, []}
use Prim.Native.Nat.{ℕ, zero, suc, ◌+◌, ◌*◌, ◌-◌, ◌<◌, ◌≤◌}
use native.Mathlib.Omega.{arith}
use lib.ListN.{length, length-append}
use borrow.Author.Tests.{leb-true, leb-false, le-leb, lt-leb}
use Rattle.nodes.proofs.BoolLaws.{and_both}
use Rattle.formulas.specs.Language.{Tree, predicate, next, both, when, grouped, listed}
use Rattle.formulas.specs.Reading.{Verdict, fine, wrong, judge_text}
use Rattle.formulas.specs.Claims.{numbers, Decided, is_read, is-refused, First}
use Rattle.formulas.proofs.ClaimLaws.{reads as reader}
use Rattle.conditions.proofs.Promises.{standard_is, is-standard}
use Rattle.model.specs.Rows.{first_row, memory_rows}
use Rattle.model.specs.Table.{Fact, Names, EachArrow, memory_facts, AllHold, FirstFails, Overflows, facts, RefusedExactly}
use Rattle.model.specs.Step.{State, conditions, node_call, refused, step}
use Rattle.model.proofs.FactLaws.{either, Told, told, not-both, row1-tells, row3-tells, names}
use Rattle.model.proofs.TableLaws.{refused-exactly}
use Rattle.semantics.proofs.PairLaws.{T→eq}
use Rattle.formula_calls.specs.Call.{limits_of, faulty, refused_by, Found, turns_down, reads, unless_row, by_verdict, read_formula}

-- rows 1 to 3, as facts
abbrev pub memory : State → List Fact
memory s = memory_facts s.rec s.words s.list []

pub memory-told : (s : State) → Told (first_row (memory_rows s.rec s.words s.list [])) (memory s)
memory-told s =
    told (memory_rows s.rec s.words s.list []) _ refl
    (refl, row1-tells s.rec s.words, λ R. (refl, record { is = standard_is s.words s.rec.count; so = is-standard s.words s.rec.count }, λ S. (refl, row3-tells s.rec s.words s.list, λ L. tt)))

pub memory_row : (s : State) (j : ℕ) → FirstFails j (memory s) → (1 ≤ j) × (j ≤ 3)
memory_row s j =
    either (λ x. at 1 x.0 (omega arith) (omega arith))
    (λ y. either (λ x. at 2 x.0 (omega arith) (omega arith)) (λ z. either (λ x. at 3 x.0 (omega arith) (omega arith)) (λ x. absurd x.1) z.1) y.1)
  where
    at : (k : ℕ) → k ≡ j → 1 ≤ k → k ≤ 3 → (1 ≤ j) × (j ≤ 3)
    at k e l m = (omega arith, omega arith)

-- the four ways
module _ (text table out : List ℕ) (s : State) where
  pub data Finds : Found → Type 0 where
    by-memory : (j : ℕ) → FirstFails j (memory s) → Finds (turns_down (refused_by j))
    by-fault : (k p : ℕ) (x : List ℕ) → AllHold (memory s) → First (limits_of s table) text k x → p + length x ≡ length text → Finds (turns_down (faulty k p))
    by-short : (t : Tree) → AllHold (memory s) → judge_text (limits_of s table) text ≡ fine t [] → length out < 3 * length (listed 0 [] t) → Finds (turns_down (refused_by 13))
    by-tree : (t : Tree) → AllHold (memory s) → judge_text (limits_of s table) text ≡ fine t [] → 3 * length (listed 0 [] t) ≤ length out → Finds (reads t)

  place-left : (k : ℕ) (x : List ℕ) → First (limits_of s table) text k x → length text - length x + length x ≡ length text
  place-left k x F = let (p, e) = (reader (limits_of s table)).inside text k x F.wrong in let z : length text ≡ length p + length x = ap length e ∙ length-append p x in omega arith

  pub finds : Finds (read_formula text table out s)
  unfolding read_formula
  finds = go _ (memory-told s)
    where
      room : (t : Tree) (b : Bool) → AllHold (memory s) → judge_text (limits_of s table) text ≡ fine t [] → (b ≡ true → 3 * length (listed 0 [] t) ≤ length out) → (b ≡ false → length out < 3 * length (listed 0 [] t))
          → Finds (cond b (reads t) (turns_down (refused_by 13)))
      room t true A e f g = by-tree t A e (f refl)
      room t false A e f g = by-short t A e (g refl)

      judged : AllHold (memory s) → Decided (limits_of s table) text → Finds (by_verdict text out (judge_text (limits_of s table) text))
      judged A (is_read t e) = subst (λ v. Finds (by_verdict text out v)) (sym e) (room t _ A e (leb-true _ _) (leb-false _ _))
      judged A (is-refused k x e) = subst (λ v. Finds (by_verdict text out v)) (sym e) (let F = ((reader (limits_of s table)).refused text k x).0 e in by-fault k _ x A F (place-left k x F))

      go : (k : ℕ) → Told k (memory s) → Finds (unless_row k (by_verdict text out (judge_text (limits_of s table) text)))
      go zero M = judged (M.none refl) ((reader (limits_of s table)).decided text)
      go (suc k) M = by-memory (suc k) (M.first k refl)

  -- and there each is found
  pub found-memory : (j : ℕ) → FirstFails j (memory s) → read_formula text table out s ≡ turns_down (refused_by j)
  unfolding read_formula
  found-memory zero F = absurd (omega (arith, (memory_row s 0 F).0))
  found-memory (suc j) F = rw ((memory-told s).from (suc j) F)

  pub found_judged : AllHold (memory s) → (v : Verdict) → judge_text (limits_of s table) text ≡ v → read_formula text table out s ≡ by_verdict text out v
  unfolding read_formula
  found_judged A v e = rw ((memory-told s).all A, e)

  pub found-short : AllHold (memory s) → (t : Tree) → judge_text (limits_of s table) text ≡ fine t [] → length out < 3 * length (listed 0 [] t) → read_formula text table out s ≡ turns_down (refused_by 13)
  found-short A t e h = found_judged A (fine t []) e ∙ rw (lt-leb (3 * length (listed 0 [] t)) (length out) h)

  pub found-tree : AllHold (memory s) → (t : Tree) → judge_text (limits_of s table) text ≡ fine t [] → 3 * length (listed 0 [] t) ≤ length out → read_formula text table out s ≡ reads t
  found-tree A t e h = found_judged A (fine t []) e ∙ rw (le-leb (3 * length (listed 0 [] t)) (length out) h)

-- a tree whose numbers are good has nodes before its arrows that 5 accepts
pub named-arrows : (table : List ℕ) (s : State) (t : Tree) → numbers (limits_of s table) t ≡ true → EachArrow (Names s.rec s.words) t
named-arrows table s (predicate n) g = tt
named-arrows table s (next t) g = named-arrows table s t g
named-arrows table s (both t u) g = let p = and_both (numbers (limits_of s table) t) (numbers (limits_of s table) u) g in (named-arrows table s t p.0, named-arrows table s u p.1)
named-arrows table s (when b t) g = let p = and_both ((limits_of s table).nodes b) (numbers (limits_of s table) t) g in ((names s.rec s.words b).is p.0, named-arrows table s t p.1)
named-arrows table s (grouped t) g = named-arrows table s t g

module _ (text table : List ℕ) (s : State) (t : Tree) (A : AllHold (memory s)) (e : judge_text (limits_of s table) text ≡ fine t []) where
  pub conditions-facts : AllHold (facts (node_call (conditions t)) s)
  conditions-facts = (A.0, (A.1.0, (named-arrows table s t (T→eq _ (((reader (limits_of s table)).exactly text t).0 e).1), tt)))

  -- so they are refused by 9 alone, where they overflow
  pub conditions-nine : (j : ℕ) → (step (node_call (conditions t)) s).answer ≡ refused j → (j ≡ 9) × Overflows (node_call (conditions t)) s
  unfolding RefusedExactly
  conditions-nine j z = either (λ x. absurd (not-both j (facts (node_call (conditions t)) s) conditions-facts x)) (λ x. either (λ y. y) (λ y. absurd (y.1 tt)) x.1) ((refused-exactly (node_call (conditions t)) s j).0 z)

  pub nine-conditions : Overflows (node_call (conditions t)) s → (step (node_call (conditions t)) s).answer ≡ refused 9
  unfolding RefusedExactly
  nine-conditions O = (refused-exactly (node_call (conditions t)) s 9).1 (inr (conditions-facts, inl (refl, O)))
