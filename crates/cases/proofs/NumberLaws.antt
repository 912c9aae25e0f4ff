-- The numbers of refused cases.
use mathlib.Core.Path.{◌≡◌, refl, sym, ap, subst, ◌∙◌}
use mathlib.Core.Bool.{Bool, true, false, cond, ◌&&◌, ◌||◌, false≢true}
use mathlib.Core.Logic.{◌⊎◌, inl, inr}
use mathlib.Core.List.{List, [], ◌∷◌, ◌++◌}
use Prim.Native.Nat.{ℕ, zero, suc, ◌+◌, ◌*◌, ◌≤◌}
use native.Mathlib.Omega.{arith}
use lib.Dec.{eqb, leb}
use lib.ListN.{length, get_or, replicate, length-replicate}
use borrow.Author.Tests.{eqb-true, eq-eqb, leb-true}
use Rattle.nodes.proofs.BoolLaws.{and_both, or_cases, both_and}
use Rattle.model.specs.Record.{fresh_ports}
use Rattle.model.specs.Rows.{Row, first_row, write_rows, read_rows, assert_rows, check_rows, evaluate_rows}
use Rattle.model.specs.Step.{State, Call, refused, refusal, Finish, full, short, gives, finish, step, run, AllAccepted}
use Rattle.model.specs.Frames.{Valid, RefusalNumber, NoRow123, RefusedByRow, late_row, PortsValid, numbers}
use Rattle.model.proofs.FrameLaws.{refusal-number, no_row_123}
use Rattle.model.proofs.StayLaws.{refused_by_row}
use Rattle.format.specs.declared.Kind.{Kind}
use Rattle.format.specs.declared.Kind.TheVariants as kind
use Rattle.format.specs.Bytes.{numbers_at}
use Rattle.format.specs.Fields.{fields_of, values_at}
use Rattle.format.specs.Accesses.{Found, found, kind_at, held_at, access_rows, found_unless, access_at}
use Rattle.format.specs.Accesses as accesses
use Rattle.format.specs.Sections.{Sections, ready, record_in, nodes_in, early_rows, late_rows, sections_unless, sections, accesses_in, first_at}
use Rattle.format.specs.Sections as sections
use Rattle.format.proofs.BytesLaws.{numbers-length}
use Rattle.format.proofs.RowLaws.{rows-number}
use Rattle.format.proofs.SectionLaws.{sections-read, sections-valid, sections-ports-valid}
use Rattle.cases.specs.Case.{call_of}
use Rattle.cases.specs.Claims.{call_at, state_in, SectionsReady, first_calls, byte_after, answer_after, RefusedAt, missing, refused_call, line_over, bytes_left, end_over, CaseRefused, CaseNumber, RefusedNumbers}
use Rattle.cases.proofs.CaseLaws.{same-sizes}
use Rattle.cases.proofs.RefusedLaws.{case-refused-after}

-- a number of the table that is neither 3 nor 4
one : CaseNumber 1
one = (omega arith, omega arith, λ e. omega arith, λ e. omega arith)

two : CaseNumber 2
two = (omega arith, omega arith, λ e. omega arith, λ e. omega arith)

from-five : (k : ℕ) → 5 ≤ k → k ≤ 13 → CaseNumber k
from-five k h l = (omega arith, omega arith, λ e. omega arith, λ e. omega arith)

ten : CaseNumber 10
ten = from-five 10 (omega arith) (omega arith)

-- of the sections, and of an access that is not there
section-number : (file words : List ℕ) (number : ℕ) → (sections file words).1 ≡ sections.refused number → CaseNumber number
unfolding sections
section-number file words number e = go (first_row (early_rows file words ++ late_rows file words)) refl e
  where
    go : (r : ℕ) → first_row (early_rows file words ++ late_rows file words) ≡ r → sections_unless r (ready (get_or file 0 0) (get_or file 1 0) (nodes_in file + 2) (accesses_in file) (first_at file)) ≡ sections.refused number → CaseNumber number
    go zero q e = let z : ◌≡◌ {A = ℕ} 0 1 = cc in absurd (omega arith)
    go (suc k) q e = let z : number ≡ suc k = cc in subst CaseNumber (sym z) (rows-number CaseNumber (early_rows file words ++ late_rows file words) (ten, (one, (ten, (ten, (two, (two, (ten, tt))))))) q)

access-number : (file : List ℕ) (at n w number : ℕ) → access_at file at n w ≡ accesses.refused number → CaseNumber number
unfolding access_at
access-number file at n w number e = go (first_row (access_rows file at n w)) refl e
  where
    go : (r : ℕ) → first_row (access_rows file at n w) ≡ r → found_unless r (found (kind_at file at) (held_at file at n w)) ≡ accesses.refused number → CaseNumber number
    go zero q e = let z : ◌≡◌ {A = ℕ} 0 1 = cc in absurd (omega arith)
    go (suc k) q e = let z : number ≡ suc k = cc in subst CaseNumber (sym z) (rows-number CaseNumber (access_rows file at n w) (ten, (from-five 11 (omega arith) (omega arith), (ten, tt))) q)

-- rows of which each with this number holds
abbrev Passes : ℕ → List Row → Type 0
Passes k [] = Unit {0}
Passes k (t ∷ ts) = (t.0 ≡ k → t.1 ≡ true) × Passes k ts

passes_not : (k : ℕ) (ts : List Row) → Passes (suc k) ts → first_row ts ≡ suc k → ⊥
passes_not k [] P e = omega arith
passes_not k (t ∷ ts) P e = go (passes_not k ts P.1) t.1 refl e
  where
    go : (first_row ts ≡ suc k → ⊥) → (b : Bool) → t.1 ≡ b → cond b (first_row ts) t.0 ≡ suc k → ⊥
    go again true q e = again e
    go again false q e = false≢true (sym q ∙ P.0 e)

-- an access of a file has control, address and data of the right lengths
module _ (file : List ℕ) (at n w : ℕ) (s : State) (en : s.rec.sizes.n ≡ n) (ew : s.rec.sizes.w ≡ w) where
  abbrev called : Kind → Call
  called k = call_of k w (values_at file at (fields_of k n w))

  lengths : {a b c x y z : ℕ} → a ≡ x → b ≡ y → c ≡ z → (eqb a x && eqb b y && eqb c z) ≡ true
  lengths {a} {b} {c} {x} {y} {z} p q r = both_and (both_and (eq-eqb a x p) (eq-eqb b y q)) (eq-eqb c z r)

  control : (i : ℕ) → length (numbers_at file i 2) ≡ 2
  control i = numbers-length file i 2

  address : (i : ℕ) → length (numbers_at file i (2 * n)) ≡ 2 * s.rec.sizes.n
  address i = numbers-length file i (2 * n) ∙ ap (λ (x : ℕ). 2 * x) (sym en)

  word : (i : ℕ) → length (numbers_at file i (2 * w)) ≡ 2 * s.rec.sizes.w
  word i = numbers-length file i (2 * w) ∙ ap (λ (x : ℕ). 2 * x) (sym ew)

  -- a row of another number
  no : {k : ℕ} {b : Bool} → k ≡ 4 → eqb k 4 ≡ false → b ≡ true
  no e f = absurd (false≢true (sym f ∙ eq-eqb _ 4 e))

  row_four : (k : Kind) → refusal (called k) s ≡ 4 → ⊥
  unfolding call_of fields_of values_at
  row_four kind.Write = passes_not 3 (write_rows s.rec s.words s.list (numbers_at file at 2) (numbers_at file (at + 2 * 2) (2 * n)) (numbers_at file (at + 2 * 2 + 2 * (2 * n)) (2 * w))) (λ e. no e refl, (λ e. no e refl, (λ e. no e refl, (λ _. lengths (control _) (address _) (word _), (λ e. no e refl, (λ e. no e refl, tt))))))
  row_four kind.Read = passes_not 3 (read_rows s.rec s.words s.list s.ports (get_or file at 0) (numbers_at file (at + 1) 2) (numbers_at file (at + 1 + 2 * 2) (2 * n)) (replicate (2 * w) 0)) (λ e. no e refl, (λ e. no e refl, (λ e. no e refl, (λ _. lengths (control _) (address _) (length-replicate {A = ℕ} (2 * w) 0 ∙ ap (λ (x : ℕ). 2 * x) (sym ew)), (λ e. no e refl, (λ e. no e refl, (λ e. no e refl, tt)))))))
  row_four kind.Assert = passes_not 3 (assert_rows s.rec s.words s.list (get_or (numbers_at file at 1) 0 0) (numbers_at file (at + 2 * 1) (2 * n)) (numbers_at file (at + 2 * 1 + 2 * (2 * n)) (2 * w))) (λ e. no e refl, (λ e. no e refl, (λ e. no e refl, (λ _. both_and (eq-eqb _ _ (address _)) (eq-eqb _ _ (word _)), (λ e. no e refl, (λ e. no e refl, (λ e. no e refl, tt)))))))
  row_four kind.Check = passes_not 3 (check_rows s.rec s.words s.list (get_or (numbers_at file at 1) 0 0) (numbers_at file (at + 2 * 1) (2 * n)) (numbers_at file (at + 2 * 1 + 2 * (2 * n)) (2 * w))) (λ e. no e refl, (λ e. no e refl, (λ e. no e refl, (λ _. both_and (eq-eqb _ _ (address _)) (eq-eqb _ _ (word _)), (λ e. no e refl, (λ e. no e refl, tt))))))
  row_four kind.Unknown = passes_not 3 (evaluate_rows s.rec s.words 0) (λ e. no e refl, (λ e. no e refl, (λ e. no e refl, tt)))

  not_four : (k : Kind) → (step (called k) s).answer ≡ refused 4 → ⊥
  unfolding RefusedByRow
  not_four k e = go (or_cases (eqb (refusal (called k) s) 4) _ (refused_by_row (called k) s 4 e))
    where
      none : (x : Finish) → eqb (late_row x) 4 ≡ true → ⊥
      none (full t) e = false≢true e
      none short e = false≢true e
      none (gives g t) e = false≢true e

      go : (eqb (refusal (called k) s) 4 ≡ true) ⊎ ((eqb (refusal (called k) s) 0 && eqb (late_row (finish (called k) s)) 4) ≡ true) → ⊥
      go (inl q) = row_four k (eqb-true _ 4 q)
      go (inr q) = none (finish (called k) s) (and_both (eqb (refusal (called k) s) 0) _ q).1

-- n and w stay
run-sizes : (cs : List Call) (s : State) → AllAccepted cs s → ((run cs s).rec.sizes.n ≡ s.rec.sizes.n) × ((run cs s).rec.sizes.w ≡ s.rec.sizes.w)
unfolding run
run-sizes [] s A = (refl, refl)
run-sizes (c ∷ cs) s A =
    let Z = same-sizes c s A.0 in
    let R = run-sizes cs (step c s).after A.1 in
    (R.0 ∙ Z.0, R.1 ∙ Z.1)

-- the state with which the accesses begin
first-valid : (file words list : List ℕ) → SectionsReady file words → Valid (state_in file words list) × PortsValid (state_in file words list)
first-valid file words list q =
    let ws = (sections file words).0 in
    let R = sections-read file words {ws = ws} (ap (λ (y : Sections). (ws, y)) (sym q)) in
    let at : List ℕ → State = λ x. record { rec = record_in file; words = x; list = list; ports = fresh_ports } in
    subst (λ (x : List ℕ). Valid (at x) × PortsValid (at x)) R.words_are (sections-valid R list, sections-ports-valid R list)

-- the numbers of calls are 14 at most
number-most : (k : ℕ) → numbers k ≡ true → k ≤ 14
number-most k e = go (or_cases (leb 1 k && leb k 9) (eqb k 14) e)
  where
    go : ((leb 1 k && leb k 9) ≡ true) ⊎ (eqb k 14 ≡ true) → k ≤ 14
    go (inl q) = omega (arith, leb-true k 9 (and_both (leb 1 k) (leb k 9) q).1)
    go (inr q) = omega (arith, eqb-true k 14 q)

-- of a call
call-number : (file words list : List ℕ) (k number : ℕ) → SectionsReady file words → AllAccepted (first_calls file k) (state_in file words list) → answer_after file words list k ≡ refused number → CaseNumber number
unfolding RefusalNumber NoRow123
call-number file words list k number q A e =
    let s = run (first_calls file k) (state_in file words list) in
    let at = byte_after file k in
    let n = get_or file 0 0 in
    let w = get_or file 1 0 in
    let c = call_at file n w at in
    let S = first-valid file words list q in
    let Z = run-sizes (first_calls file k) (state_in file words list) A in
    let four : 4 ≤ number = no_row_123 (first_calls file k) c (state_in file words list) number S.0 S.1 e in
    let most : number ≤ 14 = number-most number (refusal-number c s number e) in
    let no : number ≡ 4 → ⊥ = λ z. not_four file (at + 1) n w s Z.0 Z.1 (kind_at file at) (e ∙ ap refused z) in
    (omega arith, omega arith, λ z. omega arith, no)

at-number : (file words list text : List ℕ) {number k : ℕ} → SectionsReady file words → AllAccepted (first_calls file k) (state_in file words list) → RefusedAt file words list text number k → CaseNumber number
at-number file words list text q A (missing h e) = access-number file _ _ _ _ e
at-number file words list text {number} {k} q A (refused_call h s e) = call-number file words list k number q A e
at-number file words list text q A (line_over h s a f e) = from-five _ (omega arith) (omega arith)
at-number file words list text q A (bytes_left h l e) = from-five _ (omega arith) (omega arith)
at-number file words list text q A (end_over h l f e) = from-five _ (omega arith) (omega arith)

pub refused-numbers : RefusedNumbers
unfolding RefusedNumbers CaseRefused
refused-numbers file words list text number after e =
    let R = case-refused-after file words list text number after e in
    go R.accepted R.reason
  where
    go : AllAccepted (first_calls file after) (state_in file words list) → (((sections file words).1 ≡ sections.refused number) × (after ≡ 0)) ⊎ (SectionsReady file words × RefusedAt file words list text number after) → CaseNumber number
    go A (inl p) = section-number file words number p.0
    go A (inr p) = at-number file words list text p.0 A p.1
