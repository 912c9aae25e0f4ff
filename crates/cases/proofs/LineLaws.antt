-- What the line of an access says: of a write whether it is idle, of an assert whether it is kept, and what each left.
use mathlib.Core.Path.{◌≡◌, refl, sym, ap, subst, ◌∙◌}
use mathlib.Core.Bool.{true, false, true≢false, false≢true}
use mathlib.Core.List.{List}
use Prim.Native.Nat.{ℕ}
use Rattle.lines.specs.Lines.{write_line, idle_line, read_line, check_line}
use Rattle.lines.specs.Claims.{WriteLines}
use Rattle.lines.proofs.LineClaims.{write_lines, assert-tells}
use Rattle.model.specs.Step.{State, write, read, assert, check, access, filled, entered, kept, accepted, Answer, done, is_refused, answer_words, Result, Finish, closed, finish_access, step}
use Rattle.model.specs.Table.{IdleExactly}
use Rattle.model.specs.Count.{KeptExactly}
use Rattle.model.proofs.FinishProgram.{of-program}
use Rattle.model.proofs.Demand2.{acts, idle_or-entered, kept_or-entered}
use Rattle.model.proofs.IdleLaws.{idle-exactly}
use Rattle.model.proofs.CountLaws.{kept-exactly}
use Rattle.cases.specs.Case.{line_of}
use Rattle.cases.specs.Claims.{line_after, asserted_after, WriteLine, AssertLine, ReadLine, CheckLine}

place_is_not-idle : (k : ℕ) → write_line k ≡ idle_line → ⊥
unfolding WriteLines
place_is_not-idle k = (write_lines k k).1

says : (x : Result) {y : Answer} → x.answer ≡ y → line_of x.answer x.after ≡ line_of y x.after
says x e = ap (λ (y : Answer). line_of y x.after) e

pub write-line : WriteLine
unfolding WriteLine IdleExactly
write-line c a d s n =
    let W = idle-exactly c a d s n in
    let x = step (access (write c a d)) s in
    record {
      idles = (
        λ q. idle_or-entered s c a d n (λ i e. W.idles.0 (ap (λ (x : Result). x.answer) e)) (λ i e. absurd (place_is_not-idle s.rec.entries (sym (says x (ap (λ (x : Result). x.answer) e)) ∙ q))),
        λ never. says x (W.idles.1 never),
      );
      enters = (
        λ q. idle_or-entered s c a d n (λ i e. absurd (place_is_not-idle s.rec.entries (sym q ∙ says x (ap (λ (x : Result). x.answer) e)))) (λ i e. W.enters.0 (ap (λ (x : Result). x.answer) e)),
        λ may. says x (W.enters.1 may),
      );
    }

-- an accepted assert
module _ (b : ℕ) (a d : List ℕ) (s : State) where
  abbrev asserted : Result
  asserted = step (access (assert b a d)) s

  entered_says : asserted.answer ≡ done entered → line_after (assert b a d) s ≡ asserted_after true b a d s
  entered_says e = says asserted e

  kept_says : asserted.answer ≡ done kept → line_after (assert b a d) s ≡ asserted_after false b a d s
  kept_says e = says asserted e

  entered_is_not-kept : asserted_after true b a d s ≡ asserted_after false b a d s → ⊥
  entered_is_not-kept q = true≢false (assert-tells asserted.after.words asserted.after.words true false asserted.after.rec.asserted asserted.after.rec.asserted q)

pub assert-line : AssertLine
unfolding AssertLine KeptExactly
assert-line b a d s n =
    let A = kept-exactly b a d s n in
    record {
      enters = (
        λ q. kept_or-entered s b a d n (λ e. absurd (entered_is_not-kept b a d s (sym q ∙ kept_says b a d s (ap (λ (x : Result). x.answer) e)))) (λ k f e. A.enters.0 (ap (λ (x : Result). x.answer) e)),
        λ some. entered_says b a d s (A.enters.1 some),
      );
      keeps = (
        λ q. kept_or-entered s b a d n (λ e. A.keeps.0 (ap (λ (x : Result). x.answer) e)) (λ k f e. absurd (entered_is_not-kept b a d s (sym (entered_says b a d s (ap (λ (x : Result). x.answer) e)) ∙ q))),
        λ none. kept_says b a d s (A.keeps.1 none),
      );
    }

pub read-line : ReadLine
unfolding ReadLine finish_access closed
read-line p e a out s n =
    of-program (λ (z : Finish). step (access (read p e a out)) s ≡ closed s z → Shows (step (access (read p e a out)) s)) _ _ (λ f q. absurd (true≢false (sym (ap (λ (x : Result). is_refused x.answer) q) ∙ n))) (λ f q. shows _ (ap (λ (x : Result). x.answer) q))
    (acts (access (read p e a out)) s n).1
  where
    Shows : Result → Type 0
    Shows x = line_of x.answer x.after ≡ read_line x.after.words (answer_words x.answer out)

    shows : (x : Result) {r : List ℕ} → x.answer ≡ done (filled r) → Shows x
    shows x q = subst (λ (y : Answer). line_of y x.after ≡ read_line x.after.words (answer_words y out)) (sym q) refl

pub check-line : CheckLine
unfolding CheckLine finish_access closed
check-line b a d s n =
    of-program (λ (z : Finish). step (access (check b a d)) s ≡ closed s z → Shows (step (access (check b a d)) s)) _ _ (λ f q. absurd (true≢false (sym (ap (λ (x : Result). is_refused x.answer) q) ∙ n))) (λ f q. says (step (access (check b a d)) s) (ap (λ (x : Result). x.answer) q))
    (acts (access (check b a d)) s n).1
  where
    Shows : Result → Type 0
    Shows x = line_of x.answer x.after ≡ check_line x.after.words x.after.rec.checked
