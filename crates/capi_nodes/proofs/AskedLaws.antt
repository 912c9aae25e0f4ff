-- A condition's text and a witness, by the row that refuses them.
use Rattle.std.proofs.Common.{◌≡◌, sym, ap, ◌∙◌, true, false, List, ◌++◌, ℕ, ◌+◌, ◌<◌, ◌≤◌, length, drop, ltb, arith}
use native.Mathlib.Nat.{zero-add}
use borrow.Author.Tests.{ltb-true, ltb-false, le-leb, lt-leb}
use Rattle.refusals.specs.declared.Refusal.{Refusal}
use Rattle.refusals.specs.Refusal.{number}
use Rattle.refusals.proofs.RefusalLaws.{number-suc}
use Rattle.text.specs.declared.Text.{Text}
use Rattle.text.specs.declared.Writer.{Writer}
use Rattle.text.specs.Text.{Out, out, growing, appended}
use Rattle.text.specs.Writer.{out_of, Wrote}
use Rattle.text.proofs.TextLaws.{appended-fits, appended_is-full, appended-length}
use Rattle.conditions.specs.Show.{text_of}
use Rattle.conditions.specs.Witness.{witness_of}
use Rattle.model.specs.Record.{Record}
use Rattle.model.specs.Rows.{first_row, evaluate_rows}
use Rattle.cases.specs.Case.{zeroed}
use Rattle.record_words.specs.Words.{record_in}
use Rattle.capi_nodes.specs.Contract.{row_of, left_text, texted, witnessed}

-- the row, by the record that the six words are
pub row_is : (f : ℕ) (r w : List ℕ) {m : Record} {k : ℕ} → m ≡ record_in r → k ≡ first_row (evaluate_rows m w f) → k ≡ row_of f r w
row_is f r w i e = e ∙ ap (λ (z : Record). first_row (evaluate_rows z w f)) i

-- refused by a row
pub text-turned : (f : ℕ) (r w b : List ℕ) (v : ℕ) (k : Refusal) {n : ℕ} → number k ≡ row_of f r w → n ≡ number k → left_text n b v ≡ texted f r w b v
unfolding texted
text-turned f r w b v k e q = let s = number-suc k in rw (q, ← e, s.1)

pub witness-turned : (f : ℕ) (r w : List ℕ) (v : ℕ) (k : Refusal) {n : ℕ} → number k ≡ row_of f r w → n ≡ number k → (n, v) ≡ witnessed f r w v
unfolding witnessed
witness-turned f r w v k e q = let s = number-suc k in rw (q, ← e, s.1)

pub witness-told : (f : ℕ) (r w : List ℕ) (v : ℕ) {a : ℕ} → 0 ≡ row_of f r w → a ≡ witness_of w f → (0, a) ≡ witnessed f r w v
unfolding witnessed
witness-told f r w v e t = rw (← e, t)

-- what a writer wrote that began at the buffer's first byte
pub wrote_first : {u x : Writer} {b b' s : List ℕ} → out_of u ≡ growing b 0 → Wrote u x s → b' ≡ x.buf.now → out b' x.text ≡ appended s (growing b 0)
wrote_first {x = x} {s = s} g W e = ap (λ (l : List ℕ). out l x.text) e ∙ W.is ∙ ap (appended s) g

-- the text fits, or does not
module _ (f : ℕ) (r w b : List ℕ) (v : ℕ) (e : 0 ≡ row_of f r w) {b' : List ℕ} {t : Text} (p : out b' t ≡ appended (text_of w f) (growing b 0)) where
  full_is : t.full ≡ ltb (length b) (0 + length (text_of w f))
  full_is = ap (λ (o : Out). o.text.full) p ∙ appended_is-full (text_of w f) b 0 (omega arith)

  pub text-told : t.full ≡ false → left_text 0 b' t.at ≡ texted f r w b v
  unfolding texted
  text-told n =
      let h : 0 + length (text_of w f) ≤ length b = ltb-false (length b) (0 + length (text_of w f)) (sym full_is ∙ n) in
      let q : out b' t ≡ growing (text_of w f ++ drop (length (text_of w f)) b) (length (text_of w f)) = p ∙ appended-fits (text_of w f) b 0 h ∙ ap (λ (n : ℕ). growing (text_of w f ++ drop n b) n) (zero-add (length (text_of w f))) in
      rw (← e, le-leb (length (text_of w f)) (length b) (omega arith)) (ap (λ (o : Out). left_text 0 o.buffer o.text.at) q)

  pub text-over : t.full ≡ true → {k : ℕ} {b'' : List ℕ} → k ≡ 13 → b'' ≡ zeroed b' → left_text k b'' v ≡ texted f r w b v
  unfolding texted
  text-over n d g =
      let h : length b < 0 + length (text_of w f) = ltb-true (length b) (0 + length (text_of w f)) (sym full_is ∙ n) in
      let l : length b' ≡ length b = ap (λ (o : Out). length o.buffer) p ∙ appended-length (text_of w f) (growing b 0) in
      rw (d, g, ← e, lt-leb (length (text_of w f)) (length b) (omega arith), l)
