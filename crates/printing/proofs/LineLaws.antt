-- How the lines are put together.
use Rattle.std.proofs.Common.{◌≡◌, refl, List, [], ◌++◌, ℕ, zero, suc, ◌+◌, ◌*◌, ◌-◌, ◌<◌, ◌≤◌, get_or, sub-one, arith}
use Rattle.text.specs.Text.{Out, appended}
use Rattle.text.proofs.TextLaws.{appended-append}
use Rattle.lines.specs.Lines.{bit_text, bits_text}

-- a part of a line after another
pub two_parts : (a b : List ℕ) (o : Out) {o₁ o₂ : Out} → o₁ ≡ appended a o → o₂ ≡ appended b o₁ → o₂ ≡ appended (a ++ b) o
two_parts a b o e₁ e₂ = cc (appended-append a b o)

-- of a word's bits as text, from the highest: one bit, and those below it
pub bits-next : (w word : List ℕ) (i : ℕ) → 0 < i → bits_text w word i ≡ bit_text w (get_or word (2 * (i - 1)) 0) (get_or word (2 * (i - 1) + 1) 0) ++ bits_text w word (i - 1)
unfolding bits_text
bits-next w word zero h = absurd (omega arith)
bits-next w word (suc i) h = rw (sub-one (suc i)) refl

-- none
pub bits-done : (w word : List ℕ) (i : ℕ) → i ≤ 0 → bits_text w word i ≡ []
unfolding bits_text
bits-done w word zero h = refl
bits-done w word (suc i) h = absurd (omega arith)
