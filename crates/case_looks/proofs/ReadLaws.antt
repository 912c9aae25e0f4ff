-- What a read fills, and what is printed of it.
use Rattle.std.proofs.Common.{◌≡◌, sym, ap, ◌∙◌, List, ℕ, ◌<◌, length, get_or, Result}
use Rattle.refusals.specs.declared.Refusal.{Refusal}
use Rattle.model.specs.Step.{State, read, access, filled, done, step}
use Rattle.model.specs.Frames.{Valid}
use Rattle.model.proofs.FrameLaws.{filled-below}
use Rattle.memory.specs.declared.Record.{Record}
use Rattle.memory.specs.Contract.{state_of, read_answer, AnswersOn, ReadAnswersOn}

-- a read fills the words that it is lent
pub read-answers : {m m' : Record} {w l ps : List ℕ} {p : ℕ} {e a out w' ps' out' : List ℕ} {x : Result (Unit {0}) Refusal} {table : List ℕ} → ReadAnswersOn m w l ps p e a out m' w' ps' out' x table → (z : List ℕ) → out ≡ z → AnswersOn (read p e a z) (state_of m w l ps) (state_of m' w' l ps') (read_answer x out') table
read-answers {m} {w = w} {l} {ps} {p} {e} {a} N z f = record { is = ap (λ (y : List ℕ). step (access (read p e a y)) (state_of m w l ps)) (sym f) ∙ N.is.is; sound = N.sound }

pub word_below : (p : ℕ) (e a out : List ℕ) {r : List ℕ} {s t : State} → Valid s → step (access (read p e a out)) s ≡ record { answer = done (filled r); after = t } → (i : ℕ) → i < length r → get_or r i 0 < t.rec.count
word_below p e a out {s = s} K f = (filled-below p e a out s f).1
