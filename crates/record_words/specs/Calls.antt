-- A call by the record's words: what it returns, and what it leaves.
use Rattle.std.specs.Prelude.{cond, List, ℕ}
use Rattle.model.specs.Step.{Call, Given, place, idle, filled, entered, kept, accepted, valued, node, triples, Answer, refused, done, Result, step, answer_words}
use Rattle.record_words.specs.Words.{words_of, state_in}

-- "0 for accepted or the row's number"
abbrev pub number_of : Answer → ℕ
number_of (refused k) = k
number_of (done g) = 0

-- `MD_IDLE`
abbrev pub idle_place : ℕ
idle_place = 4294967295

-- the out-word that held v: "`value` is 0 or 1; `entered` is 1, or 0 for kept"; a write's is its place, or `MD_IDLE`
abbrev pub given_out : Given → ℕ → ℕ
given_out (place k) v = k
given_out idle v = idle_place
given_out (filled r) v = v
given_out entered v = 1
given_out kept v = 0
given_out accepted v = v
given_out (valued b) v = cond b 1 0
given_out (node n) v = n
given_out (triples ts) v = v

-- "Where a call is refused, out-words are untouched"
abbrev pub out_of : Answer → ℕ → ℕ
out_of (refused k) v = v
out_of (done g) v = given_out g v

-- what a function returns, and what it leaves in the record's words, node words, list, ports, answer words and out-word; [] or 0 where it is lent none
pub record Left : Type 0 where
  pub number : ℕ
  pub rec : List ℕ
  pub nodes : List ℕ
  pub list : List ℕ
  pub ports : List ℕ
  pub answer : List ℕ
  pub out : ℕ

abbrev pub left : ℕ → List ℕ → List ℕ → List ℕ → List ℕ → List ℕ → ℕ → Left
left k r w l ps a v = record { number = k; rec = r; nodes = w; list = l; ports = ps; answer = a; out = v }

-- by a call's result, from answer words a and an out-word v
abbrev pub left_by : Result → List ℕ → ℕ → Left
left_by x a v = left (number_of x.answer) (words_of x.after.rec) x.after.words x.after.list x.after.ports (answer_words x.answer a) (out_of x.answer v)

unfoldable pub called : Call → List ℕ → List ℕ → List ℕ → List ℕ → List ℕ → ℕ → Left
called c r w l ps a v = left_by (step c (state_in r w l ps)) a v
