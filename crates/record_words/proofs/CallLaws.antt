-- A call by the record that six words are, and the record written back.
use Rattle.std.proofs.Common.{◌≡◌, sym, ap, ◌∙◌, List, ℕ}
use Rattle.model.specs.Record as model
use Rattle.model.specs.Step.{Call, Answer, Result, step, answer_words}
use Rattle.model.specs.Chain.{Answered}
use Rattle.memory.specs.declared.Record.{Record}
use Rattle.memory.specs.Contract.{state_of}
use Rattle.record_words.specs.Words.{record_in, words_of}
use Rattle.record_words.specs.Calls.{number_of, out_of, left, left_by, called}

-- a call of memory from the record m, which the words r are, to m', of which r' are the words; its number is k, and its out-word o
pub call_is : (c : Call) {x : Answer} {m m' : Record} {r' w' l' ps' : List ℕ} {k o : ℕ} (r w l ps a : List ℕ) (v : ℕ)
    → m.fields ≡ record_in r
    → Answered c (state_of m w l ps) (state_of m' w' l' ps') x
    → r' ≡ words_of m'.fields
    → k ≡ number_of x
    → o ≡ out_of x v
    → left k r' w' l' ps' (answer_words x a) o ≡ called c r w l ps a v
unfolding called
call_is c {x} {m} {m'} {r'} {w'} {l'} {ps'} r w l ps a v i n t e f =
    (λ j. left (e j) (t j) w' l' ps' (answer_words x a) (f j))
    ∙ sym (ap (λ (z : Result). left_by z a v) n)
    ∙ ap (λ (z : model.Record). left_by (step c (record { rec = z; words = w; list = l; ports = ps })) a v) i
