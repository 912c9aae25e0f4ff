-- A read by the record that six words are, its port and its answer words; a write by its place.
use Rattle.std.proofs.Common.{◌≡◌, refl, ap, ◌∙◌, List, [], ℕ, Option, Some, None, Result, Ok, Err}
use Rattle.std.specs.Option.{unwrap_or}
use Rattle.refusals.specs.declared.Refusal.{Refusal}
use Rattle.model.specs.Step.{write, read, access}
use Rattle.memory.specs.declared.Record.{Record}
use Rattle.memory.specs.Contract.{write_answer, read_answer, AnswersAnyPorts, ReadAnswers}
use Rattle.record_words.specs.Words.{record_in, words_of}
use Rattle.record_words.specs.Calls.{idle_place, number_of, left, called}
use Rattle.record_words.proofs.CallLaws.{call_is}

-- a write, by its place
pub write_is : (e : Option ℕ) {m m' : Record} {r' w' l' : List ℕ} {o : ℕ} (r w l : List ℕ) (c a d : List ℕ) (v : ℕ)
    → m.fields ≡ record_in r
    → AnswersAnyPorts (write c a d) m w l m' w' l' (write_answer (Ok e))
    → r' ≡ words_of m'.fields
    → o ≡ unwrap_or e idle_place
    → left 0 r' w' l' [] [] o ≡ called (access (write c a d)) r w l [] [] v
write_is (Some k) r w l c a d v i n o f = call_is (access (write c a d)) r w l [] [] v i (n []) o refl f
write_is None r w l c a d v i n o f = call_is (access (write c a d)) r w l [] [] v i (n []) o refl f

-- a read, whose answer words are those that it leaves
pub read_is : (x : Result (Unit {0}) Refusal) {m m' : Record} {r' w' ps' a' : List ℕ} {k : ℕ} (r w l ps : List ℕ) (p : ℕ) (e d a : List ℕ)
    → m.fields ≡ record_in r
    → ReadAnswers m w l ps p e d a m' w' ps' a' x
    → r' ≡ words_of m'.fields
    → k ≡ number_of (read_answer x a')
    → left k r' w' l ps' a' 0 ≡ called (access (read p e d a)) r w l ps a 0
read_is (Ok u) r w l ps p e d a i n o f = call_is (access (read p e d a)) r w l ps a 0 i n.is o f refl
read_is (Err j) {r' = r'} {w'} {ps'} {a'} {k} r w l ps p e d a i n o f =
    ap (λ (z : List ℕ). left k r' w' l ps' z 0) n.leaves ∙ call_is (access (read p e d a)) r w l ps a 0 i n.is o f refl
