-- Evaluate and Fresh by the record that six words are.
use Rattle.std.proofs.Common.{◌≡◌, refl, sym, ap, ◌∙◌, Bool, true, false, cond, List, [], ℕ, zero, suc}
use mir.Val.{bool_byte}
use Rattle.semantics.specs.declared.Sizes.{Sizes}
use Rattle.model.specs.Record as model
use Rattle.model.specs.Step.{evaluate, node_call, Answer, fresh}
use Rattle.memory.specs.declared.Record.{Record}
use Rattle.memory.specs.Contract.{numbered, AnswersNoList}
use Rattle.memory.specs.Contract as memory
use Rattle.record_words.specs.Words.{record_in, words_of}
use Rattle.record_words.specs.Calls.{number_of, out_of}
use Rattle.record_words.proofs.CallLaws.{call_is}
use Rattle.capi_nodes.specs.Contract.{evaluated_by, evaluated, freshed}

-- evaluate writes no record back
pub evaluate_is : {x : Answer} (f φ : ℕ) {m m' : Record} {k o : ℕ} (r w : List ℕ) (v : ℕ)
    → m.fields ≡ record_in r
    → AnswersNoList (evaluate f φ) m w m' w x
    → k ≡ number_of x
    → o ≡ out_of x v
    → (k, o) ≡ evaluated f φ r w v
unfolding evaluated
evaluate_is f φ r w v i n e g = ap evaluated_by (call_is (node_call (evaluate f φ)) r w [] [] [] v i (n [] []) refl e g)

-- the number that a truth value is
pub as_number : (t : Bool) → bool_byte t ≡ cond t 1 0
as_number true = refl
as_number false = refl

number_back : (k : ℕ) → number_of (numbered k) ≡ k
number_back zero = refl
number_back (suc k) = refl

-- Fresh
pub fresh_is : {x : Answer} (z : Sizes) {m m' : Record} {k : ℕ} {r' w' ps' : List ℕ} (r w ps : List ℕ)
    → m.fields ≡ record_in r
    → memory.freshed (fresh m.fields z w ps) ≡ (x, m'.fields, w', ps')
    → r' ≡ words_of m'.fields
    → k ≡ number_of x
    → (k, r', w', ps') ≡ freshed z.n z.w r w ps
unfolding freshed
fresh_is z {m} {m'} {w' = w'} {ps'} r w ps i f o e =
    (λ j. (e j, o j, w', ps'))
    ∙ sym (ap (λ (t : Answer × model.Record × List ℕ × List ℕ). (number_of t.0, words_of t.1, t.2, t.3)) f)
    ∙ ap (λ (k : ℕ). (k, words_of (fresh m.fields z w ps).rec, (fresh m.fields z w ps).words, (fresh m.fields z w ps).ports)) (number_back (fresh m.fields z w ps).answer)
    ∙ ap (λ (f : model.Record). ((fresh f z w ps).answer, words_of (fresh f z w ps).rec, (fresh f z w ps).words, (fresh f z w ps).ports)) i
