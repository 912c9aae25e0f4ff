-- 0 is accepted, and what a refused call leaves.
use mathlib.Core.Path.{◌≡◌, refl, sym, ap, ◌∙◌}
use mathlib.Core.Bool.{false, true≢false}
use mathlib.Core.List.{List}
use native.Mathlib.Omega.{arith}
use Prim.Native.Nat.{ℕ, suc}
use lib.ListN.{length}
use Rattle.model.specs.Step.{State, Call, Answer, refused, done, is_refused, step}
use Rattle.model.specs.Frames.{clears, words_after, numbers, RefusalLeaves, RefusalNumber}
use Rattle.model.proofs.FrameLaws.{refusal-leaves, refusal-number}
use Rattle.record_words.specs.Words.{state_in}
use Rattle.record_words.specs.Calls.{number_of, left, left_by, called}
use Rattle.record_words.specs.Claims.{ZeroAccepts, RefusedLeaves}
use Rattle.record_words.proofs.WordsLaws.{words_back}

zero-goes : (c : Call) (s : State) (x : Answer) → (step c s).answer ≡ x → number_of x ≡ 0 → is_refused x ≡ false
unfolding RefusalNumber
zero-goes c s (refused k) p q = absurd (true≢false (sym (refusal-number c s k p) ∙ ap numbers q))
zero-goes c s (done g) p q = refl

pub zero-accepts : ZeroAccepts
unfolding ZeroAccepts called
zero-accepts c r w l ps a v e = zero-goes c (state_in r w l ps) (step c (state_in r w l ps)).answer refl e

-- an answer whose number is a row's is refused by it
numbered-refused : (x : Answer) (k : ℕ) → number_of x ≡ suc k → x ≡ refused (suc k)
numbered-refused (refused j) k q = ap refused q
numbered-refused (done g) k q = absurd (omega (arith, q))

refused_as : (c : Call) (r w l ps a : List ℕ) (v k : ℕ) → length r ≡ 6 → (step c (state_in r w l ps)).answer ≡ refused (suc k)
    → left_by (step c (state_in r w l ps)) a v ≡ left (suc k) r (words_after (clears (suc k)) (state_in r w l ps)) l ps a v
unfolding RefusalLeaves
refused_as c r w l ps a v k six e =
    ap (λ (z : Answer). left_by (record { answer = z; after = (step c (state_in r w l ps)).after }) a v) e
    ∙ ap (λ (z : State). left_by (record { answer = refused (suc k); after = z }) a v) (refusal-leaves c (state_in r w l ps) (suc k) e)
    ∙ ap (λ (z : List ℕ). left (suc k) z (words_after (clears (suc k)) (state_in r w l ps)) l ps a v) (words_back r six)

pub refused-leaves : RefusedLeaves
unfolding RefusedLeaves called
refused-leaves c r w l ps a v k six e = refused_as c r w l ps a v k six (numbered-refused (step c (state_in r w l ps)).answer k e)
