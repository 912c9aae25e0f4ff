-- What follows of every call by the record's words: 0 is accepted, and what a refused one leaves.
use Rattle.std.specs.Prelude.{◌≡◌, false, List, ℕ, suc, length}
use Rattle.model.specs.Step.{Call, is_refused, step}
use Rattle.model.specs.Frames.{clears, words_after}
use Rattle.record_words.specs.Words.{state_in}
use Rattle.record_words.specs.Calls.{left, called}

-- "0 for accepted"
unfoldable pub ZeroAccepts : Type 0
ZeroAccepts = (c : Call) (r w l ps a : List ℕ) (v : ℕ) → (called c r w l ps a v).number ≡ 0 → is_refused (step c (state_in r w l ps)).answer ≡ false

-- refused: record, list, ports, answer words and out-word "are untouched", and node words too, but for those that 8 and 9 clear
unfoldable pub RefusedLeaves : Type 0
RefusedLeaves = (c : Call) (r w l ps a : List ℕ) (v k : ℕ) → length r ≡ 6 → (called c r w l ps a v).number ≡ suc k → called c r w l ps a v ≡ left (suc k) r (words_after (clears (suc k)) (state_in r w l ps)) l ps a v
