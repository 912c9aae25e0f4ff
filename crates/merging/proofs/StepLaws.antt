-- A word built after a node or another word, and a node after a word; `did_next` of `conditions` has a node after a node.
use Rattle.std.proofs.Common.{List, ℕ}
use Rattle.conditions.specs.Build.{Build, ◌>>=◌}
use Rattle.conditions.specs.declared.builder.Builder.{Builder}
use Rattle.conditions.specs.Builder.{Did}
use Rattle.conditions.proofs.Promises.{next_is, later_trans}
use Rattle.addresses.specs.Words.{WordDid}

pub did_word : {b c d : Builder} {n : ℕ} {q : List ℕ} {m : Build ℕ} (k : ℕ → Build (List ℕ)) → Did b c n m → WordDid c d q (k n) → WordDid b d q (m >>= k)
did_word k D E = record { is = next_is k D.is E.is; later = later_trans D.later E.later; nodes = E.nodes }

pub word_word : {b c d : Builder} {r q : List ℕ} {m : Build (List ℕ)} (k : List ℕ → Build (List ℕ)) → WordDid b c r m → WordDid c d q (k r) → WordDid b d q (m >>= k)
word_word k D E = record { is = next_is k D.is E.is; later = later_trans D.later E.later; nodes = E.nodes }

pub word_did : {b c d : Builder} {n : ℕ} {r : List ℕ} {m : Build (List ℕ)} (k : List ℕ → Build ℕ) → WordDid b c r m → Did c d n (k r) → Did b d n (m >>= k)
word_did k D E = record { is = next_is k D.is E.is; later = later_trans D.later E.later; node = E.node }
