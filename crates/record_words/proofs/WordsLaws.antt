-- The words of a record, there and back.
use mathlib.Core.Path.{◌≡◌, refl}
use mathlib.Core.List.{List, [], ◌∷◌}
use Prim.Native.Nat.{ℕ}
use native.Mathlib.Omega.{arith}
use lib.ListN.{length}
use Rattle.record_words.specs.Words.{record_in, words_of}

-- six words are the words of the record that they are
pub words_back : (r : List ℕ) → length r ≡ 6 → words_of (record_in r) ≡ r
words_back (x0 ∷ x1 ∷ x2 ∷ x3 ∷ x4 ∷ x5 ∷ []) p = refl
words_back [] p = absurd (omega (arith, p))
words_back (x0 ∷ []) p = absurd (omega (arith, p))
words_back (x0 ∷ x1 ∷ []) p = absurd (omega (arith, p))
words_back (x0 ∷ x1 ∷ x2 ∷ []) p = absurd (omega (arith, p))
words_back (x0 ∷ x1 ∷ x2 ∷ x3 ∷ []) p = absurd (omega (arith, p))
words_back (x0 ∷ x1 ∷ x2 ∷ x3 ∷ x4 ∷ []) p = absurd (omega (arith, p))
words_back (x0 ∷ x1 ∷ x2 ∷ x3 ∷ x4 ∷ x5 ∷ x6 ∷ l) p = absurd (omega (arith, p))
