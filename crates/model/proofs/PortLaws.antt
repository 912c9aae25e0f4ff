-- The ports in their words: what a port holds, and what a word put into one leaves and adds.
use mathlib.Core.Path.{◌≡◌, sym, ap, ◌∙◌}
use mathlib.Core.Bool.{Bool}
use mathlib.Core.List.{List, [], ◌∷◌, ◌++◌}
use Prim.Native.Nat.{ℕ, zero, suc, ◌+◌, ◌*◌, ◌-◌, ◌≤◌, ◌<◌}
use native.Mathlib.Omega.{arith}
use native.Mathlib.Decide.{dec_lt}
use lib.ListN.{length, get_or, take, drop, length-append, length-drop, get_or-append}
use lib.Seq.{length-take-le, get_or-take, get_or-drop}
use Rattle.conditions.specs.Value.{value}
use Rattle.model.specs.Record.{Record, held_word, replaced}
use Rattle.model.specs.Claims.{pair_at}
use Rattle.model.proofs.HalfLaws.{half_of, half-same}
use Rattle.model.proofs.ListLaws.{part-size, part-word}

-- word i of what port p holds
pub held_at : (r : Record) (ps : List ℕ) (p i : ℕ) → i < 2 * r.sizes.w → get_or (held_word r ps p) i 0 ≡ get_or ps (p * 32 + i) 0
held_at r ps p i h = part-word ps (p * 32) (p * 32 + 2 * r.sizes.w) i (omega arith)

pub held-length : (r : Record) (ps : List ℕ) (p : ℕ) → length ps ≡ 128 → r.sizes.w ≤ 16 → p ≤ 3 → length (held_word r ps p) ≡ 2 * r.sizes.w
held-length r ps p long wide port = part-size ps (p * 32) (2 * r.sizes.w) (omega (arith, long, wide, port))

-- reading past the first of two lists
get_d_past : (l m : List ℕ) (i : ℕ) → length l ≤ i → get_or (l ++ m) i 0 ≡ get_or m (i - length l) 0
get_d_past [] m i h = let e : i ≡ i - 0 = omega arith in ap (λ (k : ℕ). get_or m k 0) e
get_d_past (x ∷ l) m zero h = absurd (omega arith)
get_d_past (x ∷ l) m (suc i) h = let e : i - length l ≡ suc i - suc (length l) = omega arith in get_d_past l m i (omega arith) ∙ ap (λ (k : ℕ). get_or m k 0) e

module _ (ps : List ℕ) (p : ℕ) (word : List ℕ) (fits : p * 32 + length word ≤ length ps) where
  front : length (take (p * 32) ps) ≡ p * 32
  front = length-take-le (p * 32) ps (omega arith)

  pub replaced-length : length (replaced ps p word) ≡ length ps
  unfolding replaced
  replaced-length =
      let a = length-append (take (p * 32) ps) (word ++ drop (p * 32 + length word) ps) in
      let b = length-append word (drop (p * 32 + length word) ps) in
      let c = length-drop (p * 32 + length word) ps in
      omega (arith, a, b, c, front)

  -- in its own place stands the word
  pub replaced_in : (i : ℕ) → i < length word → get_or (replaced ps p word) (p * 32 + i) 0 ≡ get_or word i 0
  unfolding replaced
  replaced_in i h =
      let e : p * 32 + i - length (take (p * 32) ps) ≡ i = omega (arith, front) in
      get_d_past (take (p * 32) ps) (word ++ drop (p * 32 + length word) ps) (p * 32 + i) (omega (arith, front))
      ∙ ap (λ (k : ℕ). get_or (word ++ drop (p * 32 + length word) ps) k 0) e
      ∙ get_or-append word (drop (p * 32 + length word) ps) 0 i h

  -- before it and after it, what stood there
  pub replaced-before : (i : ℕ) → i < p * 32 → get_or (replaced ps p word) i 0 ≡ get_or ps i 0
  unfolding replaced
  replaced-before i h =
      get_or-append (take (p * 32) ps) (word ++ drop (p * 32 + length word) ps) 0 i (omega (arith, front)) ∙ get_or-take (p * 32) ps i 0 h

  pub replaced-after : (i : ℕ) → p * 32 + length word ≤ i → get_or (replaced ps p word) i 0 ≡ get_or ps i 0
  unfolding replaced
  replaced-after i h =
      let k = i - (p * 32 + length word) in
      let e : i - length (take (p * 32) ps) - length word ≡ k = omega (arith, front) in
      let f : p * 32 + length word + k ≡ i = omega arith in
      get_d_past (take (p * 32) ps) (word ++ drop (p * 32 + length word) ps) i (omega (arith, front))
      ∙ get_d_past word (drop (p * 32 + length word) ps) (i - length (take (p * 32) ps)) (omega (arith, front))
      ∙ ap (λ (k : ℕ). get_or (drop (p * 32 + length word) ps) k 0) e
      ∙ get_or-drop (p * 32 + length word) ps k 0
      ∙ ap (λ (k : ℕ). get_or ps k 0) f

  -- and so in every other port
  pub replaced_other : length word ≤ 32 → (q i : ℕ) → (q ≡ p → ⊥) → i < 32 → get_or (replaced ps p word) (q * 32 + i) 0 ≡ get_or ps (q * 32 + i) 0
  replaced_other l q i ne h = go (dec_lt q p)
    where
      go : Dec (q < p) → get_or (replaced ps p word) (q * 32 + i) 0 ≡ get_or ps (q * 32 + i) 0
      go (yes b) = replaced-before (q * 32 + i) (omega arith)
      go (no b) = let g : p < q = omega (arith, ne) in replaced-after (q * 32 + i) (omega arith)

-- the halves of pairs in words
half-from : (φ : ℕ → Bool) (w ws : List ℕ) (i h : ℕ) → value w φ (get_or ws (2 * i + h) 0) ≡ half_of h (λ k. pair_at φ w ws (i + k))
half-from φ w ws i zero = let e : 2 * i + 0 ≡ 2 * (i + 0) = omega arith in ap (λ (n : ℕ). value w φ (get_or ws n 0)) e
half-from φ w ws i (suc zero) = let e : 2 * i + 1 ≡ 2 * (i + 0) + 1 = omega arith in ap (λ (n : ℕ). value w φ (get_or ws n 0)) e
half-from φ w ws i (suc (suc h)) =
    let e : 2 * i + suc (suc h) ≡ 2 * suc i + h = omega arith in
    ap (λ (n : ℕ). value w φ (get_or ws n 0)) e ∙ half-from φ w ws (suc i) h
    ∙ half-same h (λ k. pair_at φ w ws (suc i + k)) (λ k. pair_at φ w ws (i + suc k)) (λ k. let f : suc i + k ≡ i + suc k = omega arith in ap (λ (n : ℕ). pair_at φ w ws n) f)

pub half_at : (φ : ℕ → Bool) (w ws : List ℕ) (h : ℕ) → value w φ (get_or ws h 0) ≡ half_of h (pair_at φ w ws)
half_at φ w ws h = let e : 2 * 0 + h ≡ h = omega arith in ap (λ (n : ℕ). value w φ (get_or ws n 0)) (sym e) ∙ half-from φ w ws 0 h ∙ half-same h (λ k. pair_at φ w ws (0 + k)) (pair_at φ w ws) (λ k. let f : 0 + k ≡ k = omega arith in ap (λ (n : ℕ). pair_at φ w ws n) f)
