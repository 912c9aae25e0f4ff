-- Numbers read one after the other, and the slice that they fill.
use mathlib.Core.Path.{◌≡◌, refl, sym, ap, ◌∙◌}
use mathlib.Core.List.{List, [], ◌∷◌, ◌++◌, append-nil}
use Prim.Native.Nat.{ℕ, zero, suc, ◌+◌, ◌*◌, ◌-◌, ◌<◌, ◌≤◌}
use native.Mathlib.Numerals.{add-one}
use native.Mathlib.Omega.{arith}
use lib.ListN.{length, get_or, set, take, drop, drop_of_length-le}
use lib.Seq.{drop-cons, set_at, append_snoc}
use Rattle.model.specs.Record.{part}
use Rattle.format.specs.Bytes.{number_at, numbers_at}

module _ (file : List ℕ) where
  pub numbers-length : (at k : ℕ) → length (numbers_at file at k) ≡ k
  unfolding numbers_at
  numbers-length at zero = refl
  numbers-length at (suc k) = ap suc (numbers-length (at + 2) k)

  -- one number more
  pub numbers_more : (at k : ℕ) → numbers_at file at (suc k) ≡ numbers_at file at k ++ number_at file (at + 2 * k) ∷ []
  unfolding numbers_at
  numbers_more at zero = let e : at ≡ at + 2 * 0 = omega arith in ap (λ (i : ℕ). number_at file i ∷ []) e
  numbers_more at (suc k) =
      let e : at + 2 + 2 * k ≡ at + 2 * suc k = omega arith in
      ap (λ (l : List ℕ). number_at file at ∷ l) (numbers_more (at + 2) k ∙ ap (λ (i : ℕ). numbers_at file (at + 2) k ++ number_at file i ∷ []) e)

  -- a slice whose first i words are filled
  abbrev pub filled_to : ℕ → ℕ → List ℕ → List ℕ
  filled_to at i l = numbers_at file at i ++ drop i l

  pub filled_none : (at : ℕ) (l : List ℕ) → l ≡ filled_to at 0 l
  unfolding numbers_at
  filled_none at l = refl

  pub filled_more : (at i : ℕ) (l : List ℕ) {m : List ℕ} {v : ℕ} → i < length l → m ≡ filled_to at i l → v ≡ number_at file (at + 2 * i) → set m i v ≡ filled_to at (i + 1) l
  filled_more at i l {m} {v} h e f =
      ap (λ (t : List ℕ). set t i v) (e ∙ ap (λ (t : List ℕ). numbers_at file at i ++ t) (drop-cons l i 0 h))
      ∙ set_at (numbers_at file at i) _ (drop (suc i) l) v i (numbers-length at i)
      ∙ ap (λ (x : ℕ). numbers_at file at i ++ x ∷ drop (suc i) l) f
      ∙ sym (append_snoc (numbers_at file at i) (number_at file (at + 2 * i)) (drop (suc i) l))
      ∙ ap (λ (t : List ℕ). t ++ drop (suc i) l) (sym (numbers_more at i))
      ∙ ap (λ (t : ℕ). filled_to at t l) (sym (add-one i))

  pub filled_all : (at i : ℕ) (l : List ℕ) → i ≡ length l → filled_to at i l ≡ numbers_at file at (length l)
  filled_all at i l e = rw (drop_of_length-le l {i = i} (omega arith), append-nil) (ap (numbers_at file at) e)

  -- some of them
  drop-numbers : (m at a : ℕ) → a ≤ m → drop a (numbers_at file at m) ≡ numbers_at file (at + 2 * a) (m - a)
  unfolding numbers_at
  drop-numbers zero at zero h = refl
  drop-numbers zero at (suc a) h = absurd (omega arith)
  drop-numbers (suc m) at zero h =
      let e : at ≡ at + 2 * 0 = omega arith in
      let f : suc m ≡ suc m - 0 = omega arith in
      ap (λ (i : ℕ). numbers_at file i (suc m)) e ∙ ap (numbers_at file (at + 2 * 0)) f
  drop-numbers (suc m) at (suc a) h =
      let e : at + 2 + 2 * a ≡ at + 2 * suc a = omega arith in
      let f : m - a ≡ suc m - suc a = omega arith in
      drop-numbers m (at + 2) a (omega arith) ∙ ap (λ (i : ℕ). numbers_at file i (m - a)) e ∙ ap (numbers_at file (at + 2 * suc a)) f

  take-numbers : (m at k : ℕ) → k ≤ m → take k (numbers_at file at m) ≡ numbers_at file at k
  unfolding numbers_at
  take-numbers m at zero h = refl
  take-numbers zero at (suc k) h = absurd (omega arith)
  take-numbers (suc m) at (suc k) h = ap (λ (l : List ℕ). number_at file at ∷ l) (take-numbers m (at + 2) k (omega arith))

  pub part-numbers : (at m a e k from : ℕ) → e ≡ a + k → e ≤ m → from ≡ at + 2 * a → part (numbers_at file at m) a e ≡ numbers_at file from k
  part-numbers at m a e k from z h f =
      let s : e - a ≡ k = omega arith in
      ap (λ (i : ℕ). take i (drop a (numbers_at file at m))) s
      ∙ ap (take k) (drop-numbers m at a (omega arith))
      ∙ take-numbers (m - a) (at + 2 * a) k (omega arith)
      ∙ ap (λ (i : ℕ). numbers_at file i k) (sym f)
