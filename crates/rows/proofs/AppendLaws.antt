-- Words stored into a list from a place on, and an entry stored part by part.
use mathlib.Core.Path.{◌≡◌, sym, ap, subst, ◌∙◌}
use mathlib.Core.List.{List, [], ◌∷◌, ◌++◌, append_assoc}
use Prim.Native.Nat.{ℕ, suc, ◌+◌, ◌<◌, ◌≤◌}
use native.Mathlib.Numerals.{add-one}
use native.Mathlib.Omega.{arith}
use lib.ListN.{length, get_or, set, take, drop, length-append}
use lib.Seq.{take_at, length-take-le, drop-append-add, drop-drop, paste-zero, paste-suc, sets-eq}

-- a copy word by word
pub copy-none : (at : ℕ) (m l : List ℕ) → l ≡ take at l ++ (take 0 m ++ drop (at + 0) l)
copy-none at m l = paste-zero l at m ∙ append_assoc (take at l) (take 0 m) (drop (at + 0) l)

pub copy_more : (at k : ℕ) (m l : List ℕ) → k < length m → at + k < length l → set (take at l ++ (take k m ++ drop (at + k) l)) (at + k) (get_or m k 0) ≡ take at l ++ (take (k + 1) m ++ drop (at + (k + 1)) l)
copy_more at k m l i j =
    ap (λ (t : List ℕ). set t (at + k) (get_or m k 0)) (sym (append_assoc (take at l) (take k m) (drop (at + k) l)))
    ∙ paste-suc l at m k 0 j i
    ∙ append_assoc (take at l) (take (suc k) m) (drop (at + suc k) l)
    ∙ ap (λ (t : ℕ). take at l ++ (take t m ++ drop (at + t) l)) (sym (add-one k))

-- what a copy leaves
abbrev pub copied : List ℕ → ℕ → List ℕ → List ℕ
copied l at m = take at l ++ (m ++ drop (at + length m) l)

-- two copies, one right after the other
module _ (l : List ℕ) (at : ℕ) (m d : List ℕ) (h : at ≤ length l) where
  head-length : length (take at l ++ m) ≡ at + length m
  head-length = length-append (take at l) m ∙ ap (λ (t : ℕ). t + length m) (length-take-le at l h)

  split : copied l at m ≡ (take at l ++ m) ++ drop (at + length m) l
  split = sym (append_assoc (take at l) m (drop (at + length m) l))

  head_is : take (at + length m) (copied l at m) ≡ take at l ++ m
  head_is = ap (λ (t : List ℕ). take (at + length m) t) split ∙ take_at (take at l ++ m) (drop (at + length m) l) (at + length m) head-length

  rest_is : drop (at + length m + length d) (copied l at m) ≡ drop (at + length m + length d) l
  rest_is =
      ap (λ (t : List ℕ). drop (at + length m + length d) t) split
      ∙ subst (λ (t : ℕ). drop (t + length d) ((take at l ++ m) ++ drop (at + length m) l) ≡ drop (length d) (drop (at + length m) l)) head-length (drop-append-add (take at l ++ m) (drop (at + length m) l) (length d))
      ∙ drop-drop (length d) (at + length m) l

  pub copied-again : copied (copied l at m) (at + length m) d ≡ copied l at (m ++ d)
  copied-again =
      let e : at + length m + length d ≡ at + length (m ++ d) = omega (arith, length-append m d) in
      ap (λ (t : List ℕ). t ++ (d ++ drop (at + length m + length d) (copied l at m))) head_is
      ∙ ap (λ (t : List ℕ). (take at l ++ m) ++ (d ++ t)) rest_is
      ∙ append_assoc (take at l) m (d ++ drop (at + length m + length d) l)
      ∙ ap (λ (t : List ℕ). take at l ++ t) (sym (append_assoc m d (drop (at + length m + length d) l)))
      ∙ ap (λ (t : ℕ). take at l ++ ((m ++ d) ++ drop t l)) e

-- two words, then two copies
pub two-words : (at h s : ℕ) (l : List ℕ) → at + 2 ≤ length l → set (set l at h) (at + 1) s ≡ copied l at (h ∷ s ∷ [])
two-words at h s l i =
    ap (λ (t : ℕ). set (set l at h) t s) (add-one at)
    ∙ sets-eq (h ∷ s ∷ []) l at i
    ∙ append_assoc (take at l) (h ∷ s ∷ []) (drop (at + 2) l)

pub append_is : (at h s : ℕ) (l a d : List ℕ) → at + (2 + length a + length d) ≤ length l
    → copied (copied (set (set l at h) (at + 1) s) (at + 2) a) (at + 2 + length a) d ≡ take at l ++ ((h ∷ s ∷ (a ++ d)) ++ drop (at + (2 + length a + length d)) l)
append_is at h s l a d i =
    let e : at + 2 + length a ≡ at + length (h ∷ s ∷ a) = omega arith in
    let f : at + length (h ∷ s ∷ (a ++ d)) ≡ at + (2 + length a + length d) = omega (arith, length-append a d) in
    ap (λ (t : List ℕ). copied (copied t (at + 2) a) (at + 2 + length a) d) (two-words at h s l (omega arith))
    ∙ ap (λ (t : List ℕ). copied t (at + 2 + length a) d) (copied-again l at (h ∷ s ∷ []) a (omega arith))
    ∙ ap (λ (t : ℕ). copied (copied l at (h ∷ s ∷ a)) t d) e
    ∙ copied-again l at (h ∷ s ∷ a) d (omega arith)
    ∙ ap (λ (t : ℕ). take at l ++ ((h ∷ s ∷ (a ++ d)) ++ drop t l)) f
