-- Demand 2, of the lines: they are the same bytes exactly when the conditions in them agree under every assignment, and those of writes when they say the same.
use mathlib.Core.Path.{◌≡◌, refl, sym, ap, subst, ◌∙◌}
use mathlib.Core.Bool.{Bool, true, false}
use mathlib.Core.List.{List, [], ◌∷◌, ◌++◌, append_assoc}
use Prim.Native.Nat.{ℕ, zero, suc, ◌+◌, ◌*◌, ◌-◌, ◌/◌, ◌<◌}
use native.Mathlib.Omega.{arith}
use borrow.Author.Tests.{ltb-true, ltb-false, eqb-true, eqb-false}
use lib.Dec.{ltb, eqb}
use lib.ListN.{length, get_or}
use Rattle.text.proofs.ByteLaws.{heads, tails, after}
use Rattle.text.proofs.DecimalLaws.{digit-first, decimal-then}
use Rattle.conditions.specs.Show.{text_of, Alike}
use Rattle.conditions.proofs.Promises.{text-first, same_text, text_same}
use Rattle.lines.specs.Lines.{write_word, write_line, idle_line, end_word, end_line, bit_text, bits_text, read_word, read_line, assert_word, assert_line, check_word, check_line}
use Rattle.lines.specs.Claims.{WriteLines, EndLines, Printed, PrintedWord, CheckLines, AssertLines, ReadLines, in_turn, HighestFirst}

-- conditions that are alike have the same text
alike-text : {w w' : List ℕ} {c c' n n' : ℕ} → Printed w c n → Printed w' c' n' → Alike w n w' n' → text_of w n ≡ text_of w' n'
alike-text {n = n} {n' = n'} p p' a = text_same p.standard p'.standard n n' p.below p'.below a

pub write_lines : WriteLines
unfolding WriteLines write_line idle_line
write_lines k k' = (
  (λ e. (decimal-then k k' 10 10 [] [] (omega arith) (omega arith) (after write_word e)).0, λ e. rw e),
  λ e. omega (arith, (digit-first k (10 ∷ []) (100 ∷ 108 ∷ 101 ∷ 10 ∷ []) 105 (after write_word e)).1),
)

pub end_lines : EndLines
unfolding EndLines end_line
end_lines k k' = (λ e. (decimal-then k k' 10 10 [] [] (omega arith) (omega arith) (after end_word e)).0, λ e. rw e)

pub check_lines : CheckLines
unfolding CheckLines check_line
check_lines w w' c c' n n' p p' =
    (λ e. same_text w w' n n' (text-first w w' n n' (10 ∷ []) (10 ∷ []) (after check_word e)).0, λ a. rw (alike-text p p' a))

-- how an assert line begins tells entered from kept, and what follows
assert-first : (e e' : Bool) (r s : List ℕ) → assert_word e ++ r ≡ assert_word e' ++ s → (e ≡ e') × (r ≡ s)
unfolding assert_word
assert-first true true r s p = (refl, after (assert_word true) p)
assert-first false false r s p = (refl, after (assert_word false) p)
assert-first true false r s p = absurd (omega (arith, heads (tails (tails (tails (tails (tails (tails (tails p)))))))))
assert-first false true r s p = absurd (omega (arith, heads (tails (tails (tails (tails (tails (tails (tails p)))))))))

-- the line of an assert that is entered is not that of one that is kept
pub assert-tells : (w w' : List ℕ) (e e' : Bool) (n n' : ℕ) → assert_line w e n ≡ assert_line w' e' n' → e ≡ e'
unfolding assert_line
assert-tells w w' e e' n n' q = (assert-first e e' (text_of w n ++ 10 ∷ []) (text_of w' n' ++ 10 ∷ []) (rw (append_assoc, append_assoc) at q)).0

pub assert_lines : AssertLines
unfolding AssertLines assert_line
assert_lines w w' c c' n n' e e' p p' = (tell, λ a. rw (a.0, alike-text p p' a.1))
  where
    tell : (assert_word e ++ text_of w n) ++ 10 ∷ [] ≡ (assert_word e' ++ text_of w' n') ++ 10 ∷ [] → (e ≡ e') × Alike w n w' n'
    tell q =
        let t = assert-first e e' (text_of w n ++ 10 ∷ []) (text_of w' n' ++ 10 ∷ []) (rw (append_assoc, append_assoc) at q) in
        (t.0, same_text w w' n n' (text-first w w' n n' (10 ∷ []) (10 ∷ []) t.1).0)

-- the halves of n + 1 bits: those of n bits, and two more
halves-more : (P : ℕ → Type 0) (n : ℕ) → ((i : ℕ) → i < 2 * n → P i) → P (2 * n) → P (2 * n + 1) → (i : ℕ) → i < 2 * suc n → P i
halves-more P n f h l i b = go (ltb i (2 * n)) (eqb i (2 * n)) refl refl
  where
    go : (x y : Bool) → ltb i (2 * n) ≡ x → eqb i (2 * n) ≡ y → P i
    go true y p q = f i (ltb-true i (2 * n) p)
    go false true p q = subst P (sym (eqb-true i (2 * n) q)) h
    go false false p q =
        let u = ltb-false i (2 * n) p in
        let v = eqb-false i (2 * n) q in
        let d : i ≡ 2 * n + 1 = omega (arith, u, v) in
        subst P (sym d) l

module _ (w w' word word' : List ℕ) where
  -- half i has the same text in both
  abbrev Same : ℕ → Type 0
  Same i = text_of w (get_or word i 0) ≡ text_of w' (get_or word' i 0)

  -- the bits up to the newline tell how many they are, and each half's text
  bits_tell : (n n' : ℕ) → bits_text w word n ++ 10 ∷ [] ≡ bits_text w' word' n' ++ 10 ∷ [] → (n ≡ n') × ((i : ℕ) → i < 2 * n → Same i)
  unfolding bits_text bit_text
  bits_tell zero zero e = (refl, λ i b. absurd (omega arith))
  bits_tell zero (suc n') e = absurd (omega (arith, heads e))
  bits_tell (suc n) zero e = absurd (omega (arith, heads e))
  bits_tell (suc n) (suc n') e =
      let h = text-first w w' (get_or word (2 * n) 0) (get_or word' (2 * n') 0) _ _ (tails (simp append_assoc at e)) in
      let l = text-first w w' (get_or word (2 * n + 1) 0) (get_or word' (2 * n' + 1) 0) _ _ (tails h.1) in
      let t = bits_tell n n' l.1 in
      (ap suc t.0, halves-more Same n t.1 (rw (← t.0) at h.0) (rw (← t.0) at l.0))

  bit-same : (h h' l l' : ℕ) → text_of w h ≡ text_of w' h' → text_of w l ≡ text_of w' l' → bit_text w h l ≡ bit_text w' h' l'
  unfolding bit_text
  bit-same h h' l l' eh el = cc

  bits-same : (n : ℕ) → ((i : ℕ) → i < 2 * n → Same i) → bits_text w word n ≡ bits_text w' word' n
  unfolding bits_text
  bits-same zero f = refl
  bits-same (suc n) f =
      let b = bit-same (get_or word (2 * n) 0) (get_or word' (2 * n) 0) (get_or word (2 * n + 1) 0) (get_or word' (2 * n + 1) 0) (f (2 * n) (omega arith)) (f (2 * n + 1) (omega arith)) in
      rw (b, bits-same n (λ i b. f i (omega arith)))

pub read_lines : ReadLines
unfolding ReadLines read_line
read_lines w w' c c' k k' word word' p p' = (tell, same)
  where
    bits : {x y : ℕ} → x ≡ 2 * y → x / 2 ≡ y
    bits e = omega arith

    tell : read_word ++ bits_text w word (length word / 2) ++ 10 ∷ [] ≡ read_word ++ bits_text w' word' (length word' / 2) ++ 10 ∷ []
        → (k ≡ k') × ((i : ℕ) → i < 2 * k → Alike w (get_or word i 0) w' (get_or word' i 0))
    tell e =
        let t = bits_tell w w' word word' k k' (rw (bits p.size, bits p'.size) at (after read_word e)) in
        (t.0, λ i b. same_text w w' (get_or word i 0) (get_or word' i 0) (t.1 i b))

    halves : k ≡ k' → ((i : ℕ) → i < 2 * k → Alike w (get_or word i 0) w' (get_or word' i 0)) → (i : ℕ) → i < 2 * k → Same w w' word word' i
    halves e f i b = text_same p.standard p'.standard (get_or word i 0) (get_or word' i 0) (p.below i b) (p'.below i (rw e at b)) (f i b)

    same : (k ≡ k') × ((i : ℕ) → i < 2 * k → Alike w (get_or word i 0) w' (get_or word' i 0))
        → read_word ++ bits_text w word (length word / 2) ++ 10 ∷ [] ≡ read_word ++ bits_text w' word' (length word' / 2) ++ 10 ∷ []
    same a = rw (bits p.size, bits p'.size, ← a.0, bits-same w w' word word' k (halves a.0 a.1))

-- texts in turn that are the same one by one
in_turn-same : (k : ℕ) (f g : ℕ → List ℕ) → ((i : ℕ) → f i ≡ g i) → in_turn k f ≡ in_turn k g
in_turn-same zero f g e = refl
in_turn-same (suc k) f g e = rw (e 0, in_turn-same k (λ i. f (suc i)) (λ i. g (suc i)) (λ i. e (suc i)))

bits_in_turn : (w word : List ℕ) (k : ℕ) → bits_text w word k ≡ in_turn k (λ i. bit_text w (get_or word (2 * (k - 1 - i)) 0) (get_or word (2 * (k - 1 - i) + 1) 0))
unfolding bits_text
bits_in_turn w word zero = refl
bits_in_turn w word (suc k) =
    let bit : ℕ → List ℕ = λ j. bit_text w (get_or word (2 * j) 0) (get_or word (2 * j + 1) 0) in
    let first : k ≡ suc k - 1 - 0 = omega arith in
    ap (λ (l : List ℕ). bit k ++ l) (bits_in_turn w word k ∙ in_turn-same k (λ i. bit (k - 1 - i)) (λ i. bit (suc k - 1 - suc i)) (λ i. let e : k - 1 - i ≡ suc k - 1 - suc i = omega arith in ap bit e))
    ∙ ap (λ (j : ℕ). bit j ++ in_turn k (λ i. bit (suc k - 1 - suc i))) first

pub highest-first : HighestFirst
unfolding HighestFirst read_line
highest-first w word k e = let h : length word / 2 ≡ k = omega arith in rw (h, bits_in_turn w word k)
