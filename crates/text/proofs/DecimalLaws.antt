-- A number's decimals: how they are made, and that they tell the number.
use Prim.Native.Nat.{ℕ, zero, suc, ◌+◌, ◌*◌, ◌-◌, ◌/◌, ◌%◌, ◌^◌, ◌≤◌, ◌<◌}
use mathlib.Core.Path.{◌≡◌, refl, ap, sym, ◌∙◌}
use mathlib.Core.List.{List, [], ◌∷◌, ◌++◌, append_assoc, append-nil}
use mathlib.Core.Bool.{Bool, true, false, cond}
use native.Mathlib.Nat.{mul_left_comm, pow-succ'}
use native.Mathlib.Omega.{arith}
use borrow.Author.Tests.{lt-ltb, le-ltb, ltb-true, ltb-false, le-leb, lt-leb}
use lib.Dec.{ltb, leb}
use lib.ListN.{length, length-append}
use Rattle.text.specs.Decimal.{digits, decimal, value_of, AllDigits, DecimalExactly}

-- What holds of each number below ten, and of any other where it holds of its tenth, holds of every number.
module _ (P : ℕ → Type 0) (small : (x : ℕ) → x < 10 → P x) (large : (x : ℕ) → 10 ≤ x → P (x / 10) → P x) where
  by_tenths-below : (n x : ℕ) → x < n → P x
  by_tenths-below zero x h = absurd (omega arith)
  by_tenths-below (suc n) x h = go (ltb x 10) refl (by_tenths-below n (x / 10))
    where
      go : (b : Bool) → ltb x 10 ≡ b → (x / 10 < n → P (x / 10)) → P x
      go true e k = small x (ltb-true x 10 e)
      go false e k = let l : 10 ≤ x = ltb-false x 10 e in large x l (k (omega arith))

  by_tenths : (x : ℕ) → P x
  by_tenths x = by_tenths-below (suc x) x (omega arith)

digits-small : (n x : ℕ) → x < n → x < 10 → digits n x ≡ (48 + x) ∷ []
unfolding digits
digits-small zero x h s = absurd (omega arith)
digits-small (suc n) x h s = rw (lt-ltb x 10 s, digits)

digits_large : (n x : ℕ) → x < n → 10 ≤ x → ((m : ℕ) → x / 10 < m → digits m (x / 10) ≡ decimal (x / 10)) → digits n x ≡ decimal (x / 10) ++ (48 + x % 10) ∷ []
unfolding digits
digits_large zero x h l k = absurd (omega arith)
digits_large (suc n) x h l k = rw (le-ltb x 10 l, digits, k n (omega arith))

-- Any bound on the number of digits that is large enough gives them all.
digits_all : (x n : ℕ) → x < n → digits n x ≡ decimal x
unfolding decimal
digits_all =
    by_tenths (λ x. (n : ℕ) → x < n → digits n x ≡ decimal x)
    (λ x s n h. digits-small n x h s ∙ sym (digits-small (suc x) x (omega arith) s))
    (λ x l k n h. digits_large n x h l k ∙ sym (digits_large (suc x) x (omega arith) l k))

pub decimal-small : (x : ℕ) → x < 10 → decimal x ≡ (48 + x) ∷ []
unfolding decimal
decimal-small x h = digits-small (suc x) x (omega arith) h

pub decimal_large : (x : ℕ) → 10 ≤ x → decimal x ≡ decimal (x / 10) ++ (48 + x % 10) ∷ []
unfolding decimal
decimal_large x h = digits_large (suc x) x (omega arith) h (digits_all (x / 10))

no_zero-first : (x : ℕ) → 1 ≤ x → (r s : List ℕ) → decimal x ++ r ≡ 48 ∷ s → ⊥
no_zero-first =
    by_tenths (λ x. 1 ≤ x → (r s : List ℕ) → decimal x ++ r ≡ 48 ∷ s → ⊥)
    (λ x l h r s e. let z : 48 + x ≡ 48 = cc (rw (decimal-small x l) at e) in omega arith)
    (λ x l k h r s e. k (omega arith) ((48 + x % 10) ∷ r) s (rw (decimal_large x l, append_assoc) at e))

-- No number but 0 begins with the digit 0.
pub no_leading_zero : (x : ℕ) (s : List ℕ) → 1 ≤ x → decimal x ≡ 48 ∷ s → ⊥
no_leading_zero x s h e = no_zero-first x h [] s (append-nil (decimal x) ∙ e)

-- A number begins with a digit.
pub digit-first : (x : ℕ) (r s : List ℕ) (c : ℕ) → decimal x ++ r ≡ c ∷ s → (48 ≤ c) × (c < 58)
digit-first =
    by_tenths (λ x. (r s : List ℕ) (c : ℕ) → decimal x ++ r ≡ c ∷ s → (48 ≤ c) × (c < 58))
    (λ x l r s c e. let z : 48 + x ≡ c = cc (rw (decimal-small x l) at e) in (omega (arith, z), omega (arith, z, l)))
    (λ x l k r s c e. k ((48 + x % 10) ∷ r) s c (rw (decimal_large x l, append_assoc) at e))

-- The number that the digits at the beginning of a text say, after those of n, and the rest of the text.
number : ℕ → List ℕ → ℕ × List ℕ
number n [] = (n, [])
number n (c ∷ cs) = cond (leb 48 c) (number (n * 10 + (c - 48)) cs) (n, c ∷ cs)

number-digit : (d n m : ℕ) (s : List ℕ) → n * 10 + d ≡ m → number n ((48 + d) ∷ s) ≡ number m s
unfolding number
number-digit d n m s e = rw (le-leb 48 (48 + d) (omega arith)) (ap (λ (k : ℕ). number k s) (omega arith))

number-decimal : (x : ℕ) (s : List ℕ) → number 0 (decimal x ++ s) ≡ number x s
number-decimal =
    by_tenths (λ x. (s : List ℕ) → number 0 (decimal x ++ s) ≡ number x s)
    (λ x l s. rw (decimal-small x l) (number-digit x 0 x s (omega arith)))
    (λ x l k s. rw (decimal_large x l, append_assoc) (k ((48 + x % 10) ∷ s) ∙ number-digit (x % 10) (x / 10) x s (omega arith)))

number-stops : (n c : ℕ) (s : List ℕ) → c < 48 → number n (c ∷ s) ≡ (n, c ∷ s)
unfolding number
number-stops n c s h = rw (lt-leb 48 c h)

decimal-tells : (x y : ℕ) (r s : List ℕ) → number x r ≡ (x, r) → number y s ≡ (y, s) → decimal x ++ r ≡ decimal y ++ s → (x ≡ y) × (r ≡ s)
decimal-tells x y r s p q e =
    let t = sym p ∙ sym (number-decimal x r) ∙ ap (number 0) e ∙ number-decimal y s ∙ q in
    (ap (λ (u : ℕ × List ℕ). u.0) t, ap (λ (u : ℕ × List ℕ). u.1) t)

pub decimal_injective : (x y : ℕ) → decimal x ≡ decimal y → x ≡ y
unfolding number
decimal_injective x y e = (decimal-tells x y [] [] refl refl (rw e refl)).0

-- A number's decimals and a byte that is no digit tell the number, the byte and what follows.
pub decimal-then : (x y b c : ℕ) (r s : List ℕ) → b < 48 → c < 48 → decimal x ++ b ∷ r ≡ decimal y ++ c ∷ s → (x ≡ y) × (b ≡ c) × (r ≡ s)
decimal-then x y b c r s g h e =
    let t = decimal-tells x y (b ∷ r) (c ∷ s) (number-stops x b r g) (number-stops y c s h) e in
    let u : b ∷ r ≡ c ∷ s = t.1 in
    (t.0, cc, cc)

-- One digit more: what stood before it is worth ten times as much.
pub value-more : (ds : List ℕ) (d : ℕ) → value_of (ds ++ d ∷ []) ≡ 10 * value_of ds + (d - 48)
unfolding value_of
value-more [] d = omega arith
value-more (c ∷ ds) d =
    let longer : length (ds ++ d ∷ []) ≡ suc (length ds) = length-append ds (d ∷ []) ∙ omega arith in
    let tens : 10 ^ length (ds ++ d ∷ []) ≡ 10 * 10 ^ length ds = ap (λ (k : ℕ). 10 ^ k) longer ∙ pow-succ' 10 (length ds) in
    let first : (c - 48) * 10 ^ length (ds ++ d ∷ []) ≡ 10 * ((c - 48) * 10 ^ length ds) = ap (λ (k : ℕ). (c - 48) * k) tens ∙ mul_left_comm (c - 48) 10 (10 ^ length ds) in
    omega (arith, first, value-more ds d)

digits_more : (ds : List ℕ) (d : ℕ) → AllDigits ds → 48 ≤ d → d < 58 → AllDigits (ds ++ d ∷ [])
digits_more [] d A l h = (l, h, tt)
digits_more (c ∷ ds) d A l h = (A.0, A.1, digits_more ds d A.2 l h)

decimal-digits : (x : ℕ) → AllDigits (decimal x)
decimal-digits =
    by_tenths (λ x. AllDigits (decimal x))
    (λ x l. rw (decimal-small x l) (omega arith, omega arith, tt))
    (λ x l k. rw (decimal_large x l) (digits_more (decimal (x / 10)) (48 + x % 10) k (omega arith) (omega arith)))

decimal-some : (x : ℕ) → 1 ≤ length (decimal x)
decimal-some =
    by_tenths (λ x. 1 ≤ length (decimal x))
    (λ x l. rw (decimal-small x l) (omega arith))
    (λ x l k. rw (decimal_large x l, length-append) (omega arith))

-- The digits say the number.
pub decimal-value : (x : ℕ) → value_of (decimal x) ≡ x
unfolding value_of
decimal-value =
    by_tenths (λ x. value_of (decimal x) ≡ x)
    (λ x l. rw (decimal-small x l) (omega arith))
    (λ x l k. rw (decimal_large x l, value-more (decimal (x / 10)) (48 + x % 10), k) (omega arith))

zero-alone : (x : ℕ) (rest : List ℕ) → decimal x ≡ 48 ∷ rest → rest ≡ []
zero-alone =
    by_tenths (λ x. (rest : List ℕ) → decimal x ≡ 48 ∷ rest → rest ≡ [])
    (λ x l rest e. let t : (48 + x) ∷ [] ≡ 48 ∷ rest = rw (decimal-small x l) at e in cc)
    (λ x l k rest e. absurd (no_leading_zero x rest (omega arith) e))

pub decimal-exactly : DecimalExactly
unfolding DecimalExactly
decimal-exactly x = record { digits = decimal-digits x; some = decimal-some x; value = decimal-value x; alone = zero-alone x }

-- "4294967295": the greatest number that is printed
pub ten-digits : decimal 4294967295 ≡ 52 ∷ 50 ∷ 57 ∷ 52 ∷ 57 ∷ 54 ∷ 55 ∷ 50 ∷ 57 ∷ 53 ∷ []
unfolding decimal digits
ten-digits = refl
