-- A number is what its digits say, as a sum of powers of ten.
use mathlib.Core.Path.{◌≡◌, refl, sym, ap, subst, ◌∙◌}
use mathlib.Core.Bool.{Bool, true, false, ◌&&◌}
use mathlib.Core.List.{List, [], ◌∷◌}
use Prim.Native.Nat.{ℕ, zero, suc, ◌+◌, ◌*◌, ◌-◌, ◌^◌, ◌≤◌, ◌<◌}
use native.Mathlib.Nat.{add-mul, mul_assoc, mul_left_comm, pow-succ'}
use native.Mathlib.Omega.{arith}
use lib.Dec.{T, leb}
use lib.ListN.{length}
use borrow.Author.Tests.{leb-true, le-leb}
use Rattle.text.specs.Decimal.{value_of, AllDigits}
use Rattle.formulas.specs.Language.{digit, joined, Digits, stop, more, Number, number}
use Rattle.formulas.specs.Claims.{NumberExactly}

-- the digits after a number move it up by as many tens
joined_on : (a d p v : ℕ) → joined a d * p + v ≡ a * (10 * p) + ((d - 48) * p + v)
joined_on a d p v =
    let e : joined a d * p ≡ 10 * a * p + (d - 48) * p = add-mul (10 * a) (d - 48) p in
    let f : 10 * a * p ≡ 10 * (a * p) = mul_assoc 10 a p in
    let g : a * (10 * p) ≡ 10 * (a * p) = mul_left_comm a 10 p in
    omega (arith, e, f, g)

-- a digit's byte
digit_is : (d : ℕ) → T (digit d) → (48 ≤ d) × (d < 58)
digit_is d t = go (leb 48 d) refl (leb d 57) refl t
  where
    go : (x : Bool) → leb 48 d ≡ x → (y : Bool) → leb d 57 ≡ y → T (x && y) → (48 ≤ d) × (d < 58)
    go true p true q t = (leb-true 48 d p, omega (arith, leb-true d 57 q))
    go true p false q t = absurd t
    go false p y q t = absurd t

is_digit : (d : ℕ) → 48 ≤ d → d < 58 → T (digit d)
is_digit d l h = subst T (sym (both_and (le-leb 48 d l) (le-leb d 57 (omega arith)))) tt
  where
    both_and : {x y : Bool} → x ≡ true → y ≡ true → (x && y) ≡ true
    both_and p q = rw (p, q)

digits_say : (a : ℕ) (ds : List ℕ) (n : ℕ) → Digits a ds n → AllDigits ds × (n ≡ a * 10 ^ length ds + value_of ds)
unfolding value_of
digits_say a ds n stop = (tt, omega arith)
digits_say a ds n (more {d = d} {ds = es} t h) =
    let D = digit_is d t in
    let S = digits_say (joined a d) es n h in
    ((D.0, D.1, S.0), S.1 ∙ joined_on a d (10 ^ length es) (value_of es) ∙ ap (λ (p : ℕ). a * p + ((d - 48) * 10 ^ length es + value_of es)) (sym (pow-succ' 10 (length es))))

said-digits : (a : ℕ) (ds : List ℕ) → AllDigits ds → Digits a ds (a * 10 ^ length ds + value_of ds)
unfolding value_of
said-digits a [] A = subst (Digits a []) (omega arith) stop
said-digits a (d ∷ ds) A =
    subst (Digits a (d ∷ ds)) (joined_on a d (10 ^ length ds) (value_of ds) ∙ ap (λ (p : ℕ). a * p + ((d - 48) * 10 ^ length ds + value_of ds)) (sym (pow-succ' 10 (length ds))))
    (more (is_digit d A.0 A.1) (said-digits (joined a d) ds A.2))

pub number-exactly : NumberExactly
unfolding NumberExactly value_of
number-exactly ds n = (says ds n, λ p. said ds p.0 p.1 p.2)
  where
    says : (ds : List ℕ) (n : ℕ) → Number ds n → (1 ≤ length ds) × AllDigits ds × (n ≡ value_of ds)
    says ds n (number {d = d} {ds = es} t h) =
        let S = digits_say 0 (d ∷ es) n (more t h) in
        (omega arith, S.0, S.1 ∙ omega arith)

    first : (d : ℕ) (es : List ℕ) (n : ℕ) → Digits 0 (d ∷ es) n → Number (d ∷ es) n
    first d es n (more t h) = number t h

    said : (ds : List ℕ) → 1 ≤ length ds → AllDigits ds → n ≡ value_of ds → Number ds n
    said [] l A e = absurd (omega arith)
    said (d ∷ es) l A e = subst (Number (d ∷ es)) (omega arith ∙ sym e) (first d es _ (said-digits 0 (d ∷ es) A))
