-- What stands in the buffer, and where, after bytes were appended to a text.
use Prim.Native.Nat.{ℕ, suc, ◌+◌, ◌-◌, ◌≤◌, ◌<◌}
use mathlib.Core.Path.{◌≡◌, refl, ap, ◌∙◌}
use mathlib.Core.List.{List, [], ◌∷◌, ◌++◌, append-nil}
use mathlib.Core.Bool.{Bool, true, false, cond}
use native.Mathlib.Nat.{add-zero}
use native.Mathlib.Numerals.{add-one}
use native.Mathlib.Omega.{arith}
use borrow.Author.Tests.{lt-ltb, le-ltb, ltb-true, ltb-false}
use lib.Dec.{ltb}
use lib.ListN.{length, set, take, drop, get_or, length-set, length-take, length-append}
use lib.Seq.{drop-length, sets, sets-eq, split_at}
use Rattle.text.specs.declared.Text.{Text}
use Rattle.text.specs.Text.{Out, out, growing, ended, written, put, appended}

pub put_full : (b : ℕ) (o : Out) → o.text.full ≡ true → put b o ≡ o
unfolding put
put_full b o h = ap (λ (f : Bool). cond f o (written b o.buffer o.text.at)) h

pub put-growing : (b : ℕ) (o : Out) → o.text.full ≡ false → put b o ≡ written b o.buffer o.text.at
unfolding put
put-growing b o h = ap (λ (f : Bool). cond f o (written b o.buffer o.text.at)) h

pub written-fits : (b : ℕ) (l : List ℕ) (a : ℕ) → a < length l → written b l a ≡ growing (set l a b) (a + 1)
unfolding written
written-fits b l a h = rw (lt-ltb a (length l) h)

pub written-past : (b : ℕ) (l : List ℕ) (a : ℕ) → length l ≤ a → written b l a ≡ ended l a
unfolding written
written-past b l a h = rw (le-ltb a (length l) h)

pub appended-append : (xs ys : List ℕ) (o : Out) → appended (xs ++ ys) o ≡ appended ys (appended xs o)
unfolding appended
appended-append [] ys o = refl
appended-append (x ∷ xs) ys o = appended-append xs ys (put x o)

-- A full text stays as it is.
pub appended-full : (xs : List ℕ) (o : Out) → o.text.full ≡ true → appended xs o ≡ o
unfolding appended
appended-full [] o h = refl
appended-full (x ∷ xs) o h = ap (appended xs) (put_full x o h) ∙ appended-full xs o h

appended_sets : (xs l : List ℕ) (a : ℕ) → a + length xs ≤ length l → appended xs (growing l a) ≡ growing (sets l a xs) (a + length xs)
unfolding appended put
appended_sets [] l a h = rw add-zero
appended_sets (x ∷ xs) l a h =
    rw (written-fits x l a (omega arith), add-one)
    (appended_sets xs (set l a x) (suc a) (simp length-set (omega arith)) ∙ ap (growing (sets (set l a x) (suc a) xs)) (omega arith))

-- Bytes that fit stand from the text's place on, and nothing else of the buffer changes: "leaves later text bytes untouched".
pub appended-fits : (xs l : List ℕ) (a : ℕ) → a + length xs ≤ length l → appended xs (growing l a) ≡ growing (take a l ++ xs ++ drop (a + length xs) l) (a + length xs)
appended-fits xs l a h = rw (← sets-eq xs l a h) (appended_sets xs l a h)

-- Where the text's place is past the buffer's end, nothing is written.
pub appended-past : (x : ℕ) (xs l : List ℕ) (a : ℕ) → length l ≤ a → appended (x ∷ xs) (growing l a) ≡ ended l a
unfolding appended put
appended-past x xs l a h = rw (written-past x l a h) (appended-full xs (ended l a) refl)

-- Bytes that fill the buffer, and one more.
appended_one-over : (xs ys l : List ℕ) (y a : ℕ) → a + length xs ≡ length l → appended (xs ++ y ∷ ys) (growing l a) ≡ ended (take a l ++ xs) (length l)
appended_one-over xs ys l y a e =
    rw (appended-append, appended-fits xs l a (omega arith), e, drop-length, append-nil)
    (appended-past y ys (take a l ++ xs) (length l) (simp (length-append, length-take) (omega arith)))

-- Of bytes that do not fit, those up to the buffer's end stand there, and the text is full.
pub appended-over : (xs l : List ℕ) (a : ℕ) → a ≤ length l → length l < a + length xs → appended xs (growing l a) ≡ ended (take a l ++ take (length l - a) xs) (length l)
appended-over xs l a g h =
    let k = length l - a in
    ap (λ (zs : List ℕ). appended zs (growing l a)) (split_at xs k 0 (omega arith))
    ∙ appended_one-over (take k xs) (drop (suc k) xs) l (get_or xs k 0) a (simp length-take (omega arith))

-- The text is full exactly where the bytes do not fit.
pub appended_is-full : (xs l : List ℕ) (a : ℕ) → a ≤ length l → (appended xs (growing l a)).text.full ≡ ltb (length l) (a + length xs)
appended_is-full xs l a g = go (ltb (length l) (a + length xs)) refl
  where
    go : (b : Bool) → ltb (length l) (a + length xs) ≡ b → (appended xs (growing l a)).text.full ≡ b
    go true e = ap (λ (o : Out). o.text.full) (appended-over xs l a g (ltb-true (length l) (a + length xs) e))
    go false e = ap (λ (o : Out). o.text.full) (appended-fits xs l a (ltb-false (length l) (a + length xs) e))

-- A text that began at byte 0 ends within its buffer.
pub text-within : (xs l : List ℕ) {b : List ℕ} {t : Text} → out b t ≡ appended xs (growing l 0) → t.at ≤ length l
text-within xs l {t = t} e = go (ltb (length l) (0 + length xs)) refl
  where
    at_is : {k : ℕ} {m : List ℕ} {f : Bool} → appended xs (growing l 0) ≡ out m (record { at = k; full = f }) → t.at ≡ k
    at_is g = ap (λ (x : Out). x.text.at) (e ∙ g)

    go : (f : Bool) → ltb (length l) (0 + length xs) ≡ f → t.at ≤ length l
    go true q = let h = at_is (appended-over xs l 0 (omega arith) (ltb-true (length l) (0 + length xs) q)) in omega (arith, h)
    go false q = let g : 0 + length xs ≤ length l = ltb-false (length l) (0 + length xs) q in let h = at_is (appended-fits xs l 0 g) in omega (arith, h, g)

cond-length : (f : Bool) (x y : Out) (n : ℕ) → length x.buffer ≡ n → length y.buffer ≡ n → length (cond f x y).buffer ≡ n
cond-length true x y n p q = p
cond-length false x y n p q = q

put-length : (b : ℕ) (o : Out) → length (put b o).buffer ≡ length o.buffer
unfolding put written
put-length b o = cond-length o.text.full _ _ _ refl (cond-length (ltb o.text.at (length o.buffer)) _ _ _ (length-set o.buffer o.text.at b) refl)

pub appended-length : (xs : List ℕ) (o : Out) → length (appended xs o).buffer ≡ length o.buffer
unfolding appended
appended-length [] o = refl
appended-length (x ∷ xs) o = appended-length xs (put x o) ∙ put-length x o
