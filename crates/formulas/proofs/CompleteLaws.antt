-- Request 5: what is spelled is read, and so in one way.
use mathlib.Core.Path.{◌≡◌, refl, sym, ap, ◌∙◌}
use mathlib.Core.Bool.{Bool, true, false, cond}
use mathlib.Core.List.{List, [], ◌∷◌}
use Prim.Native.Nat.{ℕ, zero, suc, ◌+◌, ◌*◌, ◌≤◌, ◌<◌}
use native.Mathlib.Omega.{arith}
use lib.Dec.{T, eqb}
use lib.ListN.{length}
use Rattle.formulas.specs.Language.{Tree, digit, Part, formula, conjunction, unit, Text}
use Rattle.formulas.specs.Reading.{spaces, byte, digits, numbered}
use Rattle.formulas.specs.Faults.{Plain, plain_end, plain}
use Rattle.formulas.proofs.Spelling.{SpacesThen, then-none, then-space, DigitsThen, then-stop, then-more, NumberThen, then-number, Spelled, spelled-predicate, spelled-next, spelled-grouped, spelled_unit, spelled-both, spelled_conjunction, spelled-when, SpelledText, spelled-text, text_is-spelled}
use Rattle.formulas.proofs.PlainReader.{Answer, read, fault, after, ended, reader, read_text}

-- What follows a part in a text: the end, `)`, or behind a unit `&`
pub data After : Part → List ℕ → Type 0 where
  at_end : {p : Part} → After p []
  at_close : {p : Part} {s : List ℕ} → After p (41 ∷ s)
  at_and : {s : List ℕ} → After unit (38 ∷ s)

as_unit : (p : Part) (r : List ℕ) → After p r → After unit r
as_unit p r at_end = at_end
as_unit p r at_close = at_close
as_unit p r at_and = at_and

as_conjunction : (r : List ℕ) → After formula r → After conjunction r
as_conjunction r at_end = at_end
as_conjunction r at_close = at_close

-- Complete

pub spaces-read : (s r : List ℕ) → SpacesThen s r → spaces s ≡ spaces r
spaces-read s r then-none = refl
spaces-read s r (then-space h) = spaces-read _ r h

spaces_stay : (p : Part) (r : List ℕ) → After p r → spaces r ≡ r
spaces_stay p r at_end = refl
spaces_stay p r at_close = refl
spaces_stay p r at_and = refl

true_of : (b : Bool) → T b → b ≡ true
true_of true h = refl
true_of false h = elim h [ ]

-- nothing that could stand behind a number's spaces is a digit
after-plain : (p : Part) (r : List ℕ) → After p r → Plain r
after-plain p r at_end = plain_end
after-plain p r at_close = plain refl
after-plain p r at_and = plain refl

pub spaces-plain : (s r : List ℕ) → SpacesThen s r → Plain r → Plain s
spaces-plain s r then-none h = h
spaces-plain s r (then-space m) h = plain refl

digits-read : {A : Type 0} (a : ℕ) (s : List ℕ) (n : ℕ) (r : List ℕ) (f : ℕ → List ℕ → A) → DigitsThen a s n r → Plain r → digits a s f ≡ f n r
digits-read a s n r f then-stop plain_end = refl
digits-read a s n r f then-stop (plain e) = rw e refl
digits-read a s n r f (then-more {d} h m) e = rw (true_of (digit d) h) (digits-read _ _ n r f m e)

pub number_read : {A : Type 0} (s : List ℕ) (n : ℕ) (r : List ℕ) (f : ℕ → List ℕ → A) (a : A) → NumberThen s n r → Plain r → numbered s f a ≡ f n r
number_read s n r f a (then-number {d} h m) e = rw (true_of (digit d) h) (digits-read _ _ n r f m e)

-- a conjunction does not begin with `b`
pub unit-byte : {A : Type 0} (s : List ℕ) (t : Tree) (r : List ℕ) (f : List ℕ → A) (a : A) → Spelled unit s t r → byte 98 s f a ≡ a
unit-byte s t r f a (spelled-predicate n m) = refl
unit-byte s t r f a (spelled-next m h) = refl
unit-byte s t r f a (spelled-grouped m h l) = refl

conjunction-byte : (s : List ℕ) (t : Tree) (r : List ℕ) (f : List ℕ → Answer) (a : Answer) → Spelled conjunction s t r → byte 98 s f a ≡ a
conjunction-byte s t r f a (spelled_unit h) = unit-byte s t r f a h
conjunction-byte s t r f a (spelled-both h m g) = unit-byte s _ _ f a h

no_and : (p : Part) (x : List ℕ) (f : List ℕ → Answer) (a : Answer) → After conjunction x → byte 38 x f a ≡ a
no_and p x f a at_end = refl
no_and p x f a at_close = refl

-- how far inside its text a part may call
unfoldable pub rank : Part → ℕ
rank formula = 2
rank conjunction = 1
rank unit = 0

pub spaces_shorter : (s r : List ℕ) → SpacesThen s r → length r ≤ length s
spaces_shorter s r then-none = omega arith
spaces_shorter s r (then-space h) = omega (arith, spaces_shorter _ r h)

pub digits_shorter : (a : ℕ) (s : List ℕ) (n : ℕ) (r : List ℕ) → DigitsThen a s n r → length r ≤ length s
digits_shorter a s n r then-stop = omega arith
digits_shorter a s n r (then-more h m) = omega (arith, digits_shorter _ _ n r m)

pub number_shorter : (s : List ℕ) (n : ℕ) (r : List ℕ) → NumberThen s n r → length r < length s
number_shorter s n r (then-number h m) = omega (arith, digits_shorter _ _ n r m)

pub spelled_shorter : (p : Part) (s : List ℕ) (t : Tree) (r : List ℕ) → Spelled p s t r → length r < length s
spelled_shorter p s t r (spelled-predicate n m) = omega (arith, number_shorter _ _ _ n, spaces_shorter _ r m)
spelled_shorter p s t r (spelled-next m h) = omega (arith, spaces_shorter _ _ m, spelled_shorter unit _ _ r h)
spelled_shorter p s t r (spelled-grouped m h l) = omega (arith, spaces_shorter _ _ m, spelled_shorter formula _ _ _ h, spaces_shorter _ r l)
spelled_shorter p s t r (spelled_unit h) = spelled_shorter unit s t r h
spelled_shorter p s t r (spelled-both h m g) = omega (arith, spelled_shorter unit s _ _ h, spaces_shorter _ _ m, spelled_shorter conjunction _ _ r g)
spelled_shorter p s t r (spelled_conjunction h) = spelled_shorter conjunction s t r h
spelled_shorter p s t r (spelled-when n m l h) = omega (arith, number_shorter _ _ _ n, spaces_shorter _ _ m, spaces_shorter _ _ l, spelled_shorter formula _ _ r h)

-- a part begins with no space
pub spelled-start : (p : Part) (s : List ℕ) (t : Tree) (r : List ℕ) → Spelled p s t r → spaces s ≡ s
spelled-start p s t r (spelled-predicate n m) = refl
spelled-start p s t r (spelled-next m h) = refl
spelled-start p s t r (spelled-grouped m h l) = refl
spelled-start p s t r (spelled_unit h) = spelled-start unit s t r h
spelled-start p s t r (spelled-both h m g) = spelled-start unit s _ _ h
spelled-start p s t r (spelled_conjunction h) = spelled-start conjunction s t r h
spelled-start p s t r (spelled-when n m l h) = refl

skip : (p : Part) (s x : List ℕ) (t : Tree) (r : List ℕ) → SpacesThen s x → Spelled p x t r → spaces s ≡ x
skip p s x t r m h = spaces-read s x m ∙ spelled-start p x t r h

skip_to : (p : Part) (s r : List ℕ) → SpacesThen s r → After p r → spaces s ≡ r
skip_to p s r m a = spaces-read s r m ∙ spaces_stay p r a

-- what is spelled is read, with enough calls
pub complete : (p : Part) (s : List ℕ) (t : Tree) (r : List ℕ) → Spelled p s t r → After p r → (k : ℕ) → 3 * length s + rank p < k → reader k p s ≡ read t r
unfolding rank
complete p s t r (spelled-predicate n m) a zero l = absurd (omega arith)
complete p s t r (spelled-predicate {x} n m) a (suc k) l =
    number_read _ _ x _ _ n (spaces-plain x r m (after-plain unit r a)) ∙ rw (skip_to unit x r m a) refl
complete p s t r (spelled-next m h) a zero l = absurd (omega arith)
complete p s t r (spelled-next {s = s'} {x} {t = t'} m h) a (suc k) l =
    rw (skip unit s' x t' r m h, complete unit x t' r h a k (omega (arith, spaces_shorter s' x m))) refl
complete p s t r (spelled-grouped m h g) a zero l = absurd (omega arith)
complete p s t r (spelled-grouped {s = s'} {x} {y} {t = t'} m h g) a (suc k) l =
    rw (skip formula s' x t' (41 ∷ y) m h, complete formula x t' (41 ∷ y) h at_close k (omega (arith, spaces_shorter s' x m)), skip_to unit y r g a) refl
complete p s t r (spelled_unit h) a zero l = absurd (omega arith)
complete p s t r (spelled_unit h) a (suc k) l =
    rw (complete unit s t r h (as_unit conjunction r a) k (omega arith)) (no_and conjunction r _ _ a)
complete p s t r (spelled-both h m g) a zero l = absurd (omega arith)
complete p s t r (spelled-both {x} {y} {t = t'} {u} h m g) a (suc k) l =
    rw (
      complete unit s t' (38 ∷ x) h at_and k (omega arith),
      skip conjunction x y u r m g,
      complete conjunction y u r g a k (omega (arith, spaces_shorter x y m, spelled_shorter unit s t' (38 ∷ x) h)),
    ) refl
complete p s t r (spelled_conjunction h) a zero l = absurd (omega arith)
complete p s t r (spelled_conjunction h) a (suc k) l =
    conjunction-byte s t r _ _ h ∙ complete conjunction s t r h (as_conjunction r a) k (omega arith)
complete p s t r (spelled-when n m g h) a zero l = absurd (omega arith)
complete p s t r (spelled-when {s = s'} {x} {y} {z} {n = b} {t = t'} n m g h) a (suc k) l =
    number_read s' b x _ _ n (spaces-plain x (45 ∷ 62 ∷ y) m (plain refl))
    ∙ rw (
      spaces-read x (45 ∷ 62 ∷ y) m,
      skip formula y z t' r g h,
      complete formula z t' r h a k (omega (arith, number_shorter s' b x n, spaces_shorter x (45 ∷ 62 ∷ y) m, spaces_shorter y z g)),
    ) refl

pub spaces-length : (s : List ℕ) → length (spaces s) ≤ length s
spaces-length [] = omega arith
spaces-length (c ∷ s) = go (eqb c 32) (spaces-length s)
  where
    go : (b : Bool) → length (spaces s) ≤ length s → length (cond b (spaces s) (c ∷ s)) ≤ length (c ∷ s)
    go true h = omega arith
    go false h = omega arith

pub formula-read : (s : List ℕ) (t : Tree) → Text s t → reader (3 * length s + 3) formula (spaces s) ≡ read t []
unfolding rank
formula-read s t h = go (text_is-spelled s t h)
  where
    go : SpelledText s t → reader (3 * length s + 3) formula (spaces s) ≡ read t []
    go (spelled-text {x} m h) =
        rw (skip formula s x t [] m h, complete formula x t [] h at_end (3 * length s + 3) (omega (arith, spaces_shorter s x m))) refl

-- "exactly this language is read": every text of it
pub text-read : (s : List ℕ) (t : Tree) → Text s t → read_text s ≡ read t []
text-read s t h = ap (λ a. after a ended) (formula-read s t h)

read-tree : Answer → Tree → Tree
read-tree (read t r) u = t
read-tree (fault r) u = u

-- "and in one way"
pub one_way : (s : List ℕ) (t u : Tree) → Text s t → Text s u → t ≡ u
unfolding read-tree
one_way s t u h g = ap (λ a. read-tree a t) (sym (text-read s t h) ∙ text-read s u g)
