-- The language again, as a reader meets it: s is the text from some place on, r what is left of it behind the part and its spaces.
use mathlib.Core.Path.{◌≡◌, refl, sym, ap, subst, ◌∙◌}
use mathlib.Core.List.{List, [], ◌∷◌, ◌++◌, append_assoc, append-nil}
use Prim.Native.Nat.{ℕ}
use lib.Dec.{T}
use Rattle.formulas.specs.Language.{Tree, predicate, next, both, when, grouped, digit, joined, Spaces, none, space, Digits, stop, more, Number, number, Part, formula, conjunction, unit, Written, is-predicate, is-next, is_unit, is-both, is_conjunction, is-when, is-grouped, Text, text}

pub data SpacesThen : List ℕ → List ℕ → Type 0 where
  then-none : {s : List ℕ} → SpacesThen s s
  then-space : {s r : List ℕ} → SpacesThen s r → SpacesThen (32 ∷ s) r

pub data DigitsThen : ℕ → List ℕ → ℕ → List ℕ → Type 0 where
  then-stop : {a : ℕ} {s : List ℕ} → DigitsThen a s a s
  then-more : {a d n : ℕ} {s r : List ℕ} → T (digit d) → DigitsThen (joined a d) s n r → DigitsThen a (d ∷ s) n r

pub data NumberThen : List ℕ → ℕ → List ℕ → Type 0 where
  then-number : {d n : ℕ} {s r : List ℕ} → T (digit d) → DigitsThen (joined 0 d) s n r → NumberThen (d ∷ s) n r

pub data Spelled : Part → List ℕ → Tree → List ℕ → Type 0 where
  spelled-predicate : {s x r : List ℕ} {n : ℕ} → NumberThen s n x → SpacesThen x r → Spelled unit (109 ∷ s) (predicate n) r
  spelled-next : {s x r : List ℕ} {t : Tree} → SpacesThen s x → Spelled unit x t r → Spelled unit (78 ∷ s) (next t) r
  spelled-grouped : {s x y r : List ℕ} {t : Tree} → SpacesThen s x → Spelled formula x t (41 ∷ y) → SpacesThen y r → Spelled unit (40 ∷ s) (grouped t) r
  spelled_unit : {s r : List ℕ} {t : Tree} → Spelled unit s t r → Spelled conjunction s t r
  spelled-both : {s x y r : List ℕ} {t u : Tree} → Spelled unit s t (38 ∷ x) → SpacesThen x y → Spelled conjunction y u r → Spelled conjunction s (both t u) r
  spelled_conjunction : {s r : List ℕ} {t : Tree} → Spelled conjunction s t r → Spelled formula s t r
  spelled-when : {s x y z r : List ℕ} {n : ℕ} {t : Tree}
      → NumberThen s n x → SpacesThen x (45 ∷ 62 ∷ y) → SpacesThen y z → Spelled formula z t r → Spelled formula (98 ∷ s) (when n t) r

-- a whole text
pub data SpelledText : List ℕ → Tree → Type 0 where
  spelled-text : {s x : List ℕ} {t : Tree} → SpacesThen s x → Spelled formula x t [] → SpelledText s t

-- What is written is spelled, whatever is left behind it

pub spaces-then : (x : List ℕ) → Spaces x → (r : List ℕ) → SpacesThen (x ++ r) r
spaces-then x none r = then-none
spaces-then x (space h) r = then-space (spaces-then _ h r)

digits-then : (a : ℕ) (ds : List ℕ) (n : ℕ) → Digits a ds n → (r : List ℕ) → DigitsThen a (ds ++ r) n r
digits-then a ds n stop r = then-stop
digits-then a ds n (more e h) r = then-more e (digits-then _ _ n h r)

pub number-then : (ds : List ℕ) (n : ℕ) → Number ds n → (r : List ℕ) → NumberThen (ds ++ r) n r
number-then ds n (number e h) r = then-number e (digits-then _ _ n h r)

pub written-spelled : (p : Part) (s : List ℕ) (t : Tree) → Written p s t → (x : List ℕ) → Spaces x → (r : List ℕ) → Spelled p (s ++ (x ++ r)) t r
written-spelled p s t (is-predicate {ds} {n} h) x g r = spelled-predicate (number-then ds n h (x ++ r)) (spaces-then x g r)
written-spelled p s t (is-next {x = y} {s = u} {t = v} m h) x g r =
    rw (append_assoc y u (x ++ r)) (spelled-next (spaces-then y m (u ++ (x ++ r))) (written-spelled unit u v h x g r))
written-spelled p s t (is_unit h) x g r = spelled_unit (written-spelled unit s t h x g r)
written-spelled p s t (is-both {s = a} {x = y} {y = z} {u} {t = v} {v = w} h m l k) x g r =
    rw (append_assoc a (y ++ (38 ∷ (z ++ u))) (x ++ r), append_assoc y (38 ∷ (z ++ u)) (x ++ r), append_assoc z u (x ++ r))
    (spelled-both (written-spelled unit a v h y m (38 ∷ (z ++ (u ++ (x ++ r))))) (spaces-then z l (u ++ (x ++ r))) (written-spelled conjunction u w k x g r))
written-spelled p s t (is_conjunction h) x g r = spelled_conjunction (written-spelled conjunction s t h x g r)
written-spelled p s t (is-when {ds} {x = y} {y = z} {s = u} {n} {t = v} k m l h) x g r =
    rw (append_assoc ds (y ++ (45 ∷ 62 ∷ (z ++ u))) (x ++ r), append_assoc y (45 ∷ 62 ∷ (z ++ u)) (x ++ r), append_assoc z u (x ++ r))
    (spelled-when (number-then ds n k (y ++ (45 ∷ 62 ∷ (z ++ (u ++ (x ++ r)))))) (spaces-then y m (45 ∷ 62 ∷ (z ++ (u ++ (x ++ r))))) (spaces-then z l (u ++ (x ++ r))) (written-spelled formula u v h x g r))
written-spelled p s t (is-grouped {x = y} {s = u} {y = z} {t = v} m h l) x g r =
    rw (append_assoc y (u ++ (z ++ (41 ∷ []))) (x ++ r), append_assoc u (z ++ (41 ∷ [])) (x ++ r), append_assoc z (41 ∷ []) (x ++ r))
    (spelled-grouped (spaces-then y m (u ++ (z ++ (41 ∷ (x ++ r))))) (written-spelled formula u v h z l (41 ∷ (x ++ r))) (spaces-then x g r))

pub text_is-spelled : (s : List ℕ) (t : Tree) → Text s t → SpelledText s t
text_is-spelled s t (text {x} {s = u} {y} m h l) =
    spelled-text {t = t} (spaces-then x m (u ++ y)) (subst (λ z. Spelled formula (u ++ z) t []) (append-nil y) (written-spelled formula u t h y l []))

-- What is spelled is written: the bytes of the part and its spaces stand before what is left

-- the bytes p before x, and q before r, stand together before r
pub join : (s p x q r : List ℕ) → s ≡ p ++ x → x ≡ q ++ r → s ≡ (p ++ q) ++ r
join s p x q r e f = e ∙ ap (λ y. p ++ y) f ∙ sym (append_assoc p q r)

pub record SpacesIn (s r : List ℕ) : Type 0 where
  pub own : List ℕ
  pub spaces : Spaces own
  pub is : s ≡ own ++ r

pub spaces_in : (s r : List ℕ) → SpacesThen s r → SpacesIn s r
spaces_in s r then-none = record { own = []; spaces = none; is = refl }
spaces_in s r (then-space h) = let a = spaces_in _ r h in record { own = 32 ∷ a.own; spaces = space a.spaces; is = ap (λ y. 32 ∷ y) a.is }

pub record NumberIn (s : List ℕ) (n : ℕ) (r : List ℕ) : Type 0 where
  pub own : List ℕ
  pub number : Number own n
  pub is : s ≡ own ++ r

digits_in : (a : ℕ) (s : List ℕ) (n : ℕ) (r : List ℕ) → DigitsThen a s n r → (own : List ℕ) × Digits a own n × (s ≡ own ++ r)
digits_in a s n r then-stop = ([], stop, refl)
digits_in a s n r (then-more {d} e h) = let b = digits_in _ _ n r h in (d ∷ b.0, more e b.1, ap (λ y. d ∷ y) b.2)

pub number_in : (s : List ℕ) (n : ℕ) (r : List ℕ) → NumberThen s n r → NumberIn s n r
number_in s n r (then-number {d} e h) = let b = digits_in _ _ n r h in record { own = d ∷ b.0; number = number e b.1; is = ap (λ y. d ∷ y) b.2 }

pub record WrittenIn (p : Part) (s : List ℕ) (t : Tree) (r : List ℕ) : Type 0 where
  pub own : List ℕ
  pub behind : List ℕ
  pub written : Written p own t
  pub spaces : Spaces behind
  pub is : s ≡ own ++ (behind ++ r)

pub spelled-written : (p : Part) (s : List ℕ) (t : Tree) (r : List ℕ) → Spelled p s t r → WrittenIn p s t r
spelled-written p s t r (spelled-predicate {s = u} {x} n m) =
    let a = number_in u _ x n in
    let b = spaces_in x r m in
    record { own = 109 ∷ a.own; behind = b.own; written = is-predicate a.number; spaces = b.spaces; is = ap (λ y. 109 ∷ y) (a.is ∙ ap (λ y. a.own ++ y) b.is) }
spelled-written p s t r (spelled-next {s = u} {x} m h) =
    let a = spaces_in u x m in
    let b = spelled-written unit x _ r h in
    record { own = 78 ∷ (a.own ++ b.own); behind = b.behind; written = is-next a.spaces b.written; spaces = b.spaces; is = ap (λ y. 78 ∷ y) (join u a.own x b.own (b.behind ++ r) a.is b.is) }
spelled-written p s t r (spelled-grouped {s = u} {x} {y} m h g) =
    let a = spaces_in u x m in
    let b = spelled-written formula x _ (41 ∷ y) h in
    let c = spaces_in y r g in
    record {
      own = 40 ∷ (a.own ++ (b.own ++ (b.behind ++ (41 ∷ []))));
      behind = c.own;
      written = is-grouped a.spaces b.written b.spaces;
      spaces = c.spaces;
      is = ap (λ y. 40 ∷ y)
          (join u a.own x (b.own ++ (b.behind ++ (41 ∷ []))) (c.own ++ r) a.is
          (join x b.own (b.behind ++ (41 ∷ y)) (b.behind ++ (41 ∷ [])) (c.own ++ r) b.is
          (join (b.behind ++ (41 ∷ y)) b.behind (41 ∷ y) (41 ∷ []) (c.own ++ r) refl (ap (λ y. 41 ∷ y) c.is))));
    }
spelled-written p s t r (spelled_unit h) =
    let a = spelled-written unit s t r h in
    record { own = a.own; behind = a.behind; written = is_unit a.written; spaces = a.spaces; is = a.is }
spelled-written p s t r (spelled-both {x} {y} h m g) =
    let a = spelled-written unit s _ (38 ∷ x) h in
    let b = spaces_in x y m in
    let c = spelled-written conjunction y _ r g in
    record {
      own = a.own ++ (a.behind ++ (38 ∷ (b.own ++ c.own)));
      behind = c.behind;
      written = is-both a.written a.spaces b.spaces c.written;
      spaces = c.spaces;
      is = join s a.own (a.behind ++ (38 ∷ x)) (a.behind ++ (38 ∷ (b.own ++ c.own))) (c.behind ++ r) a.is
          (join (a.behind ++ (38 ∷ x)) a.behind (38 ∷ x) (38 ∷ (b.own ++ c.own)) (c.behind ++ r) refl
          (ap (λ y. 38 ∷ y) (join x b.own y c.own (c.behind ++ r) b.is c.is)));
    }
spelled-written p s t r (spelled_conjunction h) =
    let a = spelled-written conjunction s t r h in
    record { own = a.own; behind = a.behind; written = is_conjunction a.written; spaces = a.spaces; is = a.is }
spelled-written p s t r (spelled-when {s = u} {x} {y} {z} n m g h) =
    let a = number_in u _ x n in
    let b = spaces_in x (45 ∷ 62 ∷ y) m in
    let c = spaces_in y z g in
    let d = spelled-written formula z _ r h in
    record {
      own = 98 ∷ (a.own ++ (b.own ++ (45 ∷ 62 ∷ (c.own ++ d.own))));
      behind = d.behind;
      written = is-when a.number b.spaces c.spaces d.written;
      spaces = d.spaces;
      is = ap (λ y. 98 ∷ y)
          (join u a.own x (b.own ++ (45 ∷ 62 ∷ (c.own ++ d.own))) (d.behind ++ r) a.is
          (join x b.own (45 ∷ 62 ∷ y) (45 ∷ 62 ∷ (c.own ++ d.own)) (d.behind ++ r) b.is
          (ap (λ y. 45 ∷ 62 ∷ y) (join y c.own z d.own (d.behind ++ r) c.is d.is))));
    }

pub spelled_is-text : (s : List ℕ) (t : Tree) → SpelledText s t → Text s t
spelled_is-text s t (spelled-text {x} m h) =
    let a = spaces_in s x m in
    let b = spelled-written formula x t [] h in
    subst (λ z. Text z t) (sym (a.is ∙ ap (λ y. a.own ++ y) (b.is ∙ ap (λ y. b.own ++ y) (append-nil b.behind)))) (text a.spaces b.written b.spaces)
