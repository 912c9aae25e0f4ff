-- Request 5, "the earlier place first": wherever a token is refused, the reader stops there or before.
use mathlib.Core.Path.{◌≡◌, refl, sym, subst, ◌∙◌}
use mathlib.Core.Bool.{Bool, true, false, cond}
use mathlib.Core.List.{List, [], ◌∷◌, ◌++◌}
use Prim.Native.Nat.{ℕ, zero, suc, ◌+◌, ◌*◌, ◌≤◌, ◌<◌}
use native.Mathlib.Omega.{arith}
use lib.Dec.{T}
use lib.ListN.{length, length-append}
use Rattle.formulas.specs.Language.{Tree, Text, Part, formula, conjunction, unit}
use Rattle.formulas.specs.Reading.{spaces, byte, Limits, within, Verdict, fine, wrong, follow, opened, judge_arrow, judge_joining, judge, judge_ended, judge_text}
use Rattle.formulas.specs.Faults.{Token, plain, bytes, Stands}
use Rattle.formulas.proofs.Spelling.{SpacesThen, NumberThen, spaces-then}
use Rattle.formulas.proofs.Placing.{AroundThen, then_m, then-N, then_parenthesis, then_b, then_arrow, under_next, under_group, under_arrow, under_unit, past_and, under_conjunction, around_in, around_then}
use Rattle.formulas.proofs.PlainReader.{read}
use Rattle.formulas.proofs.CompleteLaws.{rank, at_and, spaces-read, spaces-plain, spaces_shorter, number_read, number_shorter, spelled-start, spelled_shorter, unit-byte, complete}
use Rattle.formulas.proofs.SoundLaws.{rest}
use Rattle.formulas.proofs.LimitLaws.{Refused, predicate-refused, node-refused, next-refused, group-refused, arrow-refused, Beside, agrees, earlier, beside, judge-fine}

around_shorter : (p : Part) (s : List ℕ) (c : Token) (x : List ℕ) (e : ℕ) → AroundThen p s c x e → length x ≤ length s
around_shorter p s c x e h = let a = around_in p s c x e h in rw (a.is, length-append a.before x) (omega arith)

-- whether it is a refusal
abbrev told : Verdict → Type 0
told (fine t r) = ⊥
told (wrong k x) = Unit {0}

-- a refusal, no later than x
pub data Early (x : List ℕ) : Verdict → Type 0 where
  early : {k : ℕ} {y : List ℕ} → length x ≤ length y → Early x (wrong k y)

at_once : (k : ℕ) (x : List ℕ) → Early x (wrong k x)
at_once k x = early {k = k} {y = x} (omega arith)

follow_early : (x : List ℕ) (v : Verdict) (g : Tree → List ℕ → Verdict) → Early x v → Early x (follow v g)
follow_early x v g (early h) = early h

-- inside one more opener, which stands at o
opened_early : (l : Limits) (k d e : ℕ) (c : Token) (x o : List ℕ) (f : ℕ → Verdict) → Refused l d k c x (suc e) → length x ≤ length o
    → ((i : ℕ) → Refused l i k c x e → Early x (f i)) → Early x (opened d o f)
opened_early l k zero e c x o f w h g = early {k = 16} {y = o} h
opened_early l k (suc d) e c x o f (predicate-refused n p q) h g = g d (predicate-refused n p q)
opened_early l k (suc d) e c x o f (node-refused n p q) h g = g d (node-refused n p q)
opened_early l k (suc d) e c x o f next-refused h g = g d next-refused
opened_early l k (suc d) e c x o f group-refused h g = g d group-refused
opened_early l k (suc d) e c x o f arrow-refused h g = g d arrow-refused

-- no conjunction begins with `b`
conjunction-byte : (s : List ℕ) (c : Token) (x : List ℕ) (e : ℕ) (f : List ℕ → Verdict) (a : Verdict) → AroundThen conjunction s c x e → byte 98 s f a ≡ a
conjunction-byte s c x e f a (under_unit h) = unit-first s c x e h
  where
    unit-first : (s : List ℕ) (c : Token) (x : List ℕ) (e : ℕ) → AroundThen unit s c x e → byte 98 s f a ≡ a
    unit-first s c x e then_m = refl
    unit-first s c x e then-N = refl
    unit-first s c x e then_parenthesis = refl
    unit-first s c x e (under_next m h) = refl
    unit-first s c x e (under_group m h) = refl
conjunction-byte s c x e f a (past_and q m h) = unit-byte s _ _ f a q

-- a part begins with no space
around-start : (p : Part) (s : List ℕ) (c : Token) (x : List ℕ) (e : ℕ) → AroundThen p s c x e → spaces s ≡ s
around-start p s c x e then_m = refl
around-start p s c x e then-N = refl
around-start p s c x e then_parenthesis = refl
around-start p s c x e then_b = refl
around-start p s c x e (then_arrow n m) = refl
around-start p s c x e (under_next m h) = refl
around-start p s c x e (under_group m h) = refl
around-start p s c x e (under_arrow n m g h) = refl
around-start p s c x e (under_unit h) = around-start unit s c x e h
around-start p s c x e (past_and q m h) = spelled-start unit s _ _ q
around-start p s c x e (under_conjunction h) = around-start conjunction s c x e h

module _ (l : Limits) where
  -- behind `b`, its number and spaces
  number_early : (j d : ℕ) (s : List ℕ) (n : ℕ) (y z x : List ℕ) → NumberThen s n y → SpacesThen y (45 ∷ 62 ∷ z) → length x ≤ length y
      → Early x (judge_arrow (judge l j) d n (45 ∷ 62 ∷ z)) → Early x (judge l (suc j) d formula (98 ∷ s))
  number_early j d s n y z x h m b i =
      subst (Early x) (sym (number_read s n y _ _ h (spaces-plain y (45 ∷ 62 ∷ z) m (plain refl)))) (go (l.nodes n) (number_shorter s n y h))
    where
      go : (v : Bool) → length y < length s → Early x (cond v (judge_arrow (judge l j) d n (spaces y)) (wrong 15 (98 ∷ s)))
      go true q = subst (λ o. Early x (judge_arrow (judge l j) d n o)) (sym (spaces-read y (45 ∷ 62 ∷ z) m)) i
      go false q = early {k = 15} {y = 98 ∷ s} (omega arith)

  -- behind a unit and its `&`
  and_early : (j d : ℕ) (s : List ℕ) (t : Tree) (y x : List ℕ) (v : Verdict) → Beside l unit s d (read t (38 ∷ y)) v → length x ≤ length y
      → Early x (judge_joining (judge l j) d t (38 ∷ y)) → Early x (follow v (judge_joining (judge l j) d))
  unfolding rest
  and_early j d s t y x v (agrees h) b i = i
  and_early j d s t y x v (earlier {k} {x = z} w o h m) b i = early {k = k} {y = z} (omega arith)

  early_at : (p : Part) (s : List ℕ) (c : Token) (x : List ℕ) (e : ℕ) → AroundThen p s c x e → (k d : ℕ) → Refused l d k c x e → (j : ℕ) → 3 * length s + rank p < j → Early x (judge l j d p s)
  unfolding rank
  early_at p s c x e h k d w zero b = absurd (omega arith)
  early_at p s c x e then_m k d (predicate-refused {s = u} {r} {n} h q i) (suc j) b = subst (Early x) (sym (number_read u n r _ _ h q)) (rw i (at_once 15 x))
  early_at p s c x e then-N k d next-refused (suc j) b = at_once 16 x
  early_at p s c x e then_parenthesis k d group-refused (suc j) b = at_once 16 x
  early_at p s c x e then_b k d (node-refused {s = u} {r} {n} h q i) (suc j) b = subst (Early x) (sym (number_read u n r _ _ h q)) (rw i (at_once 15 x))
  early_at p s c x e (then_arrow {s = o} {y} {z} {n = i} n m) k d arrow-refused (suc j) b = number_early j 0 o i y z x n m (spaces_shorter y x m) (at_once 16 x)
  early_at p s c x e (under_next {s = o} {y} {e = i} m h) k d w (suc j) b =
      opened_early l k d i c x (78 ∷ o) _ w (omega (arith, around_shorter unit y c x i h, spaces_shorter o y m))
      (λ f v. follow_early x (judge l j f unit (spaces o)) _
      (subst (λ z. Early x (judge l j f unit z)) (sym (spaces-read o y m ∙ around-start unit y c x i h))
      (early_at unit y c x i h k f v j (omega (arith, spaces_shorter o y m)))))
  early_at p s c x e (under_group {s = o} {y} {e = i} m h) k d w (suc j) b =
      opened_early l k d i c x (40 ∷ o) _ w (omega (arith, around_shorter formula y c x i h, spaces_shorter o y m))
      (λ f v. follow_early x (judge l j f formula (spaces o)) _
      (subst (λ z. Early x (judge l j f formula z)) (sym (spaces-read o y m ∙ around-start formula y c x i h))
      (early_at formula y c x i h k f v j (omega (arith, spaces_shorter o y m)))))
  early_at p s c x e (under_arrow {s = o} {y} {z} {w = r} {n = i} {e = a} n m g h) k d w (suc j) b =
      number_early j d o i y z x n m (omega (arith, spaces_shorter y (45 ∷ 62 ∷ z) m, spaces_shorter z r g, around_shorter formula r c x a h))
      (opened_early l k d a c x (45 ∷ 62 ∷ z) _ w (omega (arith, spaces_shorter z r g, around_shorter formula r c x a h))
      (λ f v. follow_early x (judge l j f formula (spaces z)) _
      (subst (λ q. Early x (judge l j f formula q)) (sym (spaces-read z r g ∙ around-start formula r c x a h))
      (early_at formula r c x a h k f v j
      (omega (arith, number_shorter o i y n, spaces_shorter y (45 ∷ 62 ∷ z) m, spaces_shorter z r g))))))
  early_at p s c x e (under_unit h) k d w (suc j) b = follow_early x (judge l j d unit s) _ (early_at unit s c x e h k d w j (omega arith))
  early_at p s c x e (past_and {y} {z} {t} q m h) k d w (suc j) b =
      and_early j d s t y x (judge l j d unit s)
      (subst (λ a. Beside l unit s d a (judge l j d unit s)) (complete unit s t (38 ∷ y) q at_and j (omega arith)) (beside l j d unit s))
      (omega (arith, around_shorter conjunction z c x e h, spaces_shorter y z m))
      (follow_early x (judge l j d conjunction (spaces y)) _
      (subst (λ o. Early x (judge l j d conjunction o)) (sym (spaces-read y z m ∙ around-start conjunction z c x e h))
      (early_at conjunction z c x e h k d w j (omega (arith, spaces_shorter y z m, spelled_shorter unit s t (38 ∷ y) q)))))
  early_at p s c x e (under_conjunction h) k d w (suc j) b =
      subst (Early x) (sym (conjunction-byte s c x e _ _ h)) (early_at conjunction s c x e h k d w j (omega arith))

  early-text : (s : List ℕ) (k d : ℕ) (c : Token) (e : ℕ) (r : List ℕ) → Stands s c e r → Refused l d k c (bytes c ++ r) e → Early (bytes c ++ r) (judge l (3 * length s + 3) d formula (spaces s))
  unfolding rank
  early-text s k d c e r h w =
      let x = bytes c ++ r in
      let y = h.before ++ x in
      let a = around_then formula h.before c e h.around r in
      let m : SpacesThen s y = rw h.is (spaces-then h.lead h.spaces y) in
      subst (λ o. Early x (judge l (3 * length s + 3) d formula o)) (sym (spaces-read s y m ∙ around-start formula y c x e a))
      (early_at formula y c x e a k d w (3 * length s + 3) (omega (arith, spaces_shorter s y m)))

  -- so nothing is refused in a text that is within the limits
  pub within_good : (s : List ℕ) (k d : ℕ) (c : Token) (e : ℕ) (r : List ℕ) (t : Tree) → Stands s c e r → Refused l d k c (bytes c ++ r) e → Text s t → T (within l d t) → ⊥
  within_good s k d c e r t h w g b = go (judge l (3 * length s + 3) d formula (spaces s)) (judge-fine l s d t g b) (early-text s k d c e r h w)
    where
      go : (v : Verdict) → v ≡ fine t [] → Early (bytes c ++ r) v → ⊥
      go v q (early {k = i} {y} h) = subst told q tt

pub record RefusedBy (l : Limits) (s x : List ℕ) : Type 0 where
  pub row : ℕ
  pub left : List ℕ
  pub is : judge_text l s ≡ wrong row left
  pub no_later : length x ≤ length left

pub judged-first : (l : Limits) (s : List ℕ) (k : ℕ) (c : Token) (e : ℕ) (r : List ℕ) → Stands s c e r → Refused l 32 k c (bytes c ++ r) e → RefusedBy l s (bytes c ++ r)
judged-first l s k c e r h w =
    early_is (judge_text l s) refl (follow_early (bytes c ++ r) (judge l (3 * length s + 3) 32 formula (spaces s)) judge_ended (early-text l s k 32 c e r h w))
  where
    early_is : (v : Verdict) → judge_text l s ≡ v → Early (bytes c ++ r) v → RefusedBy l s (bytes c ++ r)
    early_is v q (early {k = i} {y} b) = record { row = i; left = y; is = q; no_later = b }
