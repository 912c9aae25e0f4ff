-- Places in a text as a reader meets them: in a part that begins at s a token c stands at x, with e open around it.
use mathlib.Core.Path.{◌≡◌, refl, sym, ap, subst, ◌∙◌}
use mathlib.Core.List.{List, [], ◌∷◌, ◌++◌, append_assoc, append-nil}
use Prim.Native.Nat.{ℕ, suc}
use Rattle.formulas.specs.Language.{Tree, predicate, next, both, when, grouped, none, stop, number, Part, formula, conjunction, unit, Written, is-predicate, is-next, is_unit, is-both, is_conjunction, is-when, is-grouped, Text, text}
use Rattle.formulas.specs.Faults.{Token, letter_m, letter-b, letter-N, parenthesis, arrow, bytes, Around, at_m, at-N, at_parenthesis, at_b, at_arrow, in-next, in_group, in_arrow, in_unit, behind_and, in_conjunction, Stands}
use Rattle.formulas.proofs.Spelling.{SpacesThen, NumberThen, Spelled, spaces-then, number-then, written-spelled, join, spaces_in, number_in, spelled-written}

pub data AroundThen : Part → List ℕ → Token → List ℕ → ℕ → Type 0 where
  then_m : {s : List ℕ} → AroundThen unit (109 ∷ s) letter_m (109 ∷ s) 0
  then-N : {s : List ℕ} → AroundThen unit (78 ∷ s) letter-N (78 ∷ s) 0
  then_parenthesis : {s : List ℕ} → AroundThen unit (40 ∷ s) parenthesis (40 ∷ s) 0
  then_b : {s : List ℕ} → AroundThen formula (98 ∷ s) letter-b (98 ∷ s) 0
  then_arrow : {s y z : List ℕ} {n : ℕ} → NumberThen s n y → SpacesThen y (45 ∷ 62 ∷ z) → AroundThen formula (98 ∷ s) arrow (45 ∷ 62 ∷ z) 0
  under_next : {s y x : List ℕ} {c : Token} {e : ℕ} → SpacesThen s y → AroundThen unit y c x e → AroundThen unit (78 ∷ s) c x (suc e)
  under_group : {s y x : List ℕ} {c : Token} {e : ℕ} → SpacesThen s y → AroundThen formula y c x e → AroundThen unit (40 ∷ s) c x (suc e)
  under_arrow : {s y z w x : List ℕ} {n : ℕ} {c : Token} {e : ℕ} → NumberThen s n y → SpacesThen y (45 ∷ 62 ∷ z) → SpacesThen z w → AroundThen formula w c x e → AroundThen formula (98 ∷ s) c x (suc e)
  under_unit : {s x : List ℕ} {c : Token} {e : ℕ} → AroundThen unit s c x e → AroundThen conjunction s c x e
  past_and : {s y z x : List ℕ} {t : Tree} {c : Token} {e : ℕ} → Spelled unit s t (38 ∷ y) → SpacesThen y z → AroundThen conjunction z c x e → AroundThen conjunction s c x e
  under_conjunction : {s x : List ℕ} {c : Token} {e : ℕ} → AroundThen conjunction s c x e → AroundThen formula s c x e

-- from the bytes before the place, whatever is left behind the token
pub around_then : (p : Part) (w : List ℕ) (c : Token) (e : ℕ) → Around p w c e → (r : List ℕ) → AroundThen p (w ++ (bytes c ++ r)) c (bytes c ++ r) e
around_then p w c e at_m r = then_m
around_then p w c e at-N r = then-N
around_then p w c e at_parenthesis r = then_parenthesis
around_then p w c e at_b r = then_b
around_then p w c e (at_arrow {ds} {x} {n} h m) r =
    rw (append_assoc ds x (45 ∷ 62 ∷ r)) (then_arrow (number-then ds n h (x ++ (45 ∷ 62 ∷ r))) (spaces-then x m (45 ∷ 62 ∷ r)))
around_then p w c e (in-next {x} {w = v} {e = i} m h) r =
    rw (append_assoc x v (bytes c ++ r)) (under_next (spaces-then x m (v ++ (bytes c ++ r))) (around_then unit v c i h r))
around_then p w c e (in_group {x} {w = v} {e = i} m h) r =
    rw (append_assoc x v (bytes c ++ r)) (under_group (spaces-then x m (v ++ (bytes c ++ r))) (around_then formula v c i h r))
around_then p w c e (in_arrow {ds} {x} {y} {w = v} {n} {e = i} k m l h) r =
    rw (append_assoc ds (x ++ (45 ∷ 62 ∷ (y ++ v))) (bytes c ++ r), append_assoc x (45 ∷ 62 ∷ (y ++ v)) (bytes c ++ r), append_assoc y v (bytes c ++ r))
    (under_arrow (number-then ds n k (x ++ (45 ∷ 62 ∷ (y ++ (v ++ (bytes c ++ r)))))) (spaces-then x m (45 ∷ 62 ∷ (y ++ (v ++ (bytes c ++ r))))) (spaces-then y l (v ++ (bytes c ++ r))) (around_then formula v c i h r))
around_then p w c e (in_unit h) r = under_unit (around_then unit w c e h r)
around_then p w c e (behind_and {s} {x} {y} {w = v} {t} k m l h) r =
    rw (append_assoc s (x ++ (38 ∷ (y ++ v))) (bytes c ++ r), append_assoc x (38 ∷ (y ++ v)) (bytes c ++ r), append_assoc y v (bytes c ++ r))
    (past_and (written-spelled unit s t k x m (38 ∷ (y ++ (v ++ (bytes c ++ r))))) (spaces-then y l (v ++ (bytes c ++ r))) (around_then conjunction v c e h r))
around_then p w c e (in_conjunction h) r = under_conjunction (around_then conjunction w c e h r)

-- the bytes before the place, and what is left behind the token
pub record AroundIn (p : Part) (s : List ℕ) (c : Token) (x : List ℕ) (e : ℕ) : Type 0 where
  pub before : List ℕ
  pub behind : List ℕ
  pub around : Around p before c e
  pub is : s ≡ before ++ x
  pub token : x ≡ bytes c ++ behind

pub around_in : (p : Part) (s : List ℕ) (c : Token) (x : List ℕ) (e : ℕ) → AroundThen p s c x e → AroundIn p s c x e
around_in p s c x e (then_m {s = u}) = record { before = []; behind = u; around = at_m; is = refl; token = refl }
around_in p s c x e (then-N {s = u}) = record { before = []; behind = u; around = at-N; is = refl; token = refl }
around_in p s c x e (then_parenthesis {s = u}) = record { before = []; behind = u; around = at_parenthesis; is = refl; token = refl }
around_in p s c x e (then_b {s = u}) = record { before = []; behind = u; around = at_b; is = refl; token = refl }
around_in p s c x e (then_arrow {s = u} {y} {z} n m) =
    let a = number_in u _ y n in
    let b = spaces_in y (45 ∷ 62 ∷ z) m in
    record { before = 98 ∷ (a.own ++ b.own); behind = z; around = at_arrow a.number b.spaces; is = ap (λ v. 98 ∷ v) (join u a.own y b.own (45 ∷ 62 ∷ z) a.is b.is); token = refl }
around_in p s c x e (under_next {s = u} {y} m h) =
    let a = spaces_in u y m in
    let b = around_in unit y c x _ h in
    record { before = 78 ∷ (a.own ++ b.before); behind = b.behind; around = in-next a.spaces b.around; is = ap (λ v. 78 ∷ v) (join u a.own y b.before x a.is b.is); token = b.token }
around_in p s c x e (under_group {s = u} {y} m h) =
    let a = spaces_in u y m in
    let b = around_in formula y c x _ h in
    record { before = 40 ∷ (a.own ++ b.before); behind = b.behind; around = in_group a.spaces b.around; is = ap (λ v. 40 ∷ v) (join u a.own y b.before x a.is b.is); token = b.token }
around_in p s c x e (under_arrow {s = u} {y} {z} {w} n m g h) =
    let a = number_in u _ y n in
    let b = spaces_in y (45 ∷ 62 ∷ z) m in
    let d = spaces_in z w g in
    let f = around_in formula w c x _ h in
    record {
      before = 98 ∷ (a.own ++ (b.own ++ (45 ∷ 62 ∷ (d.own ++ f.before))));
      behind = f.behind;
      around = in_arrow a.number b.spaces d.spaces f.around;
      is = ap (λ v. 98 ∷ v)
          (join u a.own y (b.own ++ (45 ∷ 62 ∷ (d.own ++ f.before))) x a.is
          (join y b.own (45 ∷ 62 ∷ z) (45 ∷ 62 ∷ (d.own ++ f.before)) x b.is (ap (λ v. 45 ∷ 62 ∷ v) (join z d.own w f.before x d.is f.is))));
      token = f.token;
    }
around_in p s c x e (under_unit h) =
    let a = around_in unit s c x e h in
    record { before = a.before; behind = a.behind; around = in_unit a.around; is = a.is; token = a.token }
around_in p s c x e (past_and {y} {z} k m h) =
    let a = spelled-written unit s _ (38 ∷ y) k in
    let b = spaces_in y z m in
    let d = around_in conjunction z c x e h in
    record {
      before = a.own ++ (a.behind ++ (38 ∷ (b.own ++ d.before)));
      behind = d.behind;
      around = behind_and a.written a.spaces b.spaces d.around;
      is = join s a.own (a.behind ++ (38 ∷ y)) (a.behind ++ (38 ∷ (b.own ++ d.before))) x a.is
          (join (a.behind ++ (38 ∷ y)) a.behind (38 ∷ y) (38 ∷ (b.own ++ d.before)) x refl (ap (λ v. 38 ∷ v) (join y b.own z d.before x b.is d.is)));
      token = d.token;
    }
around_in p s c x e (under_conjunction h) =
    let a = around_in conjunction s c x e h in
    record { before = a.before; behind = a.behind; around = in_conjunction a.around; is = a.is; token = a.token }

-- Where a token may stand, some text of the language goes on with it

-- `m0`
some-formula : Written formula (109 ∷ 48 ∷ []) (predicate 0)
some-formula = is_conjunction (is_unit (is-predicate (number tt stop)))

around-goes : (p : Part) (w : List ℕ) (c : Token) (e : ℕ) → Around p w c e → (q : List ℕ) × (t : Tree) × Written p (w ++ (bytes c ++ q)) t
around-goes p w c e at_m = (48 ∷ [], predicate 0, is-predicate (number tt stop))
around-goes p w c e at-N = (109 ∷ 48 ∷ [], next (predicate 0), is-next none (is-predicate (number tt stop)))
around-goes p w c e at_parenthesis = (109 ∷ 48 ∷ 41 ∷ [], grouped (predicate 0), is-grouped none some-formula none)
around-goes p w c e at_b = (48 ∷ 45 ∷ 62 ∷ 109 ∷ 48 ∷ [], when 0 (predicate 0), is-when (number tt stop) none none some-formula)
around-goes p w c e (at_arrow {ds} {x} {n} h m) =
    (109 ∷ 48 ∷ [], when n (predicate 0), rw (append_assoc ds x (45 ∷ 62 ∷ 109 ∷ 48 ∷ [])) (is-when h m none some-formula))
around-goes p w c e (in-next {x} {w = v} {e = i} m h) =
    let a = around-goes unit v c i h in
    (a.0, next a.1, rw (append_assoc x v (bytes c ++ a.0)) (is-next m a.2))
around-goes p w c e (in_group {x} {w = v} {e = i} m h) =
    let a = around-goes formula v c i h in
    (a.0 ++ (41 ∷ []), grouped a.1, subst (λ z. Written unit (40 ∷ z) (grouped a.1)) (sym (append_assoc x v (bytes c ++ (a.0 ++ (41 ∷ []))) ∙ ap (λ y. x ++ y) (close v (bytes c) a.0))) (is-grouped m a.2 none))
  where
    close : (v b q : List ℕ) → v ++ (b ++ (q ++ (41 ∷ []))) ≡ (v ++ (b ++ q)) ++ (41 ∷ [])
    close v b q = rw (append_assoc v (b ++ q) (41 ∷ []), append_assoc b q (41 ∷ [])) refl
around-goes p w c e (in_arrow {ds} {x} {y} {w = v} {n} {e = i} k m l h) =
    let a = around-goes formula v c i h in
    (a.0, when n a.1, rw (append_assoc ds (x ++ (45 ∷ 62 ∷ (y ++ v))) (bytes c ++ a.0), append_assoc x (45 ∷ 62 ∷ (y ++ v)) (bytes c ++ a.0), append_assoc y v (bytes c ++ a.0)) (is-when k m l a.2))
around-goes p w c e (in_unit h) = let a = around-goes unit w c e h in (a.0, a.1, is_unit a.2)
around-goes p w c e (behind_and {s} {x} {y} {w = v} {t} k m l h) =
    let a = around-goes conjunction v c e h in
    (a.0, both t a.1, rw (append_assoc s (x ++ (38 ∷ (y ++ v))) (bytes c ++ a.0), append_assoc x (38 ∷ (y ++ v)) (bytes c ++ a.0), append_assoc y v (bytes c ++ a.0)) (is-both k m l a.2))
around-goes p w c e (in_conjunction h) = let a = around-goes conjunction w c e h in (a.0, a.1, is_conjunction a.2)

-- the bytes of s before x begin a text that goes on with b
pub record Begun (s x b : List ℕ) : Type 0 where
  pub before : List ℕ
  pub is : s ≡ before ++ x
  pub on : List ℕ
  pub tree : Tree
  pub goes : Text (before ++ (b ++ on)) tree

pub stands-begun : (s : List ℕ) (c : Token) (e : ℕ) (r : List ℕ) → Stands s c e r → Begun s (bytes c ++ r) (bytes c)
stands-begun s c e r h =
    let a = around-goes formula h.before c e h.around in
    record {
      before = h.lead ++ h.before;
      is = h.is ∙ sym (append_assoc h.lead h.before (bytes c ++ r));
      on = a.0;
      tree = a.1;
      goes = subst (λ z. Text z a.1) (ap (λ z. h.lead ++ z) (append-nil (h.before ++ (bytes c ++ a.0))) ∙ sym (append_assoc h.lead h.before (bytes c ++ a.0))) (text h.spaces a.2 none);
    }
