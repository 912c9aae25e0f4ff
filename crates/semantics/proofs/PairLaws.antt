-- Facts on Bools, pairs, words and places, for any number of bits.
use mathlib.Core.Path.{◌≡◌, refl, sym, ap, ◌∙◌, subst}
use mathlib.Core.Logic.{◌⊎◌, inl, inr}
use mathlib.Core.Bool.{Bool, true, false, ◌&&◌, ◌||◌, not, cond, or-false, true≢false, false≢true, beq}
use mathlib.Core.List.{List, [], ◌∷◌, ◌++◌}
use Prim.Native.Nat.{ℕ, zero, suc, ◌<◌, zero-le, suc-le-suc}
use native.Mathlib.Nat.{le_of_suc-le-suc, not-suc-le-zero}
use native.Mathlib.Decide.{dec_lt}
use native.Mathlib.Omega.{arith}
use lib.Dec.{T}
use lib.ListN.{length, get_or, replicate}
use Rattle.semantics.specs.Pairs.{Pair, X, legal, admit, admits, legals, unique, known, at, bit, anything}
use Rattle.semantics.specs.Published.{Entry, entry, over, scan, cell, union, anywhere, inside, look}
use Rattle.semantics.specs.Array.{same, Bit, Bits}

pub and_left : (a b : Bool) → T (a && b) → T a
and_left true b t = tt
and_left false b t = t

pub and_right : (a b : Bool) → T (a && b) → T b
and_right true b t = t
and_right false b t = absurd t

pub and_both : (a b : Bool) → T a → T b → T (a && b)
and_both true b s t = t
and_both false b s t = s

pub or_left : (a b : Bool) → T a → T (a || b)
or_left true b t = tt
or_left false b t = absurd t

pub or_right : (a b : Bool) → T b → T (a || b)
or_right true b t = tt
or_right false b t = t

pub either : {C : Type 0} (a b : Bool) → T (a || b) → (T a → C) → (T b → C) → C
either true b t f g = f tt
either false b t f g = g t

-- an 'or' that fails
pub not_or : (a b : Bool) → (not a || b) ≡ false → (a ≡ true) × (b ≡ false)
not_or true b e = (refl, e)
not_or false b e = absurd (true≢false e)

-- a test that passes, as an equation, and back
pub T→eq : (b : Bool) → T b → b ≡ true
T→eq true t = refl
T→eq false t = absurd t

pub eq→T : {b : Bool} → b ≡ true → T b
eq→T e = subst T (sym e) tt

pub beq_refl : (b : Bool) → beq b b ≡ true
beq_refl true = refl
beq_refl false = refl

pub beq_eq : (a b : Bool) → beq a b ≡ true → a ≡ b
beq_eq true true e = refl
beq_eq true false e = absurd (false≢true e)
beq_eq false true e = absurd (false≢true e)
beq_eq false false e = refl

pub same_refl : (x : List Bool) → same x x ≡ true
same_refl [] = refl
same_refl (b ∷ x) = rw beq_refl (same_refl x)

pub same_eq : (x y : List Bool) → T (same x y) → x ≡ y
same_eq [] [] t = refl
same_eq [] (b ∷ y) t = absurd t
same_eq (a ∷ x) [] t = absurd t
same_eq (true ∷ x) (true ∷ y) t = ap {B = List Bool} (λ z. true ∷ z) (same_eq x y t)
same_eq (false ∷ x) (false ∷ y) t = ap {B = List Bool} (λ z. false ∷ z) (same_eq x y t)
same_eq (true ∷ x) (false ∷ y) t = absurd t
same_eq (false ∷ x) (true ∷ y) t = absurd t

-- what pairs admit, bit by bit
pub admits-length : (ps : List Pair) (v : List Bool) → T (admits ps v) → length v ≡ length ps
admits-length [] [] t = refl
admits-length [] (b ∷ v) t = absurd t
admits-length (p ∷ ps) [] t = absurd t
admits-length (p ∷ ps) (b ∷ v) t = ap suc (admits-length ps v (and_right (admit p b) (admits ps v) t))

pub admits_at : (ps : List Pair) (v : List Bool) → T (admits ps v) → (i : ℕ) → i < length ps → T (admit (at ps i) (bit v i))
admits_at [] [] t i h = absurd (not-suc-le-zero h)
admits_at [] (b ∷ v) t i h = absurd t
admits_at (p ∷ ps) [] t i h = absurd t
admits_at (p ∷ ps) (b ∷ v) t zero h = and_left (admit p b) (admits ps v) t
admits_at (p ∷ ps) (b ∷ v) t (suc i) h = admits_at ps v (and_right (admit p b) (admits ps v) t) i (le_of_suc-le-suc h)

pub admits_all : (ps : List Pair) (v : List Bool) → length v ≡ length ps → ((i : ℕ) → i < length ps → T (admit (at ps i) (bit v i))) → T (admits ps v)
admits_all [] [] e f = tt
admits_all [] (b ∷ v) e f = omega arith
admits_all (p ∷ ps) [] e f = omega arith
admits_all (p ∷ ps) (b ∷ v) e f =
    and_both (admit p b) (admits ps v) (f zero (suc-le-suc zero-le)) (admits_all ps v (omega arith) (λ i h. f (suc i) (suc-le-suc h)))

-- legal pairs admit something, and any bit that one of them admits is in a word that all admit
pub choose : (p : Pair) → T (legal p) → Bit p
choose p t = go p.h p.l t
  where
    go : (h l : Bool) → T (h || l) → Bit (record { h = h; l = l })
    go true l t = (true, tt)
    go false true t = (false, tt)
    go false false t = absurd t

pub chooses : (ps : List Pair) → T (legals ps) → Bits ps
chooses [] t = ([], tt)
chooses (p ∷ ps) t =
    let c = choose p (and_left (legal p) (legals ps) t) in
    let r = chooses ps (and_right (legal p) (legals ps) t) in
    (c.0 ∷ r.0, and_both (admit p c.0) (admits ps r.0) c.1 r.1)

pub choose_at : (ps : List Pair) → T (legals ps) → (i : ℕ) → i < length ps → (b : Bool) → T (admit (at ps i) b) → (v : Bits ps) × (bit v.0 i ≡ b)
choose_at [] t i h b s = absurd (not-suc-le-zero h)
choose_at (p ∷ ps) t zero h b s =
    let r = chooses ps (and_right (legal p) (legals ps) t) in
    ((b ∷ r.0, and_both (admit p b) (admits ps r.0) s r.1), refl)
choose_at (p ∷ ps) t (suc i) h b s =
    let c = choose p (and_left (legal p) (legals ps) t) in
    let r = choose_at ps (and_right (legal p) (legals ps) t) i (le_of_suc-le-suc h) b s in
    ((c.0 ∷ r.0.0, and_both (admit p c.0) (admits ps r.0.0) c.1 r.0.1), r.1)

-- a word of w times one bit
pub anything-word : (w : ℕ) (b : Bool) → T (admits (anything w) (replicate w b))
anything-word zero b = tt
anything-word (suc w) true = anything-word w true
anything-word (suc w) false = anything-word w false

-- an address with no X admits one place
pub one_place : (a : List Pair) → T (unique a) → (x y : List Bool) → T (admits a x) → T (admits a y) → T (same x y)
one_place [] u [] [] s t = tt
one_place [] u (b ∷ x) y s t = absurd s
one_place [] u [] (c ∷ y) s t = absurd t
one_place (p ∷ a) u [] y s t = absurd s
one_place (p ∷ a) u (b ∷ x) [] s t = absurd t
one_place (p ∷ a) u (b ∷ x) (c ∷ y) s t =
    and_both (beq b c) (same x y)
    (go p.h p.l b c (and_left (known p) (unique a) u) (and_left (admit p b) (admits a x) s) (and_left (admit p c) (admits a y) t))
    (one_place a (and_right (known p) (unique a) u) x y (and_right (admit p b) (admits a x) s) (and_right (admit p c) (admits a y) t))
  where
    go : (h l b c : Bool) → T (not (h && l)) → T (admit (record { h = h; l = l }) b) → T (admit (record { h = h; l = l }) c) → T (beq b c)
    go h l true true u s t = tt
    go h l false false u s t = tt
    go true true true false u s t = u
    go true true false true u s t = u
    go false l true false u s t = s
    go false l false true u s t = t
    go true false true false u s t = t
    go true false false true u s t = s

-- and one with an X, or that does not admit x, admits a place other than x
other_bit : (h l b A U : Bool) → T (h || l) → T (not (admit (record { h = h; l = l }) b && A) || not (not (h && l) && U)) →
    T (admit (record { h = h; l = l }) (not b)) ⊎ (T (admit (record { h = h; l = l }) b) × T (not A || not U))
other_bit true true true A U t q = inl tt
other_bit true true false A U t q = inl tt
other_bit true false true A U t q = inr (tt, q)
other_bit true false false A U t q = inl tt
other_bit false true true A U t q = inl tt
other_bit false true false A U t q = inr (tt, q)
other_bit false false b A U t q = absurd t

differs : (b : Bool) (x y : List Bool) → same (b ∷ x) (not b ∷ y) ≡ false
differs true x y = refl
differs false x y = refl

pub elsewhere : (a : List Pair) → T (legals a) → (x : List Bool) → T (not (admits a x) || not (unique a)) → (y : Bits a) × (same x y.0 ≡ false)
unfolding chooses
elsewhere [] t [] q = absurd q
elsewhere [] t (b ∷ x) q = (([], tt), refl)
elsewhere (p ∷ a) t [] q = (chooses (p ∷ a) t, refl)
elsewhere (p ∷ a) t (b ∷ x) q = go (other_bit p.h p.l b (admits a x) (unique a) (and_left (legal p) (legals a) t) q)
    (λ s. elsewhere a (and_right (legal p) (legals a) t) x s)
  where
    go : T (admit p (not b)) ⊎ (T (admit p b) × T (not (admits a x) || not (unique a))) →
        (T (not (admits a x) || not (unique a)) → (y : Bits a) × (same x y.0 ≡ false)) → (y : Bits (p ∷ a)) × (same (b ∷ x) y.0 ≡ false)
    go (inl s) f =
        let r = chooses a (and_right (legal p) (legals a) t) in
        ((not b ∷ r.0, and_both (admit p (not b)) (admits a r.0) s r.1), differs b x r.0)
    go (inr s) f =
        let r = f s.1 in
        ((b ∷ r.0.0, and_both (admit p b) (admits a r.0.0) s.0 r.0.1), rw beq_refl r.1)

-- some location, and a location
pub anywhere_to : (n : ℕ) (f : List Bool → Bool) → T (anywhere n f) → (x : List Bool) × T (f x)
anywhere_to zero f t = ([], t)
anywhere_to (suc n) f t =
    either (anywhere n (λ x. f (false ∷ x))) (anywhere n (λ x. f (true ∷ x))) t
    (λ s. let r = anywhere_to n (λ x. f (false ∷ x)) s in (false ∷ r.0, r.1))
    (λ s. let r = anywhere_to n (λ x. f (true ∷ x)) s in (true ∷ r.0, r.1))

pub anywhere-from : (n : ℕ) (f : List Bool → Bool) (x : List Bool) → length x ≡ n → T (f x) → T (anywhere n f)
anywhere-from zero f [] e t = t
anywhere-from zero f (b ∷ x) e t = absurd (omega arith)
anywhere-from (suc n) f [] e t = absurd (omega arith)
anywhere-from (suc n) f (false ∷ x) e t =
    or_left (anywhere n (λ y. f (false ∷ y))) (anywhere n (λ y. f (true ∷ y))) (anywhere-from n (λ y. f (false ∷ y)) x (omega arith) t)
anywhere-from (suc n) f (true ∷ x) e t =
    or_right (anywhere n (λ y. f (false ∷ y))) (anywhere n (λ y. f (true ∷ y))) (anywhere-from n (λ y. f (true ∷ y)) x (omega arith) t)

-- a look admits what some admitted location admits
pub anywhere_sized : (n : ℕ) (f : List Bool → Bool) → T (anywhere n f) → (x : List Bool) × (length x ≡ n) × T (f x)
anywhere_sized zero f t = ([], refl, t)
anywhere_sized (suc n) f t =
    either (anywhere n (λ x. f (false ∷ x))) (anywhere n (λ x. f (true ∷ x))) t
    (λ s. let r = anywhere_sized n (λ x. f (false ∷ x)) s in (false ∷ r.0, ap suc r.1, r.2))
    (λ s. let r = anywhere_sized n (λ x. f (true ∷ x)) s in (true ∷ r.0, ap suc r.1, r.2))

pub bool_same : (a b : Bool) → (T a → T b) → (T b → T a) → a ≡ b
bool_same true true f g = refl
bool_same true false f g = absurd (f tt)
bool_same false true f g = absurd (g tt)
bool_same false false f g = refl

pub anywhere-same : (n : ℕ) (f g : List Bool → Bool) → ((x : List Bool) → length x ≡ n → f x ≡ g x) → anywhere n f ≡ anywhere n g
anywhere-same n f g e =
    bool_same (anywhere n f) (anywhere n g)
    (λ t. let r = anywhere_sized n f t in anywhere-from n g r.0 r.1 (subst T (e r.0 r.1) r.2))
    (λ t. let r = anywhere_sized n g t in anywhere-from n f r.0 r.1 (subst T (sym (e r.0 r.1)) r.2))

pub look_to : (n : ℕ) (es : List Entry) (a : List Pair) (i : ℕ) (b : Bool) → T (admit (look n es a i) b) →
    (x : Bits a) × T (admit (cell es x.0 i) b)
look_to n es a i true t =
    let r = anywhere_to n (λ x. admits a x && (cell es x i).h) t in
    ((r.0, and_left (admits a r.0) (cell es r.0 i).h r.1), and_right (admits a r.0) (cell es r.0 i).h r.1)
look_to n es a i false t =
    let r = anywhere_to n (λ x. admits a x && (cell es x i).l) t in
    ((r.0, and_left (admits a r.0) (cell es r.0 i).l r.1), and_right (admits a r.0) (cell es r.0 i).l r.1)

pub look-from : (n : ℕ) (es : List Entry) (a : List Pair) → length a ≡ n → (x : Bits a) (i : ℕ) (b : Bool) →
    T (admit (cell es x.0 i) b) → T (admit (look n es a i) b)
look-from n es a e x i true t =
    anywhere-from n (λ y. admits a y && (cell es y i).h) x.0 (admits-length a x.0 x.1 ∙ e) (and_both (admits a x.0) (cell es x.0 i).h x.1 t)
look-from n es a e x i false t =
    anywhere-from n (λ y. admits a y && (cell es y i).l) x.0 (admits-length a x.0 x.1 ∙ e) (and_both (admits a x.0) (cell es x.0 i).l x.1 t)

-- inside, bit by bit
pub imp_elim : (a b : Bool) → T (not a || b) → T a → T b
imp_elim true b t s = t
imp_elim false b t s = absurd s

imp_intro : (a b : Bool) → (T a → T b) → T (not a || b)
imp_intro true b f = f tt
imp_intro false b f = tt

module _ (w : ℕ) (r d : ℕ → Pair) where
  hs : Bool
  hs = not (r zero).h || (d zero).h

  ls : Bool
  ls = not (r zero).l || (d zero).l

  rest : Bool
  rest = inside w (λ i. r (suc i)) (λ i. d (suc i))

pub inside_to : (w : ℕ) (r d : ℕ → Pair) → T (inside w r d) → (i : ℕ) → i < w → (b : Bool) → T (admit (r i) b) → T (admit (d i) b)
unfolding hs ls rest
inside_to zero r d t i h b s = absurd (not-suc-le-zero h)
inside_to (suc w) r d t zero h true s = imp_elim (r zero).h (d zero).h (and_left (hs w r d) (ls w r d) (and_left (hs w r d && ls w r d) (rest w r d) t)) s
inside_to (suc w) r d t zero h false s = imp_elim (r zero).l (d zero).l (and_right (hs w r d) (ls w r d) (and_left (hs w r d && ls w r d) (rest w r d) t)) s
inside_to (suc w) r d t (suc i) h b s =
    inside_to w (λ k. r (suc k)) (λ k. d (suc k)) (and_right (hs w r d && ls w r d) (rest w r d) t) i (le_of_suc-le-suc h) b s

pub inside-from : (w : ℕ) (r d : ℕ → Pair) → ((i : ℕ) → i < w → (b : Bool) → T (admit (r i) b) → T (admit (d i) b)) → T (inside w r d)
unfolding hs ls rest
inside-from zero r d f = tt
inside-from (suc w) r d f =
    and_both (hs w r d && ls w r d) (rest w r d)
    (and_both (hs w r d) (ls w r d)
    (imp_intro (r zero).h (d zero).h (f zero (suc-le-suc zero-le) true))
    (imp_intro (r zero).l (d zero).l (f zero (suc-le-suc zero-le) false)))
    (inside-from w (λ k. r (suc k)) (λ k. d (suc k)) (λ i h b s. f (suc i) (suc-le-suc h) b s))

-- an entry after older ones, oldest first
pub scan-append : (es fs : List Entry) (x : List Bool) (i : ℕ) (r : Pair) → scan (es ++ fs) x i r ≡ scan fs x i (scan es x i r)
scan-append [] fs x i r = refl
scan-append (o ∷ es) fs x i r = scan-append es fs x i (over o x i r)

pub scan_snoc : (es : List Entry) (e : Entry) (x : List Bool) (i : ℕ) (r : Pair) → scan (es ++ (e ∷ [])) x i r ≡ over e x i (scan es x i r)
scan_snoc es e x i r = scan-append es (e ∷ []) x i r

-- what an entry of a write admits: its data where it may be made at x, and what was there where it may pass x by
over_bools : (m u ch cl b : Bool) (e r : Pair) → T (ch || cl) →
    admit (cond (m && (ch && not cl && u)) e (cond (m && (ch && cl || ch && not cl && not u)) (union e r) r)) b
    ≡ (m && ch && admit e b || (not m || not u || cl) && admit r b)
over_bools false u ch cl b e r t = refl
over_bools true true true false b e r t = sym (or-false (admit e b))
over_bools true false true false true e r t = refl
over_bools true false true false false e r t = refl
over_bools true true true true true e r t = refl
over_bools true true true true false e r t = refl
over_bools true false true true true e r t = refl
over_bools true false true true false e r t = refl
over_bools true true false true b e r t = refl
over_bools true false false true b e r t = refl
over_bools true u false false b e r t = absurd t

pub over_is : (c : Pair) → T (legal c) → (a d : List Pair) (x : List Bool) (i : ℕ) (r : Pair) (b : Bool) →
    admit (over (entry c a d) x i r) b
    ≡ (admits a x && c.h && admit (at d i) b || (not (admits a x) || not (unique a) || c.l) && admit r b)
over_is c t a d x i r b = over_bools (admits a x) (unique a) c.h c.l b (at d i) r t
