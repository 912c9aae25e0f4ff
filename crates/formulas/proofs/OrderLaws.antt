-- Request 5, "ordered by step, then text": of each step the same in the same order, and passes over the list find that order.
use mathlib.Core.Path.{◌≡◌, refl, sym, ap, subst, ◌∙◌}
use mathlib.Core.Bool.{Bool, true, false, cond, not}
use mathlib.Core.List.{List, [], ◌∷◌, ◌++◌}
use Prim.Native.Nat.{ℕ, zero, suc, ◌+◌, ◌≤◌, ◌<◌}
use native.Mathlib.Omega.{arith}
use lib.Dec.{T, eqb, leb, eqb_refl, eqb→eq, leb→le, nleb→lt}
use lib.ListN.{length}
use Rattle.formulas.specs.Language.{placed, by_step, only, Rising, Below, passes}

placed-only : {A : Type 0} (step : A → ℕ) (k : ℕ) (e : A) (xs : List A) → only step k (placed step e xs) ≡ only step k (e ∷ xs)
placed-only step k e [] = refl
placed-only {A} step k e (x ∷ xs) = go (leb (step e) (step x)) (nleb→lt (step e) (step x)) (placed-only step k e xs)
  where
    swap : (a b : Bool) → (T a → step x ≡ k) → (T b → step e ≡ k) → step x < step e → (ys : List A)
        → cond a (x ∷ cond b (e ∷ ys) ys) (cond b (e ∷ ys) ys) ≡ cond b (e ∷ cond a (x ∷ ys) ys) (cond a (x ∷ ys) ys)
    swap true true p q h ys = let u = p tt in let v = q tt in absurd (omega arith)
    swap true false p q h ys = refl
    swap false true p q h ys = refl
    swap false false p q h ys = refl

    go : (b : Bool) → (T (not b) → step x < step e) → only step k (placed step e xs) ≡ only step k (e ∷ xs)
        → only step k (cond b (e ∷ x ∷ xs) (x ∷ placed step e xs)) ≡ only step k (e ∷ x ∷ xs)
    go true h i = refl
    go false h i =
        ap (λ ys. cond (eqb (step x) k) (x ∷ ys) ys) i
        ∙ swap (eqb (step x) k) (eqb (step e) k) (eqb→eq (step x) k) (eqb→eq (step e) k) (h tt) (only step k xs)

-- "then text": of each step the same, in text order
pub by_step-only : {A : Type 0} (step : A → ℕ) (k : ℕ) (es : List A) → only step k (by_step step es) ≡ only step k es
by_step-only step k [] = refl
by_step-only step k (e ∷ es) = placed-only step k e (by_step step es) ∙ ap (λ ys. cond (eqb (step e) k) (e ∷ ys) ys) (by_step-only step k es)

placed-rising : {A : Type 0} (step : A → ℕ) (n : ℕ) (e : A) (xs : List A) → n ≤ step e → Rising step n xs → Rising step n (placed step e xs)
placed-rising step n e [] h g = (h, tt)
placed-rising step n e (x ∷ xs) h g =
    go (leb (step e) (step x)) (leb→le (step e) (step x)) (nleb→lt (step e) (step x)) (λ i. placed-rising step (step x) e xs i g.1)
  where
    go : (b : Bool) → (T b → step e ≤ step x) → (T (not b) → step x < step e) → (step x ≤ step e → Rising step (step x) (placed step e xs))
        → Rising step n (cond b (e ∷ x ∷ xs) (x ∷ placed step e xs))
    go true p q i = (h, (p tt, g.1))
    go false p q i = let u = q tt in (g.0, i (omega arith))

-- "ordered by step"
pub by_step-rising : {A : Type 0} (step : A → ℕ) (es : List A) → Rising step 0 (by_step step es)
by_step-rising step [] = tt
by_step-rising step (e ∷ es) = placed-rising step 0 e (by_step step es) (omega arith) (by_step-rising step es)

placed-length : {A : Type 0} (step : A → ℕ) (e : A) (xs : List A) → length (placed step e xs) ≡ suc (length xs)
placed-length step e [] = refl
placed-length step e (x ∷ xs) = go (leb (step e) (step x)) (placed-length step e xs)
  where
    go : (b : Bool) → length (placed step e xs) ≡ suc (length xs) → length (cond b (e ∷ x ∷ xs) (x ∷ placed step e xs)) ≡ suc (suc (length xs))
    go true h = refl
    go false h = ap suc h

-- nothing is lost and nothing is added
pub by_step-length : {A : Type 0} (step : A → ℕ) (es : List A) → length (by_step step es) ≡ length es
by_step-length step [] = refl
by_step-length step (e ∷ es) = placed-length step e (by_step step es) ∙ ap suc (by_step-length step es)

placed_below : {A : Type 0} (step : A → ℕ) (n : ℕ) (e : A) (xs : List A) → step e < n → Below step n xs → Below step n (placed step e xs)
placed_below step n e [] h g = (h, tt)
placed_below step n e (x ∷ xs) h g = go (leb (step e) (step x)) (placed_below step n e xs h g.1)
  where
    go : (b : Bool) → Below step n (placed step e xs) → Below step n (cond b (e ∷ x ∷ xs) (x ∷ placed step e xs))
    go true i = (h, g)
    go false i = (g.0, i)

pub by_step-below : {A : Type 0} (step : A → ℕ) (n : ℕ) (es : List A) → Below step n es → Below step n (by_step step es)
by_step-below step n [] h = tt
by_step-below step n (e ∷ es) h = placed_below step n e (by_step step es) h.0 (by_step-below step n es h.1)

-- passes depend only on what stands of each step
passes-only : {A : Type 0} (step : A → ℕ) (i n : ℕ) (xs ys : List A) → ((k : ℕ) → only step k xs ≡ only step k ys) → passes step i n xs ≡ passes step i n ys
passes-only step i zero xs ys h = refl
passes-only step i (suc n) xs ys h = rw (h i, passes-only step (suc i) n xs ys h) refl

-- a step below the first pass is met by none
passes-past : {A : Type 0} (step : A → ℕ) (i n : ℕ) (e : A) (xs : List A) → step e < i → passes step i n (e ∷ xs) ≡ passes step i n xs
passes-past step i zero e xs h = refl
passes-past step i (suc n) e xs h = rw (passes-past step (suc i) n e xs (omega arith)) (go (eqb (step e) i) (eqb→eq (step e) i))
  where
    go : (b : Bool) → (T b → step e ≡ i) → cond b (e ∷ only step i xs) (only step i xs) ++ passes step (suc i) n xs ≡ only step i xs ++ passes step (suc i) n xs
    go true g = let u = g tt in absurd (omega arith)
    go false g = refl

rising_weaker : {A : Type 0} (step : A → ℕ) (m n : ℕ) (xs : List A) → m ≤ n → Rising step n xs → Rising step m xs
rising_weaker step m n [] h g = tt
rising_weaker step m n (e ∷ es) h g = let u = g.0 in (omega arith, g.1)

only_none : {A : Type 0} (step : A → ℕ) (i n : ℕ) (xs : List A) → i < n → Rising step n xs → only step i xs ≡ []
only_none step i n [] h g = refl
only_none step i n (e ∷ es) h g = go (eqb (step e) i) (eqb→eq (step e) i) g.0 (only_none step i n es h (rising_weaker step n (step e) es g.0 g.1))
  where
    go : (b : Bool) → (T b → step e ≡ i) → n ≤ step e → only step i es ≡ [] → cond b (e ∷ only step i es) (only step i es) ≡ []
    go true q u j = let v = q tt in absurd (omega arith)
    go false q u j = j

passes_none : {A : Type 0} (step : A → ℕ) (i n : ℕ) → passes {A = A} step i n [] ≡ []
passes_none step i zero = refl
passes_none step i (suc n) = passes_none step (suc i) n

differ : (m n : ℕ) → eqb m n ≡ false → m ≡ n → ⊥
differ m n q e = rw q at (subst (λ k. T (eqb m k)) e (eqb_refl m))

-- passes over a list that rises leave it as it is
rising-passes : {A : Type 0} (step : A → ℕ) (i n : ℕ) (xs : List A) → Rising step i xs → Below step (n + i) xs → passes step i n xs ≡ xs
rising-passes step i zero [] h g = refl
rising-passes step i zero (e ∷ es) h g = let u = h.0 in let v = g.0 in absurd (omega arith)
rising-passes step i (suc n) [] h g = passes_none step (suc i) n
rising-passes step i (suc n) (e ∷ es) h g =
    go (eqb (step e) i) refl
    (λ q. rising-passes step i (suc n) es (rising_weaker step i (step e) es h.0 h.1) g.1)
    (λ q. rising-passes step (suc i) n (e ∷ es) (q, h.1) (subst (λ m. Below step m (e ∷ es)) (omega arith) g))
  where
    go : (b : Bool) → eqb (step e) i ≡ b → (step e ≡ i → passes step i (suc n) es ≡ es) → (i < step e → passes step (suc i) n (e ∷ es) ≡ e ∷ es)
        → cond b (e ∷ only step i es) (only step i es) ++ passes step (suc i) n (e ∷ es) ≡ e ∷ es
    go true q j k = let u = eqb→eq (step e) i (rw q tt) in rw (passes-past step (suc i) n e es (omega arith)) (ap (λ ys. e ∷ ys) (j u))
    go false q j k =
        let p : i < step e = above (step e) h.0 (differ (step e) i q) in
        rw (only_none step i (step e) es p h.1) (k p)
      where
        above : (m : ℕ) → i ≤ m → (m ≡ i → ⊥) → i < m
        above m u v = omega arith

-- "ordered by step, then text" is what passes over the list find, one for each step
pub by_step-passes : {A : Type 0} (step : A → ℕ) (n : ℕ) (xs : List A) → Below step n xs → by_step step xs ≡ passes step 0 n xs
by_step-passes step n xs h =
    sym (rising-passes step 0 n (by_step step xs) (by_step-rising step xs) (subst (λ m. Below step m (by_step step xs)) (omega arith) (by_step-below step n xs h)))
    ∙ passes-only step 0 n (by_step step xs) xs (λ k. by_step-only step k xs)
