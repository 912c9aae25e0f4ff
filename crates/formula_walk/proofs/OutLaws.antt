-- Triples put into answer words.
use Rattle.std.proofs.Common.{◌≡◌, ℕ, ◌+◌, ◌*◌, ◌/◌, ◌<◌, ◌≤◌, Bool, true, false, cond, List, [], ◌∷◌, ◌++◌, length, take, drop, eqb, refl, sym, ap, ◌∙◌, drop-drop, lt-ltb, le-ltb, eq-eqb, ne_eqb}
use borrow.Rule.Slice.PartMut.{put_mid}
use Rattle.formulas.specs.Language.{only}
use Rattle.model.specs.Formula.{Triple}
use Rattle.formula_walk.specs.declared.Pass.{Pass}
use Rattle.formula_walk.specs.declared.Pass.TheVariants.{List as Lists}
use Rattle.formula_walk.specs.Contract.{Out, out_of, put, put_all, listed_by}

-- the step of a triple
abbrev pub step_of : Triple → ℕ
step_of t = t.step

-- a triple, put where a test says that there is space
abbrev put_if : Triple → ℕ → List ℕ → Bool → Out
put_if t listed out b = cond b (out_of (take (3 * listed) out ++ (t.step ∷ t.condition ∷ t.named ∷ drop (3 * listed + 3) out)) (listed + 1)) (out_of out listed)

-- there is space
pub put-fits : (t : Triple) (listed : ℕ) (out : List ℕ) → listed < length out / 3 → (n : ℕ) (ws : List ℕ) → n ≡ 3 → ws ≡ t.step ∷ t.condition ∷ t.named ∷ [] → out_of (put_mid (3 * listed) n out ws) (listed + 1) ≡ put t (out_of out listed)
unfolding put
put-fits t listed out h n ws e q =
    let l : put_mid (3 * listed) n out ws ≡ take (3 * listed) out ++ (t.step ∷ t.condition ∷ t.named ∷ drop (3 * listed + 3) out) =
    rw (q, e) (ap (λ (r : List ℕ). take (3 * listed) out ++ (t.step ∷ t.condition ∷ t.named ∷ r)) (drop-drop 3 (3 * listed) out)) in
    ap (λ (l : List ℕ). out_of l (listed + 1)) l ∙ sym (ap (put_if t listed out) (lt-ltb listed (length out / 3) h))

-- there is none
pub put_full : (t : Triple) (listed : ℕ) (out : List ℕ) → length out / 3 ≤ listed → out_of out listed ≡ put t (out_of out listed)
unfolding put
put_full t listed out h = sym (ap (put_if t listed out) (le-ltb listed (length out / 3) h))

pub put_all-append : (xs ys : List Triple) (o : Out) → put_all (xs ++ ys) o ≡ put_all ys (put_all xs o)
put_all-append [] ys o = refl
put_all-append (x ∷ xs) ys o = put_all-append xs ys (put x o)

only-append : {A : Type 0} (step : A → ℕ) (k : ℕ) (xs ys : List A) → only step k (xs ++ ys) ≡ only step k xs ++ only step k ys
only-append step k [] ys = refl
only-append step k (x ∷ xs) ys = go (eqb (step x) k) (only-append step k xs ys)
  where
    go : (b : Bool) → only step k (xs ++ ys) ≡ only step k xs ++ only step k ys → cond b (x ∷ only step k (xs ++ ys)) (only step k (xs ++ ys)) ≡ cond b (x ∷ only step k xs) (only step k xs) ++ only step k ys
    go true e = ap (λ (l : List _). x ∷ l) e
    go false e = e

pub put_both : (k : ℕ) (xs ys : List Triple) (o : Out) → put_all (only step_of k (xs ++ ys)) o ≡ put_all (only step_of k ys) (put_all (only step_of k xs) o)
put_both k xs ys o = ap (λ (l : List Triple). put_all l o) (only-append step_of k xs ys) ∙ put_all-append (only step_of k xs) (only step_of k ys) o

pub put_one : (k : ℕ) (t : Triple) (o : Out) → listed_by (Lists k) t o ≡ put_all (only step_of k (t ∷ [])) o
put_one k t o = go (eqb t.step k)
  where
    go : (b : Bool) → cond b (put t o) o ≡ put_all (cond b (t ∷ []) []) o
    go true = refl
    go false = refl

-- a triple at a pass that lists: of its step, and of another
pub listed-step : {p : Pass} {k : ℕ} (t : Triple) (x : Out) → p ≡ Lists k → t.step ≡ k → put t x ≡ listed_by p t x
listed-step {p} {k} t x e s = rw (e, eq-eqb t.step k s) refl

pub listed_other : {p : Pass} {k : ℕ} (t : Triple) (x : Out) → p ≡ Lists k → (t.step ≡ k → ⊥) → x ≡ listed_by p t x
listed_other {p} {k} t x e s = rw (e, ne_eqb t.step k s) refl
