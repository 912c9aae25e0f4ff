-- What each triple of a formula has, and the triples that stand in words.
use mathlib.Core.Path.{◌≡◌, refl, sym, ap, ap₂, subst, ◌∙◌}
use mathlib.Core.Bool.{Bool, true, false, cond}
use mathlib.Core.List.{List, [], ◌∷◌, ◌++◌}
use Prim.Native.Nat.{ℕ, zero, suc, ◌+◌, ◌*◌, ◌<◌, ◌≤◌}
use native.Mathlib.Omega.{arith}
use lib.Dec.{leb}
use lib.ListN.{length, get_or, length-append}
use Rattle.nodes.proofs.BoolLaws.{and_both}
use Rattle.formulas.specs.Language.{Tree, predicate, next, both, when, grouped, Below, placed, listed}
use Rattle.formulas.specs.Reading.{Limits}
use Rattle.formulas.specs.Claims.{depth, numbers}
use Rattle.conditions.specs.Build.{Store, Outcome}
use Rattle.conditions.specs.Ite.{And}
use Rattle.model.specs.Formula.{Triple, Triples}
use Rattle.model.proofs.AgainFormulaLaws.{both_is, when_is}
use Rattle.formula_calls.specs.Call.{in_order, triple_words}
use Rattle.formula_walk.specs.Contract.{predicates_of}
use Rattle.making.specs.Contract.{triple_at, triples_from}
use Rattle.preparing.specs.Contract.{step_of}

-- P holds of each triple
abbrev pub Each : (Triple → Type 0) → List Triple → Type 0
Each P [] = Unit {0}
Each P (t ∷ ts) = P t × Each P ts

each_append : (P : Triple → Type 0) (xs ys : List Triple) → Each P xs → Each P ys → Each P (xs ++ ys)
each_append P [] ys X Y = Y
each_append P (x ∷ xs) ys X Y = (X.0, each_append P xs ys X.1 Y)

each_placed : (P : Triple → Type 0) (x : Triple) (xs : List Triple) → P x → Each P xs → Each P (placed step_of x xs)
each_placed P x [] p X = (p, tt)
each_placed P x (y ∷ ys) p X = go (leb (step_of x) (step_of y)) (each_placed P x ys p X.1)
  where
    go : (b : Bool) → Each P (placed step_of x ys) → Each P (cond b (x ∷ y ∷ ys) (y ∷ placed step_of x ys))
    go true Y = (p, X)
    go false Y = (X.0, Y)

pub each_in-order : (P : Triple → Type 0) (xs : List Triple) → Each P xs → Each P (in_order xs)
each_in-order P [] X = tt
each_in-order P (x ∷ xs) X = each_placed P x (in_order xs) X.0 (each_in-order P xs X.1)

-- a triple whose predicate is good, and whose step is at most n
abbrev pub Good : Limits → ℕ → Triple → Type 0
Good l n t = (l.predicates t.named ≡ true) × (t.step ≤ n)

pub triples_good : (l : Limits) (n k c : ℕ) (t : Tree) (w : List ℕ) (s : Store) → numbers l t ≡ true → k + depth t ≤ n → Each (Good l n) (Triples k c t w s).answer
unfolding Triples
triples_good l n k c (predicate p) w s g h = ((g, omega (arith, h)), tt)
triples_good l n k c (next t) w s g h = triples_good l n (suc k) c t w s g (omega (arith, h))
triples_good l n k c (both t u) w s g h =
    let x = Triples k c t w s in
    let y = Triples k c u x.words x.store in
    let p = and_both (numbers l t) (numbers l u) g in
    subst (λ (o : Outcome (List Triple)). Each (Good l n) o.answer) (sym (both_is k c w s t u))
    (each_append (Good l n) x.answer y.answer (triples_good l n k c t w s p.0 (omega (arith, h))) (triples_good l n k c u x.words x.store p.1 (omega (arith, h))))
triples_good l n k c (when b t) w s g h =
    let x = And c b w s in
    let p = and_both (l.nodes b) (numbers l t) g in
    subst (λ (o : Outcome (List Triple)). Each (Good l n) o.answer) (sym (when_is k c w s b t)) (triples_good l n k x.answer t x.words x.store p.1 (omega (arith, h)))
triples_good l n k c (grouped t) w s g h = triples_good l n k c t w s g (omega (arith, h))

pub good-below : (l : Limits) (n : ℕ) (xs : List Triple) → Each (Good l n) xs → Below step_of (n + 1) xs
good-below l n [] X = tt
good-below l n (x ∷ xs) X = (omega (arith, X.0.1), good-below l n xs X.1)

-- as many triples as predicates
pub triples-many : (k c : ℕ) (t : Tree) (w : List ℕ) (s : Store) → length (Triples k c t w s).answer ≡ predicates_of t
unfolding Triples
triples-many k c (predicate p) w s = refl
triples-many k c (next t) w s = triples-many (suc k) c t w s
triples-many k c (both t u) w s =
    let x = Triples k c t w s in
    let y = Triples k c u x.words x.store in
    ap (λ (o : Outcome (List Triple)). length o.answer) (both_is k c w s t u) ∙ length-append x.answer y.answer ∙ ap₂ ◌+◌ (triples-many k c t w s) (triples-many k c u x.words x.store)
triples-many k c (when b t) w s =
    let x = And c b w s in
    ap (λ (o : Outcome (List Triple)). length o.answer) (when_is k c w s b t) ∙ triples-many k x.answer t x.words x.store
triples-many k c (grouped t) w s = triples-many k c t w s

pub listed-many : (k : ℕ) (bs : List ℕ) (t : Tree) → length (listed k bs t) ≡ predicates_of t
listed-many k bs (predicate p) = refl
listed-many k bs (next t) = listed-many (suc k) bs t
listed-many k bs (both t u) = length-append (listed k bs t) (listed k bs u) ∙ ap₂ ◌+◌ (listed-many k bs t) (listed-many k bs u)
listed-many k bs (when b t) = listed-many k (bs ++ (b ∷ [])) t
listed-many k bs (grouped t) = listed-many k bs t

-- triples in words
pub from-many : (ws : List ℕ) (i k : ℕ) → length (triples_from ws i k) ≡ k
from-many ws i zero = refl
from-many ws i (suc k) = ap suc (from-many ws (suc i) k)

from_later : (a b c : ℕ) (ws : List ℕ) (i k : ℕ) → triples_from (a ∷ b ∷ c ∷ ws) (suc i) k ≡ triples_from ws i k
from_later a b c ws i zero = refl
from_later a b c ws i (suc k) = ap₂ (λ (x : Triple) (xs : List Triple). x ∷ xs) one (from_later a b c ws (suc i) k)
  where
    word : ℕ → ℕ
    word j = get_or (a ∷ b ∷ c ∷ ws) j 0

    one : triple_at (a ∷ b ∷ c ∷ ws) (suc i) ≡ triple_at ws i
    one =
        let e : 3 * suc i ≡ suc (suc (suc (3 * i))) = omega arith in
        let f : 3 * suc i + 1 ≡ suc (suc (suc (3 * i + 1))) = omega arith in
        let g : 3 * suc i + 2 ≡ suc (suc (suc (3 * i + 2))) = omega arith in
        ap₂ (λ (x : ℕ × ℕ) (y : ℕ). record { step = x.0; condition = x.1; named = y }) (ap₂ (λ (x y : ℕ). (x, y)) (ap word e) (ap word f)) (ap word g)

pub words-triples : (ts : List Triple) (rest : List ℕ) → triples_from (triple_words ts ++ rest) 0 (length ts) ≡ ts
words-triples [] rest = refl
words-triples (t ∷ ts) rest = ap (λ (xs : List Triple). t ∷ xs) (from_later t.step t.condition t.named (triple_words ts ++ rest) 0 (length ts) ∙ words-triples ts rest)

-- what each has, the one at a place has
each_from : (P : Triple → Type 0) (ws : List ℕ) (j k i : ℕ) → Each P (triples_from ws j k) → i < k → P (triple_at ws (j + i))
each_from P ws j zero i X h = absurd (omega (arith, h))
each_from P ws j (suc k) zero X h = let e : j ≡ j + 0 = omega arith in subst (λ (m : ℕ). P (triple_at ws m)) e X.0
each_from P ws j (suc k) (suc i) X h = let e : suc j + i ≡ j + suc i = omega arith in subst (λ (m : ℕ). P (triple_at ws m)) e (each_from P ws (suc j) k i X.1 (omega (arith, h)))

pub each_at : (P : Triple → Type 0) (ws : List ℕ) (k i : ℕ) → Each P (triples_from ws 0 k) → i < k → P (triple_at ws i)
each_at P ws k i X h = let e : 0 + i ≡ i = omega arith in subst (λ (m : ℕ). P (triple_at ws m)) e (each_from P ws 0 k i X h)
