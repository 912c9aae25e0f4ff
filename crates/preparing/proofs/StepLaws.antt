-- Triples written one step after the other: what stands in the answer words then.
use mathlib.Core.Path.{◌≡◌, refl, sym, ap, ap₂, ◌∙◌}
use mathlib.Core.Bool.{Bool, true, cond}
use mathlib.Core.List.{List, [], ◌∷◌, ◌++◌, append_assoc, append-nil}
use Prim.Native.Nat.{ℕ, zero, suc, ◌+◌, ◌*◌, ◌-◌, ◌/◌, ◌≤◌}
use native.Mathlib.Omega.{arith}
use lib.Dec.{ltb}
use borrow.Author.Tests.{lt-ltb}
use lib.ListN.{length, take, drop, length-append, length-drop}
use lib.Seq.{take_at, drop-append-add, drop-drop}
use Rattle.formulas.specs.Language.{only, passes, Below}
use Rattle.formulas.proofs.OrderLaws.{by_step-length, by_step-passes}
use Rattle.model.specs.Formula.{Triple}
use Rattle.formula_calls.specs.Call.{in_order, triple_words, listed_over}
use Rattle.formula_walk.specs.Contract.{out_of, put, put_all}
use Rattle.preparing.specs.Contract.{step_of}

-- passes, one more and in two parts
pub passes_split : {A : Type 0} (step : A → ℕ) (i n m : ℕ) (xs : List A) → passes step i (n + m) xs ≡ passes step i n xs ++ passes step (i + n) m xs
passes_split step i zero m xs = let e : 0 + m ≡ m = omega arith in let f : i ≡ i + 0 = omega arith in ap₂ (λ (k j : ℕ). passes step j k xs) e f
passes_split step i (suc n) m xs =
    let e : suc n + m ≡ suc (n + m) = omega arith in
    let f : suc i + n ≡ i + suc n = omega arith in
    ap (λ (k : ℕ). passes step i k xs) e
    ∙ ap (λ (l : List _). only step i xs ++ l) (passes_split step (suc i) n m xs ∙ ap (λ (j : ℕ). passes step (suc i) n xs ++ passes step j m xs) f)
    ∙ sym (append_assoc (only step i xs) (passes step (suc i) n xs) (passes step (i + suc n) m xs))

pub passes-next : {A : Type 0} (step : A → ℕ) (n : ℕ) (xs : List A) → passes step 0 (n + 1) xs ≡ passes step 0 n xs ++ only step n xs
passes-next step n xs =
    let e : 0 + n ≡ n = omega arith in
    passes_split step 0 n 1 xs ∙ ap (λ (l : List _). passes step 0 n xs ++ l) (ap (λ (j : ℕ). only step j xs ++ []) e ∙ append-nil (only step n xs))

-- a triple put behind words that are filled
put-over : (pre rest : List ℕ) (j : ℕ) (t : Triple) → length pre ≡ 3 * j → 3 ≤ length rest → put t (out_of (pre ++ rest) j) ≡ out_of (pre ++ (t.step ∷ t.condition ∷ t.named ∷ drop 3 rest)) (j + 1)
unfolding put
put-over pre rest j t e h =
    let n = length-append pre rest in
    let b : ltb j (length (pre ++ rest) / 3) ≡ true = lt-ltb j (length (pre ++ rest) / 3) (omega (arith, n, e, h)) in
    let p = take_at pre rest (3 * j) e in
    let d : drop (3 * j + 3) (pre ++ rest) ≡ drop 3 rest = ap (λ (k : ℕ). drop (k + 3) (pre ++ rest)) (sym e) ∙ drop-append-add pre rest 3 in
    ap (λ (x : Bool). cond x (out_of (take (3 * j) (pre ++ rest) ++ (t.step ∷ t.condition ∷ t.named ∷ drop (3 * j + 3) (pre ++ rest))) (j + 1)) (out_of (pre ++ rest) j)) b
    ∙ ap₂ (λ (x y : List ℕ). out_of (x ++ (t.step ∷ t.condition ∷ t.named ∷ y)) (j + 1)) p d

put_all_behind : (ts : List Triple) (pre rest : List ℕ) (j : ℕ) → length pre ≡ 3 * j → 3 * length ts ≤ length rest → put_all ts (out_of (pre ++ rest) j) ≡ out_of (pre ++ listed_over ts rest) (j + length ts)
put_all_behind [] pre rest j e h = let n : j ≡ j + 0 = omega arith in ap (λ (k : ℕ). out_of (pre ++ rest) k) n
put_all_behind (t ∷ ts) pre rest j e h =
    let three = t.step ∷ t.condition ∷ t.named ∷ [] in
    let l : 3 * suc (length ts) ≡ 3 + 3 * length ts = omega arith in
    let n : j + 1 + length ts ≡ j + suc (length ts) = omega arith in
    let r = length-drop 3 rest in
    let a = length-append pre three in
    ap (put_all ts) (put-over pre rest j t e (omega (arith, h)) ∙ ap (λ (l : List ℕ). out_of l (j + 1)) (sym (append_assoc pre three (drop 3 rest))))
    ∙ put_all_behind ts (pre ++ three) (drop 3 rest) (j + 1) (omega (arith, a, e)) (omega (arith, r, h))
    ∙ ap₂ out_of (append_assoc pre three (listed_over ts (drop 3 rest)) ∙ ap (λ (l : List ℕ). pre ++ (three ++ (triple_words ts ++ l))) (drop-drop (3 * length ts) 3 rest ∙ ap (λ (k : ℕ). drop k rest) (sym l))) n

-- all of them over the first of the words
pub put_all-over : (ts : List Triple) (out : List ℕ) → 3 * length ts ≤ length out → put_all ts (out_of out 0) ≡ out_of (listed_over ts out) (length ts)
put_all-over ts out h = put_all_behind ts [] out 0 refl h ∙ (let n : 0 + length ts ≡ length ts = omega arith in ap (out_of (listed_over ts out)) n)

-- every step's triples are all of them, in order
pub all-passes : (ts : List Triple) → Below step_of 33 ts → passes step_of 0 33 ts ≡ in_order ts
all-passes ts B = sym (by_step-passes step_of 33 ts B)

-- what was written before step k, of those whose steps are below 33
before-length : (ts : List Triple) (k : ℕ) → Below step_of 33 ts → k ≤ 33 → length (passes step_of 0 k ts) + length (passes step_of k (33 - k) ts) ≡ length ts
before-length ts k B h =
    let e : k + (33 - k) ≡ 33 = omega (arith, h) in
    let z : 0 + k ≡ k = omega arith in
    sym (length-append (passes step_of 0 k ts) (passes step_of k (33 - k) ts))
    ∙ ap (length {A = Triple}) (ap (λ (j : ℕ). passes step_of 0 k ts ++ passes step_of j (33 - k) ts) (sym z) ∙ sym (passes_split step_of 0 k (33 - k) ts) ∙ ap (λ (n : ℕ). passes step_of 0 n ts) e ∙ all-passes ts B)
    ∙ by_step-length step_of ts

-- nothing is left where all are written
pub all-written : (ts : List Triple) (k : ℕ) → Below step_of 33 ts → k ≤ 33 → length ts ≤ length (passes step_of 0 k ts) → passes step_of 0 k ts ≡ in_order ts
all-written ts k B h l =
    let e : k + (33 - k) ≡ 33 = omega (arith, h) in
    let z : 0 + k ≡ k = omega arith in
    let n = before-length ts k B h in
    let none = empty (passes step_of k (33 - k) ts) (omega (arith, n, l)) in
    sym (append-nil (passes step_of 0 k ts)) ∙ ap (λ (l : List Triple). passes step_of 0 k ts ++ l) (sym none) ∙ ap (λ (j : ℕ). passes step_of 0 k ts ++ passes step_of j (33 - k) ts) (sym z)
    ∙ sym (passes_split step_of 0 k (33 - k) ts) ∙ ap (λ (n : ℕ). passes step_of 0 n ts) e ∙ all-passes ts B
  where
    empty : (xs : List Triple) → length xs ≡ 0 → xs ≡ []
    empty [] e = refl
    empty (x ∷ xs) e = absurd (omega (arith, e))

pub before-fits : (ts : List Triple) (k n : ℕ) → Below step_of 33 ts → k ≤ 33 → 3 * length ts ≤ n → 3 * length (passes step_of 0 k ts) ≤ n
before-fits ts k n B h f = let l = before-length ts k B h in omega (arith, l, f)
