-- How triples stand in the answer words: three words each, and the words past them as they were.
use mathlib.Core.Path.{◌≡◌, refl, sym, ap, subst, ◌∙◌}
use mathlib.Core.List.{List, [], ◌∷◌, ◌++◌, append_assoc}
use Prim.Native.Nat.{ℕ, ◌+◌, ◌*◌, ◌-◌, ◌≤◌}
use native.Mathlib.Omega.{arith}
use lib.ListN.{length, get_or, drop, length-append, length-drop}
use lib.Seq.{get_or-append-add, get_or-drop}
use Rattle.model.specs.Formula.{Triple}
use Rattle.formula_calls.specs.Call.{triple_words, listed_over}
use Rattle.formula_calls.specs.Claims.{StandInWords}

triples-long : (ts : List Triple) → length (triple_words ts) ≡ 3 * length ts
triples-long [] = refl
triples-long (t ∷ ts) = let e = triples-long ts in omega arith

-- answer words past the triples stay
words-past : (ts : List Triple) (out : List ℕ) (i : ℕ) → get_or (listed_over ts out) (3 * length ts + i) 0 ≡ get_or out (3 * length ts + i) 0
words-past ts out i =
    ap (λ (n : ℕ). get_or (listed_over ts out) (n + i) 0) (sym (triples-long ts)) ∙ get_or-append-add (triple_words ts) _ i 0 ∙ get_or-drop (3 * length ts) out i 0

pub words_long : (ts : List Triple) (out : List ℕ) → 3 * length ts ≤ length out → length (listed_over ts out) ≡ length out
words_long ts out h = let a = length-append (triple_words ts) (drop (3 * length ts) out) in let b = triples-long ts in let c = length-drop (3 * length ts) out in omega arith

-- step, condition and predicate of the triple t stand behind those of the triples ts before it
triples_at : (ts us : List Triple) (t : Triple) → triple_words (ts ++ (t ∷ us)) ≡ triple_words ts ++ triple_words (t ∷ us)
triples_at [] us t = refl
triples_at (u ∷ ts) us t = ap (λ (x : List ℕ). u.step ∷ u.condition ∷ u.named ∷ x) (triples_at ts us t)

words_behind : (ts us : List Triple) (t : Triple) (out : List ℕ) (i : ℕ) → let r = drop (3 * length (ts ++ (t ∷ us))) out in get_or (listed_over (ts ++ (t ∷ us)) out) (3 * length ts + i) 0 ≡ get_or (triple_words (t ∷ us) ++ r) i 0
words_behind ts us t out i =
    let r = drop (3 * length (ts ++ (t ∷ us))) out in
    ap (λ (x : List ℕ). get_or (x ++ r) (3 * length ts + i) 0) (triples_at ts us t) ∙ ap (λ (x : List ℕ). get_or x (3 * length ts + i) 0) (append_assoc (triple_words ts) (triple_words (t ∷ us)) r)
    ∙ ap (λ (n : ℕ). get_or (triple_words ts ++ (triple_words (t ∷ us) ++ r)) (n + i) 0) (sym (triples-long ts)) ∙ get_or-append-add (triple_words ts) (triple_words (t ∷ us) ++ r) i 0

pub stands_in : (ts : List Triple) (out ws : List ℕ) → 3 * length ts ≤ length out → ws ≡ listed_over ts out → StandInWords ts out ws
stands_in ts out ws h e = subst (StandInWords ts out) (sym e) (record { long = words_long ts out h; at = at; past = past })
  where
    behind : (us vs : List Triple) (t : Triple) → ts ≡ us ++ (t ∷ vs) → (i : ℕ) → get_or (listed_over ts out) (3 * length us + i) 0 ≡ get_or (triple_words (t ∷ vs) ++ drop (3 * length (us ++ (t ∷ vs))) out) i 0
    behind us vs t q i = ap (λ (l : List Triple). get_or (listed_over l out) (3 * length us + i) 0) q ∙ words_behind us vs t out i

    at : (us vs : List Triple) (t : Triple) → ts ≡ us ++ (t ∷ vs) → let x = listed_over ts out in (get_or x (3 * length us) 0 ≡ t.step) × (get_or x (3 * length us + 1) 0 ≡ t.condition) × (get_or x (3 * length us + 2) 0 ≡ t.named)
    at us vs t q =
        let z : 3 * length us ≡ 3 * length us + 0 = omega arith in
        (ap (λ (i : ℕ). get_or (listed_over ts out) i 0) z ∙ behind us vs t q 0, behind us vs t q 1, behind us vs t q 2)

    past : (i : ℕ) → 3 * length ts ≤ i → get_or (listed_over ts out) i 0 ≡ get_or out i 0
    past i h = let z : 3 * length ts + (i - 3 * length ts) ≡ i = omega (arith, h) in subst (λ (j : ℕ). get_or (listed_over ts out) j 0 ≡ get_or out j 0) z (words-past ts out (i - 3 * length ts))
