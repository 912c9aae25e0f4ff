-- Behind a byte, a predicate, parentheses and a whole formula.
use Rattle.std.proofs.Common.{◌≡◌, ℕ, suc, ◌<◌, ◌≤◌, Bool, true, false, not, ◌||◌, List, length, get_or, drop, Ok, Err, refl, sym, ap, subst, ◌∙◌, true≢false, ◌⊎◌, inl, inr, arith}
use borrow.Author.Tests.{not-true, not-false}
use Rattle.formulas.specs.Reading.{spaces}
use Rattle.nodes.proofs.BoolLaws.{or_cases}
use Rattle.tokens.specs.declared.Token.{Token}
use Rattle.tokens.specs.declared.Fault.{Fault}
use Rattle.tokens.specs.Contract.{Left, starts, Took, TookAt, number_token, within_table}
use Rattle.tokens.proofs.TokenLaws.{starts_in}
use Rattle.formula_walk.specs.declared.Pass.{Pass}
use Rattle.formula_walk.specs.declared.Pass.TheVariants.{Count, List as Lists}
use Rattle.formula_walk.specs.declared.Plan.{Plan}
use Rattle.formula_walk.specs.declared.Around.{Around}
use Rattle.formula_walk.specs.declared.Walk.{Walk}
use Rattle.formula_walk.specs.Contract.{out_of, listed_by, MayCount, Counts, Behind, Named, NamedAt}
use Rattle.formula_walk.proofs.TookLaws.{took_is, stops_is}

-- The tests for `N` and `(`, joined: neither stands here, or one does; and if it is not the first, the second.
pub neither-opens : {a b s t : Bool} → a ≡ s → b ≡ t → not (a || b) ≡ true → (s ≡ false) × (t ≡ false)
neither-opens {a} {b} p q e = let r = go a e in (sym p ∙ r.0, sym q ∙ r.1)
  where
    go : (a : Bool) → not (a || b) ≡ true → (a ≡ false) × (b ≡ false)
    go true e = absurd (true≢false (sym e))
    go false e = (refl, not-true b e)

pub either-opens : {a b s t : Bool} → a ≡ s → b ≡ t → not (a || b) ≡ false → (s ≡ true) ⊎ (t ≡ true)
either-opens {a} {b} {s} {t} p q e = go (or_cases a b (not-false (a || b) e))
  where
    go : (a ≡ true) ⊎ (b ≡ true) → (s ≡ true) ⊎ (t ≡ true)
    go (inl r) = inl (sym p ∙ r)
    go (inr r) = inr (sym q ∙ r)

pub second-opens : {s t : Bool} → (s ≡ true) ⊎ (t ≡ true) → s ≡ false → t ≡ true
second-opens (inl e) n = absurd (true≢false (sym e ∙ n))
second-opens (inr e) n = e

pub either_in : (text : List ℕ) (at : ℕ) → (starts 78 (drop at text) ≡ true) ⊎ (starts 40 (drop at text) ≡ true) → at < length text
either_in text at (inl e) = starts_in text at 78 e
either_in text at (inr e) = starts_in text at 40 e

pub behind_is : {text : List ℕ} {y : Walk} {j r : ℕ} → j ≡ suc y.at → Left text r (spaces (drop j text)) → Behind text y (record { at = r; listed = y.listed })
behind_is {text} q L = record { within = L.within; listed = refl; left = L.is ∙ ap (λ (j : ℕ). spaces (drop j text)) q }

-- one predicate more may be counted, where its letter stands
pub may-count : (p : Pass) (x : Walk) (n : ℕ) → Counts p x → x.at < n → n ≤ 18446744073709551615 → MayCount p x.listed
may-count Count x n C h k = omega (arith, C, h, k)
may-count (Lists j) x n C h k = tt

-- `m` and its number: a row that refuses it, and one that is listed
pub named-stopped : {g : Plan} {o : Around} {text out : List ℕ} {x : Walk} {f : Fault} → TookAt text (Err f) (number_token (within_table g.predicates) (get_or text x.at 0) (drop (suc x.at) text)) → NamedAt g o text out x out (Err f)
named-stopped {g} {o} {text} {out} {x} {f} T = record { within = T.within; named = subst (λ (v : Took). Named g o text out x v out (Err f)) (sym (stops_is T)) (refl, refl, refl) }

pub named-taken : {g : Plan} {o : Around} {text out : List ℕ} {x : Walk} {u : Token} {out' : List ℕ} {l : ℕ} → TookAt text (Ok u) (number_token (within_table g.predicates) (get_or text x.at 0) (drop (suc x.at) text))
    → out_of out' l ≡ listed_by g.pass (record { step = o.step; condition = o.condition; named = u.number }) (out_of out x.listed) → NamedAt g o text out x out' (Ok (record { at = u.at; listed = l }))
named-taken {g} {o} {text} {out} {x} {u} {out'} {l} T e = record { within = T.within; named = subst (λ (v : Took). Named g o text out x v out' (Ok (record { at = u.at; listed = l }))) (sym (took_is T)) (refl, e) }
