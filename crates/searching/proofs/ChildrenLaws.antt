-- Nodes that are passed over have other children, so they are no match.
use Rattle.std.proofs.Common.{◌≡◌, refl, sym, ◌∙◌, true, false, true≢false, List, [], ◌∷◌, get_or, ℕ, ◌+◌, ◌*◌, ◌<◌, ◌≤◌, arith, eqb, eq-eqb}
use Rattle.std.proofs.lemmas.List.Folds.{list_any_at}
use Rattle.std.proofs.Math.Decide.{dec_lt}
use Rattle.nodes.specs.Words.{has_words}
use Rattle.nodes.proofs.BoolLaws.{split}
use Rattle.nodes.proofs.WordsLaws.{words_has}
use Rattle.searching.specs.Children.{pair_of, children_at, one_of_four, Passed}

module _ (w : List ℕ) (x : ℕ) where
  -- the test finds each of the four nodes
  four-finds : (i n : ℕ) → i ≤ n → n < i + 4 → children_at w (n * 3) ≡ x → one_of_four w x i ≡ true
  four-finds i n l h e = at (dec_lt n (i + 1)) (dec_lt n (i + 2)) (dec_lt n (i + 3))
    where
      here : (d : ℕ) → n * 3 ≡ i * 3 + d → eqb (children_at w (i * 3 + d)) x ≡ true
      here d q = eq-eqb _ _ (rw (← q) e)

      has : (k : ℕ) → k < 4 → eqb (children_at w (i * 3 + get_or (0 ∷ 3 ∷ 6 ∷ 9 ∷ []) k 0)) x ≡ true → one_of_four w x i ≡ true
      has k l t = list_any_at (λ d. eqb (children_at w (i * 3 + d)) x) (0 ∷ 3 ∷ 6 ∷ 9 ∷ []) k 0 l t

      at : Dec (n < i + 1) → Dec (n < i + 2) → Dec (n < i + 3) → one_of_four w x i ≡ true
      at (yes a) b c = has 0 (omega arith) (here 0 (omega arith))
      at (no a) (yes b) c = has 1 (omega arith) (here 3 (omega arith))
      at (no a) (no b) (yes c) = has 2 (omega arith) (here 6 (omega arith))
      at (no a) (no b) (no c) = has 3 (omega arith) (here 9 (omega arith))

  -- four nodes more
  pub passed_four : {c i₀ i r : ℕ} → Passed w c x i₀ i → one_of_four w x i ≡ false → r ≡ i + 4 → r ≤ c → Passed w c x i₀ r
  passed_four {c} {i₀} {i} {r} P f q m = record { from = omega (arith, P.from); most = m; none = λ n a b. dec n a b (dec_lt n i) }
    where
      dec : (n : ℕ) → i₀ ≤ n → n < r → Dec (n < i) → children_at w (n * 3) ≡ x → ⊥
      dec n a b (yes l) e = P.none n a l e
      dec n a b (no l) e = true≢false (sym (four-finds i n (omega arith) (omega arith) e) ∙ f)

-- a node with other children does not have the three words
pub children_differ : (w : List ℕ) (v low high n : ℕ) → (children_at w (n * 3) ≡ pair_of low high → ⊥) → has_words w v low high n ≡ false
children_differ w v low high n d =
    split (has_words w v low high n)
    (λ t. let p = words_has w v low high n t in absurd (d (rw (p.low, p.high) refl)))
    (λ t. t)
