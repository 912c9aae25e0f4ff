-- The carries of a sum, its pairs bit by bit, and what the words of one pair mean.
use mathlib.Core.Path.{◌≡◌, refl, sym, ap, ◌∙◌}
use mathlib.Core.Bool.{Bool, true, false, ◌||◌, cond}
use mathlib.Core.List.{List, [], ◌∷◌, ◌++◌}
use Prim.Native.Nat.{ℕ, zero, suc, ◌+◌, ◌*◌, ◌-◌, ◌≤◌, ◌<◌}
use native.Mathlib.Omega.{arith}
use native.Mathlib.Decide.{dec_lt, ℕ_discrete}
use lib.ListN.{length, get_or}
use Rattle.conditions.specs.Stores.{Standard}
use Rattle.conditions.specs.Build.{Store}
use Rattle.conditions.specs.Meaning.{Builds}
use Rattle.conditions.proofs.Promises.{next-builds, from_0, value_0}
use Rattle.semantics.specs.Pairs.{Pair, at}
use Rattle.model.proofs.MeansLaws.{Means, means_as, up, ite-means, or-means}
use Rattle.model.proofs.HalfLaws.{half_of, half_even, half_odd}
use Rattle.units.specs.Sum.{first, rest, digit_pair, carried_pair, mixed, sum_from, sum}
use Rattle.unit_programs.specs.Add.{mix_half, turned}

-- the carry into bit i of a sum, and the sum bit by bit
abbrev pub carry_at : Pair → List Bool → List Pair → ℕ → Pair
carry_at c ks qs zero = c
carry_at c ks qs (suc i) = carried_pair (get_or ks i false) (at qs i) (carry_at c ks qs i)

carry_shift : (c : Pair) (ks : List Bool) (q : Pair) (qs : List Pair) (i : ℕ) → carry_at c ks (q ∷ qs) (suc i) ≡ carry_at (carried_pair (first ks) q c) (rest ks) qs i
carry_shift c [] q qs zero = refl
carry_shift c (k ∷ ks) q qs zero = refl
carry_shift c [] q qs (suc i) = ap (λ (d : Pair). carried_pair false (at qs i) d) (carry_shift c [] q qs i)
carry_shift c (k ∷ ks) q qs (suc i) = ap (λ (d : Pair). carried_pair (get_or ks i false) (at qs i) d) (carry_shift c (k ∷ ks) q qs i)

pub sum_at : (c : Pair) (ks : List Bool) (qs : List Pair) (i : ℕ) → i < length qs → at (sum_from c ks qs) i ≡ digit_pair (get_or ks i false) (at qs i) (carry_at c ks qs i)
sum_at c ks [] i h = absurd (omega arith)
sum_at c [] (q ∷ qs) zero h = refl
sum_at c (k ∷ ks) (q ∷ qs) zero h = refl
sum_at c [] (q ∷ qs) (suc i) h =
    sum_at (carried_pair false q c) [] qs i (omega arith) ∙ ap (λ (d : Pair). digit_pair false (at qs i) d) (sym (carry_shift c [] q qs i))
sum_at c (k ∷ ks) (q ∷ qs) (suc i) h =
    sum_at (carried_pair k q c) ks qs i (omega arith) ∙ ap (λ (d : Pair). digit_pair (get_or ks i false) (at qs i) d) (sym (carry_shift c (k ∷ ks) q qs i))

-- words with one pair more at their end
end_old : (ws : List ℕ) (h l k : ℕ) → k < length ws → get_or (ws ++ (h ∷ l ∷ [])) k 0 ≡ get_or ws k 0
end_old [] h l k m = absurd (omega arith)
end_old (v ∷ ws) h l zero m = refl
end_old (v ∷ ws) h l (suc k) m = end_old ws h l k (omega arith)

end_h : (ws : List ℕ) (h l k : ℕ) → k ≡ length ws → get_or (ws ++ (h ∷ l ∷ [])) k 0 ≡ h
end_h [] h l zero e = refl
end_h [] h l (suc k) e = absurd (omega arith)
end_h (v ∷ ws) h l zero e = absurd (omega arith)
end_h (v ∷ ws) h l (suc k) e = end_h ws h l k (omega arith)

end_l : (ws : List ℕ) (h l k : ℕ) → k ≡ suc (length ws) → get_or (ws ++ (h ∷ l ∷ [])) k 0 ≡ l
end_l [] h l zero e = absurd (omega arith)
end_l [] h l (suc zero) e = refl
end_l [] h l (suc (suc k)) e = absurd (omega arith)
end_l (v ∷ ws) h l zero e = absurd (omega arith)
end_l (v ∷ ws) h l (suc k) e = end_l ws h l k (omega arith)

end-length : (ws : List ℕ) (h l : ℕ) → length (ws ++ (h ∷ l ∷ [])) ≡ suc (suc (length ws))
end-length [] h l = refl
end-length (v ∷ ws) h l = ap suc (end-length ws h l)

module _ {σ : ℕ → Bool} {w : List ℕ} {s : Store} (f : ℕ → Pair) (i : ℕ) (word : List ℕ) (len : length word ≡ 2 * i) (old : (k : ℕ) → k < 2 * i → Means σ 8 (λ τ. half_of k f) w s (get_or word k 0)) where
  more_halves : (h l : ℕ) → Means σ 8 (λ τ. (f i).h) w s h → Means σ 8 (λ τ. (f i).l) w s l → (k : ℕ) → k < 2 * suc i → Means σ 8 (λ τ. half_of k f) w s (get_or (word ++ (h ∷ l ∷ [])) k 0)
  more_halves h l H L k b = go (dec_lt k (2 * i)) (ℕ_discrete k (2 * i))
    where
      go : Dec (k < 2 * i) → Dec (k ≡ 2 * i) → Means σ 8 (λ τ. half_of k f) w s (get_or (word ++ (h ∷ l ∷ [])) k 0)
      go (yes p) e = rw (end_old word h l k (omega arith)) (old k p)
      go (no p) (yes e) = rw (end_h word h l k (omega arith)) (means_as H (λ τ. sym (ap (λ (j : ℕ). half_of j f) e ∙ half_even i f)))
      go (no p) (no q) =
          let e : k ≡ 2 * i + 1 = omega arith in
          rw (end_l word h l k (omega arith)) (means_as L (λ τ. sym (ap (λ (j : ℕ). half_of j f) e ∙ half_odd i f)))

  -- the pair of a sum, turned over where the constant's bit is 1
  pub turned_halves : (b : Bool) (q c : Pair) (h l : ℕ) → f i ≡ digit_pair b q c → Means σ 8 (λ τ. (mixed q c).h) w s h → Means σ 8 (λ τ. (mixed q c).l) w s l
      → (k : ℕ) → k < 2 * suc i → Means σ 8 (λ τ. half_of k f) w s (get_or (word ++ turned b h l) k 0)
  turned_halves false q c h l e H L = more_halves h l (means_as H (λ τ. sym (ap (λ (p : Pair). p.h) e))) (means_as L (λ τ. sym (ap (λ (p : Pair). p.l) e)))
  turned_halves true q c h l e H L = more_halves l h (means_as L (λ τ. sym (ap (λ (p : Pair). p.h) e))) (means_as H (λ τ. sym (ap (λ (p : Pair). p.l) e)))

pub turned-length : (ws : List ℕ) (b : Bool) (h l : ℕ) → length (ws ++ turned b h l) ≡ suc (suc (length ws))
turned-length ws false h l = end-length ws h l
turned-length ws true h l = end-length ws l h

pub zero-means : {σ : ℕ → Bool} {w : List ℕ} {s : Store} (u : ℕ) → u ≤ 64 → Standard w s.count → Means σ u (λ τ. false) w s 0
zero-means {w = w} u l S = record { below = omega (arith, S.two); from = from_0 u S l; is = λ f τ h. value_0 w τ }

pub mix-means : {σ : ℕ → Bool} {w : List ℕ} {s : Store} {ah al other own : ℕ} {α β γ δ : Bool} → Standard w s.count → Means σ 8 (λ τ. α) w s ah → Means σ 8 (λ τ. β) w s al → Means σ 8 (λ τ. γ) w s other → Means σ 8 (λ τ. δ) w s own
    → Builds w s (Means σ 8 (λ τ. cond α (β || γ) δ)) (mix_half ah al other own w s)
unfolding mix_half
mix-means S A B C D =
    let Y1 = or-means S B C in
    let Y2 = ite-means Y1.standard (up S Y1 A) Y1.post (up S Y1 D) in
    next-builds Y1 _ Y2
