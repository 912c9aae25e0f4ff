-- What `seek` finds, what `every` tells, and a step of each.
use mathlib.Core.Path.{◌≡◌, refl, ◌∙◌}
use mathlib.Core.Bool.{Bool, true, false, cond}
use Prim.Native.Nat.{ℕ, zero, suc, ◌+◌, ◌-◌, ◌<◌, ◌≤◌}
use native.Mathlib.Omega.{arith}
use native.Mathlib.Numerals.{add-one}
use native.Mathlib.Decide.{ℕ_discrete}
use Rattle.nodes.specs.Search.{seek, every}
use Rattle.nodes.proofs.BoolLaws.{cond_both}

module _ (p : ℕ → Bool) where
  -- what it finds it finds
  pub seek_hit : (k i : ℕ) → seek p i k < i + k → (i ≤ seek p i k) × (p (seek p i k) ≡ true)
  unfolding seek
  seek_hit zero i h = absurd (omega arith)
  seek_hit (suc k) i h = go (p i) refl (seek_hit k (suc i))
    where
      go : (b : Bool) → p i ≡ b → (seek p (suc i) k < suc i + k → (suc i ≤ seek p (suc i) k) × (p (seek p (suc i) k) ≡ true)) → (i ≤ seek p i (suc k)) × (p (seek p i (suc k)) ≡ true)
      go true e ih = rw e (omega arith, e)
      go false e ih =
          let h' : seek p (suc i) k < i + suc k = rw e at h in
          rw e (omega (arith, (ih (omega arith)).0), (ih (omega arith)).1)

  -- where it finds none there is none
  pub seek_miss : (k i : ℕ) → i + k ≤ seek p i k → (n : ℕ) → i ≤ n → n < i + k → p n ≡ false
  unfolding seek
  seek_miss zero i h n l m = absurd (omega arith)
  seek_miss (suc k) i h n l m = go (p i) refl (seek_miss k (suc i))
    where
      go : (b : Bool) → p i ≡ b → (suc i + k ≤ seek p (suc i) k → (n : ℕ) → suc i ≤ n → n < suc i + k → p n ≡ false) → p n ≡ false
      go true e ih = let h' : i + suc k ≤ i = rw e at h in absurd (omega arith)
      go false e ih =
          let h' : i + suc k ≤ seek p (suc i) k = rw e at h in
          dec (ℕ_discrete i n) h'
        where
          dec : Dec (i ≡ n) → i + suc k ≤ seek p (suc i) k → p n ≡ false
          dec (yes q) h' = rw q at e
          dec (no q) h' = ih (omega arith) n (omega arith) (omega arith)

  -- where it can find one it finds the first
  pub seek-first : (k i n : ℕ) → i ≤ n → n < i + k → p n ≡ true → ((m : ℕ) → i ≤ m → m < n → p m ≡ false) → seek p i k ≡ n
  unfolding seek
  seek-first zero i n l m e none = absurd (omega arith)
  seek-first (suc k) i n l m e none = dec (ℕ_discrete i n) (seek-first k (suc i))
    where
      dec : Dec (i ≡ n) → ((n : ℕ) → suc i ≤ n → n < suc i + k → p n ≡ true → ((m : ℕ) → suc i ≤ m → m < n → p m ≡ false) → seek p (suc i) k ≡ n) → seek p i (suc k) ≡ n
      dec (yes q) ih = rw (q, e)
      dec (no q) ih = rw (none i (omega arith) (omega arith)) (ih n (omega arith) (omega arith) e (λ m a b. none m (omega arith) b))

  -- where there is none it comes to the end
  pub seek-none : (k i : ℕ) → ((m : ℕ) → i ≤ m → m < i + k → p m ≡ false) → seek p i k ≡ i + k
  unfolding seek
  seek-none zero i none = omega arith
  seek-none (suc k) i none =
      let e : suc i + k ≡ i + suc k = omega arith in
      rw (none i (omega arith) (omega arith)) (seek-none k (suc i) (λ m a b. none m (omega arith) (omega arith)) ∙ e)

  pub every_end : (i k : ℕ) → k ≡ 0 → every p i k ≡ true
  unfolding every
  every_end i k e = rw e

  pub every-step : (c i : ℕ) → i < c → every p i (c - i) ≡ cond (p i) (every p (i + 1) (c - (i + 1))) false
  unfolding every
  every-step c i h =
      let e : c - i ≡ suc (c - (i + 1)) = omega arith in
      rw (e, add-one i)

  pub every_is : (k i : ℕ) → every p i k ≡ true → (n : ℕ) → i ≤ n → n < i + k → p n ≡ true
  unfolding every
  every_is zero i e n l h = absurd (omega arith)
  every_is (suc k) i e n l h = go (ℕ_discrete i n) (cond_both _ _ e) (every_is k (suc i))
    where
      go : Dec (i ≡ n) → (p i ≡ true) × (every p (suc i) k ≡ true) → (every p (suc i) k ≡ true → (n : ℕ) → suc i ≤ n → n < suc i + k → p n ≡ true) → p n ≡ true
      go (yes q) t ih = rw q at t.0
      go (no q) t ih = ih t.1 n (omega arith) (omega arith)

  pub is-every : (k i : ℕ) → ((n : ℕ) → i ≤ n → n < i + k → p n ≡ true) → every p i k ≡ true
  unfolding every
  is-every zero i f = refl
  is-every (suc k) i f = rw (f i (omega arith) (omega arith)) (is-every k (suc i) (λ n a b. f n (omega arith) (omega arith)))
