-- The search ends at the first match, and in one way; and how many nodes it compares.
use Rattle.std.proofs.Common.{◌≡◌, refl, sym, ap, ◌∙◌, Bool, true, false, true≢false, ℕ, zero, suc, ◌+◌, ◌-◌, ◌<◌, arith, Option, Some, None}
use Rattle.std.proofs.Math.Decide.{dec_lt, ℕ_discrete}
use Rattle.nodes.proofs.BoolLaws.{split}
use Rattle.search.specs.Search.{compare_from}
use Rattle.search.specs.Told.{NoMatch, Ends, last_of}

module _ (p : ℕ → Bool) where
  none_more : (i c : ℕ) → p i ≡ false → NoMatch p (suc i) c → NoMatch p i c
  none_more i c e h m a b = dec (ℕ_discrete i m)
    where
      dec : Dec (i ≡ m) → p m ≡ false
      dec (yes q) = rw q at e
      dec (no q) = h m (omega arith) b

  -- one node that is no match, and then what the others come to
  ends_later : (i c : ℕ) (f : Option ℕ) → p i ≡ false → Ends p (suc i) c f → Ends p i c f
  unfolding Ends
  ends_later i c (Some n) e h = (omega (arith, h.0), h.1, h.2, none_more i n e h.3)
  ends_later i c None e h = none_more i c e h

  -- a match at the beginning
  ends_here : (i c : ℕ) → i < c → p i ≡ true → Ends p i c (Some i)
  unfolding Ends
  ends_here i c h e = (omega arith, h, e, λ m a b. absurd (omega arith))

  -- "ends at the first match"
  pub compare-ends : (k i c : ℕ) → k ≡ c - i → Ends p i c (compare_from p i k).found
  unfolding compare_from Ends
  compare-ends zero i c e = λ m a b. absurd (omega arith)
  compare-ends (suc k) i c e =
      let ih = compare-ends k (suc i) c (omega arith) in
      split (p i) (λ t. rw t (ends_here i c (omega arith) t)) (λ t. rw t (ends_later i c (compare_from p (suc i) k).found t ih))

  -- "tells how many nodes it compared"
  pub compare-tells : (k i c : ℕ) → 0 < i → i + k ≡ c → (compare_from p i k).compared + i ≡ suc (last_of c (compare_from p i k).found)
  unfolding compare_from last_of
  compare-tells zero i c h e = omega arith
  compare-tells (suc k) i c h e =
      let ih = compare-tells k (suc i) c (omega arith) (omega arith) in
      split (p i) (λ t. rw t (omega arith)) (λ t. rw t (omega (arith, ih)))

  -- one search ends in one way
  pub ends-once : (i c : ℕ) (f f' : Option ℕ) → Ends p i c f → Ends p i c f' → f ≡ f'
  unfolding Ends
  ends-once i c (Some n) (Some m) h h' = dec (dec_lt n m) (dec_lt m n)
    where
      dec : Dec (n < m) → Dec (m < n) → Some n ≡ Some m
      dec (yes a) b = absurd (true≢false (sym h.2 ∙ h'.3 n h.0 a))
      dec (no a) (yes b) = absurd (true≢false (sym h'.2 ∙ h.3 m h'.0 b))
      dec (no a) (no b) = let e : n ≡ m = omega arith in ap Some e
  ends-once i c (Some n) None h h' = absurd (true≢false (sym h.2 ∙ h' n h.0 h.1))
  ends-once i c None (Some m) h h' = absurd (true≢false (sym h'.2 ∙ h m h'.0 h'.1))
  ends-once i c None None h h' = refl
