-- Make by its cases, in these words and in longer ones: it answers a node that is there, or adds one; or it needs one and there is no space here.
use Rattle.std.proofs.Math.Decide.{dec_lt, ℕ_discrete}
use Rattle.std.proofs.Common.{◌≡◌, refl, sym, ap, ◌∙◌, true, false, true≢false, ◌⊎◌, inl, inr, List, ℕ, ◌+◌, ◌/◌, ◌<◌, ◌≤◌, min, arith}
use Rattle.nodes.specs.Words.{capacity_of}
use Rattle.nodes.specs.Standard.{lowest}
use Rattle.nodes.proofs.WordsLaws.{node-length}
use Rattle.nodes.proofs.BoolLaws.{split}
use Rattle.operations.specs.declared.Store.{Store}
use Rattle.operations.specs.Build.{pure}
use Rattle.operations.specs.Make.{added, overflow, Make}
use Rattle.operations.specs.Meaning.{Within, longer, Alongside}
use Rattle.operations.proofs.MakeLaws.{make-full, make_same, make_old, make_new, make-none}
use Rattle.operations.proofs.LongerLaws.{capacity-longer, node-longer, lowest-longer}

module _ (w : List ℕ) (s : Store) (v lo hi : ℕ) where
  abbrev Old : ℕ → Type 0
  Old n = (Make v lo hi w s ≡ pure n w s) × ((k : ℕ) → Make v lo hi (longer k w) s ≡ pure n (longer k w) s)

  abbrev New : Type 0
  New = (s.count < capacity_of w) × (s.full ≡ false) × (Make v lo hi w s ≡ added v lo hi w s) × ((k : ℕ) → Make v lo hi (longer k w) s ≡ added v lo hi (longer k w) s)

  abbrev None : Type 0
  None = (capacity_of w ≤ s.count) × (Make v lo hi w s ≡ overflow w s) × ((k : ℕ) → (Make v lo hi (longer k w) s ≡ added v lo hi (longer k w) s) ⊎ (Make v lo hi (longer k w) s ≡ overflow (longer k w) s))

  pub make_by : {C : Type 0} → ((n : ℕ) → Old n → C) → (New → C) → (None → C) → C
  make_by {C} old new none = split s.full (λ f. old 0 (make-full w s v lo hi f, λ k. make-full (longer k w) s v lo hi f)) (λ f. same f (ℕ_discrete lo hi))
    where
      n : ℕ
      n = lowest w s.count v lo hi

      placed : s.full ≡ false → (lo ≡ hi → ⊥) → Dec (n < s.count) → Dec (s.count < capacity_of w) → C
      placed f ne (yes p) r = old n (make_old w s v lo hi f ne refl p, λ k. make_old (longer k w) s v lo hi f ne (sym (lowest-longer k w s.count v lo hi)) p)
      placed f ne (no q) (yes r) = new (r, f, make_new w s v lo hi f ne refl (omega arith) r, λ k. make_new (longer k w) s v lo hi f ne (sym (lowest-longer k w s.count v lo hi)) (omega arith) (omega (arith, capacity-longer k w)))
      placed f ne (no q) (no r) = none (omega arith, make-none w s v lo hi f ne refl (omega arith) (omega arith), λ k. more k (dec_lt _ _))
        where
          more : (k : ℕ) → Dec (s.count < capacity_of (longer k w)) → (Make v lo hi (longer k w) s ≡ added v lo hi (longer k w) s) ⊎ (Make v lo hi (longer k w) s ≡ overflow (longer k w) s)
          more k (yes t) = inl (make_new (longer k w) s v lo hi f ne (sym (lowest-longer k w s.count v lo hi)) (omega arith) t)
          more k (no t) = inr (make-none (longer k w) s v lo hi f ne (sym (lowest-longer k w s.count v lo hi)) (omega arith) (omega arith))

      same : s.full ≡ false → Dec (lo ≡ hi) → C
      same f (yes e) = old lo (make_same w s v lo hi f e, λ k. make_same (longer k w) s v lo hi f e)
      same f (no ne) = placed f ne (dec_lt _ _) (dec_lt _ _)

  -- full where it needs a node and the count is not below the capacity
  pub make-within : (c : ℕ) → Within c w s → Within c (Make v lo hi w s).words (Make v lo hi w s).store
  make-within c W = make_by (λ n o. rw o.0 W) (λ o. rw o.2 (added-within o.0)) (λ o. rw o.1 (overflow-within o.0))
    where
      added-within : s.count < capacity_of w → Within c (added v lo hi w s).words (added v lo hi w s).store
      added-within r = record { capacity = ap (λ n. min (n / 3) 16384) (node-length w s.count v lo hi) ∙ W.capacity; most = omega (arith, W.capacity); at-capacity = λ e. absurd (true≢false (sym e)) }

      overflow-within : capacity_of w ≤ s.count → Within c (overflow w s).words (overflow w s).store
      overflow-within r = record { capacity = W.capacity; most = W.most; at-capacity = λ e. omega (arith, W.capacity, W.most) }

  pub make-alongside : (k : ℕ) → Alongside k w (Make v lo hi w s) (Make v lo hi (longer k w) s)
  make-alongside k =
      make_by (λ n o. rw (o.0, o.1 k) (record { fits = λ f. refl; past = λ f. inl f }))
      (λ o. rw (o.2, o.3 k) (record { fits = λ f. λ i. record { words = node-longer k w s.count v lo hi o.0 i; store = record { count = s.count + 1; full = false }; answer = s.count }; past = λ f. absurd (true≢false (sym f)) }))
      (λ o. rw o.1 (record { fits = λ f. absurd (true≢false f); past = λ f. over o.0 (o.2 k) }))
    where
      over : capacity_of w ≤ s.count → (Make v lo hi (longer k w) s ≡ added v lo hi (longer k w) s) ⊎ (Make v lo hi (longer k w) s ≡ overflow (longer k w) s)
          → ((Make v lo hi (longer k w) s).store.full ≡ true) ⊎ (capacity_of w < (Make v lo hi (longer k w) s).store.count)
      over h (inl e) = inr (rw e (omega arith))
      over h (inr e) = inl (rw e refl)
