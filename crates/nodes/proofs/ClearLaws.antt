-- What clearing leaves, and that it undoes building.
use Rattle.std.proofs.Common.{◌≡◌, refl, sym, ◌∙◌, List, ℕ, zero, suc, ◌+◌, ◌*◌, ◌-◌, ◌<◌, ◌≤◌, min, arith, length, get_or, set, length-set, append_assoc}
use Rattle.std.proofs.Math.ListN.{replicate, length-replicate}
use Rattle.std.proofs.Math.Seq.{get_or-set_same, get_or-set_other, ext_get_or, sets, sets-eq, drop-drop}
use native.Mathlib.Decide.{dec_lt, ℕ_discrete}
use borrow.Rule.Slice.PartMut.{put_mid, mid_of, mid_len}
use Rattle.nodes.specs.Words.{capacity_of}
use Rattle.nodes.specs.Standard.{Standard}
use Rattle.nodes.specs.Extends.{Extends}
use Rattle.nodes.specs.Clear.{zeroed, clear_of}

-- zeros written one after the other, and as one run
zeroed_sets : (n : ℕ) (w : List ℕ) (k : ℕ) → zeroed w k n ≡ sets w k (replicate n 0)
unfolding zeroed
zeroed_sets zero w k = refl
zeroed_sets (suc n) w k = zeroed_sets n (set w k 0) (suc k)

filled-zeroed : (w l : List ℕ) (k n : ℕ) → k + n ≤ length w → l ≡ replicate n 0 → put_mid k n w l ≡ zeroed w k n
filled-zeroed w l k n h f =
    let z : List ℕ = replicate n 0 in
    let m : length z ≡ n = length-replicate n 0 in
    rw (zeroed_sets n w k, sets-eq z w k (omega arith), m, f, append_assoc, drop-drop n k w) refl

-- The part from k to e filled with 0: the words from c * 3 on are cleared, and none where c * 3 is past e.
pub filled_clear : (w : List ℕ) (c : ℕ) {k e : ℕ} {l : List ℕ} → e ≡ capacity_of w * 3 → k ≡ min e (c * 3) → l ≡ replicate (length (mid_of k (e - k) w)) 0 → put_mid k (e - k) w l ≡ clear_of w c
unfolding clear_of zeroed
filled_clear w c {k} {e} {l} p q f = filled-zeroed w l k (e - k) (omega arith) (rw (mid_len k e w (omega arith)) at f) ∙ go (dec_lt e (c * 3))
  where
    go : Dec (e < c * 3) → zeroed w k (e - k) ≡ zeroed w (c * 3) (capacity_of w * 3 - c * 3)
    go (yes h) =
        let x : e - k ≡ 0 = omega arith in
        let y : capacity_of w * 3 - c * 3 ≡ 0 = omega arith in
        rw (x, y)
    go (no h) =
        let x : k ≡ c * 3 = omega arith in
        rw (x, p)

zeroed-length : (w : List ℕ) (k n : ℕ) → length (zeroed w k n) ≡ length w
unfolding zeroed
zeroed-length w k zero = refl
zeroed-length w k (suc n) = zeroed-length (set w k 0) (suc k) n ∙ length-set w k 0

-- a word before or past them is as it was
zeroed_other : (n : ℕ) (w : List ℕ) (k j : ℕ) → (k ≤ j → j < k + n → ⊥) → get_or (zeroed w k n) j 0 ≡ get_or w j 0
unfolding zeroed
zeroed_other zero w k j h = refl
zeroed_other (suc n) w k j h = zeroed_other n (set w k 0) (suc k) j (λ a b. h (omega arith) (omega arith)) ∙ get_or-set_other w k j 0 0 (λ e. h (omega arith) (omega arith))

-- and each of them is 0
zeroed_in : (n : ℕ) (w : List ℕ) (k j : ℕ) → j < length w → k ≤ j → j < k + n → get_or (zeroed w k n) j 0 ≡ 0
unfolding zeroed
zeroed_in zero w k j l a b = absurd (omega arith)
zeroed_in (suc n) w k j l a b = go (ℕ_discrete j k) (zeroed_in n (set w k 0) (suc k) j)
  where
    go : Dec (j ≡ k) → (j < length (set w k 0) → suc k ≤ j → j < suc k + n → get_or (zeroed (set w k 0) (suc k) n) j 0 ≡ 0) → get_or (zeroed w k (suc n)) j 0 ≡ 0
    go (yes e) ih = zeroed_other n (set w k 0) (suc k) j (λ p q. omega arith) ∙ (rw e (get_or-set_same w k 0 0 (omega arith)))
    go (no n) ih = ih (simp length-set l) (omega arith) (omega arith)

module _ (w : List ℕ) (c : ℕ) where
  pub clear-length : length (clear_of w c) ≡ length w
  unfolding clear_of
  clear-length = zeroed-length w (c * 3) (capacity_of w * 3 - c * 3)

  -- the words of nodes below the count are as they were
  pub clear-below : (j : ℕ) → j < c * 3 → get_or (clear_of w c) j 0 ≡ get_or w j 0
  unfolding clear_of
  clear-below j h = zeroed_other (capacity_of w * 3 - c * 3) w (c * 3) j (λ a b. omega arith)

  -- those from the count to the capacity are 0
  pub clear_zero : (j : ℕ) → c * 3 ≤ j → j < capacity_of w * 3 → get_or (clear_of w c) j 0 ≡ 0
  unfolding clear_of
  clear_zero j a b = zeroed_in (capacity_of w * 3 - c * 3) w (c * 3) j (omega arith) a (omega arith)

  -- those past the capacity are as they were
  pub clear-past : (j : ℕ) → c * 3 ≤ j → capacity_of w * 3 ≤ j → get_or (clear_of w c) j 0 ≡ get_or w j 0
  unfolding clear_of
  clear-past j l h = zeroed_other (capacity_of w * 3 - c * 3) w (c * 3) j (λ a b. omega arith)

-- whatever was built after the count is gone: what is left is the words at entry, cleared
pub clear-extends : (w w' : List ℕ) (c c' : ℕ) → Extends w c w' c' → Standard w' c' → clear_of w' c ≡ clear_of w c
clear-extends w w' c c' e g =
    ext_get_or 0 (clear_of w' c) (clear_of w c) (clear-length w' c ∙ e.len ∙ sym (clear-length w c)) (λ j h. at j (dec_lt j (c * 3)) (dec_lt j (capacity_of w * 3)))
  where
    cap : capacity_of w' ≡ capacity_of w
    cap = rw e.len

    at : (j : ℕ) → Dec (j < c * 3) → Dec (j < capacity_of w * 3) → get_or (clear_of w' c) j 0 ≡ get_or (clear_of w c) j 0
    at j (yes p) _ = clear-below w' c j p ∙ e.old.at j p ∙ sym (clear-below w c j p)
    at j (no p) (yes q) = clear_zero w' c j (omega arith) (omega (arith, cap)) ∙ sym (clear_zero w c j (omega arith) q)
    at j (no p) (no q) =
        clear-past w' c j (omega arith) (omega (arith, cap)) ∙ e.past j (omega (arith, g.room, g.most, e.len)) ∙ sym (clear-past w c j (omega arith) (omega arith))
