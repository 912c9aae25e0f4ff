-- "The lowest node with those words": where it can stand, that it is the only one, and that the search finds it.
use Rattle.std.proofs.Common.{◌≡◌, sym, ◌∙◌, true, false, List, ℕ, ◌+◌, ◌<◌, ◌≤◌, max, arith, Some, None, lt-ltb, le-ltb}
use Rattle.std.proofs.Math.Decide.{dec_lt}
use Rattle.nodes.specs.Words.{has_words}
use Rattle.nodes.specs.Standard.{Standard, lowest}
use Rattle.nodes.proofs.BoolLaws.{split}
use Rattle.nodes.proofs.SearchLaws.{seek_hit, seek_miss, seek-first}
use Rattle.nodes.proofs.WordsLaws.{Has, words_has, has_words_lem}
use Rattle.nodes.proofs.GrowthLaws.{inner}
use Rattle.search.specs.Search.{Search}
use Rattle.search.specs.Told.{Ends, found_below}
use Rattle.search.proofs.EndsLaws.{ends-once}
use Rattle.search.proofs.ToldLaws.{search-told}

module _ (w : List ℕ) (c v lo hi : ℕ) where
  pub lowest_has : lowest w c v lo hi < c → Has w v lo hi (lowest w c v lo hi)
  unfolding lowest
  lowest_has h = words_has w v lo hi (lowest w c v lo hi) (seek_hit (has_words w v lo hi) c 0 (omega arith)).1

  pub lowest-none : c ≤ lowest w c v lo hi → (n : ℕ) → n < c → has_words w v lo hi n ≡ false
  unfolding lowest
  lowest-none h n l = seek_miss (has_words w v lo hi) c 0 (omega arith) n (omega arith) (omega arith)

-- in standard form
module _ {w : List ℕ} {c v lo hi : ℕ} (g : Standard w c) (small : v < 64) where
  -- a node with these words is no terminal and stands above both children
  pub has_above : (n : ℕ) → n < c → Has w v lo hi n → (2 ≤ n) × (lo < n) × (hi < n)
  has_above n h p =
      let l : 2 ≤ n = inner g n h (omega (arith, p.var)) in
      let o = g.shape n l h in
      (l, omega (arith, o.below false, p.low), omega (arith, o.below true, p.high))

  -- no two have them
  has-once : (m n : ℕ) → m < c → n < c → Has w v lo hi m → Has w v lo hi n → m ≡ n
  has-once m n hm hn p q = g.once m n (has_above m hm p).0 hm (has_above n hn q).0 hn (p.var ∙ sym q.var) (p.low ∙ sym q.low) (p.high ∙ sym q.high)

  -- so none has them before one that has
  none_before : (n : ℕ) → n < c → Has w v lo hi n → (m : ℕ) → m < n → has_words w v lo hi m ≡ false
  none_before n h p m l =
      split (has_words w v lo hi m)
      (λ t. let e : m ≡ n = has-once m n (omega arith) h (words_has w v lo hi m t) p in absurd (omega arith))
      (λ t. t)

  -- and that one is the lowest
  pub lowest_is : (n : ℕ) → n < c → Has w v lo hi n → lowest w c v lo hi ≡ n
  unfolding lowest
  lowest_is n h p = seek-first (has_words w v lo hi) c 0 n (omega arith) (omega arith) (has_words_lem w v lo hi n p) (λ m a b. none_before n h p m b)

-- a number as what a search found
below_at : (c l : ℕ) {n : ℕ} → found_below c l ≡ Some n → (n ≡ l) × (n < c)
unfolding found_below
below_at c l {n} e = dec (dec_lt l c)
  where
    dec : Dec (l < c) → (n ≡ l) × (n < c)
    dec (yes h) =
        let z : Some l ≡ Some n = rw (lt-ltb l c h) at e in
        let y : n ≡ l = cc in
        (y, omega arith)
    dec (no h) =
        let z : None ≡ Some n = rw (le-ltb l c (omega arith)) at e in
        let y : ◌≡◌ {A = ℕ} 0 1 = cc in
        absurd (omega arith)

below-nowhere : (c l : ℕ) → found_below c l ≡ None → c ≤ l
unfolding found_below
below-nowhere c l e = dec (dec_lt l c)
  where
    dec : Dec (l < c) → c ≤ l
    dec (yes h) =
        let z : Some l ≡ None = rw (lt-ltb l c h) at e in
        let y : ◌≡◌ {A = ℕ} 0 1 = cc in
        absurd (omega arith)
    dec (no h) = omega arith

-- the search, in standard form
module _ {w : List ℕ} {c v : ℕ} (lo hi : ℕ) (g : Standard w c) (small : v < 64) where
  lowest-ends : Dec (lowest w c v lo hi < c) → Ends (has_words w v lo hi) (max lo hi + 1) c (found_below c (lowest w c v lo hi))
  unfolding Ends found_below
  lowest-ends (yes h) =
      let n = lowest w c v lo hi in
      let p = lowest_has w c v lo hi h in
      let a = has_above g small n h p in
      rw (lt-ltb n c h) (omega (arith, a.1, a.2), h, has_words_lem w v lo hi n p, λ m l b. none_before g small n h p m b)
  lowest-ends (no h) = rw (le-ltb (lowest w c v lo hi) c (omega arith)) (λ m l b. lowest-none w c v lo hi (omega arith) m b)

  -- "Results and nodes are unchanged": it finds the lowest node with those words, which is what Make means
  pub search-lowest : (Search w c v lo hi).found ≡ found_below c (lowest w c v lo hi)
  search-lowest = ends-once (has_words w v lo hi) (max lo hi + 1) c _ _ (search-told w c v lo hi).ends (lowest-ends (dec_lt _ _))

  -- so a node that it found is the lowest, and where it found none there is none
  pub found_at : {n : ℕ} → (Search w c v lo hi).found ≡ Some n → (n ≡ lowest w c v lo hi) × (n < c)
  found_at e = below_at c (lowest w c v lo hi) (sym search-lowest ∙ e)

  pub found_nowhere : (Search w c v lo hi).found ≡ None → c ≤ lowest w c v lo hi
  found_nowhere e = below-nowhere c (lowest w c v lo hi) (sym search-lowest ∙ e)
