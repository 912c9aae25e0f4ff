-- How far a search came, and what it then tells.
use Rattle.std.proofs.Common.{◌≡◌, true, false, List, ℕ, ◌+◌, ◌-◌, ◌<◌, ◌≤◌, max, arith, Some, None}
use Rattle.std.proofs.Math.Decide.{dec_lt, ℕ_discrete}
use Rattle.nodes.specs.Words.{has_words}
use Rattle.search.specs.Search.{Search}
use Rattle.search.specs.Told.{NoMatch, Ends, last_of}
use Rattle.search.proofs.SearchLaws.{told_is}
use Rattle.searching.specs.Children.{pair_of, Passed}
use Rattle.searching.proofs.ChildrenLaws.{children_differ}

-- at node i, with no match above the larger child before it
pub record Came (w : List ℕ) (c v low high i : ℕ) : Type 0 where
  pub above : max low high < i
  pub most : i ≤ c
  pub none : NoMatch (has_words w v low high) (max low high + 1) i

pub came-begins : (w : List ℕ) (c v low high : ℕ) {i : ℕ} → i ≡ max low high + 1 → i ≤ c → Came w c v low high i
came-begins w c v low high e h = record { above = omega arith; most = h; none = λ m a b. absurd (omega arith) }

module _ {w : List ℕ} {c v low high i : ℕ} (C : Came w c v low high i) where
  -- past node i, and the nodes that have other children
  pub came_further : {r : ℕ} → has_words w v low high i ≡ false → Passed w c (pair_of low high) (i + 1) r → Came w c v low high r
  came_further {r} f P = record { above = omega (arith, C.above, P.from); most = P.most; none = λ m a b. dec m a b (dec_lt m i) (ℕ_discrete i m) }
    where
      dec : (m : ℕ) → max low high + 1 ≤ m → m < r → Dec (m < i) → Dec (i ≡ m) → has_words w v low high m ≡ false
      dec m a b (yes l) q = C.none m a l
      dec m a b (no l) (yes q) = rw q at f
      dec m a b (no l) (no q) = children_differ w v low high m (P.none m (omega arith) b)

  pub came_at : {n : ℕ} → i < c → has_words w v low high i ≡ true → n ≡ i - max low high → record { found = Some i; compared = n } ≡ Search w c v low high
  unfolding Ends last_of
  came_at h t e = told_is (record { ends = (omega (arith, C.above), h, t, C.none); tells = e })

  pub came-nowhere : {n : ℕ} → c ≤ i → n ≡ c - 1 - max low high → record { found = None; compared = n } ≡ Search w c v low high
  unfolding Ends last_of
  came-nowhere h e = told_is (record { ends = λ m a b. C.none m a (omega arith); tells = e })
