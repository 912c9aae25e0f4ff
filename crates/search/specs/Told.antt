-- 02, job 4: what the search tells, of any words and any count.
use Rattle.std.specs.Prelude.{◌≡◌, Bool, true, false, cond, List, ℕ, ◌+◌, ◌-◌, ◌<◌, ◌≤◌, max, ltb, Option, Some, None}
use Rattle.nodes.specs.Words.{has_words}
use Rattle.search.specs.declared.Searched.{Searched}

-- none of the nodes from i up to c is a match
abbrev pub NoMatch : (ℕ → Bool) → ℕ → ℕ → Type 0
NoMatch match i c = (m : ℕ) → i ≤ m → m < c → match m ≡ false

-- at the first match among the nodes from i up to c, or nowhere, since there is none
unfoldable pub Ends : (ℕ → Bool) → ℕ → ℕ → Option ℕ → Type 0
Ends match i c (Some n) = (i ≤ n) × (n < c) × (match n ≡ true) × NoMatch match i n
Ends match i c None = NoMatch match i c

-- "the match's number, or with none the count less one"
unfoldable pub last_of : ℕ → Option ℕ → ℕ
last_of c (Some n) = n
last_of c None = c - 1

pub record Told (w : List ℕ) (c v low high : ℕ) (r : Searched) : Type 0 where
  -- it "begins above the larger child, ends at the first match"
  pub ends : Ends (has_words w v low high) (max low high + 1) c r.found
  -- and "tells how many nodes it compared: the match's number, or with none the count less one, less the larger child's number"
  pub tells : r.compared ≡ last_of c r.found - max low high

-- a number below c as what a search found, any other as none
unfoldable pub found_below : ℕ → ℕ → Option ℕ
found_below c n = cond (ltb n c) (Some n) None
