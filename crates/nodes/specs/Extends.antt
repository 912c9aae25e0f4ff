-- How a store grows: "Success changes no older node or entry and no word past the new count."
use Rattle.std.specs.Prelude.{◌≡◌, List, ℕ, ◌*◌, ◌<◌, ◌≤◌, length, get_or}

-- the words of the first c nodes are the same
pub record Agree (w w' : List ℕ) (c : ℕ) : Type 0 where
  pub at : (k : ℕ) → k < c * 3 → get_or w' k 0 ≡ get_or w k 0

-- w' with c' nodes grew out of w with c
pub record Extends (w : List ℕ) (c : ℕ) (w' : List ℕ) (c' : ℕ) : Type 0 where
  pub more : c ≤ c'
  pub len : length w' ≡ length w
  pub old : Agree w w' c
  pub past : (k : ℕ) → c' * 3 ≤ k → get_or w' k 0 ≡ get_or w k 0
