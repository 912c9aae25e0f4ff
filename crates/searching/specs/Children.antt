-- Two children as one number, by which the code passes over nodes.
use Rattle.std.specs.Prelude.{◌≡◌, Bool, List, [], ◌∷◌, ℕ, ◌+◌, ◌*◌, ◌<◌, ◌≤◌, eqb, get_or}
use Rattle.std.specs.List.{list_any}

abbrev pub pair_of : ℕ → ℕ → ℕ
pair_of low high = low + high * 4294967296

-- the children of the node whose words stand from place k on
abbrev pub children_at : List ℕ → ℕ → ℕ
children_at w k = pair_of (get_or w (k + 1) 0) (get_or w (k + 2) 0)

-- one of the four nodes from i on has these children
abbrev pub one_of_four : List ℕ → ℕ → ℕ → Bool
one_of_four w x i = list_any (λ d. eqb (children_at w (i * 3 + d)) x) (0 ∷ 3 ∷ 6 ∷ 9 ∷ [])

-- r is one of the nodes from i up to c, or c, and none before it has these children
pub record Passed (w : List ℕ) (c x i r : ℕ) : Type 0 where
  pub from : i ≤ r
  pub most : r ≤ c
  pub none : (n : ℕ) → i ≤ n → n < r → children_at w (n * 3) ≡ x → ⊥
