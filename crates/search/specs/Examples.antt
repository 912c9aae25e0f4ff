-- 02, job 4: searches worked out by hand.
use Rattle.std.specs.Prelude.{◌≡◌, List, [], ◌∷◌, ℕ, Some, None}
use Rattle.search.specs.declared.Searched.{Searched}
use Rattle.search.specs.Search.{Search}

-- nodes 0 and 1, two variables' nodes on the same children, two nodes above them, variable 8's, and the words of node 4 again
abbrev eight : List ℕ
eight =
    64 ∷ 0 ∷ 0 ∷ 64 ∷ 1 ∷ 1 ∷ 10 ∷ 0 ∷ 1 ∷ 11 ∷ 0 ∷ 1 ∷ 8 ∷ 2 ∷ 3 ∷ 8 ∷ 3 ∷ 2 ∷ 8 ∷ 0 ∷ 1 ∷ 8 ∷ 2 ∷ 3 ∷ []

abbrev pub at : ℕ → ℕ → Searched
at n k = record { found = Some n; compared = k }

abbrev pub nowhere : ℕ → Searched
nowhere k = record { found = None; compared = k }

pub record ByHand : Type 0 where
  -- above node 3: node 4 is the match, the first node compared; and so it is where node 7 has its words again
  pub next : Search eight 7 8 2 3 ≡ at 4 1
  pub twice : Search eight 8 8 2 3 ≡ at 4 1
  -- above node 3, which is the low child here: nodes 4 and 5
  pub low : Search eight 7 8 3 2 ≡ at 5 2
  -- above node 1: nodes 2 to 6, of which 2 and 3 have the children and other variables
  pub variable : Search eight 7 8 0 1 ≡ at 6 5
  -- none: nodes 3 to 6 are compared; above the last node there is nothing to compare
  pub none : Search eight 7 8 0 2 ≡ nowhere 4
  pub last : Search eight 7 7 0 6 ≡ nowhere 0
