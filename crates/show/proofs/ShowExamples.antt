-- Texts worked out.
use Rattle.std.proofs.Common.{◌≡◌, refl, List, [], ◌∷◌, ℕ}
use Rattle.text.specs.Decimal.{digits, decimal}
use Rattle.diagrams.specs.Value.{grow, tree_of}
use Rattle.show.specs.Show.{show, text_of}

-- the terminals, node 2 (8,0,1), node 3 (8,1,0), node 4 (63,0,1) and node 5 (9,1,4)
abbrev stored : List ℕ
stored = 64 ∷ 0 ∷ 0 ∷ 64 ∷ 1 ∷ 1 ∷ 8 ∷ 0 ∷ 1 ∷ 8 ∷ 1 ∷ 0 ∷ 63 ∷ 0 ∷ 1 ∷ 9 ∷ 1 ∷ 4 ∷ []

-- "(8 0 1)"
pub variable_8 : text_of stored 2 ≡ 40 ∷ 56 ∷ 32 ∷ 48 ∷ 32 ∷ 49 ∷ 41 ∷ []
unfolding show tree_of grow decimal digits
variable_8 = refl

-- "(8 1 0)"
pub not-variable_8 : text_of stored 3 ≡ 40 ∷ 56 ∷ 32 ∷ 49 ∷ 32 ∷ 48 ∷ 41 ∷ []
unfolding show tree_of grow decimal digits
not-variable_8 = refl

-- "(9 1 (63 0 1))"
pub nested : text_of stored 5 ≡ 40 ∷ 57 ∷ 32 ∷ 49 ∷ 32 ∷ 40 ∷ 54 ∷ 51 ∷ 32 ∷ 48 ∷ 32 ∷ 49 ∷ 41 ∷ 41 ∷ []
unfolding show tree_of grow decimal digits
nested = refl
