-- A table of numbers with one put in.
use mathlib.Core.Path.{◌≡◌, refl}
use mathlib.Core.Logic.{◌⊎◌, inl, inr}
use mathlib.Core.List.{List, [], ◌∷◌}
use Prim.Native.Nat.{ℕ, zero, suc}
use lib.ListN.{get_or, set}

-- a number after a store to one place
pub set_or : (l : List ℕ) (i j v : ℕ) → (get_or (set l i v) j 0 ≡ v) ⊎ (get_or (set l i v) j 0 ≡ get_or l j 0)
set_or [] i j v = inr refl
set_or (x ∷ l) zero zero v = inl refl
set_or (x ∷ l) zero (suc j) v = inr refl
set_or (x ∷ l) (suc i) zero v = inr refl
set_or (x ∷ l) (suc i) (suc j) v = set_or l i j v
