-- Of texts that are the same bytes: their first bytes, and what follows.
use mathlib.Core.Path.{◌≡◌}
use mathlib.Core.List.{List, [], ◌∷◌, ◌++◌}
use Prim.Native.Nat.{ℕ}

pub heads : {x y : ℕ} {r s : List ℕ} → x ∷ r ≡ y ∷ s → x ≡ y
heads e = cc

pub tails : {x y : ℕ} {r s : List ℕ} → x ∷ r ≡ y ∷ s → r ≡ s
tails e = cc

-- what follows the same bytes
pub after : (a : List ℕ) {r s : List ℕ} → a ++ r ≡ a ++ s → r ≡ s
after [] e = e
after (x ∷ a) e = after a (tails e)
