-- Rows one after the other, of which the first that fails refuses.
use mathlib.Core.Path.{◌≡◌, subst}
use mathlib.Core.Bool.{Bool, true, false, cond}
use mathlib.Core.List.{List, [], ◌∷◌, ◌++◌}
use Prim.Native.Nat.{ℕ, suc}
use native.Mathlib.Omega.{arith}
use Rattle.model.specs.Rows.{Row, first_row}

-- a row that refuses does so whatever rows come after it
pub rows_refuse : (ts us : List Row) {k : ℕ} → first_row ts ≡ suc k → first_row (ts ++ us) ≡ suc k
rows_refuse [] us e = absurd (omega arith)
rows_refuse (t ∷ ts) us {k} e = go t.1 e (rows_refuse ts us)
  where
    go : (b : Bool) → cond b (first_row ts) t.0 ≡ suc k → (first_row ts ≡ suc k → first_row (ts ++ us) ≡ suc k) → cond b (first_row (ts ++ us)) t.0 ≡ suc k
    go true e f = f e
    go false e f = e

-- P holds of each row's number
abbrev pub EachNumber : (ℕ → Type 0) → List Row → Type 0
EachNumber P [] = Unit {0}
EachNumber P (t ∷ ts) = P t.0 × EachNumber P ts

-- so it holds of the number by which they refuse
pub rows-number : (P : ℕ → Type 0) (ts : List Row) {k : ℕ} → EachNumber P ts → first_row ts ≡ suc k → P (suc k)
rows-number P [] a e = absurd (omega arith)
rows-number P (t ∷ ts) {k} a e = go t.1 e (rows-number P ts a.1)
  where
    go : (b : Bool) → cond b (first_row ts) t.0 ≡ suc k → (first_row ts ≡ suc k → P (suc k)) → P (suc k)
    go true e f = f e
    go false e f = subst P e a.0
