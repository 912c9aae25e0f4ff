-- The answers of a formula call, told apart.
use mathlib.Core.Path.{◌≡◌, ap}
use Prim.Native.Nat.{ℕ, zero, suc, ◌≤◌}
use native.Mathlib.Omega.{arith}
use Rattle.formula_calls.specs.Call.{FormulaAnswer, faulty, refused_by, stopped, all_made, answer_by}

abbrev pub kind : FormulaAnswer → ℕ
kind (faulty k p) = 0
kind (refused_by k) = 1
kind (stopped k n m) = 2
kind (all_made n) = 3

pub apart : {C : Type 0} (a b : FormulaAnswer) → a ≡ b → (kind a ≡ kind b → ⊥) → C
apart a b e n = absurd (n (ap kind e))

pub refused-same : (i j : ℕ) → refused_by i ≡ refused_by j → i ≡ j
refused-same i j e = cc

-- accesses end stopped, or all made
pub made_kind : (j n m : ℕ) → 2 ≤ kind (answer_by j n m)
made_kind zero n m = omega arith
made_kind (suc j) n m = omega arith
