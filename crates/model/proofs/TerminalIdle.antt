-- The enable of an idle write is 0 under any assignment.
use mathlib.Core.Path.{◌≡◌}
use mathlib.Core.Bool.{Bool, true, false}
use mathlib.Core.List.{List}
use Prim.Native.Nat.{ℕ}
use lib.ListN.{get_or}
use Rattle.conditions.specs.Value.{value}
use Rattle.conditions.proofs.Promises.{value_0}
use Rattle.model.specs.Step.{is_idle}
use Rattle.model.proofs.TerminalLaws.{idle_zero}

pub idle_off : (c w : List ℕ) (φ : ℕ → Bool) → is_idle c ≡ true → value w φ (get_or c 0 0) ≡ false
idle_off c w φ e = rw (idle_zero c e) (value_0 w φ)
