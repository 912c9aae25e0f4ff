-- What a building function's contract follows from.
use Rattle.std.proofs.Common.{List, ℕ, ◌<◌, replicate}
use Rattle.nodes.specs.Standard.{Standard}
use Rattle.operations.specs.declared.Store.{Store}
use Rattle.conditions.specs.Contract.{Sound}
use Rattle.diagrams.proofs.PartsLaws.{Ready}
use Rattle.conditions.proofs.TableLaws.{remembers-zeros}

pub sound-ready : {w t : List ℕ} {s : Store} {f g h : ℕ} → Sound w t s → f < s.count → g < s.count → h < s.count → Ready w s.count f g h
sound-ready S f g h = record { standard = S.standard; first = f; second = g; third = h }

-- a table of zeros is right in any store
pub zeros-sound : {w : List ℕ} (s : Store) (n : ℕ) → Standard w s.count → Sound w (replicate n 0) s
zeros-sound {w} s n g = record { standard = g; table = remembers-zeros n w s g }
