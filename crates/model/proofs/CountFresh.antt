-- The entry count of a list of calls from a fresh memory.
use mathlib.Core.Path.{refl}
use mathlib.Core.List.{[]}
use native.Mathlib.Omega.{arith}
use Rattle.conditions.specs.Assignment.{bit_at}
use Rattle.model.specs.Count.{CountExactly}
use Rattle.model.proofs.AgreeLaws.{begins_agrees}
use Rattle.model.proofs.CountLaws.{count-from}

pub count-exactly : CountExactly
unfolding CountExactly
count-exactly s B cs = let C = count-from s.rec.sizes cs s (λ φ. []) refl (λ a small. begins_agrees s B (bit_at a)) in omega (arith, C, B.entries)
