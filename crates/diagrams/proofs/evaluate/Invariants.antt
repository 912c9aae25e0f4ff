use mathlib.Core.Path.{◌≡◌}
use Prim.Native.Nat.{◌<◌}
use Rattle.diagrams.specs.Assignment.{bit_at}
use Rattle.diagrams.specs.Value.{value}
use Rattle.diagrams.proofs.evaluate.Given as goal

abbrev pub invariant-loop-n : goal.invariant-loop-n
invariant-loop-n l = (l.n < l.d.count) × (value l.d.words.now (bit_at l.a) l.n ≡ value l.d.words.now (bit_at l.a) l.node)

abbrev pub decreases-loop-n : goal.decreases-loop-n
decreases-loop-n l = l.n
