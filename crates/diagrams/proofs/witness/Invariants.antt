use mathlib.Core.Path.{◌≡◌}
use Prim.Native.Nat.{◌+◌, ◌<◌}
use Rattle.diagrams.specs.Witness.{witness_of}
use Rattle.diagrams.proofs.witness.Given as goal

-- what is added up, and what the way down from here adds
abbrev pub invariant-loop-n : goal.invariant-loop-n
invariant-loop-n l = (l.n < l.d.count) × (l.a + witness_of l.d.words.now l.n ≡ witness_of l.d.words.now l.node)

abbrev pub decreases-loop-n : goal.decreases-loop-n
decreases-loop-n l = l.n
