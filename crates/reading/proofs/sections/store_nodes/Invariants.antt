use Rattle.std.proofs.Common.{◌≡◌, length}
use Rattle.format.specs.Sections.{with_nodes}
use Rattle.reading.proofs.sections.store_nodes.Given as goal

abbrev pub invariant-loop-i : goal.invariant-loop-i
invariant-loop-i l = (length l.words ≡ length l.initial.words) × (l.words ≡ with_nodes l.bytes l.at l.i l.initial.words)
