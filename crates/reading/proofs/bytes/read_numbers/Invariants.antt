use Rattle.std.proofs.Common.{◌≡◌, length}
use Rattle.format.proofs.BytesLaws.{filled_to}
use Rattle.reading.proofs.bytes.read_numbers.Given as goal

abbrev pub invariant-loop-i : goal.invariant-loop-i
invariant-loop-i l = (length l.to ≡ length l.initial.to) × (l.to ≡ filled_to l.bytes l.at l.i l.initial.to)
