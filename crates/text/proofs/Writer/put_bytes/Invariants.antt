use Rattle.std.proofs.Common.{take}
use Rattle.text.specs.Writer.{Wrote}
use Rattle.text.proofs.Writer.put_bytes.Given as goal

abbrev pub invariant-loop-b : goal.invariant-loop-b
invariant-loop-b l = Wrote l.initial.self l.self (take l.b-index l.s)
