use Rattle.std.proofs.Common.{arith}
use Rattle.text.proofs.WriterLaws.{wrote_nothing, ◌then◌}
use Rattle.printing.proofs.LineLaws.{bits-next, bits-done}
use Rattle.printing.proofs.put_bits.Goals as goal

pub loop-i-preserved : goal.loop-i-preserved
loop-i-preserved c = λ x W. c.loop-i.invariant x (rw (bits-next c.args.d.words.now c.args.word.now c.loop-i.i (omega arith)) (c.put_bit.ensures then W))

pub returns : goal.returns
returns c = c.loop-i.invariant c.loop-i.w (rw (bits-done c.args.d.words.now c.args.word.now c.loop-i.i (omega arith)) (wrote_nothing c.loop-i.w))
