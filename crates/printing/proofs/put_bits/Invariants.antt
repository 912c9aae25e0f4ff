use Rattle.std.proofs.Common.{◌/◌, length}
use Rattle.text.specs.declared.Writer.{Writer}
use Rattle.text.specs.Writer.{Wrote}
use Rattle.lines.specs.Lines.{bits_text}
use Rattle.printing.proofs.put_bits.Given as goal

-- With the bits below i, all are written.
abbrev pub invariant-loop-i : goal.invariant-loop-i
invariant-loop-i l = (c : Writer) → Wrote l.w c (bits_text l.d.words.now l.word l.i) → Wrote l.initial.w c (bits_text l.d.words.now l.word (length l.word / 2))
