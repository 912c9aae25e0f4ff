use Rattle.text.proofs.WriterLaws.{◌then◌}
use Rattle.lines.specs.Lines.{bit_text}
use Rattle.printing.proofs.put_bit.Goals as goal

pub returns : goal.returns
unfolding bit_text
returns c = c.put_byte.ensures then c.put_condition.ensures then (c.put_byte-2.ensures then c.put_condition-2.ensures)
