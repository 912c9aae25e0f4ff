use Rattle.text.proofs.WriterLaws.{◌then◌}
use Rattle.lines.specs.Lines.{read_line}
use Rattle.printing.proofs.put_read.Goals as goal

pub returns : goal.returns
unfolding read_line
returns c = c.put_bytes.ensures then c.put_bits.ensures then c.put_byte.ensures
