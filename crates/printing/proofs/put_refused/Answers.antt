use Rattle.text.proofs.WriterLaws.{◌then◌}
use Rattle.lines.specs.Lines.{refused_line}
use Rattle.printing.proofs.put_refused.Goals as goal

pub returns : goal.returns
unfolding refused_line
returns c = c.put_bytes.ensures then c.put_decimal.ensures then c.put_bytes-2.ensures then c.put_decimal-2.ensures then c.put_byte.ensures
