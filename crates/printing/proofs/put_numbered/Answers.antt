use Rattle.text.proofs.WriterLaws.{◌then◌}
use Rattle.printing.proofs.put_numbered.Goals as goal

pub returns : goal.returns
returns c = c.put_bytes.ensures then c.put_decimal.ensures then c.put_byte.ensures
