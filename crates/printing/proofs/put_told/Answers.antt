use Rattle.text.proofs.WriterLaws.{◌then◌}
use Rattle.printing.proofs.put_told.Goals as goal

pub returns : goal.returns
returns c = c.put_bytes.ensures then c.put_condition.ensures then c.put_byte.ensures
