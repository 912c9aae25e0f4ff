use Rattle.std.proofs.Common.{arith}
use Rattle.text.proofs.DecimalLaws.{decimal-small, decimal_large}
use Rattle.text.proofs.WriterLaws.{◌then◌}
use Rattle.text.proofs.Writer.+put_decimal.Goals as goal

pub returns-then-x-lt10 : goal.returns-then-x-lt10
returns-then-x-lt10 t c = rw (decimal-small c.args.x (omega arith)) c.put_byte.ensures

pub returns-else-x-lt10 : goal.returns-else-x-lt10
returns-else-x-lt10 t c = rw (decimal_large c.args.x (omega arith)) (c.put_decimal.ensures then c.put_byte-else-x-lt10.ensures)
