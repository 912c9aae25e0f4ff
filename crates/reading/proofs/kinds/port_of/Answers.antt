use Rattle.std.proofs.Common.{rules}
use Rattle.format.specs.Fields.{fields_of}
use Rattle.reading.specs.Layout.{port_of}
use Rattle.reading.proofs.kinds.port_of.Goals as goal

pub returns-in-Read : goal.returns-in-Read
unfolding port_of fields_of
returns-in-Read c = rw c.in-Read.is c.from.ensures

pub returns-in_default : goal.returns-in_default
unfolding port_of fields_of
returns-in_default c = search rules
