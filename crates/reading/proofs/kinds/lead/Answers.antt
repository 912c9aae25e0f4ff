use Rattle.format.specs.Fields.{fields_of}
use Rattle.reading.specs.Layout.{lead_of}
use Rattle.reading.proofs.LayoutLaws.{lead-none}
use Rattle.reading.proofs.kinds.lead.Goals as goal

pub returns-in-Read : goal.returns-in-Read
unfolding lead_of fields_of
returns-in-Read c = rw c.in-Read.is

pub returns-in_default : goal.returns-in_default
returns-in_default c = lead-none _ c.in_default.not-Read
