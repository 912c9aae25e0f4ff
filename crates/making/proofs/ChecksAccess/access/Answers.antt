use Rattle.model.specs.Step.{accepted}
use Rattle.making.proofs.ChecksAccess.access.Goals as goal

pub returns-clause-made : goal.returns-clause-made
returns-clause-made c = record { gives = accepted; is = c.check_on.ensures }
