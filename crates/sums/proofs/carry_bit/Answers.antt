use Rattle.sums.proofs.PairLaws.{carry_did}
use Rattle.sums.proofs.carry_bit.Goals as goal

pub returns : goal.returns
returns c = carry_did c.args.a c.args.c c.args.one c.either-h.ensures c.either-l.ensures
