use Rattle.sums.proofs.PairLaws.{sum_did}
use Rattle.sums.proofs.sum_bit.Goals as goal

pub returns : goal.returns
returns c = rw c.turn.ensures (sum_did c.args.a c.args.c c.args.one c.mix_half-h.ensures c.mix_half-l.ensures)
