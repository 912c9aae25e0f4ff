use Rattle.std.proofs.Common.{arith}
use Rattle.sums.proofs.PairLaws.{place_did}
use Rattle.sums.proofs.place_bit.Goals as goal

pub returns : goal.returns
returns c = rw c.put_pair.ensures (place_did c.args.k c.args.i c.args.address.now c.args.out.now c.args.c (omega (arith, c.requires.1, c.requires.4)) c.requires.5 c.requires.3 (rw (c.address_pair-a.ensures, c.bit_at.ensures) at c.sum_bit-x.ensures))
