use Rattle.sums.proofs.PairLaws.{bit_did}
use Rattle.sums.proofs.add_bit.Goals as goal

pub returns : goal.returns
returns c = bit_did c.args.k c.args.i c.args.address.now c.args.out.now _ c.args.c c.place_bit.ensures (rw (c.address_pair-a.ensures, c.bit_at.ensures) at c.carry_bit.ensures)
