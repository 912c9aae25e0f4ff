use Rattle.nodes.specs.Certificate.{found}
use Rattle.nodes.proofs.standard.is_found.Goals as goal

pub returns : goal.returns
unfolding found
returns c = rw (c.find_in_chain.ensures, c.chain.ensures, c.number-x.ensures)
