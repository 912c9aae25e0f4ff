use Rattle.nodes.specs.Standard.{terminals}
use Rattle.nodes.proofs.standard.has_terminals.Goals as goal

pub returns : goal.returns
unfolding terminals
returns c = rw (c.has_words-2.ensures, c.has_words.ensures)
