use Rattle.nodes.proofs.store_terminals.Goals as goal

pub returns : goal.returns
returns c = rw (c.store_node-2.ensures, c.store_node.ensures)
