use Rattle.show.proofs.+put_condition.Given as goal

-- the node falls
abbrev pub decreases-put_condition : goal.decreases-put_condition
decreases-put_condition l = l.node
