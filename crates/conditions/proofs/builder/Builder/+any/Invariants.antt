use Rattle.conditions.proofs.builder.Builder.+any.Given as goal

abbrev pub decreases-any : goal.decreases-any
decreases-any l = l.f
