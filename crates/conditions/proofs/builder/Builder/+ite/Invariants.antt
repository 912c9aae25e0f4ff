use Rattle.std.proofs.Common.{◌+◌}
use Rattle.conditions.proofs.builder.Builder.+ite.Given as goal

abbrev pub decreases-ite : goal.decreases-ite
decreases-ite l = l.f + l.g + l.h
