use Prim.Native.Nat.{◌+◌}
use Rattle.meets.proofs.+meets_within.Given as goal

abbrev pub decreases-meets_within : goal.decreases-meets_within
decreases-meets_within l = l.f + l.g + l.h
