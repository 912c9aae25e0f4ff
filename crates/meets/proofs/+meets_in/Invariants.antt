use Prim.Native.Nat.{◌+◌}
use Rattle.meets.proofs.+meets_in.Given as goal

abbrev pub decreases-meets_in : goal.decreases-meets_in
decreases-meets_in l = l.f + l.g + l.h
