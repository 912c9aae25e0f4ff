-- The order in which Ite and Any build, computed.
use Rattle.std.proofs.Common.{refl}
use Rattle.operations.specs.Computing.{computing}
use Rattle.operations.specs.Orders.{Leaves, anded, settled}

pub and-order : Leaves anded
unfolding computing anded
and-order = record { enough = refl; short = refl }

pub any_order : Leaves settled
unfolding computing settled
any_order = record { enough = refl; short = refl }
