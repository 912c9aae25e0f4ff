-- The order of building: every line of the table, computed.
use mathlib.Core.Path.{refl}
use Rattle.conditions.specs.Computing.{computing}
use Rattle.model.specs.Access.{unique_bit, Unique, Certain, Write, narrow_bit, Narrow, half_step, EachHalf, merge_half, entry_step, settle_half, Look, hold_half}
use Rattle.unit_programs.specs.Add.{mix_half, sum_bit, carry_bit, add_bit, Add}
use Rattle.unit_programs.specs.Units.{PartAddress, look_part, LookUnit, ReadUnit, part_ready, UnitWrite}
use Rattle.unit_programs.specs.Orders.{orders, OrdersHold}

pub orders-hold : OrdersHold
unfolding
    computing
    unique_bit Unique Certain Write narrow_bit Narrow half_step EachHalf merge_half entry_step settle_half Look hold_half
    mix_half sum_bit carry_bit add_bit Add PartAddress look_part LookUnit ReadUnit part_ready UnitWrite orders OrdersHold
orders-hold = (record { enough = refl; short = refl }, (record { enough = refl; short = refl }, (record { enough = refl; short = refl }, (record { enough = refl; short = refl }, (record { enough = refl; short = refl }, (record { enough = refl; short = refl }, (record { enough = refl; short = refl }, (record { enough = refl; short = refl }, (record { enough = refl; short = refl }, (record { enough = refl; short = refl }, (record { enough = refl; short = refl }, (record { enough = refl; short = refl }, tt))))))))))))
