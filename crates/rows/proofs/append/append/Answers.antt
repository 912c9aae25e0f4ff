use mathlib.Core.Path.{◌∙◌, ap}
use mathlib.Core.List.{List}
use Prim.Native.Nat.{ℕ, ◌+◌}
use native.Mathlib.Omega.{arith}
use lib.ListN.{length, set, length-set}
use Rattle.rows.proofs.AppendLaws.{copied, append_is}
use Rattle.rows.proofs.append.append.Goals as goal

pub bounds-list-at-2 : goal.bounds-list-at-2
bounds-list-at-2 c = omega (arith, length-set c.args.list.now c.args.at c.args.h)

pub copy-requires : goal.copy-requires
copy-requires c = omega (arith, length-set c.args.list.now c.args.at c.args.h, length-set (set c.args.list.now c.args.at c.args.h) (c.args.at + 1) c.args.s)

pub copy-requires-2 : goal.copy-requires-2
copy-requires-2 c = omega (arith, length-set c.args.list.now c.args.at c.args.h, length-set (set c.args.list.now c.args.at c.args.h) (c.args.at + 1) c.args.s, c.copy.auto.list)

pub shape_of-list : goal.shape_of-list
shape_of-list c = omega (arith, length-set c.args.list.now c.args.at c.args.h, length-set (set c.args.list.now c.args.at c.args.h) (c.args.at + 1) c.args.s, c.copy.auto.list, c.copy-2.auto.list)

pub returns : goal.returns
returns c =
    c.copy-2.ensures
    ∙ ap (λ (t : List ℕ). copied t (c.args.at + 2 + length c.args.address.now) c.args.«data».now) c.copy.ensures
    ∙ append_is c.args.at c.args.h c.args.s c.args.list.now c.args.address.now c.args.«data».now c.requires.0
