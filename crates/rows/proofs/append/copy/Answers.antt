use Rattle.std.proofs.Common.{◌≡◌, length, take_all, arith}
use Rattle.rows.proofs.AppendLaws.{copy-none, copy_more}
use Rattle.rows.proofs.append.copy.Goals as goal

pub loop-k-init : goal.loop-k-init
loop-k-init c = copy-none c.args.at c.args.slice.now c.args.list.now

pub loop-k-preserved : goal.loop-k-preserved
loop-k-preserved c = rw c.loop-k.invariant (copy_more c.args.at c.loop-k.k c.args.slice.now c.args.list.now (omega arith) (omega arith))

pub returns : goal.returns
returns c =
    let e : c.loop-k.k ≡ length c.args.slice.now = omega arith in
    rw (c.loop-k.invariant, e, take_all (length c.args.slice.now) c.args.slice.now (omega arith))
