use Rattle.std.proofs.Common.{rules, arith, length-append}
use Rattle.std.proofs.lemmas.Slice.Zip.{zip_turn, zip_end}
use Rattle.model.specs.Access.{Inside}
use Rattle.addresses.proofs.LoopLaws.{loop-goes_on, loop_did}
use Rattle.building.proofs.inside.Goals as goal

pub loop-p-preserved : goal.loop-p-preserved
loop-p-preserved c =
    let t = zip_turn c.args.x.now c.args.y.now c.loop-p.yielded c.into_iter-p-iterator.result c.loop-p.p-iterator c.next.new.self c.next.result (search rules) (search rules) c.loop-p.yielded_by (c.in-Some.p, c.in-Some.q) c.in-Some.is c.next.ensures.steps in
    rw length-append (loop-goes_on c.loop-p.invariant t.0 (rw (t.2 0, t.3 0) at c.inside_half-c.ensures))

pub returns : goal.returns
unfolding Inside
returns c =
    let t = zip_end c.args.x.now c.args.y.now c.loop-p.yielded c.into_iter-p-iterator.result c.loop-p.p-iterator c.next.new.self c.next.result (search rules) (search rules) c.loop-p.yielded_by c.in-None.is c.next.ensures.steps in
    loop_did c.loop-p.invariant (omega (arith, t, c.requires.0))
