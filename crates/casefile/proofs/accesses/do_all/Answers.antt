use Rattle.std.proofs.Common.{◌≡◌, Err, rules}
use Rattle.casefile.proofs.RestLaws.{done_none, done_more, done-stop, done_all}
use Rattle.casefile.specs.Contract.{after_as}
use Rattle.casefile.proofs.accesses.do_all.Goals as goal

pub loop-after-init : goal.loop-after-init
loop-after-init c = done_none _ _ _ _ _ _ _ _ c.requires.0 c.requires.1

pub do_one-requires : goal.do_one-requires
do_one-requires c = (c.loop-after.invariant.ready, c.loop-after.invariant.ports)

pub returns-in_err-c-clause-end : goal.returns-in_err-c-clause-end
returns-in_err-c-clause-end c =
    let m : c.map_err.result ≡ after_as c.loop-after.after-counter c.do_one.result = search rules in
    let q : c.from_residual.result ≡ Err c.in_err-c.field-0.0 = search rules in
    done-stop c.loop-after.invariant c.loop-after-test.true m c.in_err-c.was q c.do_one.ensures.step.0

pub loop-after-preserved : goal.loop-after-preserved
loop-after-preserved c =
    let m : c.map_err.result ≡ after_as c.loop-after.after-counter c.do_one.result = search rules in
    done_more c.loop-after.invariant c.loop-after-test.true m c.in_ok-c.was c.do_one.ensures.step c.do_one.ensures.same

pub returns-clause-end : goal.returns-clause-end
returns-clause-end c =
    let m : c.map_err-2.result ≡ after_as c.args.accesses c.finish.result = search rules in
    done_all c.loop-after.invariant c.loop-after-test.false (rw m (c.finish.ensures.last _ _ _ _))
