use Rattle.std.proofs.Common.{refl, arith}
use Rattle.conditions.proofs.BuilderLaws.{did_from, did_to}
use Rattle.conditions.proofs.StepLaws.{ite_known, ite_low, ite_high, ite_make, ite_sound, ite_did}
use Rattle.conditions.proofs.builder.Builder.+ite.Goals as goal

pub returns-in-Some : goal.returns-in-Some
returns-in-Some t c =
    let p = c.requires in
    ite_known c.args.self.now c.args.f c.args.g c.args.h p.0 p.1 p.2 c.in-Some.ensures

pub ite-x-requires : goal.ite-x-requires
ite-x-requires t c =
    let p = c.requires in
    let q = ite_low c.args.self.now c.args.f c.args.g c.args.h p.0 p.1 p.2 c.in_default.ensures c.divide-p.result (rw c.view.ensures.0 at c.divide-p.ensures) in
    (omega (arith, q.0, c.decreases), (q.1, q.2, q.3))

pub ite-y-requires : goal.ite-y-requires
ite-y-requires t c =
    let p = c.requires in
    let q = ite_high c.args.self.now c.args.f c.args.g c.args.h p.0 p.1 p.2 c.in_default.ensures c.divide-p.result (rw c.view.ensures.0 at c.divide-p.ensures) in
    let m = c.ite-x.ensures.later.more in
    (omega (arith, q.0, c.decreases), (omega (arith, q.1, m), omega (arith, q.2, m), omega (arith, q.3, m)))

pub make_near-z-requires : goal.make_near-z-requires
make_near-z-requires t c =
    let p = c.requires in
    ite_make c.args.self.now c.args.f c.args.g c.args.h p.0 p.1 p.2 c.in_default.ensures c.divide-p.result (rw c.view.ensures.0 at c.divide-p.ensures) (did_from (record { now = refl; store = refl; words = refl; table = refl }) c.ite-x.ensures) c.ite-y.ensures

pub invariant_of-self : goal.invariant_of-self
invariant_of-self t c =
    let p = c.requires in
    record { sound = ite_sound c.args.self.now c.args.f c.args.g c.args.h p.0 p.1 p.2 c.in_default.ensures c.divide-p.result (rw c.view.ensures.0 at c.divide-p.ensures) (did_from (record { now = refl; store = refl; words = refl; table = refl }) c.ite-x.ensures) c.ite-y.ensures c.make_near-z.ensures c.remember.ensures }

pub returns : goal.returns
returns t c =
    let p = c.requires in
    did_to (record { now = refl; store = refl; words = refl; table = refl }) (ite_did c.args.self.now c.args.f c.args.g c.args.h p.0 p.1 p.2 c.in_default.ensures c.divide-p.result (rw c.view.ensures.0 at c.divide-p.ensures) (did_from (record { now = refl; store = refl; words = refl; table = refl }) c.ite-x.ensures) c.ite-y.ensures c.make_near-z.ensures)
