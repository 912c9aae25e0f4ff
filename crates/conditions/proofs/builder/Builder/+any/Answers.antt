use Rattle.std.proofs.Common.{refl, arith}
use Rattle.conditions.proofs.BuilderLaws.{did_from, did_to}
use Rattle.conditions.proofs.StepLaws.{any_full, any_user, any_children, any_did}
use Rattle.conditions.proofs.builder.Builder.+any.Goals as goal

pub returns-then-self : goal.returns-then-self
returns-then-self t c = any_full c.args.self.now c.args.f c.requires c.if-self.true

pub returns-then-top-ge8 : goal.returns-then-top-ge8
returns-then-top-ge8 t c = did_to (record { now = refl; store = refl; words = refl; table = refl }) (any_user c.args.self.now c.args.f c.requires c.if-self.false (rw c.view-d.ensures.0 at c.top.ensures) c.if-top-ge8.true)

pub any-x-requires : goal.any-x-requires
any-x-requires t c =
    let q = any_children c.args.self.now c.args.f c.requires c.if-self.false c.if-top-ge8.false (rw c.view-d.ensures.0 at c.top.ensures) (rw c.view-d.ensures.0 at c.low-lo.ensures) (rw c.view-d.ensures.0 at c.high-hi.ensures) in
    (omega (arith, q.0, c.decreases), omega (arith, q.0, c.requires))

pub any-y-requires : goal.any-y-requires
any-y-requires t c =
    let q = any_children c.args.self.now c.args.f c.requires c.if-self.false c.if-top-ge8.false (rw c.view-d.ensures.0 at c.top.ensures) (rw c.view-d.ensures.0 at c.low-lo.ensures) (rw c.view-d.ensures.0 at c.high-hi.ensures) in
    (omega (arith, q.1, c.decreases), omega (arith, q.1, c.requires, c.any-x.ensures.later.more))

pub returns : goal.returns
returns t c = any_did c.args.self.now c.args.f c.requires c.if-self.false c.if-top-ge8.false (rw c.view-d.ensures.0 at c.top.ensures) (rw c.view-d.ensures.0 at c.low-lo.ensures) (rw c.view-d.ensures.0 at c.high-hi.ensures) (did_from (record { now = refl; store = refl; words = refl; table = refl }) c.any-x.ensures) c.any-y.ensures c.or.ensures
