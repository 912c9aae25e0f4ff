use Rattle.std.proofs.Common.{refl, ◌∙◌, arith}
use Rattle.conditions.proofs.Promises.{next_is, later_trans}
use Rattle.model.specs.Access.{Assert, Look, entry_step}
use Rattle.comparisons.proofs.assert_builds.Goals as goal

pub returns : goal.returns
unfolding Assert Look entry_step
returns c =
    let p = c.requires in
    let t = c.look.ensures in
    let x = c.inside-x.ensures in
    let v = c.not-not_b.ensures in
    let y = c.or-y.ensures in
    let q = c.and-condition.ensures in
    let i = c.inside-c.ensures in
    let z = c.and-z.ensures in
    let k = c.or-keep.ensures in
    let L = later_trans y.later (later_trans q.later (later_trans i.later (later_trans z.later k.later))) in
    record {
      is = next_is _ t.is (next_is _ (rw p.2 at x.is) (next_is _ v.is (next_is _ y.is (next_is _ q.is (next_is _ (rw (c.look.auto.word ∙ p.1) at i.is) (next_is _ z.is (next_is _ k.is refl)))))));
      later = later_trans t.later (later_trans x.later (later_trans v.later L));
      node = omega (arith, v.node, L.more);
    }
