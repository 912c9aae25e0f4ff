use Rattle.std.proofs.Common.{refl}
use Rattle.conditions.proofs.Promises.{next_is, later_trans}
use Rattle.model.specs.Access.{Write}
use Rattle.building.proofs.write_marks.Goals as goal

pub returns : goal.returns
unfolding Write
returns c =
    let s = c.certain-sure.ensures in
    let u = c.unique-u.ensures in
    let h = c.and-hard.ensures in
    let x = c.and-x.ensures in
    let y = c.not-y.ensures in
    let z = c.and-z.ensures in
    let t = c.or-soft.ensures in
    record {
      is = next_is _ s.is (next_is _ u.is (next_is _ h.is (next_is _ x.is (next_is _ y.is (next_is _ z.is (next_is _ t.is refl))))));
      later = later_trans s.later (later_trans u.later (later_trans h.later (later_trans x.later (later_trans y.later (later_trans z.later t.later)))));
    }
