use Rattle.std.proofs.Common.{◌+◌, ◌∙◌, arith}
use Rattle.model.specs.Access.{entry_step}
use Rattle.model.proofs.ListLaws.{part_length}
use Rattle.conditions.proofs.Promises.{later_trans}
use Rattle.addresses.proofs.LoopLaws.{more-nodes, part-nodes}
use Rattle.merging.proofs.StepLaws.{did_word}
use Rattle.merging.proofs.look_entry.Goals as goal

pub narrow-m-requires : goal.narrow-m-requires
narrow-m-requires c =
    let p = c.requires in
    let a = c.address_words-at in
    (p.0, part_length c.args.entry.now 2 (2 + a.result) (omega arith) (omega (arith, p.2, a.ensures)) ∙ (omega (arith, a.ensures)), part-nodes 2 (2 + a.result) (omega arith) (omega (arith, p.2, a.ensures)) p.4, p.6)

pub merge-requires : goal.merge-requires
merge-requires c =
    let p = c.requires in
    let a = c.address_words-at in
    let d = c.cell_words in
    let e = 2 + a.result in
    let t = c.and-soft.ensures in
    let L = later_trans c.narrow-m.ensures.later (later_trans c.and-hard.ensures.later t.later) in
    let len = part_length c.args.entry.now e (e + d.result) (omega arith) (omega (arith, p.2, a.ensures, d.ensures)) in
    (omega (arith, c.and-hard.ensures.node, t.later.more), t.node, omega (arith, len, p.3, d.ensures), more-nodes L.more (part-nodes e (e + d.result) (omega arith) (omega (arith, p.2, a.ensures, d.ensures)) p.4), more-nodes L.more p.5)

pub returns : goal.returns
unfolding entry_step
returns c =
    let n = rw c.address_words-at.ensures at c.narrow-m.ensures in
    let u = rw (c.requires.3, c.address_words-at.ensures, c.cell_words.ensures) at c.merge.ensures in
    did_word _ n (did_word _ c.and-hard.ensures (did_word _ c.and-soft.ensures u))
