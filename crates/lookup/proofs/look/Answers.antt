use Rattle.std.proofs.Common.{◌≡◌, ◌<◌, length, replicate, ◌∙◌, arith, rules}
use Rattle.model.specs.Access.{Look, entry_step}
use Rattle.addresses.proofs.LoopLaws.{word-goes_on, word_did, more-nodes, entry-size, entry-nodes}
use Rattle.merging.proofs.StepLaws.{did_word, word_word}
use Rattle.lookup.proofs.look.Goals as goal

pub look_entry-requires : goal.look_entry-requires
look_entry-requires c =
    let p = c.requires.0 in
    let L = c.loop-j.invariant in
    let i = c.narrow-inside.ensures in
    let h : c.loop-j.j < c.args.entries.count = omega arith in
    rw c.entry.ensures (p.few, p.wide, entry-size p c.loop-j.j h, omega (arith, L.size), more-nodes (omega (arith, i.later.more, L.later.more)) (entry-nodes p c.loop-j.j h), L.nodes, omega (arith, i.node, L.later.more))

pub loop-j-preserved : goal.loop-j-preserved
loop-j-preserved c = word-goes_on c.loop-j.invariant (omega arith) c.look_entry.auto.word (rw c.entry.ensures at c.look_entry.ensures)

pub returns : goal.returns
unfolding Look entry_step
returns c =
    let p = c.requires.1 in
    let e : c.fill.new.self ≡ replicate (length c.args.word.now) 1 = search rules in
    let L = rw (e, p) at c.loop-j.invariant in
    did_word _ c.narrow-inside.ensures (word_word _ (word_did L (omega arith)) (rw (c.loop-j.auto.word ∙ c.fill.auto.self ∙ p) at c.settle.ensures))
