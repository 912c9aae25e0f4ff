use Rattle.std.proofs.Common.{◌∙◌}
use Rattle.conditions.proofs.Promises.{did_next}
use Rattle.model.specs.Access.{Check, Look, entry_step}
use Rattle.building.proofs.LoopLaws.{word_did}
use Rattle.comparisons.proofs.check_builds.Goals as goal

pub returns : goal.returns
unfolding Check Look entry_step
returns c =
    let q = rw (c.look.auto.word ∙ c.requires.1) at c.inside-c.ensures in
    word_did _ c.look.ensures (did_next _ q (did_next _ c.not-x.ensures (did_next _ c.or-y.ensures c.and.ensures)))
