use Rattle.std.proofs.Common.{◌∙◌}
use Rattle.model.specs.Access.{Read}
use Rattle.merging.proofs.StepLaws.{did_word, word_word}
use Rattle.building.proofs.read_word.Goals as goal

pub returns : goal.returns
unfolding Read
returns c = word_word _ c.look.ensures (did_word _ c.and-unknown.ensures (rw (c.look.auto.word ∙ c.requires.1) at c.hold.ensures))
