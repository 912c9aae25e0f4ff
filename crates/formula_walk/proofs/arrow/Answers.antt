use Rattle.formula_walk.proofs.WalkLaws.{standard-older}
use Rattle.formula_walk.proofs.arrow.Goals as goal

pub invariant_of-d : goal.invariant_of-d
invariant_of-d c = record { standard = standard-older c.args.build.now.sound.standard c.requires.1 c.requires.2 }
