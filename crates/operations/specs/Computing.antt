-- For examples that are computed: the definitions by which a program builds.
use Rattle.nodes.specs.Words.{has_words}
use Rattle.nodes.specs.Search.{seek, every}
use Rattle.nodes.specs.Standard.{lowest}
use Rattle.diagrams.specs.Parts.{part_of}
use Rattle.operations.specs.Build.{next, for_each}
use Rattle.operations.specs.Make.{Make}
use Rattle.operations.specs.Ite.{plain_of, ite_by, ite_up_to, Ite}
use Rattle.operations.specs.Any.{stop_of, any_by, any_up_to, Any}

-- to unfold this is to unfold them all
unfoldable pub computing : Unit {0}
unfolding has_words seek every lowest next for_each Make plain_of part_of ite_by ite_up_to Ite stop_of any_by any_up_to Any
computing = tt
