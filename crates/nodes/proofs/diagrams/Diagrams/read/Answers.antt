use Rattle.std.proofs.Common.{sym, ◌∙◌}
use Rattle.nodes.proofs.StandardLaws.{standard_is}
use Rattle.nodes.proofs.diagrams.Diagrams.read.Goals as goal

pub invariant_of-result : goal.invariant_of-result
invariant_of-result c = record { standard = standard_is _ _ (sym c.is_standard.ensures ∙ c.if-is_standard.true) }
