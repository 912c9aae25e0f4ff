use Rattle.std.proofs.Common.{sym, ◌∙◌, arith}
use Rattle.searching.proofs.ChildrenLaws.{passed_four}
use Rattle.searching.proofs.pass.Goals as goal

pub loop-i-preserved : goal.loop-i-preserved
loop-i-preserved c = passed_four _ _ c.loop-i.invariant (sym c.one_of_four.ensures ∙ c.if-not-one_of_four.true) (omega arith) (omega arith)
