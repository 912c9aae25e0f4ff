use Rattle.making.proofs.MakingLaws.{SoFar}
use Rattle.making.proofs.make.Given as goal

abbrev pub invariant-loop-made : goal.invariant-loop-made
invariant-loop-made g l = g.A.Access.keeps l.initial.by l.by × SoFar g.A.Access.kind l.initial.r l.initial.words (g.A.Access.lent l.initial.by) l.predicates l.triples l.listed l.r l.words (g.A.Access.lent l.by) l.table l.made
