use mathlib.Core.Path.{refl, ◌∙◌}
use native.Mathlib.Omega.{arith}
use Rattle.formula_walk.specs.declared.Pass.TheVariants.{Count}
use Rattle.formula_walk.specs.Contract.{MayCount}
use Rattle.formula_walk.proofs.OutLaws.{listed-step, listed_other}
use Rattle.formula_walk.proofs.list.Goals as goal

pub overflow_add-result : goal.overflow_add-result
overflow_add-result c = let m : MayCount Count c.args.listed = rw c.in-Count.is at c.requires in omega (arith, m)

pub returns-in-Count : goal.returns-in-Count
returns-in-Count c = rw c.in-Count.is refl

pub returns-then-o-k : goal.returns-then-o-k
returns-then-o-k c = c.put_triple.ensures ∙ listed-step (record { step = c.args.o.step; condition = c.args.o.condition; named = c.args.named }) _ c.in-List.is c.if-o-k.true

pub returns-else-o-k : goal.returns-else-o-k
returns-else-o-k c = listed_other (record { step = c.args.o.step; condition = c.args.o.condition; named = c.args.named }) _ c.in-List.is c.if-o-k.false
