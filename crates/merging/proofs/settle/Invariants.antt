use Rattle.model.specs.Access.{settle_half}
use Rattle.merging.specs.contracts.fn.settle.each_half as closure
use Rattle.merging.proofs.settle.Given as goal

abbrev pub ghost-each_half : goal.ghost-each_half
ghost-each_half a = let f = closure.captures a.half in λ k. settle_half f.inside
