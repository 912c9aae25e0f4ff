use Rattle.std.proofs.Common.{get_or}
use Rattle.model.specs.Access.{merge_half}
use Rattle.merging.specs.contracts.fn.merge.each_half as closure
use Rattle.merging.proofs.merge.Given as goal

abbrev pub ghost-each_half : goal.ghost-each_half
ghost-each_half a = let f = closure.captures a.half in λ k. merge_half f.hard f.soft (get_or f.data.now k 0)
