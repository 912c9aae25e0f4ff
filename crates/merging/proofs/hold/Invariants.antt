use Rattle.std.proofs.Common.{get_or}
use Rattle.model.specs.Access.{hold_half}
use Rattle.merging.specs.contracts.fn.hold.each_half as closure
use Rattle.merging.proofs.hold.Given as goal

abbrev pub ghost-each_half : goal.ghost-each_half
ghost-each_half a = let f = closure.captures a.half in λ k. hold_half f.unknown f.enable.0 (get_or f.held.now k 0)
