use Rattle.std.proofs.Common.{arith}
use Rattle.preparing.proofs.PassLaws.{none_written, may-walk, walk-reads, step-written, all_listed}
use Rattle.preparing.proofs.list_steps.Goals as goal

pub loop-step-init : goal.loop-step-init
loop-step-init c = none_written c.requires

pub walk_text-requires : goal.walk_text-requires
walk_text-requires c = may-walk c.loop-step.invariant

pub unwrap-x-requires : goal.unwrap-x-requires
unwrap-x-requires c = walk-reads c.loop-step.invariant c.walk_text.ensures

pub loop-step-preserved : goal.loop-step-preserved
loop-step-preserved c = step-written c.loop-step.invariant c.loop-step-test.true c.walk_text.ensures c.unwrap-x.ensures

pub returns-after-loop-step : goal.returns-after-loop-step
returns-after-loop-step c = all_listed c.loop-step.invariant (λ a b. omega arith)

pub returns-then-listed-written : goal.returns-then-listed-written
returns-then-listed-written c = all_listed c.loop-step.invariant (λ a b. omega arith)
