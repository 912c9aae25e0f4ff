use Rattle.std.proofs.Common.{arith}
use Rattle.formula_walk.proofs.OutLaws.{put-fits, put_full}
use Rattle.formula_walk.proofs.put_triple.Goals as goal

pub returns-then-listed-out : goal.returns-then-listed-out
returns-then-listed-out c = put-fits (record { step = c.args.o.step; condition = c.args.o.condition; named = c.args.named }) c.args.listed c.args.out.now (omega arith) _ _ (omega arith) c.copy_from_slice.ensures.after

pub returns : goal.returns
returns c = put_full (record { step = c.args.o.step; condition = c.args.o.condition; named = c.args.named }) c.args.listed c.args.out.now (omega arith)
