use Rattle.casefile.proofs.RestLaws.{bytes_left, end-over, end_fits}
use Rattle.casefile.proofs.accesses.finish.Goals as goal

pub returns-then-c-file-clause-last : goal.returns-then-c-file-clause-last
returns-then-c-file-clause-last c = λ k w l ps. bytes_left c.args.file.now k c.args.c w l ps c.args.w.now c.if-c-file.true

pub returns-then-w-clause-last : goal.returns-then-w-clause-last
returns-then-w-clause-last c = λ k w l ps. end-over c.args.file.now k c.args.c w l ps c.args.w.now c.if-c-file.false c.put_end.new.w c.put_end.ensures.is c.if-w.true

pub returns-clause-last : goal.returns-clause-last
returns-clause-last c = λ k w l ps. end_fits c.args.file.now k c.args.c w l ps c.args.w.now c.if-c-file.false c.put_end.new.w c.put_end.ensures.is c.if-w.false
