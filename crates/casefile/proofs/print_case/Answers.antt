use Rattle.std.proofs.Common.{arith}
use Rattle.casefile.proofs.FitLaws.{done-fits}
use Rattle.text.proofs.TextLaws.{text-within}
use Rattle.casefile.proofs.print_case.Goals as goal

pub returns-in-Ok-clause-within : goal.returns-in-Ok-clause-within
returns-in-Ok-clause-within c = omega (arith, done-fits _ _ _ _ _ _ _ c.in-Ok.is c.run_case.ensures, c.run_case.auto.text)

pub returns-in-Err-clause-within : goal.returns-in-Err-clause-within
returns-in-Err-clause-within c = omega (arith, text-within _ _ (rw c.new-w.ensures.begun at c.put_refused.ensures.is), c.put_refused.ensures.same.long, c.new-w.ensures.begun)
