use Rattle.casefile.proofs.RestLaws.{case-done}
use Rattle.casefile.proofs.RestLaws.{case-refused}
use Rattle.casefile.proofs.run_case.Goals as goal

pub returns-then-is_err : goal.returns-then-is_err
returns-then-is_err c = case-refused c.args.case.now c.args.words.now c.args.list.now c.args.text.now _ _ _ _ c.whole-answer.ensures c.if-is_err.ensures.value c.whole-answer.auto.words c.whole-answer.auto.list c.whole-answer.auto.buf (c.fill.ensures.after (λ y e. e)) (c.fill-then-is_err.ensures.after (λ y e. e)) (c.fill-then-is_err-2.ensures.after (λ y e. e))

pub returns-else-is_err : goal.returns-else-is_err
returns-else-is_err c = case-done c.args.case.now c.args.words.now c.args.list.now c.args.text.now _ _ _ _ c.whole-answer.ensures c.if-is_err.ensures.value
