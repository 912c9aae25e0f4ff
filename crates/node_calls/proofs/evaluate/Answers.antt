use Rattle.std.proofs.Common.{◌≡◌, Err, ◌∙◌, arith, rules}
use Rattle.model.specs.Step.{evaluate, closed, finish_node}
use Rattle.rows.specs.Contract.{state_of}
use Rattle.node_calls.proofs.NodeLaws.{evaluate-holds}
use Rattle.rows.proofs.CallLaws.{node-turned, node_acted}
use Rattle.node_calls.proofs.evaluate.Goals as goal

pub returns-in_err-d : goal.returns-in_err-d
returns-in_err-d c =
    let e : c.from_residual.result ≡ Err c.in_err-d.field-0.0 = search rules in
    λ l. rw e (node-turned (evaluate c.args.f c.args.a) (state_of c.args.r c.args.words.now l) c.in_err-d.field-0.0 c.in_err-d.ensures.0)

pub evaluate-requires : goal.evaluate-requires
evaluate-requires c = omega (arith, (evaluate-holds c.args.r c.args.words.now c.args.f c.in_ok-d.ensures.0).1, c.in_ok-d.ensures.1.1)

pub returns : goal.returns
unfolding finish_node closed
returns c = λ l. node_acted (evaluate c.args.f c.args.a) (state_of c.args.r c.args.words.now l) c.in_ok-d.ensures.0 ∙ rw (c.evaluate.ensures, c.in_ok-d.ensures.1.0)
