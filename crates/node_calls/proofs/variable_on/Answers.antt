use Rattle.std.proofs.Common.{◌≡◌, Ok, Err, ◌∙◌, rules}
use Rattle.refusals.specs.declared.Refusal.TheVariants.{StoreFull}
use Rattle.conditions.proofs.Promises.{builds_clear, variable-builds}
use Rattle.model.specs.Step.{variable, closed, finish_node}
use Rattle.rows.specs.Contract.{state_of, Cleared}
use Rattle.rows.proofs.CallLaws.{node_acted, nine_acts, done_acts}
use Rattle.node_calls.proofs.NodeLaws.{variable-holds}
use Rattle.node_calls.proofs.variable_on.Goals as goal

pub returns-in_err-clear_where : goal.returns-in_err-clear_where
unfolding finish_node closed
returns-in_err-clear_where c =
    let H = variable-holds c.args.r.now c.args.words.now c.args.v c.requires.1 in
    let X = rw c.begin.ensures at c.variable-n.ensures.is in
    let b = c.variable-n.new.self in
    let C : Cleared b.words.now c.args.r.now.count b.store.full StoreFull c.clear_where.new.words (Err c.in_err-clear_where.field-0.0) = search rules in
    let e : c.from_residual.result ≡ Err c.in_err-clear_where.field-0.0 = search rules in
    λ l. rw e (node_acted (variable c.args.v) (state_of c.args.r.now c.args.words.now l) c.requires.1 ∙ nine_acts (state_of c.args.r.now c.args.words.now l) _ _ X (builds_clear (variable-builds H.0 H.1)) C)

pub returns : goal.returns
unfolding finish_node closed
returns c =
    let X = rw c.begin.ensures at c.variable-n.ensures.is in
    let b = c.variable-n.new.self in
    let C : Cleared b.words.now c.args.r.now.count b.store.full StoreFull c.clear_where.new.words (Ok c.in_ok-clear_where.field-0) = search rules in
    λ l. node_acted (variable c.args.v) (state_of c.args.r.now c.args.words.now l) c.requires.1 ∙ done_acts (state_of c.args.r.now c.args.words.now l) _ _ X C
