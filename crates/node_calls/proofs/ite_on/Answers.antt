use Rattle.std.proofs.Common.{◌≡◌, Ok, Err, ◌∙◌, rules}
use Rattle.refusals.specs.declared.Refusal.TheVariants.{StoreFull}
use Rattle.conditions.proofs.Promises.{builds_clear, ite-builds, user_is, user_stands}
use Rattle.model.specs.Step.{ite, closed, finish_node}
use Rattle.rows.specs.Contract.{state_of, Cleared}
use Rattle.rows.proofs.CallLaws.{node_acted, nine_acts, done_acts}
use Rattle.node_calls.proofs.NodeLaws.{ite-holds}
use Rattle.node_calls.proofs.ite_on.Goals as goal

pub ite-n-requires : goal.ite-n-requires
ite-n-requires c =
    let H = ite-holds c.args.r.now c.args.words.now c.args.f c.args.g c.args.h c.requires.1 in
    rw c.begin.ensures ((user_is _ _ _ H.1).0, (user_is _ _ _ H.2).0, (user_is _ _ _ H.3).0)

pub returns-in_err-clear_where : goal.returns-in_err-clear_where
unfolding finish_node closed
returns-in_err-clear_where c =
    let H = ite-holds c.args.r.now c.args.words.now c.args.f c.args.g c.args.h c.requires.1 in
    let X = rw c.begin.ensures at c.ite-n.ensures.is in
    let b = c.ite-n.new.self in
    let C : Cleared b.words.now c.args.r.now.count b.store.full StoreFull c.clear_where.new.words (Err c.in_err-clear_where.field-0.0) = search rules in
    let e : c.from_residual.result ≡ Err c.in_err-clear_where.field-0.0 = search rules in
    λ l. rw e (node_acted (ite c.args.f c.args.g c.args.h) (state_of c.args.r.now c.args.words.now l) c.requires.1 ∙ nine_acts (state_of c.args.r.now c.args.words.now l) _ _ X (builds_clear (ite-builds H.0 (user_stands H.1) (user_stands H.2) (user_stands H.3))) C)

pub returns : goal.returns
unfolding finish_node closed
returns c =
    let X = rw c.begin.ensures at c.ite-n.ensures.is in
    let b = c.ite-n.new.self in
    let C : Cleared b.words.now c.args.r.now.count b.store.full StoreFull c.clear_where.new.words (Ok c.in_ok-clear_where.field-0) = search rules in
    λ l. node_acted (ite c.args.f c.args.g c.args.h) (state_of c.args.r.now c.args.words.now l) c.requires.1 ∙ done_acts (state_of c.args.r.now c.args.words.now l) _ _ X C
