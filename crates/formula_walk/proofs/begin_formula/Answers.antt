use Rattle.std.proofs.Common.{◌≡◌, Err, ap, not, arith, rules}
use Rattle.nodes.proofs.TestLaws.{test_fails, test-holds}
use Rattle.tokens.proofs.TokenLaws.{starts_in}
use Rattle.formula_walk.proofs.WalkLaws.{leads_conjunction, when-stopped, when-node, when_open, when-inside}
use Rattle.formula_walk.proofs.begin_formula.Goals as goal

pub returns-then-not-stands : goal.returns-then-not-stands
returns-then-not-stands c = (c.requires, λ out. leads_conjunction (test_fails c.stands.ensures (ap not c.if-not-stands.true)))

pub arrow-requires : goal.arrow-requires
arrow-requires c = (starts_in c.args.text.now c.args.x.at 98 (test-holds c.stands.ensures (ap not c.if-not-stands.false)), c.requires.two, c.requires.older)

pub returns-in_err-t : goal.returns-in_err-t
returns-in_err-t c =
    let e : c.from_residual.result ≡ Err c.in_err-t.field-0.0 = search rules in
    rw e (λ out. when-stopped c.requires (test-holds c.stands.ensures (ap not c.if-not-stands.false)) out c.in_err-t.ensures)

pub condition_in-c-requires : goal.condition_in-c-requires
condition_in-c-requires c = (c.requires.node, when-node c.requires (test-holds c.stands.ensures (ap not c.if-not-stands.false)) c.in_ok-t.ensures)

pub inner-requires : goal.inner-requires
inner-requires c = (when_open c.requires (test-holds c.stands.ensures (ap not c.if-not-stands.false)) c.in_ok-t.ensures, c.requires.begins.nested, omega arith)

pub returns : goal.returns
returns c = when-inside c.requires (test-holds c.stands.ensures (ap not c.if-not-stands.false)) c.in_ok-t.ensures c.condition_in-c.ensures c.inner.ensures
