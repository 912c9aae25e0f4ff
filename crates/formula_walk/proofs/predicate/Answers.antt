use Rattle.std.proofs.Common.{◌≡◌, Err, length, rules, arith}
use Rattle.tokens.proofs.TokenLaws.{starts_in}
use Rattle.formula_walk.proofs.PlaceLaws.{may-count, named-stopped, named-taken}
use Rattle.formula_walk.proofs.predicate.Goals as goal

pub predicate_token-requires : goal.predicate_token-requires
predicate_token-requires c = starts_in c.args.text.now c.args.x.at 109 c.requires.1

pub returns-in_err-t : goal.returns-in_err-t
returns-in_err-t c =
    let e : c.from_residual.result ≡ Err c.in_err-t.field-0.0 = search rules in
    rw e (named-stopped c.in_err-t.ensures)

pub list-requires : goal.list-requires
list-requires c = may-count c.args.g.pass c.args.x (length c.args.text.now) c.requires.0.counts (starts_in c.args.text.now c.args.x.at 109 c.requires.1) (omega arith)

pub returns : goal.returns
returns c = named-taken c.in_ok-t.ensures c.list.ensures
