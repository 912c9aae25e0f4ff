use Rattle.std.proofs.Common.{◌≡◌, Err, rules}
use Rattle.formula_walk.proofs.JoinLaws.{may-begin, walked-stopped, walked}
use Rattle.formula_walk.proofs.walk_text.Goals as goal

pub formula-requires : goal.formula-requires
formula-requires c = may-begin c.requires c.spaces.ensures.within

pub returns-in_err-y : goal.returns-in_err-y
returns-in_err-y c =
    let e : c.from_residual.result ≡ Err c.in_err-y.field-0.0 = search rules in
    rw e (walked-stopped c.spaces.ensures c.in_err-y.ensures)

pub returns : goal.returns
returns c = walked c.spaces.ensures c.in_ok-y.ensures c.ended.ensures
