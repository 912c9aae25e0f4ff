use Rattle.std.proofs.Common.{sym, ◌∙◌, arith}
use Rattle.meets.proofs.MeetLaws.{meets_told, down_judge, down_low, down-high, meets_low, high_settles}
use Rattle.meets.proofs.+meets_within.Goals as goal

pub returns-in-Some : goal.returns-in-Some
returns-in-Some t c = sym (meets_told c.requires c.in-Some.met (sym c.judge.ensures ∙ c.in-Some.is))

pub meets_within-requires : goal.meets_within-requires
meets_within-requires t c = let q = down_low (down_judge c.requires c.judge.ensures c.in_default.is c.divide-p.ensures) in (omega (arith, q.0, c.decreases), q.1)

pub returns-then-branch : goal.returns-then-branch
returns-then-branch t c = sym (meets_low (down_judge c.requires c.judge.ensures c.in_default.is c.divide-p.ensures) (sym c.in_ok-meets_within.ensures) c.if-branch.true)

pub meets_within-requires-2 : goal.meets_within-requires-2
meets_within-requires-2 t c = let q = down-high (down_judge c.requires c.judge.ensures c.in_default.is c.divide-p.ensures) in (omega (arith, q.0, c.decreases), q.1)

pub returns : goal.returns
returns t c = high_settles (down_judge c.requires c.judge.ensures c.in_default.is c.divide-p.ensures) c.in_ok-meets_within.ensures c.if-branch.false _ c.meets_within-2.ensures
