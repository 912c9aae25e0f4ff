use Rattle.std.proofs.Common.{arith}
use Rattle.meets.proofs.MeetLaws.{judged, notes-more, down, down_low, down-high, meets_low, meets-high}
use Rattle.meets.proofs.+meets_in.Goals as goal

pub returns-in-Some : goal.returns-in-Some
returns-in-Some t c = (judged c.requires.0 c.requires.1 c.in-Some.met c.judge_noted.ensures c.in-Some.is, c.requires.1)

pub meets_in-requires : goal.meets_in-requires
meets_in-requires t c = let q = down_low (down c.args.notes.now c.requires.0 c.judge_noted.ensures c.in_default.is c.divide-p.ensures) in (omega (arith, q.0, c.decreases), (q.1, c.requires.1))

pub returns-then-meets_in : goal.returns-then-meets_in
returns-then-meets_in t c = (meets_low (down c.args.notes.now c.requires.0 c.judge_noted.ensures c.in_default.is c.divide-p.ensures) c.meets_in.ensures.0 c.if-meets_in.true, c.meets_in.ensures.1)

pub meets_in-requires-2 : goal.meets_in-requires-2
meets_in-requires-2 t c = let q = down-high (down c.args.notes.now c.requires.0 c.judge_noted.ensures c.in_default.is c.divide-p.ensures) in (omega (arith, q.0, c.decreases), (q.1, c.meets_in.ensures.1))

pub returns-then-meets_in-2 : goal.returns-then-meets_in-2
returns-then-meets_in-2 t c = (meets-high (down c.args.notes.now c.requires.0 c.judge_noted.ensures c.in_default.is c.divide-p.ensures) c.meets_in.ensures.0 c.if-meets_in.false c.meets_in-2.ensures.0 c.if-meets_in-2.true, c.meets_in-2.ensures.1)

pub returns : goal.returns
returns t c = let m = meets-high (down c.args.notes.now c.requires.0 c.judge_noted.ensures c.in_default.is c.divide-p.ensures) c.meets_in.ensures.0 c.if-meets_in.false c.meets_in-2.ensures.0 c.if-meets_in-2.false in (m, rw c.note.ensures (notes-more c.requires.0 c.meets_in-2.ensures.1 m))
