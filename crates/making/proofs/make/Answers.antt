use Rattle.std.proofs.Common.{refl, arith}
use Rattle.making.proofs.MakingLaws.{none_so_far, so_far-named, may-access, so_far-next, so_far-refused, so_far_all}
use Rattle.making.proofs.make.Goals as goal

pub loop-made-init : goal.loop-made-init
loop-made-init g c = (g.met.A.Access.keeps_refl _, none_so_far _ _ _ _ _ _ _ _ c.requires.ready)

pub named_at-requires : goal.named_at-requires
named_at-requires g c = so_far-named c.loop-made.invariant.1 (c.requires.named _ c.loop-made-test.true)

pub access-x-requires : goal.access-x-requires
access-x-requires g c = may-access (so_far-named c.loop-made.invariant.1 (c.requires.named _ c.loop-made-test.true)) c.loop-made.invariant.1.ready c.named_at.ensures.address c.named_at.ensures.data

pub returns-in-Err-clause-made : goal.returns-in-Err-clause-made
returns-in-Err-clause-made g c = so_far-refused c.loop-made.invariant.1 c.loop-made-test.true refl c.named_at.ensures.address c.named_at.ensures.data c.in-Err.ensures.made

pub loop-made-preserved : goal.loop-made-preserved
loop-made-preserved g c = (
  g.met.A.Access.keeps_trans _ _ _ c.loop-made.invariant.0 c.in_default.ensures.same,
  so_far-next c.loop-made.invariant.1 c.loop-made-test.true refl c.named_at.ensures.address c.named_at.ensures.data c.in_default.ensures.made,
)

pub returns : goal.returns
returns g c = record { same = c.loop-made.invariant.0; made = so_far_all c.loop-made.invariant.1 (omega arith) }
