use Rattle.std.proofs.Common.{sym, ◌∙◌, arith}
use Rattle.nodes.proofs.CertificateLaws.{walk_end, walk-past, walk_hit, walk_step}
use Rattle.nodes.proofs.standard.find_in_chain.Goals as goal

pub returns-then-n-count : goal.returns-then-n-count
returns-then-n-count c = sym (walk-past _ _ _ _ _ _ (omega arith) c.if-n-count.true) ∙ c.loop.invariant

pub returns-then-number-x : goal.returns-then-number-x
returns-then-number-x c = sym (walk_hit _ _ _ _ _ _ (omega arith) c.if-n-count.false (sym c.number.ensures ∙ c.if-number-x.true)) ∙ c.loop.invariant

pub loop-preserved : goal.loop-preserved
loop-preserved c = sym (walk_step _ _ _ _ _ _ _ (omega arith) c.if-n-count.false (λ e. c.if-number-x.false (c.number.ensures ∙ e))) ∙ c.loop.invariant

pub returns : goal.returns
returns c = sym (walk_end _ _ _ _ _ _ (omega arith)) ∙ c.loop.invariant
