use Rattle.std.proofs.Common.{sym, ◌∙◌, arith}
use Rattle.searching.proofs.SearchingLaws.{came_further, came_at, came-nowhere}
use Rattle.searching.proofs.search.Goals as goal

pub returns-then-has_words : goal.returns-then-has_words
returns-then-has_words c = came_at c.loop-i.invariant c.loop-i-test.true (sym c.has_words.ensures ∙ c.if-has_words.true) (omega (arith, c.max-larger.ensures))

pub loop-i-preserved : goal.loop-i-preserved
loop-i-preserved c = came_further c.loop-i.invariant (sym c.has_words.ensures ∙ c.if-has_words.false) (rw c.paired-x.ensures at c.pass-i.ensures.0)

pub returns : goal.returns
returns c = came-nowhere c.loop-i.invariant (omega arith) (omega (arith, c.max-larger.ensures))
