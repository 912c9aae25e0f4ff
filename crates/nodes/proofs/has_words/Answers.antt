use Rattle.nodes.proofs.WordsLaws.{high-differs, low-differs, var_decides}
use Rattle.nodes.proofs.has_words.Goals as goal

pub returns-then-high-hi : goal.returns-then-high-hi
returns-then-high-hi c = high-differs _ _ _ _ _ c.high.ensures c.if-high-hi.true

pub returns-then-low-lo : goal.returns-then-low-lo
returns-then-low-lo c = low-differs _ _ _ _ _ c.low.ensures c.if-low-lo.true

pub returns : goal.returns
returns c = var_decides _ _ _ _ _ c.high.ensures c.if-high-hi.false c.low.ensures c.if-low-lo.false c.top.ensures
