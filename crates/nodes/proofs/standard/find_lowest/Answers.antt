use Rattle.std.proofs.Common.{rules, ◌∙◌}
use borrow.Author.Tests.{tests}
use Rattle.nodes.specs.Words.{has_words}
use Rattle.nodes.specs.Standard.{lowest}
use Rattle.nodes.proofs.RangeLaws.{seek_from_find}
use Rattle.nodes.proofs.standard.find_lowest.Goals as goal

pub returns : goal.returns
unfolding lowest
returns c = c.unwrap_or.ensures ∙ seek_from_find (has_words c.args.words.now c.args.v c.args.lo c.args.hi) _ _ _ _ c.find.ensures.ran (λ x q k. search (rules, tests)) (λ x q k. search (rules, tests))
