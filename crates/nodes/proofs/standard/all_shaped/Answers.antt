use Rattle.std.proofs.Common.{rules, refl}
use borrow.Author.Tests.{tests}
use Rattle.nodes.specs.Standard.{shaped}
use Rattle.nodes.proofs.RangeLaws.{every_from_all}
use Rattle.nodes.proofs.standard.all_shaped.Goals as goal

pub returns : goal.returns
returns c = every_from_all (shaped c.args.words.now) 2 _ _ refl _ _ _ c.all.ensures.ran (λ x q k. search (rules, tests)) (λ x q k. search (rules, tests))
