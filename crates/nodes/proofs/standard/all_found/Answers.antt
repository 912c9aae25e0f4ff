use Rattle.std.proofs.Common.{rules, arith}
use borrow.Author.Tests.{tests}
use Rattle.nodes.specs.Certificate.{found}
use Rattle.nodes.proofs.RangeLaws.{every_from_all}
use Rattle.nodes.proofs.standard.all_found.Goals as goal

pub returns : goal.returns
returns c = every_from_all (found c.args.words.now c.args.head.now c.args.next.now c.args.count) 0 _ _ (omega arith) _ _ _ c.all.ensures.ran (λ x q k. search (rules, tests)) (λ x q k. search (rules, tests))
