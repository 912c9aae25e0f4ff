use Rattle.std.proofs.Common.{◌+◌, arith}
use Rattle.tokens.proofs.TokenLaws.{rest_behind, predicate_chosen}
use Rattle.tokens.proofs.predicate_token.Goals as goal

pub number_token-requires : goal.number_token-requires
number_token-requires c = (c.requires, rest_behind {j = c.args.at + 1} (omega arith) c.read_number-n.ensures.left)

pub returns : goal.returns
returns c = c.number_token.ensures _ (predicate_chosen c.args.text.now c.args.at (c.args.at + 1) c.args.predicates (omega arith) c.read_number-n.ensures.is c.good_predicate.ensures)
