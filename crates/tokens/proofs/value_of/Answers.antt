use Rattle.std.proofs.Common.{◌∙◌, ap}
use Rattle.tokens.specs.Contract.{fitted}
use Rattle.tokens.proofs.TokenLaws.{folds-up, fitted_by}
use Rattle.tokens.proofs.value_of.Goals as goal

pub returns : goal.returns
returns c = c.ok.ensures.value ∙ fitted_by c.try_from.result c.joined_all.result c.try_from.ensures ∙ ap fitted c.joined_all.ensures ∙ folds-up 0 c.args.digits.now
