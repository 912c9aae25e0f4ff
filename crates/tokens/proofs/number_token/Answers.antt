use Rattle.std.proofs.Common.{sym, ◌∙◌}
use Rattle.tokens.proofs.TokenLaws.{number-none, number-wrong, number_good}
use Rattle.tokens.proofs.number_token.Goals as goal

pub returns-then-end-at : goal.returns-then-end-at
returns-then-end-at c = λ good g. number-none c.args.text.now c.args.at c.args.«end» c.requires.0 c.requires.1 good (c.if-end-at.true)

pub returns-in-Some : goal.returns-in-Some
returns-in-Some c = λ good g. number_good c.args.text.now c.args.at c.args.«end» c.requires.0 c.requires.1 good (c.if-end-at.false) (sym c.in-Some.is ∙ g) c.spaces.ensures

pub returns-in-None : goal.returns-in-None
returns-in-None c = λ good g. number-wrong c.args.text.now c.args.at c.args.«end» c.requires.0 c.requires.1 good (c.if-end-at.false) (sym c.in-None.is ∙ g)
