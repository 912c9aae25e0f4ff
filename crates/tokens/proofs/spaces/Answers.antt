use Rattle.tokens.proofs.TokenLaws.{left_behind, behind_spaces}
use Rattle.std.proofs.Common.{◌==◌, drop, refl}
use Rattle.tokens.proofs.spaces.Goals as goal

pub returns : goal.returns
returns c = left_behind (λ c. c == 32) c.args.text.now c.args.at _ _ _ c.requires c.count_spaces.ensures refl (behind_spaces (drop c.args.at c.args.text.now))
