use Rattle.std.proofs.Common.{drop, refl}
use Rattle.formulas.specs.Language.{digit}
use Rattle.tokens.proofs.TokenLaws.{left_behind, behind_digits, value_is}
use Rattle.tokens.proofs.read_number.Goals as goal

pub returns : goal.returns
returns c =
    record {
      left = left_behind digit c.args.text.now c.args.at _ _ _ c.requires c.count_digits-many.ensures refl (behind_digits (drop c.args.at c.args.text.now));
      is = value_is c.args.text.now c.args.at _ _ c.count_digits-many.ensures c.value_of.ensures;
    }
