use Rattle.std.proofs.Common.{◌≡◌, Err, rules}
use Rattle.model.specs.Step.{kept}
use Rattle.making.proofs.AssertsAccess.access.Goals as goal

pub returns-in_err-assert_on-clause-made : goal.returns-in_err-assert_on-clause-made
returns-in_err-assert_on-clause-made c =
    let e : c.from_residual.result ≡ Err c.in_err-assert_on.field-0.0 = search rules in
    rw e (record { gives = kept; is = c.in_err-assert_on.ensures })
