use Rattle.formula_calls.specs.Call.{asserting}
use Rattle.formula_calls.proofs.PortLaws.{formula_any-ports}
use Rattle.formula_record.proofs.assert_formula.Goals as goal

pub returns : goal.returns
returns c = formula_any-ports asserting _ _ _ _ _ _ _ c.assert_formula-told.ensures
