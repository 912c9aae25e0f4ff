use Rattle.formula_calls.specs.Call.{checking}
use Rattle.formula_calls.proofs.PortLaws.{formula_any-ports}
use Rattle.formula_record.proofs.check_formula.Goals as goal

pub returns : goal.returns
returns c = formula_any-ports checking _ _ _ _ _ _ _ c.check_formula-told.ensures
