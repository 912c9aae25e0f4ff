use Rattle.formula_calls.specs.Call.{checking}
use Rattle.formula_words.proofs.FormulaLaws.{formula_is}
use Rattle.formula_words.proofs.check_formula.Goals as goal

pub returns : goal.returns
returns c = formula_is checking c.args.text.now c.args.table.now c.args.«record».now c.args.nodes.now c.args.list.now c.args.answer.now c.args.listed.now c.args.made.now c.args.place.now c.check_formula-x.result.answer c.record_of-r.ensures c.check_formula-x.ensures c.put_record.ensures c.tell.ensures
