use Rattle.capi_cases.proofs.CaseLaws.{case-accepted, case-refused}
use Rattle.capi_cases.proofs.md_case.Goals as goal

pub returns-in-Ok : goal.returns-in-Ok
returns-in-Ok c = case-accepted c.args.case.now c.args.nodes.now c.args.list.now c.args.text.now c.args.record.now c.in-Ok.ensures c.put_record.ensures

pub returns-in-Err : goal.returns-in-Err
returns-in-Err c = case-refused c.args.case.now c.args.nodes.now c.args.list.now c.args.text.now c.args.record.now c.in-Err.refused c.in-Err.ensures c.number.ensures c.from.ensures
