use Rattle.std.proofs.Common.{◌≡◌, refl, [], Err, rules, arith}
use Rattle.text.specs.Writer.{out_of}
use Rattle.format.specs.declared.Kind.TheVariants as kinds
use Rattle.reading.proofs.LayoutLaws.{known-size}
use Rattle.case_entries.proofs.WordLaws.{after-standard, checked-below}
use Rattle.case_entries.proofs.StepLaws.{plain_on, plain-stop}
use Rattle.case_entries.proofs.CallLaws.{check-told, check_cut}
use Rattle.case_looks.proofs.do_check.Goals as goal

pub bounds-ops-0 : goal.bounds-ops-0
bounds-ops-0 c = omega (arith, c.requires.1, known-size c.args.c.memory.fields.sizes.n c.args.c.memory.fields.sizes.w kinds.Check refl)

pub check_on-requires : goal.check_on-requires
check_on-requires c = let L = check_cut _ _ c.args.ops.now c.ends_of-e.result c.ends_of-e.ensures.value c.requires.1 in (c.requires.0.valid, c.requires.0.sound, L.1, L.2)

pub returns-in_err-check_on-clause-step : goal.returns-in_err-check_on-clause-step
returns-in_err-check_on-clause-step c =
    let q : c.from_residual.result ≡ Err c.in_err-check_on.field-0.0 = search rules in
    plain-stop _ c.args.c.at (out_of c.args.w.now) (check-told _ _ c.args.ops.now c.ends_of-e.result 0 c.ends_of-e.ensures.value) c.requires.0 c.in_err-check_on.ensures refl q

pub invariant_of-d : goal.invariant_of-d
invariant_of-d c = record { standard = after-standard _ c.requires.0.valid (c.check_on.ensures.is []) }

pub put_check-requires : goal.put_check-requires
put_check-requires c = checked-below _ c.requires.0.valid (c.check_on.ensures.is [])

pub returns-clause-step : goal.returns-clause-step
returns-clause-step c = plain_on _ c.args.c.at (out_of c.args.w.now) (check-told _ _ c.args.ops.now c.ends_of-e.result 0 c.ends_of-e.ensures.value) c.requires.0 c.in_ok-check_on.ensures refl c.put_check.new.w (λ ps. c.put_check.ensures.is) c.printed.ensures
