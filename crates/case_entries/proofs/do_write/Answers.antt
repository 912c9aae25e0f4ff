use Rattle.std.proofs.Common.{◌≡◌, refl, Err, rules}
use Rattle.text.specs.Writer.{out_of}
use Rattle.case_entries.proofs.StepLaws.{plain_on, plain-stop}
use Rattle.case_entries.proofs.CallLaws.{write-told, write_cut}
use Rattle.case_entries.proofs.do_write.Goals as goal
use Rattle.case_entries.proofs.do_write.Goals.{in-Some, in-None}

pub write_on-requires : goal.write_on-requires
write_on-requires c = let L = write_cut _ _ c.args.ops.now c.ends_of-e.result c.ends_of-e.ensures.value c.requires.1 in (c.requires.0.valid, c.requires.0.sound, L.0, L.1, L.2)

pub returns-in_err-entered-clause-step : goal.returns-in_err-entered-clause-step
returns-in_err-entered-clause-step c =
    let q : c.from_residual.result ≡ Err c.in_err-entered.field-0.0 = search rules in
    plain-stop _ c.args.c.at (out_of c.args.w.now) (write-told _ _ c.args.ops.now c.ends_of-e.result 0 c.ends_of-e.ensures.value) c.requires.0 c.in_err-entered.ensures refl q

pub returns-clause-step : goal.returns-clause-step
returns-clause-step c =
    plain_on _ c.args.c.at (out_of c.args.w.now) (write-told _ _ c.args.ops.now c.ends_of-e.result 0 c.ends_of-e.ensures.value) c.requires.0 c.in_ok-entered.ensures refl _
    (λ ps. elim c.match-entered.branch [
      | in-Some w ↦ rw (w.w-is, w.in-Some.is) w.put_write.ensures.is
      | in-None w ↦ rw (w.w-is, w.in-None.is) w.put_idle.ensures.is
    ])
    c.printed.ensures
