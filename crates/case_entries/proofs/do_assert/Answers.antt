use Rattle.std.proofs.Common.{◌≡◌, refl, [], Err, rules, arith}
use Rattle.text.specs.Writer.{out_of}
use Rattle.format.specs.declared.Kind.TheVariants as kinds
use Rattle.reading.proofs.LayoutLaws.{known-size}
use Rattle.case_entries.proofs.WordLaws.{after-standard, asserted-below}
use Rattle.case_entries.proofs.StepLaws.{plain_on, plain-stop}
use Rattle.case_entries.proofs.CallLaws.{assert-told, assert_cut}
use Rattle.case_entries.proofs.do_assert.Goals as goal
use Rattle.case_entries.proofs.do_assert.Goals.{in-Entered, in_default}

pub bounds-ops-0 : goal.bounds-ops-0
bounds-ops-0 c = omega (arith, c.requires.1, known-size c.args.c.memory.fields.sizes.n c.args.c.memory.fields.sizes.w kinds.Assert refl)

pub assert_on-requires : goal.assert_on-requires
assert_on-requires c = let L = assert_cut _ _ c.args.ops.now c.ends_of-e.result c.ends_of-e.ensures.value c.requires.1 in (c.requires.0.valid, c.requires.0.sound, L.1, L.2)

pub returns-in_err-asserted-clause-step : goal.returns-in_err-asserted-clause-step
returns-in_err-asserted-clause-step c =
    let q : c.from_residual.result ≡ Err c.in_err-asserted.field-0.0 = search rules in
    plain-stop _ c.args.c.at (out_of c.args.w.now) (assert-told _ _ c.args.ops.now c.ends_of-e.result 0 c.ends_of-e.ensures.value) c.requires.0 c.in_err-asserted.ensures refl q

pub invariant_of-d : goal.invariant_of-d
invariant_of-d c = record { standard = after-standard _ c.requires.0.valid (c.assert_on.ensures.is []) }

pub put_assert-requires : goal.put_assert-requires
put_assert-requires c = asserted-below _ c.requires.0.valid (c.assert_on.ensures.is [])

pub returns-clause-step : goal.returns-clause-step
returns-clause-step c =
    plain_on _ c.args.c.at (out_of c.args.w.now) (assert-told _ _ c.args.ops.now c.ends_of-e.result 0 c.ends_of-e.ensures.value) c.requires.0 c.in_ok-asserted.ensures refl c.put_assert.new.w
    (λ ps. elim c.match-matches.branch [
      | in-Entered w ↦ rw (w.in-Entered.is) (rw w.matches-is at c.put_assert.ensures.is)
      | in_default w ↦ rw (w.in_default.is) (rw w.matches-is at c.put_assert.ensures.is)
    ])
    c.printed.ensures
