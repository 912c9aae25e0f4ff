use Rattle.std.proofs.Common.{◌≡◌, refl, Err, ◌∙◌, rules, arith}
use lib.ListN.{length-take}
use Rattle.reading.proofs.FindLaws.{access_here}
use Rattle.reading.proofs.LayoutLaws.{size-most}
use Rattle.rows.proofs.CallLaws.{valid_few}
use Rattle.case_entries.proofs.WordLaws.{valid_ported}
use Rattle.case_access.proofs.OneLaws.{step_here, one-missing, step-ports}
use Rattle.case_access.proofs.do_one.Goals as goal

pub returns-in_err-access-clause-step : goal.returns-in_err-access-clause-step
returns-in_err-access-clause-step c =
    let q : c.from_residual.result ≡ Err c.in_err-access.field-0.0 = search rules in
    one-missing c.args.file.now _ (rw (c.begin-reader.ensures.0, c.begin-reader.ensures.1) at c.in_err-access.ensures.access) q

pub slice_bounds-ops-end : goal.slice_bounds-ops-end
slice_bounds-ops-end c =
    let f = valid_few _ c.requires.0.valid in
    let z = size-most c.args.c.memory.fields.sizes.n c.args.c.memory.fields.sizes.w c.in_ok-access.access.kind in
    omega (arith, f.0, f.1, z, c.operands.ensures)

pub slice_bounds-ops-end-2 : goal.slice_bounds-ops-end-2
slice_bounds-ops-end-2 c =
    let f = valid_few _ c.requires.0.valid in
    let z = size-most c.args.c.memory.fields.sizes.n c.args.c.memory.fields.sizes.w c.in_ok-access.access.kind in
    simp length-take (omega (arith, f.0, f.1, z, c.operands.ensures))

pub read_numbers-requires : goal.read_numbers-requires
read_numbers-requires c =
    let f = valid_few _ c.requires.0.valid in
    let z = size-most c.args.c.memory.fields.sizes.n c.args.c.memory.fields.sizes.w c.in_ok-access.access.kind in
    let S = access_here c.args.file.now c.args.c.at _ _ refl (rw (c.begin-reader.ensures.0, c.begin-reader.ensures.1) at c.in_ok-access.ensures.access) in
    simp length-take (omega (arith, f.0, f.1, z, c.operands.ensures, S.inside))

pub do_access-requires : goal.do_access-requires
do_access-requires c =
    let f = valid_few _ c.requires.0.valid in
    let z = size-most c.args.c.memory.fields.sizes.n c.args.c.memory.fields.sizes.w c.in_ok-access.access.kind in
    let S = access_here c.args.file.now c.args.c.at _ _ refl (rw (c.begin-reader.ensures.0, c.begin-reader.ensures.1) at c.in_ok-access.ensures.access) in
    (c.requires.0, c.requires.1, S.known, c.read_numbers.auto.to ∙ simp length-take (omega (arith, f.0, f.1, z, c.operands.ensures)))

pub returns-clause-step : goal.returns-clause-step
returns-clause-step c =
    let f = valid_few _ c.requires.0.valid in
    let z = size-most c.args.c.memory.fields.sizes.n c.args.c.memory.fields.sizes.w c.in_ok-access.access.kind in
    let S = access_here c.args.file.now c.args.c.at _ _ refl (rw (c.begin-reader.ensures.0, c.begin-reader.ensures.1) at c.in_ok-access.ensures.access) in
    let g = rw (c.begin-reader.ensures.0, c.begin-reader.ensures.1) at c.next.ensures.goes_on.1 in (
      step_here c.args.file.now _ S g (simp length-take (omega (arith, f.0, f.1, z, c.operands.ensures))) c.read_numbers.ensures c.do_access.ensures.step,
      step-ports _ _ _ (valid_ported c.args.c.memory c.args.words.now c.args.list.now c.args.ports.now c.requires.0.valid) c.requires.1 c.do_access.ensures.step,
    )
