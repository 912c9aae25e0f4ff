use Rattle.std.proofs.Common.{◌≡◌, Ok, Err, ◌∙◌, arith, rules, length-take}
use Rattle.std.proofs.lemmas.Bool.{true≢false}
use Rattle.model.specs.Step.{check, closed, finish_access}
use Rattle.refusals.specs.declared.Refusal.TheVariants.{StoreFull}
use Rattle.rows.specs.Contract.{state_of, Cleared}
use Rattle.rows.proofs.CallLaws.{turned_on, acted, nine_acts, done_acts, over-sound}
use Rattle.check_access.proofs.CheckLaws.{check-holds}
use Rattle.check_access.proofs.check_on.Goals as goal

pub returns-in_err-check_row : goal.returns-in_err-check_row
returns-in_err-check_row c =
    let e : c.from_residual.result ≡ Err c.in_err-check_row.field-0.0 = search rules in
    rw e (turned_on (check c.args.b.0 c.args.address.now c.args.«data».now) (state_of c.args.r.now c.args.words.now c.args.list.now) _ c.in_err-check_row.ensures)

pub slice_bounds-word-end : goal.slice_bounds-word-end
slice_bounds-word-end c =
    let H = check-holds c.args.r.now c.args.words.now c.args.list.now c.args.b.0 c.args.address.now c.args.«data».now c.in_ok-check_row.ensures in
    omega (arith, H.rows.wide, c.cell_words-size.ensures)

pub slice_bounds-check_builds-end : goal.slice_bounds-check_builds-end
slice_bounds-check_builds-end c =
    let H = check-holds c.args.r.now c.args.words.now c.args.list.now c.args.b.0 c.args.address.now c.args.«data».now c.in_ok-check_row.ensures in
    simp length-take (omega (arith, H.rows.wide, c.cell_words-size.ensures))

pub check_builds-checked-requires : goal.check_builds-checked-requires
check_builds-checked-requires c =
    let H = check-holds c.args.r.now c.args.words.now c.args.list.now c.args.b.0 c.args.address.now c.args.«data».now c.in_ok-check_row.ensures in
    rw c.begin.ensures (H.rows.looks, simp length-take (omega (arith, H.rows.wide, c.cell_words-size.ensures)), c.requires.3, H.rows.word, H.rows.control, H.checked)

pub returns-in_err-clear_where : goal.returns-in_err-clear_where
unfolding finish_access closed
returns-in_err-clear_where c =
    let H = check-holds c.args.r.now c.args.words.now c.args.list.now c.args.b.0 c.args.address.now c.args.«data».now c.in_ok-check_row.ensures in
    let i = rw c.begin.ensures at c.check_builds-checked.ensures.is in
    let o : Cleared c.check_builds-checked.new.build.words.now c.args.r.now.count c.check_builds-checked.new.build.store.full StoreFull c.clear_where.new.words (Err c.in_err-clear_where.field-0.0) = search rules in
    let e : c.from_residual-in_err-clear_where.result ≡ Err c.in_err-clear_where.field-0.0 = search rules in
    rw e (record { is = acted (check c.args.b.0 c.args.address.now c.args.«data».now) (state_of c.args.r.now c.args.words.now c.args.list.now) c.in_ok-check_row.ensures ∙ nine_acts (state_of c.args.r.now c.args.words.now c.args.list.now) _ _ i H.clears o; sound = λ z. absurd (true≢false z) })

pub returns : goal.returns
unfolding finish_access closed
returns c =
    let i = rw c.begin.ensures at c.check_builds-checked.ensures.is in
    let o : Cleared c.check_builds-checked.new.build.words.now c.args.r.now.count c.check_builds-checked.new.build.store.full StoreFull c.clear_where.new.words (Ok tt) = search rules in
    record { is = acted (check c.args.b.0 c.args.address.now c.args.«data».now) (state_of c.args.r.now c.args.words.now c.args.list.now) c.in_ok-check_row.ensures ∙ done_acts (state_of c.args.r.now c.args.words.now c.args.list.now) _ _ i o; sound = λ z. over-sound _ _ o (search (rules, c.check_builds-checked.new.build.sound)) }
