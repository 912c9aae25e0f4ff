use Rattle.std.proofs.Common.{◌≡◌, Ok, Err, List, ℕ, sym, ap, ◌∙◌, arith, rules, length-take}
use Rattle.std.proofs.lemmas.Bool.{true≢false}
use Rattle.conditions.specs.Build.{Outcome}
use Rattle.conditions.specs.Stores.{clear_of}
use Rattle.model.specs.Access as built
use Rattle.model.specs.Step.{assert, closed, finish_access}
use Rattle.refusals.specs.declared.Refusal.TheVariants.{StoreFull}
use Rattle.rows.specs.Contract.{state_of, Cleared}
use Rattle.rows.proofs.CallLaws.{turned_on, acted, nine_acts, done_acts, left_by}
use Rattle.assert_access.proofs.AssertLaws.{assert-holds, enter-words}
use Rattle.assert_access.proofs.assert_on.Goals as goal

pub returns-in_err-assert_row : goal.returns-in_err-assert_row
returns-in_err-assert_row c =
    let e : c.from_residual.result ≡ Err c.in_err-assert_row.field-0.0 = search rules in
    rw e (turned_on (assert c.args.b.0 c.args.address.now c.args.«data».now) (state_of c.args.r.now c.args.words.now c.args.list.now) _ c.in_err-assert_row.ensures)

pub slice_bounds-word-end : goal.slice_bounds-word-end
slice_bounds-word-end c =
    let H = assert-holds c.args.r.now c.args.words.now c.args.list.now c.args.b.0 c.args.address.now c.args.«data».now c.in_ok-assert_row.ensures in
    omega (arith, H.wide, c.cell_words-size.ensures)

pub slice_bounds-assert_builds-end : goal.slice_bounds-assert_builds-end
slice_bounds-assert_builds-end c =
    let H = assert-holds c.args.r.now c.args.words.now c.args.list.now c.args.b.0 c.args.address.now c.args.«data».now c.in_ok-assert_row.ensures in
    simp length-take (omega (arith, H.wide, c.cell_words-size.ensures))

pub assert_builds-q-requires : goal.assert_builds-q-requires
assert_builds-q-requires c =
    let H = assert-holds c.args.r.now c.args.words.now c.args.list.now c.args.b.0 c.args.address.now c.args.«data».now c.in_ok-assert_row.ensures in
    rw c.begin.ensures (H.looks, simp length-take (omega (arith, H.wide, c.cell_words-size.ensures)), c.requires.3, H.word, H.control, H.asserted)

pub returns-in_err-clear_where : goal.returns-in_err-clear_where
unfolding finish_access closed
returns-in_err-clear_where c =
    let H = assert-holds c.args.r.now c.args.words.now c.args.list.now c.args.b.0 c.args.address.now c.args.«data».now c.in_ok-assert_row.ensures in
    let i = rw c.begin.ensures at c.assert_builds-q.ensures.is in
    let o : Cleared c.assert_builds-q.new.build.words.now c.args.r.now.count c.assert_builds-q.new.build.store.full StoreFull c.clear_where.new.words (Err c.in_err-clear_where.field-0.0) = search rules in
    let e : c.from_residual-in_err-clear_where.result ≡ Err c.in_err-clear_where.field-0.0 = search rules in
    rw e (record { is = acted (assert c.args.b.0 c.args.address.now c.args.«data».now) (state_of c.args.r.now c.args.words.now c.args.list.now) c.in_ok-assert_row.ensures ∙ nine_acts (state_of c.args.r.now c.args.words.now c.args.list.now) _ _ i H.clears o; sound = λ z. absurd (true≢false z) })

pub enter-requires : goal.enter-requires
enter-requires c =
    let H = assert-holds c.args.r.now c.args.words.now c.args.list.now c.args.b.0 c.args.address.now c.args.«data».now c.in_ok-assert_row.ensures in
    let i = rw c.begin.ensures at c.assert_builds-q.ensures.is in
    let o : Cleared c.assert_builds-q.new.build.words.now c.args.r.now.count c.assert_builds-q.new.build.store.full StoreFull c.clear_where.new.words (Ok tt) = search rules in
    let g = left_by o in
    rw g.0 (record { few = H.few; wide = H.wide; sound = search (rules, c.assert_builds-q.new.build.sound); fits = g.1; more = rw c.begin.ensures at c.assert_builds-q.ensures.later.more; control = H.control; not_b = c.assert_builds-q.ensures.node; pairs = c.requires.2; nodes = H.looks.nodes; word = c.requires.3; clears = H.entry-clears _ i ∙ sym (ap (λ (y : Outcome built.AssertBuilt). clear_of y.words c.args.r.now.count) i ∙ H.clears) })

pub returns : goal.returns
unfolding finish_access closed
returns c =
    let H = assert-holds c.args.r.now c.args.words.now c.args.list.now c.args.b.0 c.args.address.now c.args.«data».now c.in_ok-assert_row.ensures in
    let i = rw c.begin.ensures at c.assert_builds-q.ensures.is in
    let o : Cleared c.assert_builds-q.new.build.words.now c.args.r.now.count c.assert_builds-q.new.build.store.full StoreFull c.clear_where.new.words (Ok tt) = search rules in
    let g = left_by o in
    let R = c.enter.ensures in
    record { is = acted (assert c.args.b.0 c.args.address.now c.args.«data».now) (state_of c.args.r.now c.args.words.now c.args.list.now) c.in_ok-assert_row.ensures ∙ done_acts (state_of c.args.r.now c.args.words.now c.args.list.now) _ _ i o ∙ enter-words c.args.r.now c.args.words.now _ c.args.list.now c.args.b.0 c.args.address.now c.args.«data».now _ _ _ (ap (λ (l : List ℕ). clear_of l c.args.r.now.count) g.0 ∙ (ap (λ (y : Outcome built.AssertBuilt). clear_of y.words c.args.r.now.count) i ∙ H.clears)) ∙ R.is; sound = R.sound }
