use Rattle.std.proofs.Common.{◌≡◌, [], Ok, Err, sym, ◌∙◌, arith, rules}
use borrow.Author.Tests.{not-true, not-false}
use Rattle.model.specs.Record.{appended}
use Rattle.model.specs.Step.{write, closed, finish_access, finish_write}
use Rattle.model.proofs.FactLaws.{space-room}
use Rattle.model.proofs.ListLaws.{capacity-most}
use Rattle.refusals.specs.declared.Refusal.TheVariants.{StoreFull}
use Rattle.rows.specs.Contract.{state_of, Cleared}
use Rattle.rows.proofs.CallLaws.{acted, nine_acts, eight_acts, done_acts, over-sound, cleared_by, left_by}
use Rattle.write_access.proofs.WriteLaws.{write-holds, refused_on}
use Rattle.write_access.proofs.enter.Goals as goal

pub write_marks-m-requires : goal.write_marks-m-requires
write_marks-m-requires c =
    let H = write-holds (state_of c.args.r.now c.args.words.now c.args.list.now) c.args.enable.now c.args.address.now c.args.«data».now c.requires.1 in
    rw c.begin.ensures (H.few, H.pairs, record { at = H.address }, H.enable _ (omega arith), H.enable _ (omega arith))

pub returns-in_err-clear_where : goal.returns-in_err-clear_where
unfolding finish_access finish_write closed
returns-in_err-clear_where c =
    let p = c.requires in
    let H = write-holds (state_of c.args.r.now c.args.words.now c.args.list.now) c.args.enable.now c.args.address.now c.args.«data».now p.1 in
    let i = rw c.begin.ensures at c.write_marks-m.ensures.is in
    let o : Cleared c.write_marks-m.new.build.words.now c.args.r.now.count c.write_marks-m.new.build.store.full StoreFull c.clear_where.new.words (Err c.in_err-clear_where.field-0.0) = search rules in
    let e : c.from_residual.result ≡ Err c.in_err-clear_where.field-0.0 = search rules in
    rw e (refused_on (acted (write c.args.enable.now c.args.address.now c.args.«data».now) (state_of c.args.r.now c.args.words.now c.args.list.now) p.1 ∙ (rw p.2 (nine_acts (state_of c.args.r.now c.args.words.now c.args.list.now) _ _ i H.clears o))))

pub returns-in_err-clear_where-2 : goal.returns-in_err-clear_where-2
unfolding finish_access finish_write closed
returns-in_err-clear_where-2 c =
    let p = c.requires in
    let H = write-holds (state_of c.args.r.now c.args.words.now c.args.list.now) c.args.enable.now c.args.address.now c.args.«data».now p.1 in
    let i = rw c.begin.ensures at c.write_marks-m.ensures.is in
    let o : Cleared c.write_marks-m.new.build.words.now c.args.r.now.count c.write_marks-m.new.build.store.full StoreFull c.clear_where.new.words (Ok tt) = search rules in
    let g = cleared_by c.in_err-clear_where-2.ensures in
    let u = sym c.has_space-short.ensures ∙ not-true c.has_space-short.result g.1 in
    let e : c.from_residual-in_err-clear_where-2.result ≡ Err c.in_err-clear_where-2.field-0.0 = search rules in
    rw e (refused_on (acted (write c.args.enable.now c.args.address.now c.args.«data».now) (state_of c.args.r.now c.args.words.now c.args.list.now) p.1 ∙ (rw p.2 (eight_acts (state_of c.args.r.now c.args.words.now c.args.list.now) _ _ i H.clears o c.in_err-clear_where-2.ensures (rw u)))))

pub append_entry-requires : goal.append_entry-requires
append_entry-requires c =
    let H = write-holds (state_of c.args.r.now c.args.words.now c.args.list.now) c.args.enable.now c.args.address.now c.args.«data».now c.requires.1 in
    let g = left_by c.in_ok-clear_where-2.ensures in
    let u = sym c.has_space-short.ensures ∙ not-false c.has_space-short.result g.1 in
    record { few = H.few; wide = H.wide; space = space-room c.args.r.now [] c.args.list.now u; pairs = H.pairs; word = H.word }

pub overflow_add-r : goal.overflow_add-r
overflow_add-r c =
    let g = left_by c.in_ok-clear_where-2.ensures in
    let u = sym c.has_space-short.ensures ∙ not-false c.has_space-short.result g.1 in
    omega (arith, capacity-most _ _ _ (space-room c.args.r.now [] c.args.list.now u))

pub returns : goal.returns
unfolding finish_access finish_write closed appended
returns c =
    let p = c.requires in
    let i = rw c.begin.ensures at c.write_marks-m.ensures.is in
    let o : Cleared c.write_marks-m.new.build.words.now c.args.r.now.count c.write_marks-m.new.build.store.full StoreFull c.clear_where.new.words (Ok tt) = search rules in
    let g = left_by c.in_ok-clear_where-2.ensures in
    let u = sym c.has_space-short.ensures ∙ not-false c.has_space-short.result g.1 in
    record { is = rw (c.append_entry.ensures, g.0) (acted (write c.args.enable.now c.args.address.now c.args.«data».now) (state_of c.args.r.now c.args.words.now c.args.list.now) p.1 ∙ (rw p.2 (done_acts (state_of c.args.r.now c.args.words.now c.args.list.now) _ _ i o ∙ (rw u)))); sound = λ z. rw g.0 (over-sound _ _ o (search (rules, c.write_marks-m.new.build.sound))) }
