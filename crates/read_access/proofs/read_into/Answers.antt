use Rattle.std.proofs.Common.{◌≡◌, Ok, Err, refl, ◌∙◌, arith, rules}
use Rattle.std.proofs.lemmas.Bool.{true≢false}
use Rattle.refusals.specs.declared.Refusal.TheVariants.{StoreFull}
use Rattle.model.specs.Step.{read, closed, finish_access}
use Rattle.rows.specs.Contract.{ported_of, Cleared}
use Rattle.rows.proofs.CallLaws.{acted, nine_acts, done_acts, over-sound}
use Rattle.read_access.proofs.ReadLaws.{read-holds, read-shape, read_done}
use Rattle.read_access.proofs.read_into.Goals as goal

pub slice_bounds-read_word-end : goal.slice_bounds-read_word-end
slice_bounds-read_word-end c =
    let H = read-holds c.args.r.now c.args.words.now c.args.list.now c.args.ports.now c.args.port c.args.enable.now c.args.address.now c.args.answer.now c.requires.3 c.requires.0 in
    omega (arith, H.port, H.wide, c.requires.3, c.data_words.ensures)

pub read_word-requires : goal.read_word-requires
read_word-requires c =
    let p = c.requires in
    let H = read-holds c.args.r.now c.args.words.now c.args.list.now c.args.ports.now c.args.port c.args.enable.now c.args.address.now c.args.answer.now c.requires.3 c.requires.0 in
    rw (c.begin.ensures, c.data_words.ensures) (H.looks, p.2, H.enable 0 (omega arith), H.enable 1 (omega arith), H.held-long, H.held)

pub returns-in_err-clear_where : goal.returns-in_err-clear_where
unfolding finish_access closed
returns-in_err-clear_where c =
    let H = read-holds c.args.r.now c.args.words.now c.args.list.now c.args.ports.now c.args.port c.args.enable.now c.args.address.now c.args.answer.now c.requires.3 c.requires.0 in
    let i = rw (c.begin.ensures, c.data_words.ensures) at c.read_word.ensures.is in
    let b = c.read_word.new.build in
    let o : Cleared b.words.now c.args.r.now.count b.store.full StoreFull c.clear_where.new.words (Err c.in_err-clear_where.field-0.0) = search rules in
    let e : c.from_residual.result ≡ Err c.in_err-clear_where.field-0.0 = search rules in
    let R = acted (read c.args.port c.args.enable.now c.args.address.now c.args.answer.now) (ported_of c.args.r.now c.args.words.now c.args.list.now c.args.ports.now) c.requires.0 ∙ nine_acts (ported_of c.args.r.now c.args.words.now c.args.list.now c.args.ports.now) _ _ (i ∙ read-shape c.args.r.now c.args.list.now _ _ _ c.args.address.now c.args.words.now _) H.clears o in
    rw e (record { is = record { is = R; leaves = refl }; sound = λ q. absurd (true≢false q) })

pub replace_held-requires : goal.replace_held-requires
replace_held-requires c =
    let H = read-holds c.args.r.now c.args.words.now c.args.list.now c.args.ports.now c.args.port c.args.enable.now c.args.address.now c.args.answer.now c.requires.3 c.requires.0 in
    (omega (arith, H.port), omega (arith, H.wide, c.requires.2, c.read_word.auto.word))

pub returns : goal.returns
unfolding finish_access closed
returns c =
    let i = rw (c.begin.ensures, c.data_words.ensures) at c.read_word.ensures.is in
    let b = c.read_word.new.build in
    let o : Cleared b.words.now c.args.r.now.count b.store.full StoreFull c.clear_where.new.words (Ok c.in_ok-clear_where.field-0) = search rules in
    let R = acted (read c.args.port c.args.enable.now c.args.address.now c.args.answer.now) (ported_of c.args.r.now c.args.words.now c.args.list.now c.args.ports.now) c.requires.0 ∙ done_acts (ported_of c.args.r.now c.args.words.now c.args.list.now c.args.ports.now) _ _ (i ∙ read-shape c.args.r.now c.args.list.now _ _ _ c.args.address.now c.args.words.now _) o in
    record { is = record { is = read_done _ _ _ _ _ _ _ _ _ R (search rules) c.replace_held.ensures; leaves = refl }; sound = λ q. over-sound _ _ o (search (rules, b.sound)) }
