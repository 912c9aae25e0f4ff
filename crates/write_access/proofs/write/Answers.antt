use Rattle.std.proofs.Common.{◌≡◌, Err, drop, refl, ◌∙◌, arith, rules}
use borrow.Author.Tests.{eq-eqb, ne_eqb}
use Rattle.conditions.proofs.Promises.{zeros-sound}
use Rattle.model.specs.Rows.{write_rows}
use Rattle.model.specs.Step.{write}
use Rattle.rows.specs.Contract.{state_of}
use Rattle.rows.proofs.CallLaws.{turned, memory-turned, lengths-turned, memory-valid, valid_few, valid-standard}
use Rattle.write_access.proofs.WriteLaws.{write_row_is, lengths-hold, lengths-fail, idle_done}
use Rattle.write_access.proofs.write.Goals as goal

pub returns-in_err-memory_row : goal.returns-in_err-memory_row
returns-in_err-memory_row c =
    let e : c.from_residual.result ≡ Err c.in_err-memory_row.field-0.0 = search rules in
    rw e (memory-turned (write c.args.enable.now c.args.address.now c.args.«data».now) (state_of c.args.r.now c.args.words.now c.args.list.now) (drop 3 (write_rows c.args.r.now c.args.words.now c.args.list.now c.args.enable.now c.args.address.now c.args.«data».now)) refl _ c.in_err-memory_row.ensures)

pub returns-then-not-enable-address : goal.returns-then-not-enable-address
returns-then-not-enable-address c = lengths-turned (write c.args.enable.now c.args.address.now c.args.«data».now) (state_of c.args.r.now c.args.words.now c.args.list.now) _ (drop 4 (write_rows c.args.r.now c.args.words.now c.args.list.now c.args.enable.now c.args.address.now c.args.«data».now)) refl (memory-valid (state_of c.args.r.now c.args.words.now c.args.list.now) c.in_ok-memory_row.ensures) (lengths-fail (state_of c.args.r.now c.args.words.now c.args.list.now) _ _ _ c.address_words-address_size.ensures c.data_words-data_size.ensures c.if-not-enable-address.true)

pub argument_row-requires : goal.argument_row-requires
argument_row-requires c =
    let K = memory-valid (state_of c.args.r.now c.args.words.now c.args.list.now) c.in_ok-memory_row.ensures in
    let L = lengths-hold (state_of c.args.r.now c.args.words.now c.args.list.now) _ _ _ c.address_words-address_size.ensures c.data_words-data_size.ensures c.if-not-enable-address.false in
    let f = valid_few (state_of c.args.r.now c.args.words.now c.args.list.now) K in
    (valid-standard (state_of c.args.r.now c.args.words.now c.args.list.now) K, f.0, L.1, omega (arith, L.0), omega arith, omega (arith, L.2), f.1)

pub returns-in_err-argument_row : goal.returns-in_err-argument_row
returns-in_err-argument_row c =
    let K = memory-valid (state_of c.args.r.now c.args.words.now c.args.list.now) c.in_ok-memory_row.ensures in
    let L = lengths-hold (state_of c.args.r.now c.args.words.now c.args.list.now) _ _ _ c.address_words-address_size.ensures c.data_words-data_size.ensures c.if-not-enable-address.false in
    let e : c.from_residual-in_err-argument_row.result ≡ Err c.in_err-argument_row.field-0.0 = search rules in
    rw e (turned (write c.args.enable.now c.args.address.now c.args.«data».now) (state_of c.args.r.now c.args.words.now c.args.list.now) _ (c.in_err-argument_row.ensures ∙ write_row_is (state_of c.args.r.now c.args.words.now c.args.list.now) K _ _ _ L.0 L.1 L.2))

pub returns-then-this-eq0 : goal.returns-then-this-eq0
returns-then-this-eq0 c =
    let K = memory-valid (state_of c.args.r.now c.args.words.now c.args.list.now) c.in_ok-memory_row.ensures in
    let L = lengths-hold (state_of c.args.r.now c.args.words.now c.args.list.now) _ _ _ c.address_words-address_size.ensures c.data_words-data_size.ensures c.if-not-enable-address.false in
    idle_done (state_of c.args.r.now c.args.words.now c.args.list.now) _ _ _ (c.in_ok-argument_row.ensures ∙ write_row_is (state_of c.args.r.now c.args.words.now c.args.list.now) K _ _ _ L.0 L.1 L.2) (eq-eqb _ _ c.if-this-eq0.true)

pub enter-requires : goal.enter-requires
enter-requires c =
    let K = memory-valid (state_of c.args.r.now c.args.words.now c.args.list.now) c.in_ok-memory_row.ensures in
    let L = lengths-hold (state_of c.args.r.now c.args.words.now c.args.list.now) _ _ _ c.address_words-address_size.ensures c.data_words-data_size.ensures c.if-not-enable-address.false in
    (zeros-sound _ 32768 (valid-standard (state_of c.args.r.now c.args.words.now c.args.list.now) K), c.in_ok-argument_row.ensures ∙ write_row_is (state_of c.args.r.now c.args.words.now c.args.list.now) K _ _ _ L.0 L.1 L.2, ne_eqb _ _ c.if-this-eq0.false)

pub returns : goal.returns
returns c = c.enter.ensures.is
