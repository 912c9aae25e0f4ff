use Rattle.std.proofs.Common.{◌≡◌, false, inl, inr, Err, eqb, ◌*◌, ◌&&◌, length, drop, refl, ◌∙◌, rules}
use borrow.Author.Tests.{eq-eqb, ne_eqb}
use Rattle.conditions.proofs.Promises.{zeros-sound}
use Rattle.model.specs.Rows.{assert_rows}
use Rattle.model.specs.Step.{assert}
use Rattle.rows.specs.Contract.{state_of}
use Rattle.rows.proofs.CallLaws.{memory-turned, lengths-turned, memory-valid, valid-standard}
use Rattle.assert_access.proofs.assert.Goals as goal

pub returns-in_err-memory_row : goal.returns-in_err-memory_row
returns-in_err-memory_row c =
    let e : c.from_residual.result ≡ Err c.in_err-memory_row.field-0.0 = search rules in
    rw e (memory-turned (assert c.args.b.0 c.args.address.now c.args.«data».now) (state_of c.args.r.now c.args.words.now c.args.list.now) (drop 3 (assert_rows c.args.r.now c.args.words.now c.args.list.now c.args.b.0 c.args.address.now c.args.«data».now)) refl _ c.in_err-memory_row.ensures)

pub returns-then-address-address_size : goal.returns-then-address-address_size
returns-then-address-address_size c =
    let differ : (eqb (length c.args.address.now) c.address_words-address_size.result && eqb (length c.args.«data».now) c.cell_words-data_size.result) ≡ false = elim c.then-address-address_size.either [ inl h ↦ rw (ne_eqb _ _ h) | inr h ↦ rw (eq-eqb _ _ h.0, ne_eqb _ _ h.1) ] in
    lengths-turned (assert c.args.b.0 c.args.address.now c.args.«data».now) (state_of c.args.r.now c.args.words.now c.args.list.now) (eqb (length c.args.address.now) (2 * c.args.r.now.sizes.n) && eqb (length c.args.«data».now) (2 * c.args.r.now.sizes.w)) (drop 4 (assert_rows c.args.r.now c.args.words.now c.args.list.now c.args.b.0 c.args.address.now c.args.«data».now)) refl (memory-valid (state_of c.args.r.now c.args.words.now c.args.list.now) c.in_ok-memory_row.ensures) (rw (c.address_words-address_size.ensures, c.cell_words-data_size.ensures) at differ)

pub assert_on-requires : goal.assert_on-requires
assert_on-requires c =
    let K = memory-valid (state_of c.args.r.now c.args.words.now c.args.list.now) c.in_ok-memory_row.ensures in
    let p = c.if-address-address_size.false in
    let q = c.if-data-data_size.false in
    (K, zeros-sound _ 32768 (valid-standard (state_of c.args.r.now c.args.words.now c.args.list.now) K), p ∙ c.address_words-address_size.ensures, q ∙ c.cell_words-data_size.ensures)
