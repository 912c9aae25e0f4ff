use Rattle.std.proofs.Common.{◌≡◌, ◌&&◌, not, Err, eqb, length, refl, ap, ◌∙◌, arith, rules}
use borrow.Author.Tests.{eqb-true, not-true, not-false}
use Rattle.refusals.specs.declared.Refusal.TheVariants.{Contents, Lengths}
use Rattle.conditions.proofs.Promises.{zeros-sound}
use Rattle.model.specs.Step.{read}
use Rattle.model.specs.Frames.{PortsValid}
use Rattle.model.proofs.FactLaws.{and3}
use Rattle.rows.specs.Contract.{ported_of}
use Rattle.rows.proofs.CallLaws.{turned, memory-valid, valid_few, valid-standard}
use Rattle.read_access.proofs.ReadLaws.{read_first, read-ports, read_lengths, ports_fail, ports-hold}
use Rattle.read_access.proofs.read.Goals as goal

pub returns-in_err-memory_row : goal.returns-in_err-memory_row
returns-in_err-memory_row c =
    let e : c.from_residual.result ≡ Err c.in_err-memory_row.field-0.0 = search rules in
    rw e (record { is = turned (read c.args.port c.args.enable.now c.args.address.now c.args.answer.now) (ported_of c.args.r.now c.args.words.now c.args.list.now c.args.ports.now) _ (read_first (ported_of c.args.r.now c.args.words.now c.args.list.now c.args.ports.now) c.args.port c.args.enable.now c.args.address.now c.args.answer.now _ c.in_err-memory_row.ensures); leaves = refl })

pub invariant_of-d : goal.invariant_of-d
invariant_of-d c =
    let s = ported_of c.args.r.now c.args.words.now c.args.list.now c.args.ports.now in
    record { standard = valid-standard s (memory-valid s c.in_ok-memory_row.ensures) }

pub all_name_nodes-requires : goal.all_name_nodes-requires
all_name_nodes-requires c =
    let K = memory-valid (ported_of c.args.r.now c.args.words.now c.args.list.now c.args.ports.now) c.in_ok-memory_row.ensures in
    (omega (arith, (valid_few (ported_of c.args.r.now c.args.words.now c.args.list.now c.args.ports.now) K).1, c.data_words-answer_size.ensures), omega arith)

pub returns-then-not-all_name_nodes : goal.returns-then-not-all_name_nodes
returns-then-not-all_name_nodes c =
    let K = memory-valid (ported_of c.args.r.now c.args.words.now c.args.list.now c.args.ports.now) c.in_ok-memory_row.ensures in
    record { is = turned (read c.args.port c.args.enable.now c.args.address.now c.args.answer.now) (ported_of c.args.r.now c.args.words.now c.args.list.now c.args.ports.now) Contents (read-ports (ported_of c.args.r.now c.args.words.now c.args.list.now c.args.ports.now) c.args.port c.args.enable.now c.args.address.now c.args.answer.now K (ports_fail c.args.r.now c.args.words.now c.args.ports.now (rw c.data_words-answer_size.ensures at c.all_name_nodes.ensures) (ap not c.if-not-all_name_nodes.true))); leaves = refl }

pub returns-then-not-enable-address : goal.returns-then-not-enable-address
returns-then-not-enable-address c =
    let K = memory-valid (ported_of c.args.r.now c.args.words.now c.args.list.now c.args.ports.now) c.in_ok-memory_row.ensures in
    let long : length c.args.ports.now ≡ 128 = omega arith in
    let P : PortsValid (ported_of c.args.r.now c.args.words.now c.args.list.now c.args.ports.now) = record { three = ports-hold c.args.r.now c.args.words.now c.args.ports.now (rw c.data_words-answer_size.ensures at c.all_name_nodes.ensures) (ap not c.if-not-all_name_nodes.false); long = long } in
    record { is = turned (read c.args.port c.args.enable.now c.args.address.now c.args.answer.now) (ported_of c.args.r.now c.args.words.now c.args.list.now c.args.ports.now) Lengths (read_lengths (ported_of c.args.r.now c.args.words.now c.args.list.now c.args.ports.now) c.args.port c.args.enable.now c.args.address.now c.args.answer.now K P (rw (c.address_words-address_size.ensures, c.data_words-answer_size.ensures) at (not-true ((eqb (length c.args.enable.now) 2) && (eqb (length c.args.address.now) c.address_words-address_size.result) && (eqb (length c.args.answer.now) c.data_words-answer_size.result)) (ap not c.if-not-enable-address.true)))); leaves = refl }

pub read_on-requires : goal.read_on-requires
read_on-requires c =
    let K = memory-valid (ported_of c.args.r.now c.args.words.now c.args.list.now c.args.ports.now) c.in_ok-memory_row.ensures in
    let long : length c.args.ports.now ≡ 128 = omega arith in
    let N = and3 (eqb (length c.args.enable.now) 2) (eqb (length c.args.address.now) c.address_words-address_size.result) (eqb (length c.args.answer.now) c.data_words-answer_size.result) (not-false ((eqb (length c.args.enable.now) 2) && (eqb (length c.args.address.now) c.address_words-address_size.result) && (eqb (length c.args.answer.now) c.data_words-answer_size.result)) (ap not c.if-not-enable-address.false)) in
    (K, record { three = ports-hold c.args.r.now c.args.words.now c.args.ports.now (rw c.data_words-answer_size.ensures at c.all_name_nodes.ensures) (ap not c.if-not-all_name_nodes.false); long = long }, zeros-sound _ 32768 (valid-standard (ported_of c.args.r.now c.args.words.now c.args.list.now c.args.ports.now) K), eqb-true _ _ N.0, (eqb-true _ _ N.1 ∙ c.address_words-address_size.ensures), (eqb-true _ _ N.2 ∙ c.data_words-answer_size.ensures))

pub returns : goal.returns
returns c = c.read_on.ensures.is
