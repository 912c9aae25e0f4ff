use Rattle.std.proofs.Common.{arith, ap, not, sym, ◌≡◌, Err, rules}
use Rattle.format.proofs.SectionLaws.{early_is, not-standard, no-accesses, all_read}
use Rattle.reading.proofs.FindLaws.{early-refused}
use Rattle.reading.proofs.sections.load_sections.Goals as goal

pub returns-in_err-early_row : goal.returns-in_err-early_row
returns-in_err-early_row c = let q : c.from_residual.result ≡ Err c.in_err-early_row.field-0.0 = search rules in early-refused _ _ q c.in_err-early_row.ensures

pub store_terminals-requires : goal.store_terminals-requires
store_terminals-requires c = (early_is c.args.bytes.now c.args.words.now (sym c.in_ok-early_row.ensures)).six

pub store_nodes-requires : goal.store_nodes-requires
store_nodes-requires c = let E = early_is c.args.bytes.now c.args.words.now (sym c.in_ok-early_row.ensures) in (omega (arith, E.bytes), omega (arith, E.room), omega arith)

pub overflow_sub-bytes : goal.overflow_sub-bytes
overflow_sub-bytes c = let E = early_is c.args.bytes.now c.args.words.now (sym c.in_ok-early_row.ensures) in omega (arith, E.bytes)

pub returns-then-not-is_standard : goal.returns-then-not-is_standard
returns-then-not-is_standard c = not-standard c.args.bytes.now c.args.words.now (sym c.in_ok-early_row.ensures) c.number_at-k.ensures.value c.store_terminals.ensures c.store_nodes.ensures c.is_standard.ensures (ap not c.if-not-is_standard.true)

pub returns-then-bytes-end-lt2 : goal.returns-then-bytes-end-lt2
returns-then-bytes-end-lt2 c = no-accesses c.args.bytes.now c.args.words.now (sym c.in_ok-early_row.ensures) c.number_at-k.ensures.value c.store_terminals.ensures c.store_nodes.ensures c.is_standard.ensures (ap not c.if-not-is_standard.false) c.if-bytes-end-lt2.true

pub returns : goal.returns
returns c = all_read c.args.bytes.now c.args.words.now (sym c.in_ok-early_row.ensures) c.number_at-k.ensures.value c.store_terminals.ensures c.store_nodes.ensures c.is_standard.ensures (ap not c.if-not-is_standard.false) c.if-bytes-end-lt2.false c.sizes_of.ensures.0 c.sizes_of.ensures.1 c.number_at.ensures.value
