use Rattle.std.proofs.Common.{arith, ap, not}
use Rattle.format.proofs.SectionLaws.{out_of_range, no-count, nodes-missing, room, no_room}
use Rattle.reading.proofs.sections.early_row.Goals as goal

pub returns-then-not-in_range : goal.returns-then-not-in_range
returns-then-not-in_range c = out_of_range c.args.bytes.now c.args.words.now c.if-bytes-lt2.false c.sizes_of.ensures.0 c.sizes_of.ensures.1 c.in_range.ensures (ap not c.if-not-in_range.true)

pub returns-then-bytes-lt4 : goal.returns-then-bytes-lt4
returns-then-bytes-lt4 c = no-count c.args.bytes.now c.args.words.now c.if-bytes-lt2.false c.sizes_of.ensures.0 c.sizes_of.ensures.1 c.in_range.ensures (ap not c.if-not-in_range.false) c.if-bytes-lt4.true

pub returns-then-bytes-k : goal.returns-then-bytes-k
returns-then-bytes-k c = nodes-missing c.args.bytes.now c.args.words.now c.if-bytes-lt2.false c.sizes_of.ensures.0 c.sizes_of.ensures.1 c.in_range.ensures (ap not c.if-not-in_range.false) c.if-bytes-lt4.false c.number_at-k.ensures.value (omega arith)

pub returns-then-has_room : goal.returns-then-has_room
returns-then-has_room c = room c.args.bytes.now c.args.words.now c.if-bytes-lt2.false c.sizes_of.ensures.0 c.sizes_of.ensures.1 c.in_range.ensures (ap not c.if-not-in_range.false) c.if-bytes-lt4.false c.number_at-k.ensures.value (omega arith) c.has_room.ensures c.if-has_room.true

pub returns-else-has_room : goal.returns-else-has_room
returns-else-has_room c = no_room c.args.bytes.now c.args.words.now c.if-bytes-lt2.false c.sizes_of.ensures.0 c.sizes_of.ensures.1 c.in_range.ensures (ap not c.if-not-in_range.false) c.if-bytes-lt4.false c.number_at-k.ensures.value (omega arith) c.has_room.ensures c.if-has_room.false
