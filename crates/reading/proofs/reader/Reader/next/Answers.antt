use Rattle.std.proofs.Common.{arith, ap, not, refl}
use Rattle.reading.proofs.FindLaws.{no_kind, stays, kind-unknown, ends_early, next-byte, stands, goes}
use Rattle.reading.proofs.LayoutLaws.{size-most, lead-most}
use Rattle.reading.proofs.reader.Reader.next.Goals as goal

pub returns-then-self-clause-access : goal.returns-then-self-clause-access
returns-then-self-clause-access c = no_kind _ _ _ _ c.if-self.true

pub returns-then-self-clause-goes_on : goal.returns-then-self-clause-goes_on
returns-then-self-clause-goes_on c = (refl, stays _ _ _ _ (no_kind _ _ _ _ c.if-self.true))

pub returns-then-not-is_known-clause-access : goal.returns-then-not-is_known-clause-access
returns-then-not-is_known-clause-access c = kind-unknown _ _ _ _ c.if-self.false c.kind_of-kind.ensures c.is_known.ensures (ap not c.if-not-is_known.true)

pub returns-then-not-is_known-clause-goes_on : goal.returns-then-not-is_known-clause-goes_on
returns-then-not-is_known-clause-goes_on c = (refl, stays _ _ _ _ (kind-unknown _ _ _ _ c.if-self.false c.kind_of-kind.ensures c.is_known.ensures (ap not c.if-not-is_known.true)))

pub overflow_mul-size : goal.overflow_mul-size
overflow_mul-size c = omega (arith, size-most c.args.z.n c.args.z.w c.kind_of-kind.result, c.operands.ensures)

pub overflow_add-size : goal.overflow_add-size
overflow_add-size c = omega (arith, size-most c.args.z.n c.args.z.w c.kind_of-kind.result, c.operands.ensures, lead-most c.kind_of-kind.result, c.lead.ensures)

pub returns-then-self-next-clause-access : goal.returns-then-self-next-clause-access
returns-then-self-next-clause-access c = ends_early _ _ _ _ c.if-self.false c.kind_of-kind.ensures c.is_known.ensures (ap not c.if-not-is_known.false) c.operands.ensures c.lead.ensures c.if-self-next.true

pub returns-then-self-next-clause-goes_on : goal.returns-then-self-next-clause-goes_on
returns-then-self-next-clause-goes_on c = (refl, stays _ _ _ _ (ends_early _ _ _ _ c.if-self.false c.kind_of-kind.ensures c.is_known.ensures (ap not c.if-not-is_known.false) c.operands.ensures c.lead.ensures c.if-self-next.true))

pub bounds-self-next : goal.bounds-self-next
bounds-self-next c = next-byte _ _ c.args.z.n c.args.z.w c.if-self.false c.kind_of-kind.ensures c.is_known.ensures (ap not c.if-not-is_known.false) c.operands.ensures c.lead.ensures c.if-self-next.false

pub returns-clause-access : goal.returns-clause-access
returns-clause-access c = stands _ _ _ _ c.if-self.false c.kind_of-kind.ensures c.is_known.ensures (ap not c.if-not-is_known.false) c.operands.ensures c.lead.ensures c.if-self-next.false c.port_of.ensures (rw (c.lead.ensures, c.lead-2.ensures) refl)

pub returns-clause-goes_on : goal.returns-clause-goes_on
returns-clause-goes_on c = (refl, goes _ _ _ _ c.if-self.false c.kind_of-kind.ensures c.is_known.ensures (ap not c.if-not-is_known.false) c.operands.ensures c.lead.ensures c.if-self-next.false)
