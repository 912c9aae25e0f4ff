use Rattle.std.proofs.Common.{arith}
use Rattle.text.proofs.WriterLaws.{wrote_full, ◌then◌}
use Rattle.show.proofs.ShowLaws.{text_end, node-text}
use Rattle.show.proofs.+put_condition.Goals as goal

pub returns-then-w : goal.returns-then-w
returns-then-w t c = wrote_full _ _ c.if-w.true

pub returns-then-node-lt2 : goal.returns-then-node-lt2
returns-then-node-lt2 t c = rw (text_end c.args.d.words.now c.args.node (omega arith)) c.put_byte.ensures

pub returns : goal.returns
returns t c =
    rw (node-text c.args.d.standard c.args.node c.if-node-lt2.false c.requires c.top.ensures c.low.ensures c.high.ensures)
    (c.put_byte-2.ensures then c.put_decimal.ensures then (c.put_byte-3.ensures then c.put_condition.ensures) then (c.put_byte-4.ensures then c.put_condition-2.ensures) then c.put_byte-5.ensures)
