use Rattle.lines.specs.Lines.{assert_line, assert_word}
use Rattle.printing.proofs.put_assert.Goals as goal
use Rattle.printing.proofs.put_assert.Goals.{then-entered, else-entered}

pub returns : goal.returns
unfolding assert_line assert_word
returns c =
    elim c.if-entered.branch [
      | then-entered w ↦ rw w.if-entered.true (rw w.word-is at c.put_told.ensures)
      | else-entered w ↦ rw w.if-entered.false (rw w.word-is at c.put_told.ensures)
    ]
