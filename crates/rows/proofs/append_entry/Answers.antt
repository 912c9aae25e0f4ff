use Rattle.std.proofs.Common.{arith}
use Rattle.model.proofs.ListLaws.{room-words}
use Rattle.model.specs.Record.{appended}
use Rattle.rows.proofs.append_entry.Goals as goal

pub append-requires : goal.append-requires
append-requires c =
    let p = c.requires in
    (omega (arith, p.pairs, p.word, c.entry_words.ensures, rw (← c.entry_words.ensures) at (room-words _ _ p.space)), omega (arith, p.pairs, p.few), omega (arith, p.word, p.wide))

pub returns : goal.returns
unfolding appended
returns c = let p = c.requires in rw (c.append.ensures, c.entry_words.ensures, p.pairs, p.word)
