use Rattle.std.proofs.Common.{sym, ap, arith}
use Rattle.format.specs.Kinds.{kind_of}
use Rattle.format.proofs.KindLaws.{kind_other}
use Rattle.reading.proofs.kinds.kind_of.Goals as goal

pub returns-in-1 : goal.returns-in-1
unfolding kind_of
returns-in-1 c = sym (ap kind_of c.in-1.is)

pub returns-in-2 : goal.returns-in-2
unfolding kind_of
returns-in-2 c = sym (ap kind_of c.in-2.is)

pub returns-in-3 : goal.returns-in-3
unfolding kind_of
returns-in-3 c = sym (ap kind_of c.in-3.is)

pub returns-in-4 : goal.returns-in-4
unfolding kind_of
returns-in-4 c = sym (ap kind_of c.in-4.is)

pub returns-in_default : goal.returns-in_default
returns-in_default c = kind_other _ (omega arith) (omega arith) (omega arith) (omega arith)
