use Rattle.std.proofs.Common.{◌≡◌, ◌++◌, ◌+◌, take, drop}
use Rattle.rows.proofs.append.copy.Given as goal

abbrev pub invariant-loop-k : goal.invariant-loop-k
invariant-loop-k l = l.list ≡ take l.at l.initial.list ++ (take l.k l.slice ++ drop (l.at + l.k) l.initial.list)
