use Rattle.std.proofs.Common.{◌≡◌, ◌-◌}
use Rattle.nodes.specs.Search.{every}
use Rattle.ports.proofs.NameLaws.{names}
use Rattle.ports.proofs.all_name_nodes.Given as goal

abbrev pub invariant-loop-p : goal.invariant-loop-p
invariant-loop-p l = every (names l.d.words.now l.d.count l.ports l.k) l.p (4 - l.p) ≡ every (names l.d.words.now l.d.count l.ports l.k) 0 4
