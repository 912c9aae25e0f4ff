use Rattle.std.proofs.Common.{◌≡◌, ◌-◌}
use Rattle.nodes.specs.Certificate.{walk}
use Rattle.nodes.proofs.standard.find_in_chain.Given as goal

-- `counter` has the turns that were made.
abbrev pub invariant-loop : goal.invariant-loop
invariant-loop l = walk l.words l.next l.count l.x (32 - l.counter) l.n ≡ walk l.words l.next l.count l.x 32 l.from
