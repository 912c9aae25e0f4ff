use Rattle.std.proofs.Common.{◌≡◌, Bool, not, ℕ, ◌-◌}
use Rattle.nodes.specs.Search.{every}
use Rattle.model.specs.Record.{h_at, l_at}
use Rattle.rows.proofs.slices.no_fault.Given as goal

abbrev pub invariant-loop-i : goal.invariant-loop-i
invariant-loop-i g l = (test : ℕ → ℕ → Bool) → ((h m : ℕ) (b : Bool) → goal.F-post g l.fault h m b → b ≡ test h m)
    → every (λ (i : ℕ). not (test (h_at l.slice i) (l_at l.slice i))) l.i (l.k - l.i) ≡ every (λ (i : ℕ). not (test (h_at l.slice i) (l_at l.slice i))) 0 l.k
