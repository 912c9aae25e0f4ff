use Rattle.std.proofs.Common.{◌≡◌, ℕ, ◌-◌, length, get_or}
use Rattle.nodes.specs.Search.{every}
use Rattle.conditions.specs.User.{is_user}
use Rattle.rows.proofs.slices.all_users.Given as goal

abbrev pub invariant-loop-i : goal.invariant-loop-i
invariant-loop-i l = every (λ (i : ℕ). is_user l.d.words.now l.d.count (get_or l.slice i 0)) l.i (length l.slice - l.i) ≡ every (λ (i : ℕ). is_user l.d.words.now l.d.count (get_or l.slice i 0)) 0 (length l.slice)
