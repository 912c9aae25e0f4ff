-- 01, 'Conditions': Any, that some setting of the index variables makes a node true.
use Rattle.std.specs.Prelude.{Bool, cond, ℕ, zero, suc, ltb, Option, Some, None}
use Rattle.nodes.specs.Words.{var_at, low_at, high_at}
use Rattle.operations.specs.Build.{Build, pure, ◌>>=◌}
use Rattle.operations.specs.Ite.{Or}

-- "Any(f): f if its variable is 8 or more, else" by the children. A full store answers 0.
unfoldable pub stop_of : Bool → ℕ → ℕ → Option ℕ
stop_of full v f = cond full (Some 0) (cond (ltb v 8) None (Some f))

-- "Or(Any(low), Any(high)), low first", by a function for the children
abbrev pub by_children : (ℕ → Build ℕ) → ℕ → ℕ → Build ℕ
by_children rec low high = do
  x ← rec low
  y ← rec high
  Or x y

unfoldable pub any_by : (ℕ → Build ℕ) → Option ℕ → ℕ → Build ℕ
any_by rec (Some n) f w s = pure n w s
any_by rec None f w s = by_children rec (low_at w f) (high_at w f) w s

-- Any in so many steps at most
unfoldable pub any_up_to : ℕ → ℕ → Build ℕ
any_up_to zero f w s = pure 0 w s
any_up_to (suc k) f w s = any_by (any_up_to k) (stop_of s.full (var_at w f) f) f w s

-- children are less than the node, so these are enough: the law `any-rule` is Any with no bound
unfoldable pub Any : ℕ → Build ℕ
Any f = any_up_to (suc f) f
