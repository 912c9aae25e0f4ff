-- 02, 'Written formulas': what a formula lists, and the conditions that are built for it.
use Rattle.std.specs.Prelude.{Bool, true, ◌&&◌, List, [], ◌∷◌, ◌++◌, ℕ, suc}
use Rattle.formulas.specs.Language.{Tree, predicate, next, both, when, grouped}
use Rattle.conditions.specs.Build as build
use Rattle.conditions.specs.Build.{Store, Outcome, Build, pure}
use Rattle.conditions.specs.Ite.{And}

-- "three words each, step (the number of N around it), condition (And of the enclosing ones, outermost first) and predicate"
pub record Triple : Type 0 where
  pub step : ℕ
  pub condition : ℕ
  pub named : ℕ

-- the triples of a formula in the order of its text, below k letters N and the condition c: c becomes And(c, b) "once for each arrow in text order"
unfoldable pub Triples : ℕ → ℕ → Tree → Build (List Triple)
Triples k c (predicate n) w s = pure (record { step = k; condition = c; named = n } ∷ []) w s
Triples k c (next t) w s = Triples (suc k) c t w s
Triples k c (both t u) w s = build.next (Triples k c t w s) (λ xs w s. build.next (Triples k c u w s) (λ ys. pure (xs ++ ys)))
Triples k c (when b t) w s = build.next (And c b w s) (λ d. Triples k d t)
Triples k c (grouped t) w s = Triples k c t w s

-- a test of each node before an arrow
abbrev pub every_node : (ℕ → Bool) → Tree → Bool
every_node p (predicate n) = true
every_node p (next t) = every_node p t
every_node p (both t u) = every_node p t && every_node p u
every_node p (when b t) = p b && every_node p t
every_node p (grouped t) = every_node p t
