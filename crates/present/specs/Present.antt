-- In standard form conditions that agree under every assignment are one node. So Ite builds nothing where a node agrees with its answer.
use Rattle.std.specs.Prelude.{◌≡◌, false, cond, List, ℕ, ◌^◌, ◌<◌}
use Rattle.nodes.specs.Standard.{Standard}
use Rattle.diagrams.specs.Value.{value}
use Rattle.diagrams.specs.Assignment.{bit_at}
use Rattle.operations.specs.declared.Store.{Store}
use Rattle.operations.specs.Build.{pure}
use Rattle.operations.specs.Ite.{Ite}

-- node r agrees with Ite of f, g and h under every assignment of 64 bits
pub record Answers (w : List ℕ) (c f g h r : ℕ) : Type 0 where
  pub first : f < c
  pub second : g < c
  pub third : h < c
  pub node : r < c
  pub is : (a : ℕ) → a < 2 ^ 64 → value w (bit_at a) r ≡ cond (value w (bit_at a) f) (value w (bit_at a) g) (value w (bit_at a) h)

unfoldable pub BuildsNothing : Type 0
BuildsNothing = (w : List ℕ) (s : Store) (f g h r : ℕ) → Standard w s.count → s.full ≡ false → Answers w s.count f g h r → Ite f g h w s ≡ pure r w s
