-- What a building function leaves of the store that it builds in.
use Rattle.std.specs.Prelude.{◌≡◌, ℕ, ◌<◌, ◌≤◌, length}
use Rattle.operations.specs.Build.{Outcome, Build}
use Rattle.conditions.specs.declared.builder.Builder.{Builder}

-- it is over the same words and table, and has no fewer nodes
pub record Later (b c : Builder) : Type 0 where
  pub more : b.store.count ≤ c.store.count
  pub long : length c.words.now ≡ length b.words.now
  pub words : c.words.ghost_name ≡ b.words.ghost_name
  pub table : c.table.ghost_name ≡ b.table.ghost_name

-- it is what the program x leaves of the store, with x's answer
pub record Did (b c : Builder) (r : ℕ) (x : Build ℕ) : Type 0 where
  pub is : ◌≡◌ {A = Outcome ℕ} (record { words = c.words.now; store = c.store; answer = r }) (x b.words.now b.store)
  pub later : Later b c
  pub node : r < c.store.count
