-- What the functions of an access ask and promise: that of `addresses`, and of a write's marks.
use Rattle.std.specs.Prelude.{◌≡◌}
use Rattle.conditions.specs.Build.{Outcome, Build}
use Rattle.conditions.specs.declared.builder.Builder.{Builder}
use Rattle.conditions.specs.Builder.{Later}
use Rattle.model.specs.Access as model
use Rattle.building.specs.declared.Marks.{Marks}
pub use Rattle.addresses.specs.Contract.{Nodes, shape, Looks}
pub use Rattle.addresses.specs.Words.{WordDid}

-- it is what the program x leaves of the store, with x's marks
pub record MarksDid (b c : Builder) (m : Marks) (x : Build model.Marks) : Type 0 where
  pub is : ◌≡◌ {A = Outcome model.Marks} (record { words = c.words.now; store = c.store; answer = record { hard = m.hard; soft = m.soft } }) (x b.words.now b.store)
  pub later : Later b c
