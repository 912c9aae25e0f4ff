-- What an assert builds before its entry, as its struct.
use Rattle.std.specs.Prelude.{◌≡◌, ◌<◌}
use Rattle.conditions.specs.Build.{Outcome, Build}
use Rattle.conditions.specs.declared.builder.Builder.{Builder}
use Rattle.conditions.specs.Builder.{Later}
use Rattle.model.specs.Access as model
use Rattle.comparisons.specs.declared.AssertBuilt.{AssertBuilt}

abbrev pub built_of : AssertBuilt → model.AssertBuilt
built_of q = record { condition = q.condition; not_b = q.not_b; keep = q.keep }

-- what an assert builds before its entry, as `conditions` has it of one node
pub record AssertBuiltDid (b c : Builder) (q : AssertBuilt) (x : Build model.AssertBuilt) : Type 0 where
  pub is : ◌≡◌ {A = Outcome model.AssertBuilt} (record { words = c.words.now; store = c.store; answer = built_of q }) (x b.words.now b.store)
  pub later : Later b c
  pub node : q.not_b < c.store.count
