-- What a function that builds a word leaves.
use Rattle.std.specs.Prelude.{◌≡◌, List, ℕ}
use Rattle.conditions.specs.Build.{Outcome, Build}
use Rattle.conditions.specs.declared.builder.Builder.{Builder}
use Rattle.conditions.specs.Builder.{Later}
use Rattle.addresses.specs.Contract.{Nodes}

-- it is what the program x leaves of the store, with x's word, whose halves are nodes
pub record WordDid (b c : Builder) (word : List ℕ) (x : Build (List ℕ)) : Type 0 where
  pub is : ◌≡◌ {A = Outcome (List ℕ)} (record { words = c.words.now; store = c.store; answer = word }) (x b.words.now b.store)
  pub later : Later b c
  pub nodes : Nodes c.store.count word
