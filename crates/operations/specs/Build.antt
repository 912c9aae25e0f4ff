-- Programs that build nodes: each takes the node words and the store's state to what it leaves of them and an answer.
-- A node needed past the capacity makes the store full; once full, nothing more is built.
use Rattle.std.specs.Prelude.{List, ℕ, zero, suc}
use Rattle.operations.specs.declared.Store.{Store}

-- what a step leaves, and its answer
pub record Outcome (A : Type 0) : Type 0 where
  pub words : List ℕ
  pub store : Store
  pub answer : A

abbrev pub Build : Type 0 → Type 0
Build A = List ℕ → Store → Outcome A

-- an answer, with nothing built
abbrev pub pure : {A : Type 0} → A → Build A
pure a = λ w s. record { words = w; store = s; answer = a }

-- on from what a step left, with its answer
unfoldable pub next : {A B : Type 0} → Outcome A → (A → Build B) → Outcome B
next x k = k x.answer x.words x.store

infixl 20 ◌>>=◌
abbrev pub ◌>>=◌ : {A B : Type 0} → Build A → (A → Build B) → Build B
◌>>=◌ m k = λ w s. next (m w s) k

-- "for each": f at the k numbers from i on, one after the other
unfoldable pub for_each : {A : Type 0} → (ℕ → A → Build A) → ℕ → ℕ → A → Build A
for_each f i zero a w s = pure a w s
for_each f i (suc k) a w s = next (f i a w s) (for_each f (suc i) k)
