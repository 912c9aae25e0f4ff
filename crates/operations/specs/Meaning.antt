-- The terms in which the laws of building speak: what a node stands for, and what a step keeps.
use Rattle.std.specs.Prelude.{◌≡◌, Bool, true, false, ◌⊎◌, List, ◌++◌, ℕ, ◌<◌, ◌≤◌, length, replicate}
use Rattle.nodes.specs.Words.{var_at, capacity_of}
use Rattle.nodes.specs.Standard.{Standard}
use Rattle.nodes.specs.Extends.{Extends}
use Rattle.operations.specs.declared.Store.{Store}
use Rattle.operations.specs.Build.{Outcome, Build}
use Rattle.diagrams.specs.Value.{value}

-- a meaning: a function of the assignment
abbrev pub Meaning : Type 0
Meaning = (ℕ → Bool) → Bool

-- node n is on a variable from u up: its value turns on no variable below
abbrev pub From : ℕ → List ℕ → ℕ → Type 0
From u w n = u ≤ var_at w n

-- node n stands for m, and is on a variable from u up; where the store is full it need not
pub record Stands (u : ℕ) (m : Meaning) (w : List ℕ) (s : Store) (n : ℕ) : Type 0 where
  pub below : n < s.count
  pub from : From u w n
  pub is : s.full ≡ false → (φ : ℕ → Bool) → value w φ n ≡ m φ

-- a step from w and s to x: standard form again, growth, a full store left as it is, and P of the answer
pub record Builds {A : Type 0} (w : List ℕ) (s : Store) (P : List ℕ → Store → A → Type 0) (x : Outcome A) : Type 0 where
  pub standard : Standard x.words x.store.count
  pub extends : Extends w s.count x.words x.store.count
  pub stuck : s.full ≡ true → (x.words ≡ w) × (x.store ≡ s)
  pub post : P x.words x.store x.answer

-- a store of capacity c: its count is within it, and where it is full, at it
pub record Within (c : ℕ) (w : List ℕ) (s : Store) : Type 0 where
  pub capacity : capacity_of w ≡ c
  pub most : s.count ≤ c
  pub at-capacity : s.full ≡ true → s.count ≡ c

-- words with k more lent after them, all 0
abbrev pub longer : ℕ → List ℕ → List ℕ
longer k w = w ++ replicate k 0

abbrev pub lengthened : {A : Type 0} → ℕ → Outcome A → Outcome A
lengthened k x = record { words = longer k x.words; store = x.store; answer = x.answer }

-- x is left in words w, y in longer ones: the same, where x is not full; and where it is, y is full too or has nodes past the capacity of w
pub record Alongside {A : Type 0} (k : ℕ) (w : List ℕ) (x y : Outcome A) : Type 0 where
  pub fits : x.store.full ≡ false → y ≡ lengthened k x
  pub past : x.store.full ≡ true → (y.store.full ≡ true) ⊎ (capacity_of w < y.store.count)

-- a program that leaves a store so: it becomes full at capacity alone, and in longer words it does the same up to there
pub record Fills {A : Type 0} (m : Build A) : Type 0 where
  pub within : (c : ℕ) (w : List ℕ) (s : Store) → Within c w s → Within c (m w s).words (m w s).store
  pub long : (w : List ℕ) (s : Store) → length (m w s).words ≡ length w
  pub grows : (w : List ℕ) (s : Store) → s.count ≤ (m w s).store.count
  pub stuck : (w : List ℕ) (s : Store) → s.full ≡ true → (m w s).store.full ≡ true
  pub alongside : (k : ℕ) (w : List ℕ) (s : Store) → Alongside k w (m w s) (m (longer k w) s)
