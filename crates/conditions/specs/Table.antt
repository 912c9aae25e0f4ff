-- The computed table: answers of Ite that were remembered, one to a number.
use Rattle.std.specs.Prelude.{◌≡◌, Bool, false, cond, List, ℕ, ◌+◌, ◌*◌, ◌/◌, ◌%◌, ◌<◌, eqb, get_or, set, Option, Some, None}
use Rattle.diagrams.specs.Keys.{key_of, slot_of}
use Rattle.operations.specs.declared.Store.{Store}
use Rattle.operations.specs.Build.{pure}
use Rattle.operations.specs.Ite.{plain_of, Ite}

-- what stands at the place of three nodes, if it is theirs
unfoldable pub recall_of : List ℕ → ℕ → ℕ → ℕ → Option ℕ
recall_of t f g h = cond (eqb (get_or t (slot_of f g h) 0 / 16384) (key_of f g h)) (Some (get_or t (slot_of f g h) 0 % 16384)) None

-- by a rule of Ite, or else by the table
abbrev pub or_recall : Option ℕ → List ℕ → ℕ → ℕ → ℕ → Option ℕ
or_recall (Some n) t f g h = Some n
or_recall None t f g h = recall_of t f g h

unfoldable pub known_of : List ℕ → Bool → ℕ → ℕ → ℕ → Option ℕ
known_of t full f g h = or_recall (plain_of full f g h) t f g h

abbrev pub remember_of : List ℕ → ℕ → ℕ → ℕ → ℕ → List ℕ
remember_of t f g h r = set t (slot_of f g h) (key_of f g h * 16384 + r)

-- that f, g and h are nodes, of which Ite answers r and builds nothing
pub record Known (w : List ℕ) (s : Store) (f g h r : ℕ) : Type 0 where
  pub first : f < s.count
  pub second : g < s.count
  pub third : h < s.count
  pub is : Ite f g h w s ≡ pure r w s

-- each number of the table is three nodes and the answer of their Ite, which is still the answer here; so is 0, for Ite(0,0,0) is 0
pub record Remembers (t : List ℕ) (w : List ℕ) (s : Store) : Type 0 where
  pub at : s.full ≡ false → (i : ℕ) → Known w s (get_or t i 0 / 4398046511104) (get_or t i 0 / 268435456 % 16384) (get_or t i 0 / 16384 % 16384) (get_or t i 0 % 16384)
