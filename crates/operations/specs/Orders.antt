-- 01, 'Conditions': the order in which Ite and Any build, as examples. Node numbers hang on it, and so does where the store is full.
-- The expected words are those of a program by truth tables, written from 01 alone, and not of these definitions.
use Rattle.std.specs.Prelude.{◌≡◌, true, false, List, [], ◌∷◌, ◌++◌, ℕ, ◌-◌, ◌/◌, length, replicate}
use Rattle.operations.specs.declared.Store.{Store}
use Rattle.operations.specs.Build.{Build}
use Rattle.operations.specs.Ite.{And}
use Rattle.operations.specs.Any.{Any}

-- a program, the words of the nodes before it, and those of the nodes that it makes; the last of these is its answer
pub record Order : Type 0 where
  pub program : Build ℕ
  pub nodes : List ℕ
  pub made : List ℕ
  pub answer : ℕ

abbrev pub store_of : List ℕ → Store
store_of ws = record { count = length ws / 3; full = false }

-- Lent words for just the nodes that it makes, with anything in them, the program leaves what the line says; lent one node less, its store is full
pub record Leaves (o : Order) : Type 0 where
  pub enough : o.program (o.nodes ++ replicate (length o.made) 7) (store_of o.nodes) ≡ record { words = o.nodes ++ o.made; store = store_of (o.nodes ++ o.made); answer = o.answer }
  pub short : (o.program (o.nodes ++ replicate (length o.made - 3) 7) (store_of o.nodes)).store.full ≡ true

-- "Ite of their low parts, then Ite of their high parts, then Make of v and the two": And of node 5, (8 2 3), and node 4
unfoldable pub anded : Order
anded =
    record {
      program = And 5 4;
      nodes = 64 ∷ 0 ∷ 0 ∷ 64 ∷ 1 ∷ 1 ∷ 10 ∷ 0 ∷ 1 ∷ 11 ∷ 0 ∷ 1 ∷ 12 ∷ 0 ∷ 1 ∷ 8 ∷ 2 ∷ 3 ∷ [];
      made = 10 ∷ 0 ∷ 4 ∷ 11 ∷ 0 ∷ 4 ∷ 8 ∷ 6 ∷ 7 ∷ [];
      answer = 8;
    }

-- "Or(Any(low), Any(high)), low first": Any of node 7, (0 5 6), whose children are on index variable 1
unfoldable pub settled : Order
settled =
    record {
      program = Any 7;
      nodes = 64 ∷ 0 ∷ 0 ∷ 64 ∷ 1 ∷ 1 ∷ 10 ∷ 0 ∷ 1 ∷ 11 ∷ 0 ∷ 1 ∷ 12 ∷ 0 ∷ 1 ∷ 1 ∷ 2 ∷ 3 ∷ 1 ∷ 2 ∷ 4 ∷ 0 ∷ 5 ∷ 6 ∷ [];
      made = 10 ∷ 3 ∷ 1 ∷ 10 ∷ 4 ∷ 1 ∷ 11 ∷ 4 ∷ 1 ∷ 10 ∷ 10 ∷ 1 ∷ [];
      answer = 11;
    }
