-- 02, 'Units of several cells': the order of building, as one table of programs and what each is to leave. Node numbers hang on that order, and so does where the store is full.
-- The expected words are those of `tests/unitorders.py`, which has the operations over truth tables from the papers and their readings, and not of these definitions. It tells too which other orders some line rules out.
use Rattle.std.specs.Prelude.{◌≡◌, true, false, List, [], ◌∷◌, ◌++◌, ℕ, ◌+◌, ◌*◌, ◌-◌, ◌/◌, length, get_or, replicate}
use Rattle.conditions.specs.Build.{Store, Build, pure, next, ◌>>=◌}
use Rattle.model.specs.Orders.{record_of}
use Rattle.units.specs.Sum.{bits_of}
use Rattle.units.specs.Parts.{little, big}
use Rattle.units.specs.Parts.{Order as Endian}
use Rattle.unit_programs.specs.Add.{Add}
use Rattle.unit_programs.specs.Units.{Ready, UnitWrite, ReadUnit}

-- a program, the words of the nodes before it and of those that it makes, and the nodes that it answers
pub record Order : Type 0 where
  pub program : Build (List ℕ)
  pub nodes : List ℕ
  pub made : List ℕ
  pub answer : List ℕ

abbrev pub store_of : List ℕ → Store
store_of ws = record { count = length ws / 3; full = false }

-- Lent words for just the nodes that it makes, with anything in them, the program leaves what the line says; lent one node less, its store is full
pub record Leaves (o : Order) : Type 0 where
  pub enough : o.program (o.nodes ++ replicate (length o.made) 7) (store_of o.nodes) ≡ record { words = o.nodes ++ o.made; store = store_of (o.nodes ++ o.made); answer = o.answer }
  pub short : (o.program (o.nodes ++ replicate (length o.made - 3) 7) (store_of o.nodes)).store.full ≡ true

abbrev pub AllLeave : List Order → Type 0
AllLeave [] = Unit {0}
AllLeave (o ∷ os) = Leaves o × AllLeave os

-- the two terminals, before the nodes that a line gives
abbrev pub with_terminals : List ℕ → List ℕ
with_terminals ws = 64 ∷ 0 ∷ 0 ∷ 64 ∷ 1 ∷ 1 ∷ ws

-- a sum: n, the constant and the address
abbrev pub sums : List ℕ → ℕ → ℕ → List ℕ → List ℕ → List ℕ → Order
sums nodes n k a made answer = record { program = Add n a (bits_of n k); nodes = with_terminals nodes; made = made; answer = answer }

-- the words of entries, one after the other
abbrev pub entry_words : List Ready → List ℕ
entry_words [] = []
entry_words (e ∷ es) = e.hard ∷ e.soft ∷ (e.address ++ (e.word ++ entry_words es))

-- a unit write: the order, n and w, the unit, enable, address and data
abbrev pub writes : List ℕ → Endian → ℕ → ℕ → ℕ → List ℕ → List ℕ → List ℕ → List ℕ → List ℕ → Order
writes nodes o n w unit c a d made answer =
    record {
      program = UnitWrite o (record_of n w 0 0 0 0) unit (get_or c 0 0) (get_or c 1 0) a d >>= (λ xs. pure (entry_words xs));
      nodes = with_terminals nodes;
      made = made;
      answer = answer;
    }

-- a unit read: the order, n, w and m, the unit, the words of the entries, the word that the port holds, enable and address
abbrev pub reads : List ℕ → Endian → ℕ → ℕ → ℕ → ℕ → List ℕ → List ℕ → List ℕ → List ℕ → List ℕ → List ℕ → Order
reads nodes o n w m unit l held c a made answer =
    record {
      program = ReadUnit m o (record_of n w 0 (length l / (2 + 2 * n + 2 * w)) 0 0) l held unit (get_or c 0 0) (get_or c 1 0) a;
      nodes = with_terminals nodes;
      made = made;
      answer = answer;
    }

-- 1 added to two variables: n = 2
abbrev pub one_to_two : Order
one_to_two = sums (8 ∷ 0 ∷ 1 ∷ 9 ∷ 0 ∷ 1 ∷ 8 ∷ 1 ∷ 0 ∷ 9 ∷ 1 ∷ 0 ∷ []) 2 1 (2 ∷ 4 ∷ 3 ∷ 5 ∷ []) (8 ∷ 1 ∷ 5 ∷ 8 ∷ 3 ∷ 5 ∷ 8 ∷ 5 ∷ 1 ∷ 8 ∷ 5 ∷ 3 ∷ []) (4 ∷ 2 ∷ 7 ∷ 9 ∷ [])

-- 2 added to three variables: n = 3
abbrev pub two_to_three : Order
two_to_three = sums (8 ∷ 0 ∷ 1 ∷ 9 ∷ 0 ∷ 1 ∷ 10 ∷ 0 ∷ 1 ∷ 8 ∷ 1 ∷ 0 ∷ 9 ∷ 1 ∷ 0 ∷ 10 ∷ 1 ∷ 0 ∷ []) 3 2 (2 ∷ 5 ∷ 3 ∷ 6 ∷ 4 ∷ 7 ∷ []) (9 ∷ 1 ∷ 7 ∷ 9 ∷ 4 ∷ 7 ∷ 9 ∷ 7 ∷ 1 ∷ 9 ∷ 7 ∷ 4 ∷ []) (2 ∷ 5 ∷ 6 ∷ 3 ∷ 9 ∷ 11 ∷ [])

-- 3 added to two variables, which wraps: n = 2
abbrev pub three_to_two : Order
three_to_two = sums (8 ∷ 0 ∷ 1 ∷ 9 ∷ 0 ∷ 1 ∷ 8 ∷ 1 ∷ 0 ∷ 9 ∷ 1 ∷ 0 ∷ []) 2 3 (2 ∷ 4 ∷ 3 ∷ 5 ∷ []) (8 ∷ 1 ∷ 5 ∷ 8 ∷ 3 ∷ 5 ∷ 8 ∷ 5 ∷ 1 ∷ 8 ∷ 5 ∷ 3 ∷ []) (4 ∷ 2 ∷ 9 ∷ 7 ∷ [])

-- 3 added to three variables: n = 3
abbrev pub three_to_three : Order
three_to_three = sums (8 ∷ 0 ∷ 1 ∷ 9 ∷ 0 ∷ 1 ∷ 10 ∷ 0 ∷ 1 ∷ 8 ∷ 1 ∷ 0 ∷ 9 ∷ 1 ∷ 0 ∷ 10 ∷ 1 ∷ 0 ∷ []) 3 3 (2 ∷ 5 ∷ 3 ∷ 6 ∷ 4 ∷ 7 ∷ []) (8 ∷ 1 ∷ 6 ∷ 8 ∷ 3 ∷ 6 ∷ 8 ∷ 6 ∷ 1 ∷ 8 ∷ 6 ∷ 3 ∷ 8 ∷ 3 ∷ 1 ∷ 8 ∷ 6 ∷ 0 ∷ 9 ∷ 1 ∷ 7 ∷ 8 ∷ 14 ∷ 7 ∷ 9 ∷ 4 ∷ 7 ∷ 8 ∷ 16 ∷ 7 ∷ 9 ∷ 7 ∷ 1 ∷ 8 ∷ 18 ∷ 1 ∷ 9 ∷ 7 ∷ 4 ∷ 8 ∷ 20 ∷ 4 ∷ []) (5 ∷ 2 ∷ 11 ∷ 9 ∷ 17 ∷ 21 ∷ [])

-- 1 added to an address whose lowest bit is X, so that the carry is left open: n = 3
abbrev pub one_to_unknown : Order
one_to_unknown = sums (8 ∷ 0 ∷ 1 ∷ 9 ∷ 0 ∷ 1 ∷ 8 ∷ 1 ∷ 0 ∷ 9 ∷ 1 ∷ 0 ∷ []) 3 1 (1 ∷ 1 ∷ 2 ∷ 4 ∷ 3 ∷ 5 ∷ []) (8 ∷ 3 ∷ 1 ∷ 8 ∷ 5 ∷ 1 ∷ []) (1 ∷ 1 ∷ 1 ∷ 1 ∷ 6 ∷ 7 ∷ [])

-- 3 added to an address whose second bit is X: n = 3
abbrev pub three_above_unknown : Order
three_above_unknown = sums (8 ∷ 0 ∷ 1 ∷ 9 ∷ 0 ∷ 1 ∷ 8 ∷ 1 ∷ 0 ∷ 9 ∷ 1 ∷ 0 ∷ []) 3 3 (2 ∷ 4 ∷ 1 ∷ 1 ∷ 3 ∷ 5 ∷ []) (8 ∷ 1 ∷ 5 ∷ 8 ∷ 1 ∷ 3 ∷ []) (4 ∷ 2 ∷ 1 ∷ 1 ∷ 6 ∷ 7 ∷ [])

-- a unit of two, little: the marks, and then the sum of part 2: n = 2, w = 1
abbrev pub written_little : Order
written_little = writes (8 ∷ 0 ∷ 1 ∷ 9 ∷ 0 ∷ 1 ∷ 8 ∷ 1 ∷ 0 ∷ []) little 2 1 2 (4 ∷ 1 ∷ []) (3 ∷ 1 ∷ 2 ∷ 4 ∷ []) (1 ∷ 2 ∷ 3 ∷ 1 ∷ []) (9 ∷ 1 ∷ 0 ∷ 8 ∷ 3 ∷ 1 ∷ 8 ∷ 1 ∷ 3 ∷ []) (0 ∷ 4 ∷ 3 ∷ 1 ∷ 2 ∷ 4 ∷ 1 ∷ 2 ∷ 0 ∷ 4 ∷ 1 ∷ 3 ∷ 6 ∷ 7 ∷ 3 ∷ 1 ∷ [])

-- a unit of two, big: the marks are those of the base address, and part 1 has the sum: n = 2, w = 1
abbrev pub written_big : Order
written_big = writes (8 ∷ 0 ∷ 1 ∷ 9 ∷ 0 ∷ 1 ∷ 8 ∷ 1 ∷ 0 ∷ []) big 2 1 2 (1 ∷ 0 ∷ []) (3 ∷ 1 ∷ 2 ∷ 4 ∷ []) (1 ∷ 3 ∷ 3 ∷ 1 ∷ []) (9 ∷ 1 ∷ 0 ∷ 8 ∷ 3 ∷ 1 ∷ 8 ∷ 1 ∷ 3 ∷ []) (5 ∷ 3 ∷ 1 ∷ 3 ∷ 6 ∷ 7 ∷ 1 ∷ 3 ∷ 5 ∷ 3 ∷ 3 ∷ 1 ∷ 2 ∷ 4 ∷ 3 ∷ 1 ∷ [])

-- a unit of four, little: the sums of 1, 2 and 3 in this order: n = 3, w = 1
abbrev pub written_four : Order
written_four = writes (8 ∷ 0 ∷ 1 ∷ 9 ∷ 0 ∷ 1 ∷ 10 ∷ 0 ∷ 1 ∷ 8 ∷ 1 ∷ 0 ∷ 9 ∷ 1 ∷ 0 ∷ 10 ∷ 1 ∷ 0 ∷ []) little 3 1 4 (1 ∷ 0 ∷ []) (2 ∷ 5 ∷ 3 ∷ 6 ∷ 4 ∷ 7 ∷ []) (1 ∷ 0 ∷ 0 ∷ 1 ∷ 1 ∷ 1 ∷ 2 ∷ 5 ∷ []) (8 ∷ 1 ∷ 6 ∷ 8 ∷ 3 ∷ 6 ∷ 8 ∷ 6 ∷ 1 ∷ 8 ∷ 6 ∷ 3 ∷ 8 ∷ 0 ∷ 3 ∷ 9 ∷ 1 ∷ 7 ∷ 8 ∷ 1 ∷ 13 ∷ 9 ∷ 4 ∷ 7 ∷ 8 ∷ 4 ∷ 15 ∷ 9 ∷ 7 ∷ 1 ∷ 8 ∷ 7 ∷ 17 ∷ 9 ∷ 7 ∷ 4 ∷ 8 ∷ 7 ∷ 19 ∷ 8 ∷ 3 ∷ 1 ∷ 8 ∷ 6 ∷ 0 ∷ 8 ∷ 13 ∷ 7 ∷ 8 ∷ 15 ∷ 7 ∷ 8 ∷ 17 ∷ 1 ∷ 8 ∷ 19 ∷ 4 ∷ []) (1 ∷ 0 ∷ 2 ∷ 5 ∷ 3 ∷ 6 ∷ 4 ∷ 7 ∷ 1 ∷ 0 ∷ 1 ∷ 0 ∷ 5 ∷ 2 ∷ 9 ∷ 11 ∷ 16 ∷ 20 ∷ 0 ∷ 1 ∷ 1 ∷ 0 ∷ 2 ∷ 5 ∷ 6 ∷ 3 ∷ 15 ∷ 19 ∷ 1 ∷ 1 ∷ 1 ∷ 0 ∷ 5 ∷ 2 ∷ 11 ∷ 9 ∷ 24 ∷ 26 ∷ 2 ∷ 5 ∷ [])

-- a unit of two, little: the first look before the second sum, and S after both: n = 2, w = 1, m = 2
abbrev pub read_little : Order
read_little = reads (8 ∷ 0 ∷ 1 ∷ 9 ∷ 0 ∷ 1 ∷ 8 ∷ 1 ∷ 3 ∷ []) little 2 1 2 2 [] (2 ∷ 1 ∷ 2 ∷ 1 ∷ []) (4 ∷ 2 ∷ []) (1 ∷ 3 ∷ 2 ∷ 4 ∷ []) (0 ∷ 0 ∷ 1 ∷ 0 ∷ 3 ∷ 1 ∷ 1 ∷ 0 ∷ 1 ∷ 1 ∷ 4 ∷ 2 ∷ 8 ∷ 0 ∷ 3 ∷ 1 ∷ 3 ∷ 9 ∷ 0 ∷ 10 ∷ 8 ∷ 8 ∷ 3 ∷ 1 ∷ 0 ∷ 1 ∷ 3 ∷ 1 ∷ 12 ∷ 4 ∷ 0 ∷ 14 ∷ 3 ∷ []) (1 ∷ 1 ∷ 1 ∷ 1 ∷ [])

-- a unit of two, big, over an entry: n = 1, w = 1, m = 2
abbrev pub read_big : Order
read_big = reads (8 ∷ 0 ∷ 1 ∷ 9 ∷ 0 ∷ 1 ∷ 8 ∷ 3 ∷ 1 ∷ 8 ∷ 1 ∷ 3 ∷ []) big 1 1 2 2 (3 ∷ 0 ∷ 5 ∷ 2 ∷ 1 ∷ 1 ∷ []) (4 ∷ 1 ∷ 2 ∷ 1 ∷ []) (5 ∷ 2 ∷ []) (1 ∷ 1 ∷ []) (0 ∷ 0 ∷ 1 ∷ 0 ∷ 2 ∷ 5 ∷ 8 ∷ 0 ∷ 3 ∷ 0 ∷ 8 ∷ 3 ∷ []) (1 ∷ 1 ∷ 1 ∷ 1 ∷ [])

-- a unit of one in a memory of two: (0,1) above it, beside the word that the port holds: n = 1, w = 1, m = 2
abbrev pub read_small : Order
read_small = reads (8 ∷ 0 ∷ 1 ∷ 9 ∷ 0 ∷ 1 ∷ 8 ∷ 1 ∷ 3 ∷ []) little 1 1 2 1 (2 ∷ 0 ∷ 1 ∷ 4 ∷ 1 ∷ 4 ∷ []) (1 ∷ 3 ∷ 1 ∷ 0 ∷ []) (4 ∷ 2 ∷ []) (4 ∷ 1 ∷ []) (0 ∷ 0 ∷ 1 ∷ 0 ∷ 1 ∷ 4 ∷ 0 ∷ 4 ∷ 1 ∷ 8 ∷ 0 ∷ 3 ∷ 8 ∷ 1 ∷ 0 ∷ []) (1 ∷ 4 ∷ 2 ∷ 4 ∷ [])

unfoldable pub orders : List Order
orders = one_to_two ∷ two_to_three ∷ three_to_two ∷ three_to_three ∷ one_to_unknown ∷ three_above_unknown ∷ written_little ∷ written_big ∷ written_four ∷ read_little ∷ read_big ∷ read_small ∷ []

-- each line of the table
unfoldable pub OrdersHold : Type 0
OrdersHold = AllLeave orders
