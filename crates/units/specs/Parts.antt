-- 02, 'Units of several cells', under one assignment: a memory's shape, where a unit's parts lie, the entries of a unit write and what a read of a unit answers in the published memory.
use Rattle.std.specs.Prelude.{Bool, false, ◌&&◌, ◌||◌, not, cond, List, [], ◌∷◌, ℕ, suc, ◌*◌, ◌-◌, ◌/◌, ◌%◌, ltb, length}
use Rattle.semantics.specs.declared.Sizes.{Sizes}
use Rattle.semantics.specs.Pairs.{Pair, only, unique}
use Rattle.semantics.specs.Published.{Entry, certain, look, holding}
use Rattle.units.specs.Sum.{bits_of, plus, sum}

-- "the order (0 little, 1 big)"
pub data Order : Type 0 where
  little : Order
  big : Order

-- "Fresh puts m and the order into the record": what the record says of a memory, whatever its conditions
pub record Shape : Type 0 where
  pub n : ℕ
  pub w : ℕ
  pub m : ℕ
  pub order : Order

-- the sizes of its cells; "asserts and checks stay by one cell"
abbrev pub sizes : Shape → Sizes
sizes g = record { n = g.n; w = g.w }

-- "Data, answers and held words of reads and writes have 2 times m times w words": that many pairs
abbrev pub wide : Shape → ℕ
wide g = g.m * g.w

-- "Little endian puts part j, counted from 1, at address+j-1, big endian at address+unit-j"
abbrev pub offset : Order → ℕ → ℕ → ℕ
offset little unit j = j - 1
offset big unit j = unit - j

-- where part j lies, "wrapping at 2^n": of a location, and of an address
abbrev pub part_of : Order → ℕ → List Bool → ℕ → List Bool
part_of o unit x j = plus (bits_of (length x) (offset o unit j)) x

abbrev pub part_pairs : Order → ℕ → List Pair → ℕ → List Pair
part_pairs o unit a j = sum (bits_of (length a) (offset o unit j)) a

-- a part's entry: its h and s are of the unit's own address, and every part shares them
abbrev pub part_entry : Pair → List Pair → List Pair → List Pair → Entry
part_entry c base a d = record {
  hard = certain c && unique base;
  soft = c.h && c.l || certain c && not (unique base);
  address = a;
  word = d;
}

-- "one entry for each part, part 1 first": the parts from j on, each with its data. "a write leaves pairs above its unit unread": they are no part
abbrev pub parts_from : Order → ℕ → Pair → List Pair → ℕ → List (List Pair) → List Entry
parts_from o unit c a j [] = []
parts_from o unit c a j (d ∷ ds) = part_entry c a (part_pairs o unit a j) d ∷ parts_from o unit c a (suc j) ds

-- "Part j is data cell j"
abbrev pub unit_entries : Order → Pair → List Pair → List (List Pair) → List Entry
unit_entries o c a ds = parts_from o (length ds) c a 1 ds

-- "What an enabled read of a small unit finds has zero above": bit i is bit i % w of cell i / w, counted from 0, which is part i / w + 1
abbrev pub look_unit : Shape → List Entry → ℕ → List Pair → ℕ → Pair
look_unit g es unit a i = cond (ltb (i / g.w) unit) (look g.n es (part_pairs g.order unit a (suc (i / g.w))) (i % g.w)) (only false)

-- "a held word is returned whole, whatever the unit"
abbrev pub answer_unit : Shape → List Entry → (ℕ → Pair) → ℕ → Pair → List Pair → ℕ → Pair
answer_unit g es held unit e a i = holding e (look_unit g es unit a i) (held i)
