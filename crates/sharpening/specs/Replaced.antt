-- 02, 'Sharpening an input': "Engineers replace an X by 0 or 1". Two lists of accesses, by the words that they are lent.
use Rattle.std.specs.Prelude.{List, [], ◌∷◌, ℕ, ◌<◌}
use Rattle.semantics.specs.Sizes.{cell_bits, data_bits}
use Rattle.model.specs.Record.{h_at, l_at}
use Rattle.model.specs.Step.{State, Access, write, read, assert, check, Call, access}
use Rattle.model.specs.Table.{Names}

-- the h and l of a pair in the first list and in the second: two nodes that stand there where the lists begin, in both; or nodes 1 and 1, which is X, and 1 and 0, or 0 and 1, in their place
pub data ReplacedPair (s : State) : ℕ → ℕ → ℕ → ℕ → Type 0 where
  same : {h l : ℕ} → Names s.rec s.words h → Names s.rec s.words l → ReplacedPair s h l h l
  by1 : ReplacedPair s 1 1 1 0
  by0 : ReplacedPair s 1 1 0 1

-- k pairs of words, and k pairs that are the same
abbrev pub Replaced : State → ℕ → List ℕ → List ℕ → Type 0
Replaced s k ws vs = (i : ℕ) → i < k → ReplacedPair s (h_at ws i) (l_at ws i) (h_at vs i) (l_at vs i)

abbrev pub Named : State → ℕ → List ℕ → Type 0
Named s k ws = (i : ℕ) → i < k → Names s.rec s.words (h_at ws i) × Names s.rec s.words (l_at ws i)

-- an access: "the same ports, b and check data". The answer words that reads are lent may differ
pub data ReplacedAccess (s : State) : Access → Access → Type 0 where
  of-write : {c c' a a' d d' : List ℕ} → Replaced s 1 c c' → Replaced s s.rec.sizes.n a a' → Replaced s (data_bits s.rec.sizes) d d' → ReplacedAccess s (write c a d) (write c' a' d')
  of-read : {p : ℕ} {e e' a a' out out' : List ℕ} → Replaced s 1 e e' → Replaced s s.rec.sizes.n a a' → ReplacedAccess s (read p e a out) (read p e' a' out')
  of-assert : {b : ℕ} {a a' d d' : List ℕ} → Names s.rec s.words b → Replaced s s.rec.sizes.n a a' → Replaced s (cell_bits s.rec.sizes) d d' → ReplacedAccess s (assert b a d) (assert b a' d')
  of-check : {b : ℕ} {a a' d : List ℕ} → Names s.rec s.words b → Replaced s s.rec.sizes.n a a' → Named s (cell_bits s.rec.sizes) d → ReplacedAccess s (check b a d) (check b a' d)

-- one after the other
pub data ReplacedCalls (s : State) : List Call → List Call → Type 0 where
  end : ReplacedCalls s [] []
  then : {c d : Access} {cs ds : List Call} → ReplacedAccess s c d → ReplacedCalls s cs ds → ReplacedCalls s (access c ∷ cs) (access d ∷ ds)
