-- 01, 'Conditions': standard form, as the test that row 2 makes and as the facts that the test finds.
use Rattle.std.specs.Prelude.{◌≡◌, Bool, not, ◌&&◌, List, ℕ, ◌*◌, ◌-◌, ◌<◌, ◌≤◌, eqb, ltb, leb, length}
use Rattle.nodes.specs.Words.{var_at, low_at, high_at, child_at, has_words, capacity_of}
use Rattle.nodes.specs.Search.{seek, every}

-- "fewer than 6 words, count under 2 or over capacity": none of these
unfoldable pub counted : List ℕ → ℕ → Bool
counted w c = leb 6 (length w) && leb 2 c && leb c (capacity_of w)

-- "nodes 0 and 1 as above"
unfoldable pub terminals : List ℕ → Bool
terminals w = has_words w 64 0 0 0 && has_words w 64 1 1 1

-- "less than each child's, children less than the node's number": for the child k of node n
unfoldable pub child_fits : List ℕ → ℕ → ℕ → Bool
child_fits w n k = ltb (var_at w n) (var_at w k) && ltb k n

-- "variable at most 63 and less than each child's, children less than the node's number, low and high unequal"
unfoldable pub shaped : List ℕ → ℕ → Bool
shaped w n = leb (var_at w n) 63 && child_fits w n (low_at w n) && child_fits w n (high_at w n) && not (eqb (low_at w n) (high_at w n))

-- "the lowest node with those words" below c, or c
unfoldable pub lowest : List ℕ → ℕ → ℕ → ℕ → ℕ → ℕ
lowest w c v lo hi = seek (has_words w v lo hi) 0 c

-- "no earlier node with the same three words"
unfoldable pub first : List ℕ → ℕ → Bool
first w n = eqb (lowest w n (var_at w n) (low_at w n) (high_at w n)) n

-- "Standard form: nodes 0 and 1 as above; for node 2 and up", each of these; with the count's own tests, row 2 is its negation
unfoldable pub is_standard : List ℕ → ℕ → Bool
is_standard w c = counted w c && terminals w && every (shaped w) 2 (c - 2) && every (first w) 2 (c - 2)

-- the facts about a node from 2 up
pub record Shape (w : List ℕ) (n : ℕ) : Type 0 where
  pub small : var_at w n < 64
  pub below : (b : Bool) → child_at b w n < n
  pub after : (b : Bool) → var_at w n < var_at w (child_at b w n)
  pub apart : low_at w n ≡ high_at w n → ⊥

-- the facts about the first c nodes
pub record Standard (w : List ℕ) (c : ℕ) : Type 0 where
  pub two : 2 ≤ c
  pub room : c * 3 ≤ length w
  pub most : c ≤ 16384
  pub var0 : var_at w 0 ≡ 64
  pub var1 : var_at w 1 ≡ 64
  pub low0 : low_at w 0 ≡ 0
  pub low1 : low_at w 1 ≡ 1
  pub high0 : high_at w 0 ≡ 0
  pub high1 : high_at w 1 ≡ 1
  pub shape : (n : ℕ) → 2 ≤ n → n < c → Shape w n
  pub once : (m n : ℕ) → 2 ≤ m → m < c → 2 ≤ n → n < c → var_at w m ≡ var_at w n → low_at w m ≡ low_at w n → high_at w m ≡ high_at w n → m ≡ n
