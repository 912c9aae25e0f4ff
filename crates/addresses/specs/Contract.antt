-- What the functions of the accesses ask and promise, beside those of `conditions`.
use Rattle.std.specs.Prelude.{◌≡◌, List, ℕ, ◌*◌, ◌<◌, ◌≤◌, length, get_or}
use Rattle.semantics.specs.declared.Sizes.{Sizes}
use Rattle.model.specs.Record.{Record, address_words, size, h_at, l_at}
use Rattle.model.specs.declared.AddressNode.{AddressNode}
use Rattle.model.specs.declared.Pair.{Pair}

-- each word of a slice is a node
pub record Nodes (c : ℕ) (ws : List ℕ) : Type 0 where
  pub at : (k : ℕ) → k < length ws → get_or ws k 0 < c

-- pair i of an address
abbrev pub address_pair : List ℕ → ℕ → Pair AddressNode
address_pair a i = record { h = record { 0 = h_at a i }; l = record { 0 = l_at a i } }

-- a record as far as a look goes by it: its sizes and k entries
abbrev pub shape : Sizes → ℕ → Record
shape z k = record { sizes = z; count = 0; entries = k; asserted = 0; checked = 0 }

-- a memory of these sizes with k entries in a list whose words so far are nodes, and an address
pub record Looks (z : Sizes) (k c : ℕ) (list address : List ℕ) : Type 0 where
  pub few : z.n ≤ 8
  pub wide : z.w ≤ 16
  pub many : k ≤ 4096
  pub room : k * size (shape z k) ≤ length list
  pub entries : (i : ℕ) → i < k * size (shape z k) → get_or list i 0 < c
  pub pairs : length address ≡ address_words (shape z k)
  pub nodes : Nodes c address
