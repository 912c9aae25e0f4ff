-- 01, 'Turned down': "all node words from the count to capacity are 0".
use Rattle.std.specs.Prelude.{List, ℕ, zero, suc, ◌*◌, ◌-◌, set}
use Rattle.nodes.specs.Words.{capacity_of}

-- n words from k on are 0
unfoldable pub zeroed : List ℕ → ℕ → ℕ → List ℕ
zeroed w k zero = w
zeroed w k (suc n) = zeroed (set w k 0) (suc k) n

unfoldable pub clear_of : List ℕ → ℕ → List ℕ
clear_of w c = zeroed w (c * 3) (capacity_of w * 3 - c * 3)
