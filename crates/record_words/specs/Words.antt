-- The record of a memory as six words.
use Rattle.std.specs.Prelude.{List, [], ◌∷◌, ℕ, get_or}
use Rattle.model.specs.Record.{Record}
use Rattle.model.specs.Step.{State}

-- "n, w, node count, entry count, assert condition, check condition"
abbrev pub record_in : List ℕ → Record
record_in r = record { sizes = record { n = get_or r 0 0; w = get_or r 1 0 }; count = get_or r 2 0; entries = get_or r 3 0; asserted = get_or r 4 0; checked = get_or r 5 0 }

abbrev pub words_of : Record → List ℕ
words_of r = r.sizes.n ∷ r.sizes.w ∷ r.count ∷ r.entries ∷ r.asserted ∷ r.checked ∷ []

-- record, node words, list and ports of a call
abbrev pub state_in : List ℕ → List ℕ → List ℕ → List ℕ → State
state_in r w l ps = record { rec = record_in r; words = w; list = l; ports = ps }
