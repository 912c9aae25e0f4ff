-- What follows of every write, for C.
use Rattle.std.specs.Prelude.{◌≡◌, ◌↔◌, List, [], ℕ}
use Rattle.model.specs.Step.{write, access}
use Rattle.model.specs.Table.{NeverOne}
use Rattle.record_words.specs.Words.{state_in}
use Rattle.record_words.specs.Calls.{idle_place, called}

-- 02: the place of an accepted write is `MD_IDLE` exactly where its enable is 0 under every assignment: no entry has that place
unfoldable pub IdlePlace : Type 0
IdlePlace = (c a d r w l ps : List ℕ) (v : ℕ) → (called (access (write c a d)) r w l ps [] v).number ≡ 0 → ((called (access (write c a d)) r w l ps [] v).out ≡ idle_place) ↔ NeverOne (state_in r w l ps) c
