-- What the functions answer, in the words of `format`.
use Rattle.std.specs.Prelude.{◌≡◌, List, ℕ, ◌+◌, get_or, Result, Ok, Err}
use Rattle.refusals.specs.declared.Refusal.{Refusal}
use Rattle.refusals.specs.Refusal.{number}
use Rattle.format.specs.Accesses.{found, kind_at, held_at, access_at}
use Rattle.format.specs.Accesses as accesses
use Rattle.format.specs.Sections.{Sections, ready}
use Rattle.format.specs.Sections as sections
use Rattle.reading.specs.Layout.{lead_of, port_of}
use Rattle.reading.specs.declared.Access.{Access}
use Rattle.reading.specs.declared.Loaded.{Loaded}

-- the port of the access at a place, and where its nodes begin
abbrev pub port_in : List ℕ → ℕ → ℕ
port_in file at = port_of (kind_at file at) (get_or file (at + 1) 0)

abbrev pub nodes_at : List ℕ → ℕ → ℕ
nodes_at file at = at + 1 + lead_of (kind_at file at)

-- the access at a place, for n and w: its kind, port and nodes; or 01's number
abbrev pub Reads : List ℕ → ℕ → ℕ → ℕ → Result Access Refusal → Type 0
Reads file at n w (Ok a) = (access_at file at n w ≡ found a.kind (held_at file at n w)) × (a.port ≡ port_in file at) × (a.from ≡ nodes_at file at)
Reads file at n w (Err k) = access_at file at n w ≡ accesses.refused (number k)

-- 01's number and values for each answer of the sections
abbrev pub sections_of : Result Loaded Refusal → Sections
sections_of (Ok l) = ready l.sizes.n l.sizes.w l.count l.accesses l.at
sections_of (Err k) = sections.refused (number k)
