-- 01, 'Turned down': what a refusal and a success leave, and that a valid state stays valid.
use Rattle.std.specs.Prelude.{◌≡◌, Bool, true, false, ◌&&◌, ◌||◌, List, ℕ, suc, ◌*◌, ◌^◌, ◌<◌, ◌≤◌, eqb, leb, length, get_or, replicate}
use Rattle.conditions.specs.Stores.{capacity_of, with_terminals, Extends, clear_of}
use Rattle.conditions.specs.Build.{Store}
use Rattle.semantics.specs.declared.Sizes.{Sizes}
use Rattle.model.specs.Record.{Record, size, replaced}
use Rattle.model.specs.Rows.{row1, row2, row3, ports_row}
use Rattle.conditions.specs.Value.{value}
use Rattle.conditions.specs.Assignment.{bit_at}
use Rattle.model.specs.Step.{State, with_words, read, Call, access, is_kind, is_upkeep, idle, Answer, refused, done, is_refused, Filling, fills, fills_none, filling, answer_words, refusal, Finish, full, short, gives, finish, step, run, fresh, with_ports}

-- "After 9, or 8 in an assert, all node words from the count to capacity are 0; otherwise untouched."; 02: "8 clears node words as 9 does", in a write too
abbrev pub clears : ℕ → Bool
clears k = eqb k 9 || eqb k 8

abbrev pub words_after : Bool → State → List ℕ
words_after true s = clear_of s.words s.rec.count
words_after false s = s.words

-- "A refusal .. returns its number; record, nodes below the count, list .. are untouched.", and the ports.
unfoldable pub RefusalLeaves : Type 0
RefusalLeaves = (c : Call) (s : State) (k : ℕ) → (step c s).answer ≡ refused k → (step c s).after ≡ with_words s (words_after (clears k) s)

-- ".. and answer are untouched": of a read that is refused, each of the words that it was lent to fill; one that is accepted leaves as many as it was lent
pub record AnswerLeft (p : ℕ) (e a out : List ℕ) (s : State) : Type 0 where
  pub refuses : (k : ℕ) → (step (access (read p e a out)) s).answer ≡ refused k → (i : ℕ) → get_or (answer_words (step (access (read p e a out)) s).answer out) i 0 ≡ get_or out i 0
  pub len : length (answer_words (step (access (read p e a out)) s).answer out) ≡ length out

unfoldable pub AnswersLeft : Type 0
AnswersLeft = (p : ℕ) (e a out : List ℕ) (s : State) → AnswerLeft p e a out s

-- a refusal's number is one of the table's
abbrev pub numbers : ℕ → Bool
numbers k = leb 1 k && leb k 9 || eqb k 14

unfoldable pub RefusalNumber : Type 0
RefusalNumber = (c : Call) (s : State) (k : ℕ) → (step c s).answer ≡ refused k → numbers k ≡ true

-- what a call that no row refuses is refused by after building: 9 where its program needs a node past capacity, 8 where it has no space for its entry; 0 is none
abbrev pub late_row : Finish → ℕ
late_row (full t) = 9
late_row short = 8
late_row (gives g t) = 0

-- a call is refused by the first row that it meets; where it meets none, by what it is refused by after building: by nothing else
unfoldable pub RefusedByRow : Type 0
RefusedByRow = (c : Call) (s : State) (k : ℕ) → (step c s).answer ≡ refused k → (eqb (refusal c s) k || eqb (refusal c s) 0 && eqb (late_row (finish c s)) k) ≡ true

-- and there it is refused
unfoldable pub RowRefuses : Type 0
RowRefuses = (c : Call) (s : State) (k : ℕ) → (refusal c s ≡ suc k → (step c s).answer ≡ refused (suc k)) × (refusal c s ≡ 0 → late_row (finish c s) ≡ suc k → (step c s).answer ≡ refused (suc k))

-- 9 is met at capacity: of a call that it refuses, the program ends with as many nodes as the lent words hold
unfoldable pub NineAtCapacity : Type 0
NineAtCapacity = (c : Call) (s : State) → (step c s).answer ≡ refused 9 → (t : Store) × (finish c s ≡ full t) × (t.count ≡ capacity_of s.words)

-- rows 1 to 3 do not refuse an access that sees no ports
pub record Valid (s : State) : Type 0 where
  pub one : row1 s.rec s.words ≡ true
  pub two : row2 s.rec s.words ≡ true
  pub three : row3 s.rec s.words s.list ≡ true

-- the assert condition is an assert's alone to change, the check condition a check's: upkeep aside, which may give a condition another number, they are the same nodes
unfoldable pub ConditionsStay : Type 0
ConditionsStay = (c : Call) (s : State) → is_upkeep c ≡ false → (is_kind 3 c ≡ false → (step c s).after.rec.asserted ≡ s.rec.asserted) × (is_kind 4 c ≡ false → (step c s).after.rec.checked ≡ s.rec.checked)

-- and in a valid state they mean the same, after every call
abbrev pub SameMeaning : State → State → (Record → ℕ) → Type 0
SameMeaning s t condition = (a : ℕ) → a < 2 ^ 64 → value t.words (bit_at a) (condition t.rec) ≡ value s.words (bit_at a) (condition s.rec)

unfoldable pub ConditionsMean : Type 0
ConditionsMean = (c : Call) (s : State) → Valid s → (is_kind 3 c ≡ false → SameMeaning s (step c s).after (λ r. r.asserted)) × (is_kind 4 c ≡ false → SameMeaning s (step c s).after (λ r. r.checked))

-- which calls are lent the ports: a read
abbrev pub sees_ports : Call → Bool
sees_ports c = is_kind 2 c

-- what every other call answers, and leaves of record, node words and list, turns on no port
unfoldable pub PortsUnseen : Type 0
PortsUnseen = (c : Call) (s : State) (ps : List ℕ) → sees_ports c ≡ false → step c (with_ports s ps) ≡ record { answer = (step c s).answer; after = with_ports (step c s).after ps }

-- and it leaves them; "each port's held word is replaced by the read that uses it", and the ports are "untouched by refused calls"
abbrev pub held_by : Filling → ℕ → List ℕ → List ℕ
held_by (fills r) p ps = replaced ps p r
held_by fills_none p ps = ps

pub record PortsLeft : Type 0 where
  pub unseen : (c : Call) (s : State) → sees_ports c ≡ false → (step c s).after.ports ≡ s.ports
  pub by_read : (p : ℕ) (e a out : List ℕ) (s : State) → (step (access (read p e a out)) s).after.ports ≡ held_by (filling (step (access (read p e a out)) s).answer) p s.ports

-- 02, of an idle write: "It builds no condition", and is "no longer entered": a call that answers idle is a write, and leaves everything as it was
unfoldable pub IdleLeaves : Type 0
IdleLeaves = (c : Call) (s : State) → (step c s).answer ≡ done idle → (is_kind 1 c ≡ true) × ((step c s).after ≡ s)

-- no call changes n and w, and the list stays as long as it is
pub record SameSizes (s t : State) : Type 0 where
  pub sizes : t.rec.sizes ≡ s.rec.sizes
  pub len : length t.list ≡ length s.list

unfoldable pub SizesStay : Type 0
SizesStay = (c : Call) (s : State) → SameSizes s (step c s).after

-- "Success changes no older node or entry and no word past the new count.", of an access and a node call
pub record Extended (s t : State) : Type 0 where
  pub same : SameSizes s t
  pub nodes : Extends s.words s.rec.count t.words t.rec.count
  pub more : s.rec.entries ≤ t.rec.entries
  pub old : (k : ℕ) → k < s.rec.entries * size s.rec → get_or t.list k 0 ≡ get_or s.list k 0
  pub past : (k : ℕ) → t.rec.entries * size s.rec ≤ k → get_or t.list k 0 ≡ get_or s.list k 0

unfoldable pub SuccessLeaves : Type 0
SuccessLeaves = (c : Call) (s : State) → is_upkeep c ≡ false → is_refused (step c s).answer ≡ false → Extended s (step c s).after

unfoldable pub StaysValid : Type 0
StaysValid = (c : Call) (s : State) → Valid s → Valid (step c s).after

-- and row 3 does not refuse the ports to a read
pub record PortsValid (s : State) : Type 0 where
  pub three : ports_row s.rec s.words s.ports ≡ true
  pub long : length s.ports ≡ 128

unfoldable pub PortsStayValid : Type 0
PortsStayValid = (c : Call) (s : State) → Valid s → PortsValid s → PortsValid (step c s).after

-- so that in a run no call meets rows 1 to 3
unfoldable pub NoRow123 : Type 0
NoRow123 = (cs : List Call) (c : Call) (s : State) (k : ℕ) → Valid s → PortsValid s → (step c (run cs s)).answer ≡ refused k → 4 ≤ k

-- a refused Fresh leaves record, node words and ports as they were; an accepted one "counts 2 and 0, both conditions 1, and the two terminals written", and node 1 in every port word
unfoldable pub FreshLeaves : Type 0
FreshLeaves =
    (given : Record) (z : Sizes) (ws ps : List ℕ)
    → ((k : ℕ) → (fresh given z ws ps).answer ≡ suc k → fresh given z ws ps ≡ record { answer = suc k; rec = given; words = ws; ports = ps })
    × ((fresh given z ws ps).answer ≡ 0
    → fresh given z ws ps ≡ record { answer = 0; rec = record { sizes = z; count = 2; entries = 0; asserted = 1; checked = 1 }; words = with_terminals ws; ports = replicate 128 1 })

-- "the record and node words that an accepted Fresh left, and a list of any words", with the ports that it left, are a valid state
abbrev pub fresh_state : Record → Sizes → List ℕ → List ℕ → List ℕ → State
fresh_state given z ws ps l = record { rec = (fresh given z ws ps).rec; words = (fresh given z ws ps).words; list = l; ports = (fresh given z ws ps).ports }

unfoldable pub FreshValid : Type 0
FreshValid = (given : Record) (z : Sizes) (ws ps l : List ℕ) → (fresh given z ws ps).answer ≡ 0 → Valid (fresh_state given z ws ps l) × PortsValid (fresh_state given z ws ps l)

-- and so no call of a run from there meets rows 1 to 3
unfoldable pub FreshNoRow123 : Type 0
FreshNoRow123 =
    (given : Record) (z : Sizes) (ws ps l : List ℕ) → (fresh given z ws ps).answer ≡ 0 → (cs : List Call) (c : Call) (k : ℕ)
    → (step c (run cs (fresh_state given z ws ps l))).answer ≡ refused k → 4 ≤ k
