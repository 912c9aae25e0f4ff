-- The calls: what each answers, and what it leaves of record, node words, list and ports.
use Rattle.std.specs.Prelude.{◌≡◌, Bool, true, false, cond, List, [], ◌∷◌, ℕ, zero, suc, ◌+◌, eqb, leb, length, get_or}
use Rattle.conditions.specs.Stores.{with_terminals, clear_of}
use Rattle.conditions.specs.Build.{Store, Outcome, Build}
use Rattle.conditions.specs.Make.{Variable}
use Rattle.conditions.specs.Ite.{Ite}
use Rattle.conditions.specs.Value.{value}
use Rattle.conditions.specs.Assignment.{bit_at}
use Rattle.semantics.specs.declared.Sizes.{Sizes}
use Rattle.model.specs.Record.{Record, with_count, with_entries, with_asserted, with_checked, appended, held_word, replaced, fresh_ports}
use Rattle.formulas.specs.Language.{Tree}
use Rattle.model.specs.Formula.{Triple, Triples}
use Rattle.model.specs.Access.{Marks, Write, Read, AssertBuilt, Assert, Check}
use Rattle.model.specs.Rows.{first_row, row1, space_for, write_rows, read_rows, assert_rows, check_rows, evaluate_rows, variable_rows, ite_rows, formula_rows}

-- "Record, node words and list go from call to call as the last one left them"; "the ports go from call to call as the list does"
pub record State : Type 0 where
  pub rec : Record
  pub words : List ℕ
  pub list : List ℕ
  pub ports : List ℕ

-- the state with another record, other node words, another list, other ports
abbrev pub with_record : State → Record → State
with_record s r = record { rec = r; words = s.words; list = s.list; ports = s.ports }

abbrev pub with_words : State → List ℕ → State
with_words s w = record { rec = s.rec; words = w; list = s.list; ports = s.ports }

abbrev pub with_list : State → List ℕ → State
with_list s l = record { rec = s.rec; words = s.words; list = l; ports = s.ports }

abbrev pub with_ports : State → List ℕ → State
with_ports s ps = record { rec = s.rec; words = s.words; list = s.list; ports = ps }

-- an access and what it is told and lent beside the state: words of any number; a read is told its port, and its last words are those that it fills
pub data Access : Type 0 where
  write : List ℕ → List ℕ → List ℕ → Access
  read : ℕ → List ℕ → List ℕ → List ℕ → Access
  assert : ℕ → List ℕ → List ℕ → Access
  check : ℕ → List ℕ → List ℕ → Access

-- a call at which the plain array does nothing: "the node calls (evaluate, variable, Ite)", and the conditions of a formula, which are built together
pub data NodeCall : Type 0 where
  evaluate : ℕ → ℕ → NodeCall
  variable : ℕ → NodeCall
  ite : ℕ → ℕ → ℕ → NodeCall
  conditions : Tree → NodeCall

-- a call that keeps record, node words and list in order, at which the plain array does nothing: none yet
abbrev pub Upkeep : Type 0
Upkeep = ⊥

pub data Call : Type 0 where
  access : Access → Call
  node_call : NodeCall → Call
  upkeep : Upkeep → Call

-- "Kind 1 is a write, 2 a read, 3 an assert, 4 a check."
abbrev pub kind_of : Access → ℕ
kind_of (write c a d) = 1
kind_of (read p e a out) = 2
kind_of (assert b a d) = 3
kind_of (check b a d) = 4

-- a call is an access of this kind; it is upkeep
abbrev pub is_kind : ℕ → Call → Bool
is_kind k (access c) = eqb (kind_of c) k
is_kind k (node_call c) = false
is_kind k (upkeep c) = false

abbrev pub is_upkeep : Call → Bool
is_upkeep (access c) = false
is_upkeep (node_call c) = false
is_upkeep (upkeep c) = true

-- "A write answers its entry's place, counted from 0", or by 02 idle; "a read fills 2w lent words; an assert answers entered or kept; a check answers accepted."
-- Evaluate answers a value, variable and Ite a node, the conditions of a formula its triples
pub data Given : Type 0 where
  place : ℕ → Given
  idle : Given
  filled : List ℕ → Given
  entered : Given
  kept : Given
  accepted : Given
  valued : Bool → Given
  node : ℕ → Given
  triples : List Triple → Given

-- a call gives what it was asked for, or is refused and "returns its number"
pub data Answer : Type 0 where
  refused : ℕ → Answer
  done : Given → Answer

abbrev pub is_refused : Answer → Bool
is_refused (refused k) = true
is_refused (done g) = false

-- the words that a read filled; no other call fills any
pub data Filling : Type 0 where
  fills : List ℕ → Filling
  fills_none : Filling

abbrev pub filling_of : Given → Filling
filling_of (place k) = fills_none
filling_of idle = fills_none
filling_of (filled r) = fills r
filling_of entered = fills_none
filling_of kept = fills_none
filling_of accepted = fills_none
filling_of (valued b) = fills_none
filling_of (node n) = fills_none
filling_of (triples ts) = fills_none

-- the triples that were answered
abbrev pub triples_of : Given → List Triple
triples_of (place k) = []
triples_of idle = []
triples_of (filled r) = []
triples_of entered = []
triples_of kept = []
triples_of accepted = []
triples_of (valued b) = []
triples_of (node n) = []
triples_of (triples ts) = ts

abbrev pub filling : Answer → Filling
filling (refused k) = fills_none
filling (done g) = filling_of g

-- the answer words of a read as it leaves them: those lent, where it is refused
abbrev pub filled_over : Filling → List ℕ → List ℕ
filled_over (fills r) out = r
filled_over fills_none out = out

abbrev pub answer_words : Answer → List ℕ → List ℕ
answer_words x out = filled_over (filling x) out

pub record Result : Type 0 where
  pub answer : Answer
  pub after : State

-- the first row that refuses a call, in the order in which its rows are listed, or 0. 8 and 9 are met later, where an entry is needed and where nodes are built
abbrev pub access_refusal : Access → State → ℕ
access_refusal (write c a d) s = first_row (write_rows s.rec s.words s.list c a d)
access_refusal (read p e a out) s = first_row (read_rows s.rec s.words s.list s.ports p e a out)
access_refusal (assert b a d) s = first_row (assert_rows s.rec s.words s.list b a d)
access_refusal (check b a d) s = first_row (check_rows s.rec s.words s.list b a d)

abbrev pub node_refusal : NodeCall → State → ℕ
node_refusal (evaluate f φ) s = first_row (evaluate_rows s.rec s.words f)
node_refusal (variable v) s = first_row (variable_rows s.rec s.words v)
node_refusal (ite f g h) s = first_row (ite_rows s.rec s.words f g h)
node_refusal (conditions t) s = first_row (formula_rows s.rec s.words t)

abbrev pub refusal : Call → State → ℕ
refusal (access c) s = access_refusal c s
refusal (node_call c) s = node_refusal c s
refusal (upkeep c) s = absurd c

-- "A refusal .. returns its number; record, nodes below the count, list and answer are untouched."
abbrev pub turned_down : ℕ → State → Result
turned_down k s = record { answer = refused k; after = s }

-- "After 9, or 8 in an assert, all node words from the count to capacity are 0"; 02: "8 clears node words as 9 does"
abbrev pub cleared : ℕ → State → Result
cleared k s = record { answer = refused k; after = with_words s (clear_of s.words s.rec.count) }

-- what a call comes to that no row refuses: its program needed a node past capacity, and left this store; it has no space for its entry; or it gives this, and leaves this state
pub data Finish : Type 0 where
  full : Store → Finish
  short : Finish
  gives : Given → State → Finish

-- refused late, after building, and cleared; or done
unfoldable pub closed : State → Finish → Result
closed s (full t) = cleared 9 s
closed s short = cleared 8 s
closed s (gives g t) = record { answer = done g; after = t }

-- a program, and what follows where it needs no node past capacity
unfoldable pub unless_full : {A : Type 0} → Outcome A → (A → List ℕ → ℕ → Finish) → Finish
unless_full x k = cond x.store.full (full x.store) (k x.answer x.words x.store.count)

abbrev pub begin : Record → Store
begin r = record { count = r.count; full = false }

-- the state with the nodes that were built
abbrev pub grown : State → List ℕ → ℕ → State
grown s w c = with_record (with_words s w) (with_count s.rec c)

-- one entry more
abbrev pub with_entry : State → Marks → List ℕ → List ℕ → State
with_entry s m a d = with_list (with_record s (with_entries s.rec (s.rec.entries + 1))) (appended s.rec s.list m.hard m.soft a d)

-- an entry to be entered: its h and s, address and data; and entries, one after the other
pub record NewEntry : Type 0 where
  pub marks : Marks
  pub address : List ℕ
  pub word : List ℕ

abbrev pub with_new : State → List NewEntry → State
with_new s [] = s
with_new s (e ∷ es) = with_new (with_entry s e.marks e.address e.word) es

-- row 8, where k entries are needed: "no space for the entry"
abbrev pub if_space : ℕ → State → Finish → Finish
if_space k s x = cond (space_for s.rec s.words k s.list) x short

-- another word in a port
abbrev pub with_held : State → ℕ → List ℕ → State
with_held s p word = with_ports s (replaced s.ports p word)

-- with another assert condition, another check condition
abbrev pub with_assert_condition : State → ℕ → State
with_assert_condition s v = with_record s (with_asserted s.rec v)

abbrev pub with_check_condition : State → ℕ → State
with_check_condition s v = with_record s (with_checked s.rec v)

-- what an assert builds before its entry
abbrev pub assert_first : ℕ → List ℕ → List ℕ → State → Outcome AssertBuilt
assert_first b a d s = Assert s.rec s.list b a d s.words (begin s.rec)

-- and for its entry: "Write((b, Not b),a,d)"
abbrev pub entry_built : State → ℕ → List ℕ → AssertBuilt → List ℕ → ℕ → Outcome Marks
entry_built s b a q w c = Write s.rec.sizes.n b q.not_b a w (record { count = c; full = false })

-- "if Or(Not b, And(A,C)) is 1 the assert is kept, else entered by Write((b, Not b),a,d)"; "8 is met when the entry is needed, before its Write builds anything"
unfoldable pub enter : State → ℕ → List ℕ → List ℕ → AssertBuilt → List ℕ → ℕ → Finish
enter s b a d q w c =
    cond (eqb q.keep 1) (gives kept (with_assert_condition (grown s w c) q.condition))
    (if_space 1 s (unless_full (entry_built s b a q w c) (λ m w c. gives entered (with_new (with_assert_condition (grown s w c) q.condition) (record { marks = m; address = a; word = d } ∷ [])))))

-- 02: "writes whose enable is 0 under every assignment": by its h, which is node 0. That node 0, and no other, is 0 under every assignment is `node-0-alone`; `WriteAnswers` says it of writes
abbrev pub is_idle : List ℕ → Bool
is_idle c = eqb (get_or c 0 0) 0

-- what another write builds
abbrev pub write_built : List ℕ → List ℕ → State → Outcome Marks
write_built c a s = Write s.rec.sizes.n (get_or c 0 0) (get_or c 1 0) a s.words (begin s.rec)

-- "Such a write is no longer entered"; "It builds no condition". "Refusal 8 is met only by a write that would be entered, after its conditions are built"
unfoldable pub finish_write : List ℕ → List ℕ → List ℕ → State → Finish
finish_write c a d s =
    cond (is_idle c) (gives idle s)
    (unless_full (write_built c a s) (λ m w k. if_space 1 s (gives (place s.rec.entries) (with_new (grown s w k) (record { marks = m; address = a; word = d } ∷ [])))))

-- a call that no row refuses: its program, and what it gives and leaves
unfoldable pub finish_access : Access → State → Finish
finish_access (write c a d) s = finish_write c a d s
finish_access (read p e a out) s = unless_full (Read s.rec s.list (held_word s.rec s.ports p) (get_or e 0 0) (get_or e 1 0) a s.words (begin s.rec)) (λ r w k. gives (filled r) (with_held (grown s w k) p r))
finish_access (assert b a d) s = unless_full (assert_first b a d s) (enter s b a d)
finish_access (check b a d) s = unless_full (Check s.rec s.list b a d s.words (begin s.rec)) (λ v w k. gives accepted (with_check_condition (grown s w k) v))

unfoldable pub finish_node : NodeCall → State → Finish
finish_node (evaluate f φ) s = gives (valued (value s.words (bit_at φ) f)) s
finish_node (variable v) s = unless_full (Variable v s.words (begin s.rec)) (λ n w k. gives (node n) (grown s w k))
finish_node (ite f g h) s = unless_full (Ite f g h s.words (begin s.rec)) (λ n w k. gives (node n) (grown s w k))
finish_node (conditions t) s = unless_full (Triples 0 1 t s.words (begin s.rec)) (λ ts w k. gives (triples ts) (grown s w k))

abbrev pub finish : Call → State → Finish
finish (access c) s = finish_access c s
finish (node_call c) s = finish_node c s
finish (upkeep c) s = absurd c

abbrev pub turned_down_by : ℕ → State → Result → Result
turned_down_by zero s x = x
turned_down_by (suc k) s x = turned_down (suc k) s

unfoldable pub step : Call → State → Result
step c s = turned_down_by (refusal c s) s (closed s (finish c s))

-- the state after a list of calls
unfoldable pub run : List Call → State → State
run [] s = s
run (c ∷ cs) s = run cs (step c s).after

-- none of the calls is refused
abbrev pub AllAccepted : List Call → State → Type 0
AllAccepted [] s = Unit {0}
AllAccepted (c ∷ cs) s = (is_refused (step c s).answer ≡ false) × AllAccepted cs (step c s).after

-- "Fresh: counts 2 and 0, both conditions 1, and the two terminals written." "Fresh meets only 1 and a store below 6 words (2)." "All ports start X"
pub record Fresh : Type 0 where
  pub answer : ℕ
  pub rec : Record
  pub words : List ℕ
  pub ports : List ℕ

abbrev pub fresh_record : Sizes → Record
fresh_record z = record { sizes = z; count = 2; entries = 0; asserted = 1; checked = 1 }

abbrev pub fresh_rows : Sizes → List ℕ → ℕ
fresh_rows z ws = first_row ((1, row1 (fresh_record z) ws) ∷ (2, leb 6 (length ws)) ∷ [])

abbrev pub fresh_unless : ℕ → Record → Record → List ℕ → List ℕ → Fresh
fresh_unless zero given r ws ps = record { answer = 0; rec = r; words = with_terminals ws; ports = fresh_ports }
fresh_unless (suc k) given r ws ps = record { answer = suc k; rec = given; words = ws; ports = ps }

-- a refused Fresh gives back the record that it was given
unfoldable pub fresh : Record → Sizes → List ℕ → List ℕ → Fresh
fresh given z ws ps = fresh_unless (fresh_rows z ws) given (fresh_record z) ws ps
