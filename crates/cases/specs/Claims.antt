-- What is claimed of every case: when it is accepted; of an accepted one, its text, demand 3 and the count of its entries; of a refused one, its number and K.
use Rattle.std.specs.Prelude.{◌≡◌, ◌↔◌, ◌⊎◌, Bool, true, false, List, [], ◌∷◌, ◌++◌, ℕ, zero, suc, ◌+◌, ◌^◌, ◌<◌, ◌≤◌, T, length, get_or, drop}
use Rattle.conditions.specs.Value.{value}
use Rattle.conditions.specs.Assignment.{bit_at}
use Rattle.lines.specs.Lines.{write_line, idle_line, read_line, assert_line, check_line, end_line, refused_line}
use Rattle.model.specs.Record.{Record, fresh_ports}
use Rattle.model.specs.Step.{State, Access, write, read, assert, check, Call, access, Answer, refused, is_refused, answer_words, Result, step, run, AllAccepted}
use Rattle.semantics.specs.Array.{Run, observed, Allowed}
use Rattle.model.specs.Claims.{fed, events, Exactly}
use Rattle.model.specs.Table.{NeverOne, MayBeOne}
use Rattle.model.specs.Count.{entry_count, DiffersUnder}
use Rattle.format.specs.Accesses.{found, kind_at, held_at, end_of, access_at}
use Rattle.format.specs.Accesses as accesses
use Rattle.format.specs.Sections.{nodes_in, accesses_in, first_at, record_in, stored, ready, sections}
use Rattle.format.specs.Sections as sections
use Rattle.cases.specs.Case.{call_of, line_of, accepts, refuses, Case, case_of, output_of, bytes_of}

-- the call whose kind byte stands at a place, for n and w
abbrev pub call_at : List ℕ → ℕ → ℕ → ℕ → Call
call_at file n w at = call_of (kind_at file at) w (held_at file at n w)

-- m calls, each from the byte after the one before it
unfoldable pub calls_from : List ℕ → ℕ → ℕ → ℕ → ℕ → List Call
calls_from file n w at zero = []
calls_from file n w at (suc m) = call_at file n w at ∷ calls_from file n w (end_of file at n w) m

-- the byte after them
unfoldable pub end_from : List ℕ → ℕ → ℕ → ℕ → ℕ → ℕ
end_from file n w at zero = at
end_from file n w at (suc m) = end_from file n w (end_of file at n w) m

-- the calls of a file
abbrev pub calls_in : List ℕ → List Call
calls_in file = calls_from file (get_or file 0 0) (get_or file 1 0) (first_at file) (accesses_in file)

-- the state that its sections give, with ports of its own
abbrev pub state_in : List ℕ → List ℕ → List ℕ → State
state_in file words list = record { rec = record_in file; words = stored file words; list = list; ports = fresh_ports }

-- the lines of their answers one after the other, and what is printed after them
abbrev pub lines_then : (State → List ℕ) → List Call → State → List ℕ
lines_then end [] s = end s
lines_then end (c ∷ cs) s = line_of (step c s).answer (step c s).after ++ lines_then end cs (step c s).after

-- nothing; the last line
abbrev pub access_lines : List Call → State → List ℕ
access_lines cs s = lines_then (λ t. []) cs s

abbrev pub lines_of : List Call → State → List ℕ
lines_of cs s = lines_then (λ t. end_line t.rec.entries) cs s

-- an access done after a state, and its line
abbrev pub done_after : Access → State → Result
done_after c s = step (access c) s

abbrev pub line_after : Access → State → List ℕ
line_after c s = line_of (done_after c s).answer (done_after c s).after

abbrev pub IsAccepted : Access → State → Type 0
IsAccepted c s = is_refused (done_after c s).answer ≡ false

-- 02: the line of an accepted write says `write idle` exactly where its enable is 0 under every assignment, and else its place, the count of entries before it
pub record WriteSays (c a d : List ℕ) (s : State) : Type 0 where
  pub idles : (line_after (write c a d) s ≡ idle_line) ↔ NeverOne s c
  pub enters : (line_after (write c a d) s ≡ write_line s.rec.entries) ↔ MayBeOne s c

unfoldable pub WriteLine : Type 0
WriteLine = (c a d : List ℕ) (s : State) → IsAccepted (write c a d) s → WriteSays c a d s

-- that of an accepted assert says `assert entered` exactly where under some assignment with b its data differs from the look, and else `assert kept`; then the assert condition as it left it
abbrev pub asserted_after : Bool → ℕ → List ℕ → List ℕ → State → List ℕ
asserted_after enters b a d s = let t = (done_after (assert b a d) s).after in assert_line t.words enters t.rec.asserted

pub record AssertSays (b : ℕ) (a d : List ℕ) (s : State) : Type 0 where
  pub enters : (line_after (assert b a d) s ≡ asserted_after true b a d s) ↔ ((k : ℕ) × (k < 2 ^ 64) × DiffersUnder s b a d k)
  pub keeps : (line_after (assert b a d) s ≡ asserted_after false b a d s) ↔ ((k : ℕ) → k < 2 ^ 64 → DiffersUnder s b a d k → ⊥)

unfoldable pub AssertLine : Type 0
AssertLine = (b : ℕ) (a d : List ℕ) (s : State) → IsAccepted (assert b a d) s → AssertSays b a d s

-- that of an accepted read shows its answer words, and that of an accepted check the check condition, each as it left them
unfoldable pub ReadLine : Type 0
ReadLine = (p : ℕ) (e a out : List ℕ) (s : State) → IsAccepted (read p e a out) s
    → let x = done_after (read p e a out) s in line_after (read p e a out) s ≡ read_line x.after.words (answer_words x.answer out)

unfoldable pub CheckLine : Type 0
CheckLine = (b : ℕ) (a d : List ℕ) (s : State) → IsAccepted (check b a d) s
    → let x = done_after (check b a d) s in line_after (check b a d) s ≡ check_line x.after.words x.after.rec.checked

-- the sections of a file are read
abbrev pub SectionsReady : List ℕ → List ℕ → Type 0
SectionsReady file words = (sections file words).1 ≡ ready (get_or file 0 0) (get_or file 1 0) (nodes_in file + 2) (accesses_in file) (first_at file)

-- an access stands at this place, for n and w
abbrev pub StandsAt : List ℕ → ℕ → ℕ → ℕ → Type 0
StandsAt file n w at = access_at file at n w ≡ found (kind_at file at) (held_at file at n w)

-- m accesses stand there, each from the byte after the one before it
abbrev pub AllStand : List ℕ → ℕ → ℕ → ℕ → ℕ → Type 0
AllStand file n w at zero = Unit {0}
AllStand file n w at (suc m) = StandsAt file n w at × AllStand file n w (end_of file at n w) m

-- a case that answered the text length k and the record r, and left c: its sections are read; its accesses stand there, and the file ends with the last; all its calls are accepted; record, node words
-- and list are those that they leave; and the text is their lines, k bytes, while it "leaves later text bytes untouched"
pub record Printed (file words list text : List ℕ) (k : ℕ) (r : Record) (c : Case) : Type 0 where
  pub read : SectionsReady file words
  pub stand : AllStand file (get_or file 0 0) (get_or file 1 0) (first_at file) (accesses_in file)
  pub ends : end_from file (get_or file 0 0) (get_or file 1 0) (first_at file) (accesses_in file) ≡ length file
  pub accepted : AllAccepted (calls_in file) (state_in file words list)
  pub last : r ≡ (run (calls_in file) (state_in file words list)).rec
  pub nodes : c.words ≡ (run (calls_in file) (state_in file words list)).words
  pub entries : c.list ≡ (run (calls_in file) (state_in file words list)).list
  pub size : k ≡ length (lines_of (calls_in file) (state_in file words list))
  pub fits : k ≤ length text
  pub bytes : c.text ≡ lines_of (calls_in file) (state_in file words list) ++ drop k text

unfoldable pub CaseText : Type 0
CaseText = (file words list text : List ℕ) (k : ℕ) (r : Record) → (case_of file words list text).answer ≡ accepts k r → Printed file words list text k r (case_of file words list text)

-- a case with nothing to refuse: its sections are read; its accesses stand there, and their calls are accepted; the file ends with the last; and the text buffer takes the lines
pub record Acceptable (file words list text : List ℕ) : Type 0 where
  pub read : SectionsReady file words
  pub stand : AllStand file (get_or file 0 0) (get_or file 1 0) (first_at file) (accesses_in file)
  pub accepted : AllAccepted (calls_in file) (state_in file words list)
  pub ends : end_from file (get_or file 0 0) (get_or file 1 0) (first_at file) (accesses_in file) ≡ length file
  pub fits : length (lines_of (calls_in file) (state_in file words list)) ≤ length text

-- it is accepted
unfoldable pub CaseAccepted : Type 0
CaseAccepted = (file words list text : List ℕ) → Acceptable file words list text
    → (case_of file words list text).answer ≡ accepts (length (lines_of (calls_in file) (state_in file words list))) (run (calls_in file) (state_in file words list)).rec

-- the first k calls of a file, and the byte after them
abbrev pub first_calls : List ℕ → ℕ → List Call
first_calls file k = calls_from file (get_or file 0 0) (get_or file 1 0) (first_at file) k

abbrev pub byte_after : List ℕ → ℕ → ℕ
byte_after file k = end_from file (get_or file 0 0) (get_or file 1 0) (first_at file) k

-- what the access after them answers
abbrev pub answer_after : List ℕ → List ℕ → List ℕ → ℕ → Answer
answer_after file words list k = (step (call_at file (get_or file 0 0) (get_or file 1 0) (byte_after file k)) (run (first_calls file k) (state_in file words list))).answer

-- why a case whose sections are read is refused by a number after k accesses: the next is not there, or its call is refused, or its line does not fit; or all are printed, and bytes are
-- left, or the last line does not fit
pub data RefusedAt (file words list text : List ℕ) (number k : ℕ) : Type 0 where
  missing : k < accesses_in file → access_at file (byte_after file k) (get_or file 0 0) (get_or file 1 0) ≡ accesses.refused number → RefusedAt file words list text number k
  refused_call : k < accesses_in file → StandsAt file (get_or file 0 0) (get_or file 1 0) (byte_after file k) → answer_after file words list k ≡ refused number → RefusedAt file words list text number k
  line_over : k < accesses_in file → StandsAt file (get_or file 0 0) (get_or file 1 0) (byte_after file k) → is_refused (answer_after file words list k) ≡ false
      → length text < length (access_lines (first_calls file (suc k)) (state_in file words list)) → number ≡ 13 → RefusedAt file words list text number k
  bytes_left : k ≡ accesses_in file → byte_after file k < length file → number ≡ 12 → RefusedAt file words list text number k
  end_over : k ≡ accesses_in file → length file ≤ byte_after file k → length text < length (lines_of (calls_in file) (state_in file words list)) → number ≡ 13 → RefusedAt file words list text number k

-- every word is 0, of as many as there were
pub record Zeroed (before now : List ℕ) : Type 0 where
  pub size : length now ≡ length before
  pub zeros : (i : ℕ) → i < length before → get_or now i 0 ≡ 0

-- a case that refused by a number after K: it "zeroes node store, list and text buffer"; K are "the accesses already printed": they stand in the file, their calls are accepted, and
-- their lines fit; and the number is that of the sections, K being 0, or of what comes after the K accesses
pub record RefusedAfter (file words list text : List ℕ) (number after : ℕ) (c : Case) : Type 0 where
  pub nodes : Zeroed words c.words
  pub entries : Zeroed list c.list
  pub bytes : Zeroed text c.text
  pub few : after ≤ accesses_in file
  pub stand : AllStand file (get_or file 0 0) (get_or file 1 0) (first_at file) after
  pub accepted : AllAccepted (first_calls file after) (state_in file words list)
  pub fits : length (access_lines (first_calls file after) (state_in file words list)) ≤ length text
  pub reason : (((sections file words).1 ≡ sections.refused number) × (after ≡ 0)) ⊎ (SectionsReady file words × RefusedAt file words list text number after)

unfoldable pub CaseRefused : Type 0
CaseRefused = (file words list text : List ℕ) (number after : ℕ) → (case_of file words list text).answer ≡ refuses number after → RefusedAfter file words list text number after (case_of file words list text)

-- the numbers of refused cases: a case makes its own record and takes the words of an access from the file, so that it never meets 3 or 4
abbrev pub CaseNumber : ℕ → Type 0
CaseNumber k = (1 ≤ k) × (k ≤ 14) × (k ≡ 3 → ⊥) × (k ≡ 4 → ⊥)

unfoldable pub RefusedNumbers : Type 0
RefusedNumbers = (file words list text : List ℕ) (number after : ℕ) → (case_of file words list text).answer ≡ refuses number after → CaseNumber number

-- the bytes that are printed: of an accepted case its lines, of another the one line of its refusal, where the text buffer takes it
unfoldable pub CasePrints : Type 0
CasePrints = (file words list text : List ℕ)
    → ((k : ℕ) (r : Record) → (case_of file words list text).answer ≡ accepts k r → bytes_of (output_of (case_of file words list text)).text ≡ lines_of (calls_in file) (state_in file words list))
    × ((number after : ℕ) → (case_of file words list text).answer ≡ refuses number after → length (refused_line number after) ≤ length text
    → bytes_of (output_of (case_of file words list text)).text ≡ refused_line number after)

-- Demand 3 of such a case under one assignment: its reads, the words that its ports hold at its end, and the check condition of the record r that it answered in the
-- node words that it left, are exactly what the plain runs of its accesses give
pub record CaseExact (file words list : List ℕ) (r : Record) (c : Case) (φ : ℕ → Bool) : Type 0 where
  pub calls : Exactly (state_in file words list) (calls_in file) φ
  pub checking : T (value c.words φ r.checked)
      ↔ ((q : Run (record_in file).sizes (events φ (state_in file words list) (calls_in file))) (j : ℕ) → Allowed (observed (record_in file).sizes (events φ (state_in file words list) (calls_in file)) q j))

unfoldable pub CaseExactly : Type 0
CaseExactly = (file words list text : List ℕ) (k : ℕ) (r : Record) → (case_of file words list text).answer ≡ accepts k r → (a : ℕ) → a < 2 ^ 64 → CaseExact file words list r (case_of file words list text) (bit_at a)

-- 02: "Budgets are planned from the last line": the count of entries, in the record that an accepted case answers and on its last line, is that of the file's accesses
abbrev pub count_in : List ℕ → List ℕ → List ℕ → ℕ
count_in file words list = entry_count (record_in file).sizes (fed (state_in file words list) (calls_in file))

pub record CaseCounts (file words list text : List ℕ) (r : Record) : Type 0 where
  pub entries : r.entries ≡ count_in file words list
  pub ends : bytes_of (output_of (case_of file words list text)).text ≡ access_lines (calls_in file) (state_in file words list) ++ end_line (count_in file words list)

unfoldable pub CaseCount : Type 0
CaseCount = (file words list text : List ℕ) (k : ℕ) (r : Record) → (case_of file words list text).answer ≡ accepts k r → CaseCounts file words list text r
