-- 01, 'Case file': what a case answers, and what it leaves of node words, list and text bytes.
use Rattle.std.specs.Prelude.{true, false, cond, List, [], ℕ, zero, suc, ◌*◌, ltb, length, get_or, take, replicate}
use Rattle.text.specs.Text.{Out, growing, appended}
use Rattle.lines.specs.Lines.{write_line, idle_line, read_line, assert_line, check_line, end_line, refused_line}
use Rattle.model.specs.Record.{Record, fresh_ports}
use Rattle.model.specs.Step.{State, write, read, assert, check, evaluate, Call, access, node_call, Given, place, idle, filled, entered, kept, accepted, valued, node, triples, Answer, step}
use Rattle.model.specs.Step as step
use Rattle.format.specs.declared.Kind.{Kind}
use Rattle.format.specs.declared.Kind.TheVariants as kind
use Rattle.format.specs.Accesses.{Found, found, access_at, goes_on}
use Rattle.format.specs.Accesses as accesses
use Rattle.format.specs.Sections.{Sections, ready, first_record, sections}
use Rattle.format.specs.Sections as sections

-- what field i of an access holds
abbrev pub field : List (List ℕ) → ℕ → List ℕ
field values i = get_or values i []

-- the call of a kind with these fields, for w data bits. A read is lent words of its own. No access of an unknown kind is found
unfoldable pub call_of : Kind → ℕ → List (List ℕ) → Call
call_of kind.Write w v = access (write (field v 0) (field v 1) (field v 2))
call_of kind.Read w v = access (read (get_or (field v 0) 0 0) (field v 1) (field v 2) (replicate (2 * w) 0))
call_of kind.Assert w v = access (assert (get_or (field v 0) 0 0) (field v 1) (field v 2))
call_of kind.Check w v = access (check (get_or (field v 0) 0 0) (field v 1) (field v 2))
call_of kind.Unknown w v = node_call (evaluate 0 0)

-- "Lines: a write's entry place; a read's h:l for each bit ..; the check condition", and 02's `write idle`. "An assert prints `assert entered` or `assert kept`, a space, the assert condition.": the line of an access by its answer and the state after it
abbrev pub given_line : Given → State → List ℕ
given_line (place k) s = write_line k
given_line idle s = idle_line
given_line (filled r) s = read_line s.words r
given_line entered s = assert_line s.words true s.rec.asserted
given_line kept s = assert_line s.words false s.rec.asserted
given_line accepted s = check_line s.words s.rec.checked
given_line (valued b) s = []
given_line (node n) s = []
given_line (triples ts) s = []

abbrev pub line_of : Answer → State → List ℕ
line_of (step.refused k) s = []
line_of (step.done g) s = given_line g s

-- a case between two accesses: the state, the byte of the file with which the next access begins, and the text so far
pub record Running : Type 0 where
  pub state : State
  pub at : ℕ
  pub text : Out

-- it goes on, or is refused by this number
pub data Next : Type 0 where
  goes : Running → Next
  stops : ℕ → Next

-- 13: "text too long for its buffer"
abbrev pub printed : State → ℕ → Out → Next
printed s at o = cond o.text.full (stops 13) (goes (record { state = s; at = at; text = o }))

-- a refused access refuses the case; the line of another is printed
abbrev pub said : Answer → State → ℕ → Out → Next
said (step.refused k) s at o = stops k
said (step.done g) s at o = printed s at (appended (given_line g s) o)

-- "Each access is read, done and printed in turn.": the call is done, tests included, and its line printed; the next access begins at this byte
unfoldable pub done : Call → State → ℕ → Out → Next
done c s at o = said (step c s).answer (step c s).after at o

-- an access found, from which the reading goes on to a byte; or not found
abbrev pub done_as : Found → ℕ → State → Out → Next
done_as (found k values) next s o = done (call_of k s.rec.sizes.w values) s next o
done_as (accesses.refused k) next s o = stops k

unfoldable pub one : List ℕ → Running → Next
one file c =
    let n = c.state.rec.sizes.n in
    let w = c.state.rec.sizes.w in
    done_as (access_at file c.at n w) (goes_on file c.at n w) c.state c.text

-- all accesses are done and the last line printed; or a refusal's number, and the accesses already printed
pub data Ended : Type 0 where
  ended : State → Out → Ended
  stopped : ℕ → ℕ → Ended

abbrev pub last_printed : State → ℕ → Out → Ended
last_printed s k o = cond o.text.full (stopped 13 k) (ended s o)

-- "12 before the last line is written": k accesses are printed, and there is no more
unfoldable pub last : List ℕ → ℕ → Running → Ended
last file k c = cond (ltb c.at (length file)) (stopped 12 k) (last_printed c.state k (appended (end_line c.state.rec.entries) c.text))

-- after an access, the rest
abbrev pub after : Next → ℕ → (Running → Ended) → Ended
after (goes c) k rest = rest c
after (stops r) k rest = stopped r k

-- m accesses more, after k
unfoldable pub rest : List ℕ → ℕ → ℕ → Running → Ended
rest file zero k c = last file k c
rest file (suc m) k c = after (one file c) k (rest file m (suc k))

-- the sections, and the accesses from a fresh record with the file's nodes on, and ports of its own; the text being empty
abbrev pub after_sections : List ℕ → List ℕ → Sections → List ℕ → List ℕ → Ended
after_sections file ws (ready n w count m at) list text = rest file m 0 (record { state = record { rec = first_record n w count; words = ws; list = list; ports = fresh_ports }; at = at; text = growing text 0 })
after_sections file ws (sections.refused k) list text = stopped k 0

unfoldable pub whole : List ℕ → List ℕ → List ℕ → List ℕ → Ended
whole file words list text = after_sections file (sections file words).0 (sections file words).1 list text

-- "An accepted case answers the text length and the last record"; "A refused case answers its number and K"
pub data Answered : Type 0 where
  accepts : ℕ → Record → Answered
  refuses : ℕ → ℕ → Answered

-- what a case answers, and leaves
pub record Case : Type 0 where
  pub answer : Answered
  pub words : List ℕ
  pub list : List ℕ
  pub text : List ℕ

abbrev pub zeroed : List ℕ → List ℕ
zeroed l = replicate (length l) 0

-- a refused case "zeroes node store, list and text buffer"
abbrev pub closed : List ℕ → List ℕ → List ℕ → Ended → Case
closed words list text (ended s o) = record { answer = accepts o.text.at s.rec; words = s.words; list = s.list; text = o.buffer }
closed words list text (stopped r k) = record { answer = refuses r k; words = zeroed words; list = zeroed list; text = zeroed text }

unfoldable pub case_of : List ℕ → List ℕ → List ℕ → List ℕ → Case
case_of file words list text = closed words list text (whole file words list text)

-- "A refused case .. `memcase` then prints only `refused R after K`"; of an accepted one it prints the text: what is printed of a case, in its text buffer
abbrev pub shown : Answered → List ℕ → Out
shown (accepts k r) text = growing text k
shown (refuses number after) text = appended (refused_line number after) (growing text 0)

-- what a printed case leaves
pub record Output : Type 0 where
  pub text : Out
  pub words : List ℕ
  pub list : List ℕ

abbrev pub output_of : Case → Output
output_of c = record { text = shown c.answer c.text; words = c.words; list = c.list }

-- the bytes of a text
abbrev pub bytes_of : Out → List ℕ
bytes_of o = take o.text.at o.buffer
