-- What the panel was promised. Above each statement stands the sentence of the papers that it is; `PanelLaws` proves each by the theorem of a crate below. The whole is `Promise`, at the end.
--
-- What is not said here, in one line each. That a function meets its contract is `statement`; what that means for a machine is the toolchain's. `memcase` hands standard input to `print_case` and its text to standard output,
-- by calls of the system. The functions for C have contracts of their own, over the same definitions (`record_words`, `formula_words`, `capi_nodes`, `capi`, `capi_cases`).
use Rattle.std.specs.Prelude.{◌≡◌, ◌↔◌, Bool, List, [], ◌∷◌, ℕ, ◌^◌, ◌<◌, Option, Result}
use contract.Lifetimes.{Lfts}
use Rattle.std.specs.Borrow.{Bor, MutBor}
use Rattle.conditions.specs.Stores.{Standard}
use Rattle.conditions.specs.Assignment.{bit_at}
use Rattle.conditions.specs.Show.{text_of, Alike}
use Rattle.semantics.specs.declared.Sizes.{Sizes}
use Rattle.semantics.specs.Claims.{ExactlyAsRuns}
use Rattle.model.specs.Record.{Record}
use Rattle.model.specs.Step as model
use Rattle.model.specs.Step.{State, Call, access, node_call, Answer, answer_words}
use Rattle.model.specs.Claims.{events, told}
use Rattle.model.specs.Chain.{MayBe, fed_of, events_of}
use Rattle.model.specs.Table.{AcceptedExactly, RefusedExactly, FreshExactly, NineExactly}
use Rattle.model.specs.Frames.{RefusalLeaves, SuccessLeaves, FreshLeaves}
use Rattle.model.specs.Meanings as meanings
use Rattle.model.specs.Count.{KeptExactly, entry_count, total}
use Rattle.formula_calls.specs.Call.{Making, asserting, checking}
use Rattle.formula_calls.specs.Claims.{FormulaIsCalls}
use Rattle.formula_calls.specs.Chain.{AnyLink, call, formula, after_link, AnswersLink, last_of, spelled_out}
use Rattle.formula_access.specs.Contract.{answer_of}
use Rattle.sharper.specs.Sharper.{SharperList, Matched}
use Rattle.sharpening.specs.Claims.{AnswersNarrower, CaseNarrower}
use Rattle.format.specs.Sections.{record_in}
use Rattle.cases.specs.Case.{Case, accepts}
use Rattle.cases.specs.Claims.{calls_in, state_in, CaseExact, count_in}
use Rattle.memory.specs.declared.Record.{Record as Memory}
use Rattle.memory.specs.declared.Called.{Called}
use Rattle.memory.specs.Contract.{state_of, fresh_answer, write_answer, read_answer, assert_answer, check_answer, node_answer, value_answer}
use Rattle.model.specs.declared.ControlNode.{ControlNode}
use Rattle.formula_record.specs.declared.FormulaResult.{FormulaResult}
use Rattle.casefile.specs.declared.CaseDone.{CaseDone}
use Rattle.casefile.specs.declared.CaseRefused.{CaseRefused}
use Rattle.assert_access.specs.declared.Asserted.{Asserted}
use Rattle.casefile.specs.Contract.{case_as}
use Rattle.memory.proofs.Record.fresh.Statement as fresh
use Rattle.memory.proofs.Record.evaluate.Statement as evaluate
use Rattle.memory.proofs.Record.variable.Statement as variable
use Rattle.memory.proofs.Record.ite.Statement as ite
use Rattle.memory.proofs.Record.write.Statement as write
use Rattle.memory.proofs.Record.read.Statement as read
use Rattle.memory.proofs.Record.assert.Statement as assert
use Rattle.memory.proofs.Record.check.Statement as check
use Rattle.formula_record.proofs.assert_formula.Statement as assertFormula
use Rattle.formula_record.proofs.check_formula.Statement as checkFormula
use Rattle.casefile.proofs.run_case.Statement as runCase
use Rattle.memory.proofs.Record.fresh.Reads as Fresh
use Rattle.memory.proofs.Record.evaluate.Reads as Evaluate
use Rattle.memory.proofs.Record.variable.Reads as Variable
use Rattle.memory.proofs.Record.ite.Reads as Ite
use Rattle.memory.proofs.Record.write.Reads as Write
use Rattle.memory.proofs.Record.read.Reads as Read
use Rattle.memory.proofs.Record.assert.Reads as Assert
use Rattle.memory.proofs.Record.check.Reads as Check
use Rattle.formula_record.proofs.assert_formula.Reads as AssertFormula
use Rattle.formula_record.proofs.check_formula.Reads as CheckFormula
use Rattle.casefile.proofs.run_case.Reads as RunCase

-- "each call ends" and meets its contract "for every input": the functions that run
pub record FunctionsMeet : Type 2 where
  pub fresh_meets : {M : Type 1} → fresh.statement M
  pub evaluate-meets : {M : Type 1} → evaluate.statement M
  pub variable-meets : {M : Type 1} → variable.statement M
  pub ite-meets : {M : Type 1} → ite.statement M
  pub write_meets : {M : Type 1} → write.statement M
  pub read_meets : {M : Type 1} → read.statement M
  pub assert-meets : {M : Type 1} → assert.statement M
  pub check-meets : {M : Type 1} → check.statement M
  pub assert-formula-meets : {M : Type 1} → assertFormula.statement M
  pub check-formula-meets : {M : Type 1} → checkFormula.statement M
  pub run_case-meets : {M : Type 1} → runCase.statement M

-- words that a caller lends to be read
abbrev Lent : Type 0
Lent = Bor (List ℕ)

-- words that a caller lends to be changed, before a call and, with ', after it
abbrev Changed : Type 0
Changed = MutBor (List ℕ)

-- "the caller tests nothing beforehand": what a function asks of its caller (`Pre`) holds of all arguments
pub record NothingAsked : Type 0 where
  pub fresh_asks : (κs : Lfts 2) (self : Memory) (words ports : Changed) (z : Sizes) → Fresh.Pre κs (self, (words, (ports, (z, tt))))
  pub evaluate_asks : (κs : Lfts 1) (self : Memory) (words : Lent) (f a : ℕ) → Evaluate.Pre κs (self, (words, (f, (a, tt))))
  pub variable_asks : (κs : Lfts 1) (self : Memory) (words : Changed) (v : ℕ) → Variable.Pre κs (self, (words, (v, tt)))
  pub ite_asks : (κs : Lfts 1) (self : Memory) (words : Changed) (f g h : ℕ) → Ite.Pre κs (self, (words, (f, (g, (h, tt)))))
  pub write_asks : (κs : Lfts 5) (self : Memory) (words list : Changed) (enable address «data» : Lent) → Write.Pre κs (self, (words, (list, (enable, (address, («data», tt))))))
  pub read_asks : (κs : Lfts 6) (self : Memory) (words : Changed) (list : Lent) (ports : Changed) (port : ℕ) (enable address : Lent) (out : Changed) → Read.Pre κs (self, (words, (list, (ports, (port, (enable, (address, (out, tt))))))))
  pub assert_asks : (κs : Lfts 4) (self : Memory) (words list : Changed) (b : ControlNode) (address «data» : Lent) → Assert.Pre κs (self, (words, (list, (b, (address, («data», tt))))))
  pub check_asks : (κs : Lfts 4) (self : Memory) (words : Changed) (list : Lent) (b : ControlNode) (address «data» : Lent) → Check.Pre κs (self, (words, (list, (b, (address, («data», tt))))))
  pub assert-formula_asks : (κs : Lfts 5) (self : Memory) (words list : Changed) (text table : Lent) (out : Changed) → AssertFormula.Pre κs (self, (words, (list, (text, (table, (out, tt))))))
  pub check-formula_asks : (κs : Lfts 5) (self : Memory) (words : Changed) (list text table : Lent) (out : Changed) → CheckFormula.Pre κs (self, (words, (list, (text, (table, (out, tt))))))
  pub run_case_asks : (κs : Lfts 4) (file : Lent) (words list text : Changed) → RunCase.Pre κs (file, (words, (list, (text, tt))))

abbrev link : Call → Answer → State → AnyLink
link c a t = call (record { call = c; answer = a; after = t })

abbrev formula_link : Making → Lent → Lent → Changed → FormulaResult → State → Changed → AnyLink
formula_link k text table out r t out' = formula (record { making = k; text = text.now; table = table.now; out = out.now; answer = answer_of r.answer; after = t; words = out'.now })

-- A call of the library that ran in a state: what its contract (`Post`) says of what it was lent, what it answered and what it left. What it was not lent stays.
pub data Ran : State → AnyLink → Type 0 where
  evaluates : (κs : Lfts 1) (self : Memory) (words : Lent) (f a : ℕ) (r : Called Bool) (list ports : List ℕ)
      → Evaluate.Post κs (self, (words, (f, (a, tt)))) r (self, (words, (f, (a, tt))))
      → Ran (state_of self words.now list ports) (link (node_call (model.evaluate f a)) (value_answer r.answer) (state_of r.after words.now list ports))
  gives : (κs : Lfts 1) (self : Memory) (words : Changed) (v : ℕ) (r : Called ℕ) (words' : Changed) (list ports : List ℕ)
      → Variable.Post κs (self, (words, (v, tt))) r (self, (words', (v, tt)))
      → Ran (state_of self words.now list ports) (link (node_call (model.variable v)) (node_answer r.answer) (state_of r.after words'.now list ports))
  builds : (κs : Lfts 1) (self : Memory) (words : Changed) (f g h : ℕ) (r : Called ℕ) (words' : Changed) (list ports : List ℕ)
      → Ite.Post κs (self, (words, (f, (g, (h, tt))))) r (self, (words', (f, (g, (h, tt)))))
      → Ran (state_of self words.now list ports) (link (node_call (model.ite f g h)) (node_answer r.answer) (state_of r.after words'.now list ports))
  writes : (κs : Lfts 5) (self : Memory) (words list : Changed) (enable address «data» : Lent) (r : Called (Option ℕ)) (words' list' : Changed) (ports : List ℕ)
      → Write.Post κs (self, (words, (list, (enable, (address, («data», tt)))))) r (self, (words', (list', (enable, (address, («data», tt))))))
      → Ran (state_of self words.now list.now ports)
      (link (access (model.write enable.now address.now «data».now)) (write_answer r.answer) (state_of r.after words'.now list'.now ports))
  reads : (κs : Lfts 6) (self : Memory) (words : Changed) (list : Lent) (ports : Changed) (port : ℕ) (enable address : Lent) (out : Changed) (r : Called (Unit {0})) (words' ports' out' : Changed)
      → Read.Post κs (self, (words, (list, (ports, (port, (enable, (address, (out, tt)))))))) r (self, (words', (list, (ports', (port, (enable, (address, (out', tt))))))))
      → Ran (state_of self words.now list.now ports.now)
      (link (access (model.read port enable.now address.now out.now)) (read_answer r.answer out'.now) (state_of r.after words'.now list.now ports'.now))
  asserts : (κs : Lfts 4) (self : Memory) (words list : Changed) (b : ControlNode) (address «data» : Lent) (r : Called Asserted) (words' list' : Changed) (ports : List ℕ)
      → Assert.Post κs (self, (words, (list, (b, (address, («data», tt)))))) r (self, (words', (list', (b, (address, («data», tt))))))
      → Ran (state_of self words.now list.now ports)
      (link (access (model.assert b.0 address.now «data».now)) (assert_answer r.answer) (state_of r.after words'.now list'.now ports))
  checks : (κs : Lfts 4) (self : Memory) (words : Changed) (list : Lent) (b : ControlNode) (address «data» : Lent) (r : Called (Unit {0})) (words' : Changed) (ports : List ℕ)
      → Check.Post κs (self, (words, (list, (b, (address, («data», tt)))))) r (self, (words', (list, (b, (address, («data», tt))))))
      → Ran (state_of self words.now list.now ports)
      (link (access (model.check b.0 address.now «data».now)) (check_answer r.answer) (state_of r.after words'.now list.now ports))
  asserts_formula : (κs : Lfts 5) (self : Memory) (words list : Changed) (text table : Lent) (out : Changed) (r : FormulaResult) (words' list' out' : Changed) (ports : List ℕ)
      → AssertFormula.Post κs (self, (words, (list, (text, (table, (out, tt)))))) r (self, (words', (list', (text, (table, (out', tt))))))
      → Ran (state_of self words.now list.now ports) (formula_link asserting text table out r (state_of r.after words'.now list'.now ports) out')
  checks_formula : (κs : Lfts 5) (self : Memory) (words : Changed) (list text table : Lent) (out : Changed) (r : FormulaResult) (words' out' : Changed) (ports : List ℕ)
      → CheckFormula.Post κs (self, (words, (list, (text, (table, (out, tt)))))) r (self, (words', (list, (text, (table, (out', tt))))))
      → Ran (state_of self words.now list.now ports) (formula_link checking text table out r (state_of r.after words'.now list.now ports) out')

-- "Record, node words and list go from call to call as the last one left them", and the ports
abbrev pub AllRan : State → List AnyLink → Type 0
AllRan s [] = Unit {0}
AllRan s (k ∷ ks) = Ran s k × AllRan (after_link k) ks

-- "The first gets the record and node words that an accepted Fresh left, and a list of any words, for any n, w and sizes"
pub data Begun : Sizes → State → Type 0 where
  begins : (κs : Lfts 2) (self : Memory) (words ports : Changed) (z : Sizes) (r : Called (Unit {0})) (words' ports' : Changed) (list : List ℕ)
      → Fresh.Post κs (self, (words, (ports, (z, tt)))) r (self, (words', (ports', (z, tt)))) → fresh_answer r.answer ≡ model.done model.accepted
      → Begun z (state_of r.after words'.now list ports'.now)

-- A case that ran: the file, what was lent for node words, list and text, and what the call answered and left
pub data CaseRan : List ℕ → List ℕ → List ℕ → List ℕ → Case → Type 0 where
  runs : (κs : Lfts 4) (file : Lent) (words list text : Changed) (r : Result CaseDone CaseRefused) (words' list' text' : Changed)
      → RunCase.Post κs (file, (words, (list, (text, tt)))) r (file, (words', (list', (text', tt))))
      → CaseRan file.now words.now list.now text.now (case_as r words'.now list'.now text'.now)

-- Demand 1. "After each call the lent node words, list and answer words hold only what 01 gives, for every input": answer and buffers are the step of the definitions, in one equation, the answer words of a read too. "a
-- refused call returns its row's number and leaves those words as 01 says": where each row is met, as facts in the papers' own numerals, and what is then left; and of Fresh
pub record Demand1 : Type 0 where
  pub each-call : (s : State) (k : AnyLink) → Ran s k → AnswersLink s k
  pub answer-words : (κs : Lfts 6) (self : Memory) (words : Changed) (list : Lent) (ports : Changed) (port : ℕ) (enable address : Lent) (out : Changed) (r : Called (Unit {0})) (words' ports' out' : Changed)
      → Read.Post κs (self, (words, (list, (ports, (port, (enable, (address, (out, tt)))))))) r (self, (words', (list, (ports', (port, (enable, (address, (out', tt))))))))
      → out'.now ≡ answer_words (read_answer r.answer out'.now) out.now
  pub accepted : AcceptedExactly
  pub refused : RefusedExactly
  pub nine : NineExactly
  pub refusal-leaves : RefusalLeaves
  pub success-leaves : SuccessLeaves
  pub fresh-exactly : FreshExactly
  pub fresh-leaves : FreshLeaves
  pub formula_is-calls : FormulaIsCalls

-- Demand 2. "Every condition and word returned is, under each assignment, what the published write, read, assert and check give"; an assert is kept exactly where it may be; "the text of a condition is the same for two
-- conditions exactly when they agree under every assignment"
pub record Demand2 : Type 0 where
  pub published : meanings.Demand2
  pub kept : KeptExactly
  pub texts : (w : List ℕ) (c : ℕ) → Standard w c → (w' : List ℕ) (c' : ℕ) → Standard w' c' → (n n' : ℕ) → n < c → n' < c' → (text_of w n ≡ text_of w' n') ↔ Alike w n w' n'

-- Demand 3. "One claim over the whole list of calls, from a fresh memory: read bits and the check condition are exactly what the plain runs of 01's array give", and the words that the ports hold; a formula stands for the calls that
-- it makes. The same of the accesses of a case file that was accepted
pub record Demand3 : Type 0 where
  pub of_calls : (z : Sizes) (s : State) → Begun z s → (ks : List AnyLink) → AllRan s ks → (a : ℕ) → a < 2 ^ 64
      → ExactlyAsRuns z (events_of (bit_at a) s (spelled_out s ks)) (told (bit_at a) (MayBe (bit_at a) (spelled_out s ks)) (last_of s ks))
  pub of_cases : (file words list text : List ℕ) (c : Case) → CaseRan file words list text c → (k : ℕ) (r : Record) → c.answer ≡ accepts k r → (a : ℕ) → a < 2 ^ 64 → CaseExact file words list r c (bit_at a)

-- 02, 'Entry count to the unit': "exactly: accepted writes whose enable may be 1 under some assignment, plus accepted asserts whose data differs from the look under some assignment with b"
pub record Count : Type 0 where
  pub of_calls : (z : Sizes) (s : State) → Begun z s → (ks : List AnyLink) → AllRan s ks → total (last_of s ks).rec ≡ entry_count z (fed_of s (spelled_out s ks))
  pub of_cases : (file words list text : List ℕ) (c : Case) → CaseRan file words list text c → (k : ℕ) (r : Record) → c.answer ≡ accepts k r → r.entries ≡ count_in file words list

-- 02, 'Sharpening an input': "two accepted lists from fresh memories of equal n and w"; where the second is sharper under an assignment, "there every read bit the second may return, the first may return, and a check condition
-- that held still holds"
pub record Sharpening : Type 0 where
  pub of_calls : (z : Sizes) (s t : State) → Begun z s → Begun z t → (ks ls : List AnyLink) → AllRan s ks → AllRan t ls → (a : ℕ) → a < 2 ^ 64
      → (M : SharperList (events_of (bit_at a) s (spelled_out s ks)) (events_of (bit_at a) t (spelled_out t ls)))
      → AnswersNarrower (bit_at a) z (Matched M) (MayBe (bit_at a) (spelled_out s ks)) (MayBe (bit_at a) (spelled_out t ls)) (last_of s ks) (last_of t ls)
  pub of_cases : (file words list text file' words' list' text' : List ℕ) (c c' : Case) → CaseRan file words list text c → CaseRan file' words' list' text' c'
      → (k k' : ℕ) (r r' : Record) → c.answer ≡ accepts k r → c'.answer ≡ accepts k' r' → (record_in file').sizes ≡ (record_in file).sizes → (a : ℕ) → a < 2 ^ 64
      → SharperList (events (bit_at a) (state_in file words list) (calls_in file)) (events (bit_at a) (state_in file' words' list') (calls_in file'))
      → CaseNarrower (bit_at a) file words list file' words' list' r r' c.words c'.words

pub record Promise : Type 2 where
  pub functions : FunctionsMeet
  pub nothing_asked : NothingAsked
  pub demand1 : Demand1
  pub demand2 : Demand2
  pub demand3 : Demand3
  pub count : Count
  pub sharpening : Sharpening
