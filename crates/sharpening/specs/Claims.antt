-- 02, 'Sharpening an input': what is claimed of calls and of case files. "there every read bit the second may return, the first may return, and a check condition that held still holds"
use Rattle.std.specs.Prelude.{◌≡◌, Bool, List, ℕ, ◌^◌, ◌<◌, T}
use Rattle.conditions.specs.Value.{value}
use Rattle.conditions.specs.Assignment.{bit_at}
use Rattle.semantics.specs.declared.Sizes.{Sizes}
use Rattle.semantics.specs.Sizes.{data_bits}
use Rattle.model.specs.Record.{Record}
use Rattle.model.specs.Step.{State, Call, accepted, done, run, fresh, AllAccepted}
use Rattle.model.specs.Claims.{events, May, HeldMay, CheckHolds, Begins}
use Rattle.model.specs.Chain.{Link, Chained, last_state, events_of, MayBe, freshed}
use Rattle.formula_calls.specs.Chain.{AnyLink, AllChained, last_of, spelled_out}
use Rattle.cases.specs.Case.{accepts, case_of}
use Rattle.format.specs.Sections.{record_in, stored}
use Rattle.cases.specs.Claims.{calls_in, state_in}
use Rattle.sharper.specs.Sharper.{SharperList, Matched}
use Rattle.sharpening.specs.Replaced.{ReplacedCalls}

-- Under one assignment, of two lists of calls that are matched as this says, whose reads' bits may be 0 and 1 as these say, and that left the states s and t: "every read bit the second may return, the
-- first may return", a bit that a port then holds too, "and a check condition that held still holds"
pub record AnswersNarrower (φ : ℕ → Bool) (z : Sizes) (Match : ℕ → ℕ → Type 0) (may may' : ℕ → ℕ → Bool → Type 0) (s t : State) : Type 0 where
  pub bits : (j k : ℕ) → Match j k → (i : ℕ) → i < data_bits z → (b : Bool) → may' k i b → may j i b
  pub holds : (p i : ℕ) → p < 4 → i < data_bits z → (b : Bool) → HeldMay φ t p i b → HeldMay φ s p i b
  pub checking : CheckHolds φ s → CheckHolds φ t

-- "two accepted lists from fresh memories of equal n and w": any lists of calls, in which refused ones are as node calls; the lists are sharper under this assignment, and elsewhere as they may be
unfoldable pub Sharpening : Type 0
Sharpening =
    (s t : State) → Begins s → Begins t → t.rec.sizes ≡ s.rec.sizes → (cs ds : List Call) (a : ℕ) → a < 2 ^ 64
    → (M : SharperList (events (bit_at a) s cs) (events (bit_at a) t ds)) → AnswersNarrower (bit_at a) s.rec.sizes (Matched M) (May (bit_at a) s cs) (May (bit_at a) t ds) (run cs s) (run ds t)

-- of calls that ran, from two accepted Freshes of n and w
unfoldable pub ChainSharpening : Type 0
ChainSharpening =
    (given given' : Record) (z : Sizes) (ws ws' ps ps' : List ℕ) (s t : State)
    → freshed (fresh given z ws ps) ≡ (done accepted, s.rec, s.words, s.ports) → freshed (fresh given' z ws' ps') ≡ (done accepted, t.rec, t.words, t.ports)
    → (ks ls : List Link) → Chained s ks → Chained t ls → (a : ℕ) → a < 2 ^ 64
    → (M : SharperList (events_of (bit_at a) s ks) (events_of (bit_at a) t ls)) → AnswersNarrower (bit_at a) z (Matched M) (MayBe (bit_at a) ks) (MayBe (bit_at a) ls) (last_state s ks) (last_state t ls)

-- with formulas among them, each as the calls that it stands for
unfoldable pub FormulaChainSharpening : Type 0
FormulaChainSharpening =
    (given given' : Record) (z : Sizes) (ws ws' ps ps' : List ℕ) (s t : State)
    → freshed (fresh given z ws ps) ≡ (done accepted, s.rec, s.words, s.ports) → freshed (fresh given' z ws' ps') ≡ (done accepted, t.rec, t.words, t.ports)
    → (ks ls : List AnyLink) → AllChained s ks → AllChained t ls → (a : ℕ) → a < 2 ^ 64
    → (M : SharperList (events_of (bit_at a) s (spelled_out s ks)) (events_of (bit_at a) t (spelled_out t ls)))
    → AnswersNarrower (bit_at a) z (Matched M) (MayBe (bit_at a) (spelled_out s ks)) (MayBe (bit_at a) (spelled_out t ls)) (last_of s ks) (last_of t ls)

-- Of two accepted case files of equal n and w. All their calls are accepted accesses, so that those of one number are matched; and the check conditions are also those of the records r and r' that were answered, in the node words that were left
abbrev pub SameNumber : ℕ → ℕ → Type 0
SameNumber j k = j ≡ k

pub record CaseNarrower (φ : ℕ → Bool) (file words list file' words' list' : List ℕ) (r r' : Record) (left left' : List ℕ) : Type 0 where
  pub calls : AnswersNarrower φ (record_in file).sizes SameNumber (May φ (state_in file words list) (calls_in file)) (May φ (state_in file' words' list') (calls_in file')) (run (calls_in file) (state_in file words list)) (run (calls_in file') (state_in file' words' list'))
  pub checking : T (value left φ r.checked) → T (value left' φ r'.checked)

unfoldable pub CaseSharpening : Type 0
CaseSharpening =
    (file words list text file' words' list' text' : List ℕ) (k k' : ℕ) (r r' : Record) → (case_of file words list text).answer ≡ accepts k r → (case_of file' words' list' text').answer ≡ accepts k' r'
    → (record_in file').sizes ≡ (record_in file).sizes → (a : ℕ) → a < 2 ^ 64
    → SharperList (events (bit_at a) (state_in file words list) (calls_in file)) (events (bit_at a) (state_in file' words' list') (calls_in file'))
    → CaseNarrower (bit_at a) file words list file' words' list' r r' (case_of file words list text).words (case_of file' words' list' text').words

-- "Engineers replace an X by 0 or 1": of two lists that differ in such words alone, from one record and the same node words, all of whose calls are accepted. No meaning is asked, and the claim is of every assignment
unfoldable pub Replacing : Type 0
Replacing =
    (s t : State) → Begins s → Begins t → t.rec ≡ s.rec → t.words ≡ s.words → (cs ds : List Call) → ReplacedCalls s cs ds → AllAccepted cs s → AllAccepted ds t → (a : ℕ) → a < 2 ^ 64
    → AnswersNarrower (bit_at a) s.rec.sizes SameNumber (May (bit_at a) s cs) (May (bit_at a) t ds) (run cs s) (run ds t)

-- and of two accepted case files of one record and the same nodes
unfoldable pub CaseReplacing : Type 0
CaseReplacing =
    (file words list text file' words' list' text' : List ℕ) (k k' : ℕ) (r r' : Record) → (case_of file words list text).answer ≡ accepts k r → (case_of file' words' list' text').answer ≡ accepts k' r'
    → record_in file' ≡ record_in file → stored file' words' ≡ stored file words → ReplacedCalls (state_in file words list) (calls_in file) (calls_in file')
    → (a : ℕ) → a < 2 ^ 64 → CaseNarrower (bit_at a) file words list file' words' list' r r' (case_of file words list text).words (case_of file' words' list' text').words
