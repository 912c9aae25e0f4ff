-- 01, 'Panel's rulings': R1 to R11 as one table, each by its number: calls, and what the last of them is to give.
use Rattle.std.specs.Prelude.{◌≡◌, Bool, true, false, not, ◌&&◌, List, [], ◌∷◌, ◌++◌, ℕ, eqb, replicate}
use Rattle.model.specs.Step.{State, write, read, check, Call, access, Given, place, idle, filled, entered, kept, accepted, valued, node, triples, Answer, refused, done, is_refused, Result, step, run, fresh_record, fresh}

-- the pairs of the rulings, h before l, of node 1 (true) and node 0 (false)
abbrev pub one : List ℕ
one = 1 ∷ 0 ∷ []

abbrev pub nought : List ℕ
nought = 0 ∷ 1 ∷ []

abbrev pub unknown : List ℕ
unknown = 1 ∷ 1 ∷ []

-- two bits, the higher first, as a read prints them: 01 is `bits nought one`, whose bit 0 is 1. In words the lowest bit is first
abbrev pub bits : List ℕ → List ℕ → List ℕ
bits high low = low ++ high

-- '"1@0" writes 1 at 0', with enable 1. With another enable it is `write`, of enable, address and data
infix 70 ◌at◌
abbrev pub ◌at◌ : List ℕ → List ℕ → Call
d at a = access (write one a d)

-- the two words that a read is lent: a pair that no read answers
abbrev pub lent : List ℕ
lent = 0 ∷ 0 ∷ []

-- what the last call of a line is to give: a read's words; of a check, accepted and the check condition after it, 1 where it "holds" and 0 where "not"; of a write, that it is idle
pub data Expected : Type 0 where
  reading : List ℕ → Expected
  leaving : ℕ → Expected
  idling : Expected

pub record Ruling : Type 0 where
  pub w : ℕ
  pub before : List Call
  pub last : Call
  pub expected : Expected

abbrev pub ruling : ℕ → List Call → Call → Expected → Ruling
ruling w cs c e = record { w = w; before = cs; last = c; expected = e }

-- "n=1, w=1, enables 1 unless named"; reads at port 0

-- "R1 nothing, read 0: X."
abbrev pub R1 : Ruling
R1 = ruling 1 [] (access (read 0 one nought lent)) (reading unknown)

-- "R2 1@0, read 0: 1."
abbrev pub R2 : Ruling
R2 = ruling 1 (one at nought ∷ []) (access (read 0 one nought lent)) (reading one)

-- "R3 1@0, read 1: X."
abbrev pub R3 : Ruling
R3 = ruling 1 (one at nought ∷ []) (access (read 0 one one lent)) (reading unknown)

-- "R4 1@0 with enable X, read 0: X."
abbrev pub R4 : Ruling
R4 = ruling 1 (access (write unknown nought one) ∷ []) (access (read 0 one nought lent)) (reading unknown)

-- "R5 1@0, again with enable X: 1."
abbrev pub R5 : Ruling
R5 = ruling 1 (one at nought ∷ access (write unknown nought one) ∷ []) (access (read 0 one nought lent)) (reading one)

-- "R6 1@0, 1@1, read X: 1."
abbrev pub R6 : Ruling
R6 = ruling 1 (one at nought ∷ one at one ∷ []) (access (read 0 one unknown lent)) (reading one)

-- "R7 1@0, 0@1, read X: X."
abbrev pub R7 : Ruling
R7 = ruling 1 (one at nought ∷ nought at one ∷ []) (access (read 0 one unknown lent)) (reading unknown)

-- "R8 1@0, 1@1, 0@X, read 0: X."
abbrev pub R8 : Ruling
R8 = ruling 1 (one at nought ∷ one at one ∷ nought at unknown ∷ []) (access (read 0 one nought lent)) (reading unknown)

-- "R9 1@0 with enable 0, read 0: X.": its write is idle, and it "keeps its answer"
abbrev pub R9-idle : Ruling
R9-idle = ruling 1 [] (access (write nought nought one)) idling

abbrev pub R9 : Ruling
R9 = ruling 1 (access (write nought nought one) ∷ []) (access (read 0 one nought lent)) (reading unknown)

-- "R10 1@0, read 0 with enable X: X.", on a fresh port
abbrev pub R10 : Ruling
R10 = ruling 1 (one at nought ∷ []) (access (read 0 unknown nought lent)) (reading unknown)

-- "R10 becomes 1 if the same port's last word was 1"
abbrev pub R10-held : Ruling
R10-held = ruling 1 (one at nought ∷ access (read 0 one nought lent) ∷ []) (access (read 0 unknown nought lent)) (reading one)

-- "R11 w=2, 01@0, 10@1: check X against XX holds,"
abbrev pub R11 : Ruling
R11 = ruling 2 (bits nought one at nought ∷ bits one nought at one ∷ []) (access (check 1 unknown (bits unknown unknown))) (leaving 1)

-- "against 01 not."
abbrev pub R11-not : Ruling
R11-not = ruling 2 (bits nought one at nought ∷ bits one nought at one ∷ []) (access (check 1 unknown (bits nought one))) (leaving 0)

-- a memory that Fresh left, with n = 1, room for 64 nodes, and 64 list words
unfoldable pub start : ℕ → State
start w =
    let f = fresh (fresh_record (record { n = 1; w = w })) (record { n = 1; w = w }) (replicate 192 0) (replicate 128 0) in
    record { rec = f.rec; words = f.words; list = replicate 64 0; ports = f.ports }

-- what the last call of a line gives, after the calls before it
unfoldable pub result : Ruling → Result
result r = step r.last (run r.before (start r.w))

-- what a line says: no call before the last is refused,
abbrev pub Taken : List Call → State → Type 0
Taken [] s = Unit {0}
Taken (c ∷ cs) s = ((k : ℕ) → (step c s).answer ≡ refused k → ⊥) × Taken cs (step c s).after

-- and the last one's answer, and the check condition after it, are as expected
abbrev pub Gives : Expected → Answer → ℕ → Type 0
Gives (reading ws) x c = x ≡ done (filled ws)
Gives (leaving k) x c = (x ≡ done accepted) × (c ≡ k)
Gives idling x c = x ≡ done idle

abbrev pub Says : Ruling → Type 0
Says r = Taken r.before (start r.w) × Gives r.expected (result r).answer (result r).after.rec.checked

unfoldable pub taken : List Call → State → Bool
taken [] s = true
taken (c ∷ cs) s = not (is_refused (step c s).answer) && taken cs (step c s).after

abbrev pub same_words : List ℕ → List ℕ → Bool
same_words [] [] = true
same_words [] (y ∷ ys) = false
same_words (x ∷ xs) [] = false
same_words (x ∷ xs) (y ∷ ys) = eqb x y && same_words xs ys

abbrev pub fits : Expected → Given → ℕ → Bool
fits e (place k) c = false
fits (reading ws) idle c = false
fits (leaving k) idle c = false
fits idling idle c = true
fits (reading ws) (filled r) c = same_words r ws
fits (leaving k) (filled r) c = false
fits idling (filled r) c = false
fits e entered c = false
fits e kept c = false
fits (reading ws) accepted c = false
fits (leaving k) accepted c = eqb c k
fits idling accepted c = false
fits e (valued b) c = false
fits e (node n) c = false
fits e (triples ts) c = false

abbrev pub answers : Expected → Answer → ℕ → Bool
answers e (refused k) c = false
answers e (done g) c = fits e g c

unfoldable pub ruled : Ruling → Bool
ruled r = taken r.before (start r.w) && answers r.expected (result r).answer (result r).after.rec.checked

-- each says what is so
pub record Rulings : Type 0 where
  pub r1 : Says R1
  pub r2 : Says R2
  pub r3 : Says R3
  pub r4 : Says R4
  pub r5 : Says R5
  pub r6 : Says R6
  pub r7 : Says R7
  pub r8 : Says R8
  pub r9-idle : Says R9-idle
  pub r9 : Says R9
  pub r10 : Says R10
  pub r10-held : Says R10-held
  pub r11 : Says R11
  pub r11_not : Says R11-not
