-- A write by its rows, what they leave, and what the tests before building decide.
use Rattle.std.proofs.Common.{◌≡◌, ◌&&◌, eqb, true, false, List, ℕ, ◌<◌, ◌≤◌, length, get_or, drop, sym, ◌∙◌, arith}
use Rattle.std.proofs.lemmas.Bool.{true≢false}
use borrow.Author.Tests.{eq-eqb, eqb-true}
use Rattle.nodes.proofs.BoolLaws.{both_and}
use Rattle.conditions.specs.Stores.{clear_of}
use Rattle.conditions.proofs.Promises.{builds_clear}
use Rattle.model.specs.Record.{address_words, data_words}
use Rattle.model.specs.Rows.{first_row, write_rows}
use Rattle.model.specs.Step.{State, Access, refused, write, idle, done, is_idle, closed, finish_access, finish_write, write_built}
use Rattle.model.specs.Frames.{Valid}
use Rattle.model.proofs.FactLaws.{and3}
use Rattle.model.proofs.CallFactLaws.{write-facts}
use Rattle.model.proofs.ProgramLaws.{write-program}
use Rattle.rows.specs.Contract.{Answers, AnswersOn, argument_rows}
use Rattle.rows.proofs.CallLaws.{valid_rows, row-passes, acted}

-- of a valid memory it has the rows of its arguments
pub write_row_is : (s : State) → Valid s → (c a d : List ℕ) → length c ≡ 2 → length a ≡ address_words s.rec → length d ≡ data_words s.rec
    → first_row (argument_rows s.rec s.words c 1 a d s.rec.sizes.w) ≡ first_row (write_rows s.rec s.words s.list c a d)
write_row_is s K c a d lc la ld =
    let ts = write_rows s.rec s.words s.list c a d in
    sym (valid_rows s K (drop 3 ts) ∙ row-passes 4 (drop 4 ts) (both_and (both_and (eq-eqb (length c) 2 lc) (eq-eqb (length a) (address_words s.rec) la)) (eq-eqb (length d) (data_words s.rec) ld)))

-- row 4, as it is tested
pub lengths-hold : (s : State) (c a d : List ℕ) {x y : ℕ} → x ≡ address_words s.rec → y ≡ data_words s.rec → (eqb (length c) 2 && eqb (length a) x && eqb (length d) y) ≡ true
    → (length c ≡ 2) × (length a ≡ address_words s.rec) × (length d ≡ data_words s.rec)
lengths-hold s c a d {x} {y} e f t =
    let T = and3 (eqb (length c) 2) (eqb (length a) x) (eqb (length d) y) t in
    (eqb-true _ _ T.0, eqb-true _ _ T.1 ∙ e, eqb-true _ _ T.2 ∙ f)

pub lengths-fail : (s : State) (c a d : List ℕ) {x y : ℕ} → x ≡ address_words s.rec → y ≡ data_words s.rec → (eqb (length c) 2 && eqb (length a) x && eqb (length d) y) ≡ false
    → (eqb (length c) 2 && eqb (length a) (address_words s.rec) && eqb (length d) (data_words s.rec)) ≡ false
lengths-fail s c a d e f t = rw (← e, ← f) t

-- what its rows leave
pub record WriteHolds (s : State) (c a d : List ℕ) : Type 0 where
  pub few : s.rec.sizes.n ≤ 8
  pub wide : s.rec.sizes.w ≤ 16
  pub two : length c ≡ 2
  pub pairs : length a ≡ address_words s.rec
  pub word : length d ≡ data_words s.rec
  pub enable : (k : ℕ) → k < 2 → get_or c k 0 < s.rec.count
  pub address : (k : ℕ) → k < length a → get_or a k 0 < s.rec.count
  pub clears : clear_of (write_built c a s).words s.rec.count ≡ clear_of s.words s.rec.count

pub write-holds : (s : State) (c a d : List ℕ) → 0 ≡ first_row (write_rows s.rec s.words s.list c a d) → WriteHolds s c a d
write-holds s c a d z =
    let F = write-facts s c a d (sym z) in
    record {
      few = F.memory.range.n-most;
      wide = F.memory.range.w-most;
      two = F.enable.long;
      pairs = F.address.long;
      word = F.word.long;
      enable = λ k h. (F.enable.names k (omega arith)).below;
      address = λ k h. (F.address.names k (omega (arith, F.address.long))).below;
      clears = builds_clear (write-program (λ k. false) s c a d F);
    }

-- one that no row refuses, and whose enable is never 1
pub idle_done : (s : State) (c a d : List ℕ) → 0 ≡ first_row (write_rows s.rec s.words s.list c a d) → is_idle c ≡ true → Answers (write c a d) s s (done idle)
unfolding finish_access finish_write closed
idle_done s c a d e t = acted (write c a d) s e ∙ (rw t)

-- refused after building: no access comes next
pub refused_on : {c : Access} {s t : State} {k : ℕ} {table : List ℕ} → Answers c s t (refused k) → AnswersOn c s t (refused k) table
refused_on e = record { is = e; sound = λ z. absurd (true≢false z) }
