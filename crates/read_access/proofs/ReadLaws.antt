-- A read by its rows, and its word.
use Rattle.std.proofs.Common.{◌≡◌, Bool, true, false, ◌&&◌, not, List, [], ◌∷◌, ℕ, ◌+◌, ◌<◌, ◌≤◌, eqb, length, get_or, drop, refl, sym, ap, ◌∙◌, arith}
use borrow.Author.Tests.{eq-eqb, lt-leb, le-leb, not-true, not-false}
use Rattle.refusals.specs.declared.Refusal.{Refusal}
use Rattle.refusals.specs.Refusal.{number}
use Rattle.refusals.proofs.RefusalLaws.{number-above}
use Rattle.nodes.proofs.BoolLaws.{both_and}
use Rattle.conditions.specs.Stores.{clear_of}
use Rattle.conditions.specs.Build.{Store}
use Rattle.conditions.proofs.Promises.{builds_clear}
use Rattle.model.specs.Record as model
use Rattle.model.specs.Access as built
use Rattle.model.specs.Rows.{first_row, users, legal_pairs, read_rows, Row, row1, row2, row3, ports_row, memory_rows}
use Rattle.model.specs.Step.{State, filled, begin, Result, done}
use Rattle.model.specs.Frames.{Valid, PortsValid}
use Rattle.model.proofs.CallFactLaws.{read-facts}
use Rattle.model.proofs.ProgramLaws.{read-program}
use Rattle.building.specs.Contract.{shape, Looks, Nodes}
use Rattle.model.specs.declared.Fields.{Fields}
use Rattle.rows.specs.Contract.{argument_rows, ported_of}
use Rattle.rows.proofs.CallLaws.{row-passes, same_rows, no-users, no_pairs, facts-look}
use Rattle.model.proofs.PortLaws.{held_at, held-length}
use Rattle.nodes.specs.Search.{every}
use Rattle.conditions.specs.User.{is_user}

-- the rows of a read in their order
module _ (s : State) (p : ℕ) (e a out : List ℕ) where
  abbrev rows : List Row
  rows = read_rows s.rec s.words s.list s.ports p e a out

  -- rows 1 to 3 of the memory come first
  pub read_first : (k : Refusal) → number k ≡ first_row (memory_rows s.rec s.words s.list []) → number k ≡ first_row rows
  read_first k q = q ∙ go (row1 s.rec s.words) (row2 s.rec s.words) (row3 s.rec s.words s.list) q
    where
      go : (x y z : Bool) → number k ≡ first_row ((1, x) ∷ (2, y) ∷ (3, z) ∷ []) → first_row ((1, x) ∷ (2, y) ∷ (3, z) ∷ []) ≡ first_row ((1, x) ∷ (2, y) ∷ (3, z && ports_row s.rec s.words s.ports) ∷ drop 3 rows)
      go false y z n = refl
      go true false z n = refl
      go true true false n = refl
      go true true true n = absurd (omega (arith, number-above k))

  module _ (K : Valid s) where
    -- then 3 of the ports
    pub read-ports : ports_row s.rec s.words s.ports ≡ false → 3 ≡ first_row rows
    read-ports q = rw (K.one, K.two, K.three, q) refl

    module _ (P : PortsValid s) where
      later : first_row rows ≡ first_row (drop 3 rows)
      later = rw (K.one, K.two, K.three, P.three) refl

      -- then 4
      pub read_lengths : (eqb (length e) 2 && eqb (length a) (model.address_words s.rec) && eqb (length out) (model.data_words s.rec)) ≡ false → 4 ≡ first_row rows
      read_lengths q = sym (later ∙ (rw q refl))

      module _ (le : length e ≡ 2) (la : length a ≡ model.address_words s.rec) (lo : length out ≡ model.data_words s.rec) where
        long : first_row rows ≡ first_row (drop 4 rows)
        long = later ∙ row-passes 4 (drop 4 rows) (both_and (both_and (eq-eqb (length e) 2 le) (eq-eqb (length a) (model.address_words s.rec) la)) (eq-eqb (length out) (model.data_words s.rec) lo))

        -- then 14
        pub read-port : 3 < p → 14 ≡ first_row rows
        read-port h = sym (long ∙ (rw (lt-leb p 3 h) refl))

        -- and then the rows of its arguments, with no data
        pub read_row_is : p ≤ 3 → first_row rows ≡ first_row (argument_rows s.rec s.words e 1 a [] 0)
        read_row_is h =
            long
            ∙ row-passes 14 (drop 5 rows) (le-leb p 3 h)
            ∙ same_rows (and-holds (users r w e && users r w a) (no-users r w)) (and-holds (legal_pairs r w e 1 && legal_pairs r w a r.sizes.n) (no_pairs r w []))
          where
            r : model.Record
            r = s.rec

            w : List ℕ
            w = s.words

            and-holds : (b : Bool) {t : Bool} → t ≡ true → b ≡ (b && t)
            and-holds b e = sym (ap (λ (x : Bool). b && x) e ∙ whole b)
              where
                whole : (b : Bool) → (b && true) ≡ b
                whole true = refl
                whole false = refl

-- what its rows leave
pub record ReadHolds (r : Fields) (w l ps : List ℕ) (p : ℕ) (e a out : List ℕ) : Type 0 where
  pub wide : r.sizes.w ≤ 16
  pub looks : Looks r.sizes r.entries r.count l a
  pub port : p ≤ 3
  pub held-long : length (model.held_word r ps p) ≡ model.data_words r
  pub held : Nodes r.count (model.held_word r ps p)
  pub two : length e ≡ 2
  pub enable : (k : ℕ) → k < 2 → get_or e k 0 < r.count
  pub word : length out ≡ model.data_words r
  pub clears : clear_of (built.Read r l (model.held_word r ps p) (get_or e 0 0) (get_or e 1 0) a w (begin r)).words r.count ≡ clear_of w r.count

pub read-holds : (r : Fields) (w l ps : List ℕ) (p : ℕ) (e a out : List ℕ) → length ps ≡ 128 → 0 ≡ first_row (read_rows r w l ps p e a out) → ReadHolds r w l ps p e a out
read-holds r w l ps p e a out long z =
    let F = read-facts (ported_of r w l ps) p e a out (sym z) in
    let wide = F.memory.range.w-most in
    let h = held-length r ps p long wide F.port in
    record {
      wide = wide;
      looks = facts-look r w l a (record { range = F.memory.range; standard = F.memory.standard; listed = F.memory.listed }) (record { long = F.address.long; names = F.address.names; legal = F.address.legal });
      port = F.port;
      held-long = h;
      held = record { at = λ i b. rw (held_at r ps p i (omega (arith, b, h))) (F.ports p (omega (arith, F.port)) i (omega (arith, b, h))).below };
      two = F.enable.long;
      enable = λ k h. (F.enable.names k (omega arith)).below;
      word = F.answer-long;
      clears = builds_clear (read-program (λ k. false) (ported_of r w l ps) p e a out F);
    }

-- a read goes by n, w and the number of entries of its record
pub read-shape : (r : Fields) (l held : List ℕ) (h m : ℕ) (a w : List ℕ) (s : Store) → built.Read (shape r.sizes r.entries) l held h m a w s ≡ built.Read r l held h m a w s
unfolding built.Read built.Look built.entry_step
read-shape r l held h m a w s = refl

-- an accepted read, by the words that it copied and the port that it replaced
pub read_done : (x : Result) (r : Fields) (w l ps : List ℕ) (p : ℕ) (word out' ps' : List ℕ) → x ≡ record { answer = done (filled word); after = ported_of r w l (model.replaced ps p word) } → out' ≡ word → ps' ≡ model.replaced ps p word
    → x ≡ record { answer = done (filled out'); after = ported_of r w l ps' }
read_done x r w l ps p word out' ps' X q e = rw (q, e) X

-- row 3 of the ports by its test
module _ (r : Fields) (w ps : List ℕ) {b : Bool} (e : b ≡ every (λ (p : ℕ). every (λ (i : ℕ). is_user w r.count (get_or ps (model.port_at p + i) 0)) 0 (model.data_words r)) 0 4) where
  pub ports_fail : not b ≡ true → ports_row r w ps ≡ false
  unfolding ports_row
  ports_fail q = sym e ∙ not-true b q

  pub ports-hold : not b ≡ false → ports_row r w ps ≡ true
  unfolding ports_row
  ports-hold q = sym e ∙ not-false b q
