-- One call: the state goes on holding, under one 64-bit assignment, what the published accesses make of the values.
use mathlib.Core.Path.{◌≡◌, refl, sym, ◌∙◌, subst}
use mathlib.Core.Logic.{◌↔◌}
use mathlib.Core.Bool.{Bool, true, false, cond, not, ◌&&◌, false≢true}
use mathlib.Core.List.{List, [], ◌∷◌, ◌++◌}
use Prim.Native.Nat.{ℕ, zero, suc, ◌+◌, ◌*◌, ◌^◌, ◌<◌, ◌≤◌}
use native.Mathlib.Omega.{arith}
use native.Mathlib.Decide.{dec_lt}
use lib.Dec.{T, eqb}
use lib.ListN.{length, get_or, length-append, get_or-append}
use lib.Seq.{get_or_at}
use borrow.Author.Tests.{eqb-true, eqb-false}
use Rattle.conditions.specs.Stores.{Standard, clear_of}
use Rattle.conditions.specs.Build.{Store, Outcome}
use Rattle.conditions.specs.Make.{Variable}
use Rattle.conditions.specs.Ite.{Ite}
use Rattle.conditions.specs.Value.{value}
use Rattle.conditions.specs.Assignment.{bit_at}
use Rattle.conditions.specs.Meaning.{Builds}
use Rattle.conditions.proofs.Promises.{clear-keep, stands-value, value_1}
use Rattle.semantics.specs.declared.Sizes.{Sizes}
use Rattle.semantics.specs.Sizes.{cell_bits, data_bits}
use Rattle.semantics.specs.Pairs.{Pair, admit, at}
use Rattle.model.specs.Record.{Record, with_count, with_entries, with_asserted, with_checked, entry_at, appended, list_capacity, held_word, replaced}
use Rattle.model.specs.Access.{Marks, Write, Read, AssertBuilt, Check}
use Rattle.model.specs.Formula.{Triples}
use Rattle.model.specs.Step.{State, write, read, assert, check, NodeCall, evaluate, variable, ite, conditions, Call, access, node_call, upkeep, Given, place, idle, filled, entered, kept, accepted, valued, node, triples, Answer, refused, done, Result, refusal, turned_down, cleared, Finish, full, closed, unless_full, begin, grown, with_entry, with_held, with_assert_condition, assert_first, entry_built, finish_access, finish_node, finish, turned_down_by, step}
use Rattle.semantics.specs.Published.{Entry, entry, answer, check_holds, assert_holds, control, keeps}
use Rattle.semantics.specs.Array.{Event, writes, reads, asserts, checks, nothing}
use Rattle.semantics.specs.Held.{Held, held_after, NowMay, Accepted}
use Rattle.model.specs.Claims.{pair_at, pairs, event, BitMay}
use Rattle.model.specs.Table.{ReadFacts, AssertFacts}
use Rattle.semantics.proofs.PairLaws.{eq→T}
use Rattle.semantics.proofs.KeptLaws.{SameHeld, same_after, same-idle, same_kept}
use Rattle.model.proofs.MeansLaws.{Means, means_as, up, near_self, ite-means, variable-means}
use Rattle.model.proofs.HalfLaws.{half_even, half_odd}
use Rattle.model.proofs.AccessLaws.{Halves, EntryMeans, no_entry, EntriesMean, up_halves, up-entries, MarksMean, write-means, Word, check-means, AssertBuiltMean, assert-means}
use Rattle.model.proofs.ReadMeansLaws.{read-means}
use Rattle.model.proofs.PortLaws.{held_at, replaced-length, replaced_in, replaced_other, half_at}
use Rattle.model.proofs.ListLaws.{new-address, new_data, entry_old, entry_new}
use Rattle.model.proofs.TerminalIdle.{idle_off}
use Rattle.model.proofs.FormulaLaws.{formula-builds}
use Rattle.model.proofs.FinishProgram.{of-program}
use Rattle.model.proofs.FinishLaws.{of-write, of-assert}
use Rattle.model.proofs.FactLaws.{space-room}
use Rattle.model.proofs.CallFactLaws.{write-facts, read-facts, check-facts, assert-facts, variable-facts, ite-facts, formula-facts}
use Rattle.model.proofs.RowLaws.{length_pairs, name-means, names_halves, pair-legal, pairs-legal, pairs-unique}

-- the list leaves out an idle write, and an assert that is kept
abbrev gives_none : Given → Bool
gives_none (place k) = false
gives_none idle = true
gives_none (filled r) = false
gives_none entered = false
gives_none kept = true
gives_none accepted = false
gives_none (valued b) = false
gives_none (node n) = false
gives_none (triples ts) = false

abbrev pub is_left_out : Answer → Bool
is_left_out (refused k) = false
is_left_out (done g) = gives_none g

-- what the list holds after a call: that of the published run, but for what it leaves out
abbrev pub list_after : Sizes → Held → Bool → Event → Held
list_after z h k e = cond k h (held_after z h e)

-- a write that may be idle, and an assert that may be kept
abbrev pub MayLeaveOut : Sizes → Held → Event → Type 0
MayLeaveOut z h (writes c a d) = c.h ≡ false
MayLeaveOut z h (reads p e a) = ⊥
MayLeaveOut z h (asserts b a d) = T (keeps z h.entries b a d)
MayLeaveOut z h (checks b a d) = ⊥
MayLeaveOut z h nothing = ⊥

-- a list that leaves these out goes on telling the same as the published run
pub same-list : (z : Sizes) (s t : Held) → SameHeld z s t → (k : Bool) (e : Event) → Accepted z e → (k ≡ true → MayLeaveOut z s e) → SameHeld z (list_after z s k e) (held_after z t e)
same-list z s t S false e q f = same_after z s t S e
same-list z s t S true (writes c a d) q f = same-idle z s t S c a d (f refl)
same-list z s t S true (reads p e a) q f = absurd (f refl)
same-list z s t S true (asserts b a d) q f = same_kept z s t S b a d q (f refl)
same-list z s t S true (checks b a d) q f = absurd (f refl)
same-list z s t S true nothing q f = absurd (f refl)

-- each entry of a list has w data pairs
abbrev pub AllWide : ℕ → List Entry → Type 0
AllWide w [] = Unit {0}
AllWide w (e ∷ es) = (length e.word ≡ w) × AllWide w es

pub wide-more : (w : ℕ) (es : List Entry) (e : Entry) → AllWide w es → length e.word ≡ w → AllWide w (es ++ (e ∷ []))
wide-more w [] e S h = (h, tt)
wide-more w (x ∷ es) e S h = (S.0, wide-more w es e S.1 h)

wide-after : (z : Sizes) (h : Held) (e : Event) → Accepted z e → AllWide (cell_bits z) h.entries → AllWide (cell_bits z) (held_after z h e).entries
wide-after z h (writes c a d) A W = wide-more (cell_bits z) h.entries (entry c a d) W A.2.1
wide-after z h (reads p e a) A W = W
wide-after z h (asserts b a d) A W = wide-more (cell_bits z) h.entries (entry (control b) a d) W A.1.1
wide-after z h (checks b a d) A W = W
wide-after z h nothing A W = W

-- the state's entries and check condition mean these
pub record Holds (σ : ℕ → Bool) (s : State) (h : Held) : Type 0 where
  pub entries : EntriesMean σ s.rec h.entries s.words (begin s.rec) s.list
  pub checked : Means σ 8 (λ τ. h.condition) s.words (begin s.rec) s.rec.checked

-- each port's word means these pairs
pub record PortsMean (σ : ℕ → Bool) (s : State) (g : ℕ → ℕ → Pair) : Type 0 where
  pub words : (p : ℕ) → p < 4 → Halves σ 8 (2 * s.rec.sizes.w) (λ τ. g p) s.words (begin s.rec) (held_word s.rec s.ports p)

-- what a call leaves goes on holding, and the ports with it; the sizes stay; and a read's bits are the published answer's
pub record Follows (σ : ℕ → Bool) (s : State) (h : Held) (c : Call) (x : Result) : Type 0 where
  pub sizes : x.after.rec.sizes ≡ s.rec.sizes
  pub accepted : Accepted s.rec.sizes (event σ s c x.answer)
  pub left_out : is_left_out x.answer ≡ true → MayLeaveOut s.rec.sizes h (event σ s c x.answer)
  pub holds : Holds σ x.after (list_after s.rec.sizes h (is_left_out x.answer) (event σ s c x.answer))
  pub long : length s.ports ≡ 128 → length x.after.ports ≡ 128
  pub ports : length s.ports ≡ 128 → PortsMean σ s h.ports → PortsMean σ x.after (list_after s.rec.sizes h (is_left_out x.answer) (event σ s c x.answer)).ports
  pub bits : PortsMean σ s h.ports → (i : ℕ) → i < s.rec.sizes.w → (b : Bool) → BitMay σ x.after.words x.answer i b ↔ NowMay s.rec.sizes h (event σ s c x.answer) i b

-- the meanings of entries do not turn on the record's other fields
entries_at : {σ : ℕ → Bool} {es : List Entry} {w : List ℕ} {s : Store} {l : List ℕ} (r : Record) (c a k : ℕ) → EntriesMean σ r es w s l → EntriesMean σ (with_checked (with_asserted (with_count r c) a) k) es w s l
entries_at r c a k E = record { count = E.count; at = λ j h. let M = E.at j h in record { hard = M.hard; soft = M.soft; address = M.address; word = M.word; sized = M.sized } }

-- one entry more
entries-more : {σ : ℕ → Bool} {es : List Entry} {w : List ℕ} {s : Store} (r : Record) (l : List ℕ) (m : Marks) (a d : List ℕ) (e : Entry) → length a ≡ 2 * r.sizes.n → length d ≡ 2 * r.sizes.w → r.entries < list_capacity r l
    → EntriesMean σ r es w s l → MarksMean σ e w s m → Halves σ 8 (2 * r.sizes.n) (λ τ. at e.address) w s a → Halves σ 8 (2 * r.sizes.w) (λ τ. at e.word) w s d → length e.address ≡ r.sizes.n
    → EntriesMean σ (with_entries r (r.entries + 1)) (es ++ (e ∷ [])) w s (appended r l m.hard m.soft a d)
entries-more {σ} {es} {w} {s} r l m a d e na wd room E M A D len =
    record {
      count = length-append es (e ∷ []) ∙ (let z = E.count in omega arith);
      at = λ j h. go j (dec_lt j r.entries) h;
    }
  where
    new : EntryMeans σ r e w s (m.hard ∷ m.soft ∷ (a ++ d))
    new = record { hard = M.hard; soft = M.soft; address = rw (new-address r m.hard m.soft a d na wd) A; word = rw (new_data r m.hard m.soft a d na wd) D; sized = len }

    go : (j : ℕ) → Dec (j < r.entries) → j < r.entries + 1
        → EntryMeans σ (with_entries r (r.entries + 1)) (get_or (es ++ (e ∷ [])) j no_entry) w s (entry_at r (appended r l m.hard m.soft a d) j)
    go j (yes p) h =
        let M = E.at j p in
        rw (entry_old r l m.hard m.soft a d na wd room j p, get_or-append es (e ∷ []) no_entry j (omega (arith, E.count)))
        (record { hard = M.hard; soft = M.soft; address = M.address; word = M.word; sized = M.sized })
    go j (no q) h =
        let z : j ≡ r.entries = omega arith in
        rw (z, entry_new r l m.hard m.soft a d na wd room, get_or_at es e [] no_entry r.entries E.count)
        (record { hard = new.hard; soft = new.soft; address = new.address; word = new.word; sized = new.sized })

-- a store that is not full, by its count
pub free-store : (P : Store → Type 0) (s : Store) → s.full ≡ false → P s → P (record { count = s.count; full = false })
free-store P s e p = subst P (λ i. record { count = s.count; full = e i }) p

module _ (σ : ℕ → Bool) (s : State) (h : Held) (H : Holds σ s h) (c : Call) where
  -- a refusal that leaves everything
  pub turned_follows : (k : ℕ) → Follows σ s h c (turned_down k s)
  turned_follows k = record { sizes = refl; accepted = tt; left_out = λ z. absurd (false≢true z); holds = H; long = λ n. n; ports = λ n P. P; bits = λ P i l b. (λ z. z, λ z. z) }

  module _ (S : Standard s.words s.rec.count) where
    clear-means : {u n : ℕ} {μ : (ℕ → Bool) → Bool} → Means σ u μ s.words (begin s.rec) n → Means σ u μ (clear_of s.words s.rec.count) (begin s.rec) n
    clear-means {u} {n} N =
        let K = clear-keep S (stands-value s.words (begin s.rec) u n N.below N.from) in
        record { below = N.below; from = K.from; is = λ e τ k. K.is e τ ∙ N.is e τ k }

    clear_halves : {u k : ℕ} {f : (ℕ → Bool) → ℕ → Pair} {ws : List ℕ} → Halves σ u k f s.words (begin s.rec) ws → Halves σ u k f (clear_of s.words s.rec.count) (begin s.rec) ws
    clear_halves A = record { half = λ i l. clear-means (A.half i l) }

    -- a refusal that clears
    cleared_follows : (k : ℕ) → Follows σ s h c (cleared k s)
    cleared_follows k =
        record {
          sizes = refl;
          accepted = tt;
          left_out = λ z. absurd (false≢true z);
          holds = record {
            entries = record {
              count = H.entries.count;
              at = λ j l.
                  let M = H.entries.at j l in
                  record { hard = clear-means M.hard; soft = clear-means M.soft; address = clear_halves M.address; word = clear_halves M.word; sized = M.sized };
            };
            checked = clear-means H.checked;
          };
          long = λ n. n;
          ports = λ n P. record { words = λ p l. clear_halves (P.words p l) };
          bits = λ P i l b. (λ z. z, λ z. z);
        }

    -- a program, and what follows it where the store is not full
    nine_follows : {A : Type 0} (x : Outcome A) (k : A → List ℕ → ℕ → Finish) → (x.store.full ≡ false → Follows σ s h c (closed s (k x.answer x.words x.store.count))) → Follows σ s h c (closed s (unless_full x k))
    unfolding closed
    nine_follows x k f = of-program (λ (z : Finish). Follows σ s h c (closed s z)) x k (λ t. cleared_follows 9) f

    module _ {A : Type 0} {P : List ℕ → Store → A → Type 0} {x : Outcome A} (X : Builds s.words (begin s.rec) P x) (e : x.store.full ≡ false) where
      -- the same entries and condition in the store that grew
      grown-entries : EntriesMean σ s.rec h.entries x.words (record { count = x.store.count; full = false }) s.list
      grown-entries = free-store (λ (t : Store). EntriesMean σ s.rec h.entries x.words t s.list) x.store e (up-entries S X H.entries)

      grown-checked : Means σ 8 (λ τ. h.condition) x.words (record { count = x.store.count; full = false }) s.rec.checked
      grown-checked = free-store (λ (t : Store). Means σ 8 (λ τ. h.condition) x.words t s.rec.checked) x.store e (up S X H.checked)

      grown-holds : Holds σ (grown s x.words x.store.count) h
      grown-holds = record { entries = entries_at s.rec x.store.count s.rec.asserted s.rec.checked grown-entries; checked = grown-checked }

      -- and the same ports
      grown_halves : {k : ℕ} {f : ℕ → Pair} {ws : List ℕ} → Halves σ 8 k (λ τ. f) s.words (begin s.rec) ws → Halves σ 8 k (λ τ. f) x.words (record { count = x.store.count; full = false }) ws
      grown_halves {k} {f} {ws} A = free-store (λ (t : Store). Halves σ 8 k (λ τ. f) x.words t ws) x.store e (up_halves S X A)

      grown-ports : {g : ℕ → ℕ → Pair} → PortsMean σ s g → PortsMean σ (grown s x.words x.store.count) g
      grown-ports P = record { words = λ p l. grown_halves (P.words p l) }

pub pair_is : (p q : Pair) → p.h ≡ q.h → p.l ≡ q.l → p ≡ q
pair_is p q a b = λ i. record { h = a i; l = b i }

-- pairs that a port's word means are its values
pub port_is : {σ : ℕ → Bool} {s : State} {g : ℕ → ℕ → Pair} → PortsMean σ s g → (p i : ℕ) → p < 4 → i < s.rec.sizes.w → pair_at σ s.words (held_word s.rec s.ports p) i ≡ g p i
port_is {σ} {s} {g} P p i l m =
    let W = P.words p l in
    pair_is (pair_at σ s.words (held_word s.rec s.ports p) i) (g p i) ((W.half (2 * i) (omega arith)).is refl σ (near_self σ) ∙ half_even i (g p)) ((W.half (2 * i + 1) (omega arith)).is refl σ (near_self σ) ∙ half_odd i (g p))

iff-admit : (p q : Pair) (b : Bool) → p ≡ q → T (admit p b) ↔ T (admit q b)
iff-admit p q b e = (λ z. subst (λ (x : Pair). T (admit x b)) e z, λ z. subst (λ (x : Pair). T (admit x b)) (sym e) z)

-- a word latched in port p
latched-long : (w p : ℕ) (ps word : List ℕ) → w ≤ 16 → p ≤ 3 → length word ≡ 2 * w → length ps ≡ 128 → length (replaced ps p word) ≡ 128
latched-long w p ps word wide port size long = replaced-length ps p word (omega (arith, long, size)) ∙ long

latched : {σ : ℕ → Bool} {s : State} {g : ℕ → ℕ → Pair} {f : ℕ → Pair} {p : ℕ} {word : List ℕ} → s.rec.sizes.w ≤ 16 → p ≤ 3 → length word ≡ 2 * s.rec.sizes.w → length s.ports ≡ 128 → PortsMean σ s g
    → Halves σ 8 (2 * s.rec.sizes.w) (λ τ. f) s.words (begin s.rec) word → PortsMean σ (with_held s p word) (λ q. cond (eqb q p) f (g q))
latched {σ} {s} {g} {f} {p} {word} wide port size long P W = record { words = λ q l. go q l (eqb q p) refl }
  where
    fits : p * 32 + length word ≤ length s.ports
    fits = omega (arith, long, size)

    go : (q : ℕ) → q < 4 → (t : Bool) → eqb q p ≡ t → Halves σ 8 (2 * s.rec.sizes.w) (λ τ. cond t f (g q)) s.words (begin s.rec) (held_word s.rec (replaced s.ports p word) q)
    go q l true e =
        let z : q ≡ p = eqb-true q p e in
        record { half = λ i m. rw (held_at s.rec (replaced s.ports p word) q i m, z, replaced_in s.ports p word fits i (omega (arith, size))) (W.half i m) }
    go q l false e =
        record { half = λ i m. rw (held_at s.rec (replaced s.ports p word) q i m, replaced_other s.ports p word fits (omega (arith, size)) q i (eqb-false q p e) (omega arith), ← held_at s.rec s.ports q i m) ((P.words q l).half i m) }

module _ (k : ℕ) (small : k < 2 ^ 64) (s : State) (h : Held) (H : Holds (bit_at k) s h) where
  abbrev σ : ℕ → Bool
  σ = bit_at k

  -- the words of a port that row 3 does not refuse
  names-port : {p : ℕ} {en a out : List ℕ} → ReadFacts s p en a out → Halves σ 8 (2 * s.rec.sizes.w) (λ τ. pair_at σ s.words (held_word s.rec s.ports p)) s.words (begin s.rec) (held_word s.rec s.ports p)
  names-port {p} F = record { half = λ i l. means_as (name-means σ s.rec s.words F.memory.standard (rw (held_at s.rec s.ports p i l) (F.ports p (omega (arith, F.port)) i l))) (λ τ. half_at σ s.words (held_word s.rec s.ports p) i) }

  pub write_follows : (c a d : List ℕ) → refusal (access (write c a d)) s ≡ 0 → Follows σ s h (access (write c a d)) (closed s (finish (access (write c a d)) s))
  unfolding finish_access closed list_capacity
  write_follows c a d e =
      let F = write-facts s c a d e in
      let S = F.memory.standard in
      let C = names_halves σ s.rec s.words S c 1 F.enable.names in
      let A = names_halves σ s.rec s.words S a s.rec.sizes.n F.address.names in
      let D = names_halves σ s.rec s.words S d s.rec.sizes.w F.word.names in
      let p = pair_at σ s.words c 0 in
      let qs = pairs σ s.words a s.rec.sizes.n in
      let ds = pairs σ s.words d s.rec.sizes.w in
      let lq = length_pairs σ s.words a 0 s.rec.sizes.n in
      let X = write-means s.rec.sizes.n (get_or c 0 0) (get_or c 1 0) a p qs ds lq s.words (begin s.rec) S (C.half 0 (omega arith)) (C.half 1 (omega arith)) A in
      let x = Write s.rec.sizes.n (get_or c 0 0) (get_or c 1 0) a s.words (begin s.rec) in
      let legal : Accepted s.rec.sizes (writes p qs ds)
      = (
        pair-legal k small s.rec s.words c 1 F.enable.legal 0 (omega arith),
        (pairs-legal k small s.rec s.words a s.rec.sizes.n F.address.legal, lq),
        (pairs-legal k small s.rec s.words d s.rec.sizes.w F.word.legal, length_pairs σ s.words d 0 s.rec.sizes.w),
      ) in
      of-write (λ (z : Finish). Follows σ s h (access (write c a d)) (closed s z)) c a d s
      (λ z. record { sizes = refl; accepted = legal; left_out = λ y. idle_off c s.words σ z; holds = H; long = λ n. n; ports = λ n P. P; bits = λ P i l b. (λ y. y, λ y. y) })
      (λ z e. cleared_follows σ s h H (access (write c a d)) S 9)
      (λ z e u. record {
        sizes = refl;
        accepted = legal;
        left_out = λ z. absurd (false≢true z);
        holds = record {
          entries = entries-more (grown s x.words x.store.count).rec s.list x.answer a d (entry p qs ds) F.address.long F.word.long (space-room s.rec s.words s.list u) (grown-holds σ s h H (access (write c a d)) S X e).entries
              (free-store (λ (t : Store). MarksMean σ (entry p qs ds) x.words t x.answer) x.store e X.post)
              (free-store (λ (t : Store). Halves σ 8 (2 * s.rec.sizes.n) (λ τ. at qs) x.words t a) x.store e (up_halves S X A))
              (free-store (λ (t : Store). Halves σ 8 (2 * s.rec.sizes.w) (λ τ. at ds) x.words t d) x.store e (up_halves S X D))
              lq;
          checked = grown-checked σ s h H (access (write c a d)) S X e;
        };
        long = λ n. n;
        ports = λ n P. let Q = grown-ports σ s h H (access (write c a d)) S X e P in record { words = Q.words };
        bits = λ P i l b. (λ z. z, λ z. z);
      })
      (λ z e u. cleared_follows σ s h H (access (write c a d)) S 8)

  pub read_follows : (p : ℕ) (en a out : List ℕ) → refusal (access (read p en a out)) s ≡ 0 → Follows σ s h (access (read p en a out)) (closed s (finish (access (read p en a out)) s))
  unfolding finish_access closed
  read_follows p en a out e =
      let F = read-facts s p en a out e in
      let S = F.memory.standard in
      let held = held_word s.rec s.ports p in
      let C = names_halves σ s.rec s.words S en 1 F.enable.names in
      let A = names_halves σ s.rec s.words S a s.rec.sizes.n F.address.names in
      let q = pair_at σ s.words en 0 in
      let qs = pairs σ s.words a s.rec.sizes.n in
      let lq = length_pairs σ s.words a 0 s.rec.sizes.n in
      let X : (g : ℕ → Pair) → Halves σ 8 (2 * s.rec.sizes.w) (λ τ. g) s.words (begin s.rec) held → Builds s.words (begin s.rec) (Word σ 8 (2 * s.rec.sizes.w) (λ τ. answer s.rec.sizes h.entries g q qs)) (Read s.rec s.list held (get_or en 0 0) (get_or en 1 0) a s.words (begin s.rec))
      = λ g G. read-means s.rec s.list F.memory.range.n-most h.entries (get_or en 0 0) (get_or en 1 0) held a q g qs lq s.words (begin s.rec) S H.entries (C.half 0 (omega arith)) (C.half 1 (omega arith)) G A in
      let x = Read s.rec s.list held (get_or en 0 0) (get_or en 1 0) a s.words (begin s.rec) in
      let four : p < 4 = omega (arith, F.port) in
      nine_follows σ s h H (access (read p en a out)) S x _
      (λ e. record {
        sizes = refl;
        accepted = (pair-legal k small s.rec s.words en 1 F.enable.legal 0 (omega arith), (pairs-legal k small s.rec s.words a s.rec.sizes.n F.address.legal, lq), four);
        left_out = λ z. absurd (false≢true z);
        holds =
            let G = grown-holds σ s h H (access (read p en a out)) S (X (pair_at σ s.words held) (names-port F)) e in
            record { entries = G.entries; checked = G.checked };
        long = λ n. latched-long s.rec.sizes.w p s.ports x.answer F.memory.range.w-most F.port (X (pair_at σ s.words held) (names-port F)).post.size n;
        ports = λ n P.
            let Y = X (h.ports p) (P.words p four) in
            latched F.memory.range.w-most F.port Y.post.size n (grown-ports σ s h H (access (read p en a out)) S Y e P) (free-store (λ (t : Store). Halves σ 8 (2 * s.rec.sizes.w) (λ τ. answer s.rec.sizes h.entries (h.ports p) q qs) x.words t x.answer) x.store e Y.post.halves);
        bits = λ P i l b.
            let f = answer s.rec.sizes h.entries (h.ports p) q qs in
            let W = (X (h.ports p) (P.words p four)).post.halves in
            iff-admit (pair_at σ x.words x.answer i) (f i) b
            (pair_is (pair_at σ x.words x.answer i) (f i) ((W.half (2 * i) (omega arith)).is e σ (near_self σ) ∙ half_even i f) ((W.half (2 * i + 1) (omega arith)).is e σ (near_self σ) ∙ half_odd i f));
      })

  pub check_follows : (b : ℕ) (a d : List ℕ) → refusal (access (check b a d)) s ≡ 0 → Follows σ s h (access (check b a d)) (closed s (finish (access (check b a d)) s))
  unfolding finish_access closed
  check_follows b a d e =
      let F = check-facts s b a d e in
      let S = F.memory.standard in
      let A = names_halves σ s.rec s.words S a s.rec.sizes.n F.address.names in
      let D = names_halves σ s.rec s.words S d s.rec.sizes.w F.word.names in
      let qs = pairs σ s.words a s.rec.sizes.n in
      let ds = pairs σ s.words d s.rec.sizes.w in
      let lq = length_pairs σ s.words a 0 s.rec.sizes.n in
      let X = check-means s.rec s.list F.memory.range.n-most h.entries b (value s.words σ b) h.condition a d qs ds lq s.words (begin s.rec) S H.entries (name-means σ s.rec s.words S F.control) A D H.checked in
      let x = Check s.rec s.list b a d s.words (begin s.rec) in
      nine_follows σ s h H (access (check b a d)) S x _
      (λ e. record {
        sizes = refl;
        accepted = ((pairs-legal k small s.rec s.words a s.rec.sizes.n F.address.legal, lq), (pairs-legal k small s.rec s.words d s.rec.sizes.w F.word.legal, length_pairs σ s.words d 0 s.rec.sizes.w));
        left_out = λ z. absurd (false≢true z);
        holds = record {
          entries = entries_at s.rec x.store.count s.rec.asserted x.answer (grown-entries σ s h H (access (check b a d)) S X e);
          checked = free-store (λ (t : Store). Means σ 8 (λ τ. h.condition && check_holds s.rec.sizes h.entries (value s.words σ b) qs ds) x.words t x.answer) x.store e X.post;
        };
        long = λ n. n;
        ports = λ n P. let Q = grown-ports σ s h H (access (check b a d)) S X e P in record { words = Q.words };
        bits = λ P i l b. (λ z. z, λ z. z);
      })

  module _ (b : ℕ) (a d : List ℕ) (e : refusal (access (assert b a d)) s ≡ 0) where
    abbrev r : Record
    r = s.rec

    abbrev β : Bool
    β = value s.words σ b

    abbrev qs : List Pair
    qs = pairs σ s.words a r.sizes.n

    abbrev ds : List Pair
    ds = pairs σ s.words d r.sizes.w

    abbrev κ : Bool
    κ = value s.words σ r.asserted

    facts : AssertFacts s b a d
    facts = assert-facts s b a d e

    abbrev standard : Standard s.words r.count
    standard = facts.compared.memory.standard

    condition : Means σ 8 (λ τ. κ) s.words (begin r) r.asserted
    condition = name-means σ r s.words standard facts.compared.memory.listed.asserted

    control-means : Means σ 8 (λ τ. β) s.words (begin r) b
    control-means = name-means σ r s.words standard facts.compared.control

    addresses : Halves σ 8 (2 * r.sizes.n) (λ τ. at qs) s.words (begin r) a
    addresses = names_halves σ r s.words standard a r.sizes.n facts.compared.address.names

    datas : Halves σ 8 (2 * r.sizes.w) (λ τ. at ds) s.words (begin r) d
    datas = names_halves σ r s.words standard d r.sizes.w facts.compared.word.names

    lq : length qs ≡ r.sizes.n
    lq = length_pairs σ s.words a 0 r.sizes.n

    ld : length ds ≡ r.sizes.w
    ld = length_pairs σ s.words d 0 r.sizes.w

    abbrev x : Outcome AssertBuilt
    x = assert_first b a d s

    legal_arguments : Accepted r.sizes (asserts β qs ds)
    legal_arguments = ((pairs-legal k small r s.words a r.sizes.n facts.compared.address.legal, lq), (pairs-legal k small r s.words d r.sizes.w facts.compared.word.legal, ld), pairs-unique k small r s.words a b facts.known)

    pub assert-builds : Builds s.words (begin r) (AssertBuiltMean σ (κ && assert_holds r.sizes h.entries β qs ds) (not β) (keeps r.sizes h.entries β qs ds)) x
    assert-builds = assert-means r s.list facts.compared.memory.range.n-most h.entries b β κ a d qs ds lq s.words (begin r) standard H.entries control-means addresses datas condition

    module _ (free : x.store.full ≡ false) where
      abbrev one : Store
      one = record { count = x.store.count; full = false }

      entries1 : EntriesMean σ r h.entries x.words one s.list
      entries1 = grown-entries σ s h H (access (assert b a d)) standard assert-builds free

      checked1 : Means σ 8 (λ τ. h.condition) x.words one r.checked
      checked1 = grown-checked σ s h H (access (assert b a d)) standard assert-builds free

      ports1 : PortsMean σ s h.ports → PortsMean σ (grown s x.words x.store.count) h.ports
      ports1 P = grown-ports σ s h H (access (assert b a d)) standard assert-builds free P

      -- an assert that is kept
      kept_follows : x.answer.keep ≡ 1 → Follows σ s h (access (assert b a d)) (record { answer = done kept; after = with_assert_condition (grown s x.words x.store.count) x.answer.condition })
      kept_follows q =
          let t : keeps r.sizes h.entries β qs ds ≡ true = sym (assert-builds.post.keep.is free σ (near_self σ)) ∙ (rw q (value_1 x.words σ)) in
          record {
            sizes = refl;
            accepted = legal_arguments;
            left_out = λ z. eq→T t;
            holds = record { entries = entries_at r x.store.count x.answer.condition r.checked entries1; checked = checked1 };
            long = λ n. n;
            ports = λ n P. let Q = ports1 P in record { words = Q.words };
            bits = λ P i l b. (λ z. z, λ z. z);
          }

      -- its Write
      abbrev y : Outcome Marks
      y = entry_built s b a x.answer x.words x.store.count

      pub enter-builds : Builds x.words one (MarksMean σ (entry (control β) qs ds)) y
      enter-builds =
          write-means r.sizes.n b x.answer.not_b a (control β) qs ds lq x.words one assert-builds.standard
          (free-store (λ (t : Store). Means σ 8 (λ τ. β) x.words t b) x.store free (up standard assert-builds control-means))
          (free-store (λ (t : Store). Means σ 8 (λ τ. not β) x.words t x.answer.not_b) x.store free assert-builds.post.not_b)
          (free-store (λ (t : Store). Halves σ 8 (2 * r.sizes.n) (λ τ. at qs) x.words t a) x.store free (up_halves standard assert-builds addresses))

      -- an assert that is entered
      entered_follows : r.entries < list_capacity r s.list → y.store.full ≡ false
          → Follows σ s h (access (assert b a d)) (record { answer = done entered; after = with_entry (with_assert_condition (grown s y.words y.store.count) x.answer.condition) y.answer a d })
      unfolding list_capacity
      entered_follows room free2 =
          let A1 = free-store (λ (t : Store). Halves σ 8 (2 * r.sizes.n) (λ τ. at qs) x.words t a) x.store free (up_halves standard assert-builds addresses) in
          let D1 = free-store (λ (t : Store). Halves σ 8 (2 * r.sizes.w) (λ τ. at ds) x.words t d) x.store free (up_halves standard assert-builds datas) in
          let E2 = free-store (λ (t : Store). EntriesMean σ r h.entries y.words t s.list) y.store free2 (up-entries assert-builds.standard enter-builds entries1) in
          record {
            sizes = refl;
            accepted = legal_arguments;
            left_out = λ z. absurd (false≢true z);
            holds = record {
              entries = entries-more (with_assert_condition (grown s y.words y.store.count) x.answer.condition).rec s.list y.answer a d (entry (control β) qs ds) facts.compared.address.long facts.compared.word.long room
                  (entries_at r y.store.count x.answer.condition r.checked E2)
                  (free-store (λ (t : Store). MarksMean σ (entry (control β) qs ds) y.words t y.answer) y.store free2 enter-builds.post)
                  (free-store (λ (t : Store). Halves σ 8 (2 * r.sizes.n) (λ τ. at qs) y.words t a) y.store free2 (up_halves assert-builds.standard enter-builds A1))
                  (free-store (λ (t : Store). Halves σ 8 (2 * r.sizes.w) (λ τ. at ds) y.words t d) y.store free2 (up_halves assert-builds.standard enter-builds D1))
                  lq;
              checked = free-store (λ (t : Store). Means σ 8 (λ τ. h.condition) y.words t r.checked) y.store free2 (up assert-builds.standard enter-builds checked1);
            };
            long = λ n. n;
            ports = λ n P. record { words = λ p l. free-store (λ (t : Store). Halves σ 8 (2 * r.sizes.w) (λ τ. h.ports p) y.words t (held_word r s.ports p)) y.store free2 (up_halves assert-builds.standard enter-builds ((ports1 P).words p l)) };
            bits = λ P i l b. (λ z. z, λ z. z);
          }

    pub assert_follows : Follows σ s h (access (assert b a d)) (closed s (finish (access (assert b a d)) s))
    unfolding closed
    assert_follows =
        of-assert (λ (z : Finish). Follows σ s h (access (assert b a d)) (closed s z)) b a d s (λ f. cleared_follows σ s h H (access (assert b a d)) standard 9) (λ f k. kept_follows f (eqb-true _ _ k))
        (λ f k r. cleared_follows σ s h H (access (assert b a d)) standard 8) (λ f k r g. cleared_follows σ s h H (access (assert b a d)) standard 9) (λ f k r g. entered_follows f (space-room s.rec s.words s.list r) g)

  pub node_follows : (c : NodeCall) → refusal (node_call c) s ≡ 0 → Follows σ s h (node_call c) (closed s (finish (node_call c) s))
  unfolding finish_node closed
  node_follows (evaluate f φ) e = record { sizes = refl; accepted = tt; left_out = λ z. absurd (false≢true z); holds = H; long = λ n. n; ports = λ n P. P; bits = λ P i l b. (λ z. z, λ z. z) }
  node_follows (variable v) e =
      let F = variable-facts s v e in
      let X = variable-means {σ = σ} {s = begin s.rec} {v = v} F.standard (omega (arith, F.named.1)) in
      nine_follows σ s h H (node_call (variable v)) F.standard (Variable v s.words (begin s.rec)) _
      (λ f. record { sizes = refl; accepted = tt; left_out = λ z. absurd (false≢true z); holds = grown-holds σ s h H (node_call (variable v)) F.standard X f; long = λ n. n; ports = λ n P. grown-ports σ s h H (node_call (variable v)) F.standard X f P; bits = λ P i l b. (λ z. z, λ z. z) })
  node_follows (ite f g j) e =
      let F = ite-facts s f g j e in
      let S = F.standard in
      let X = ite-means S (name-means σ s.rec s.words S F.named.0) (name-means σ s.rec s.words S F.named.1) (name-means σ s.rec s.words S F.named.2) in
      nine_follows σ s h H (node_call (ite f g j)) S (Ite f g j s.words (begin s.rec)) _
      (λ q. record { sizes = refl; accepted = tt; left_out = λ z. absurd (false≢true z); holds = grown-holds σ s h H (node_call (ite f g j)) S X q; long = λ n. n; ports = λ n P. grown-ports σ s h H (node_call (ite f g j)) S X q P; bits = λ P i l b. (λ z. z, λ z. z) })
  node_follows (conditions t) e =
      let F = formula-facts s t e in
      let S = F.standard in
      let X = formula-builds s.rec s.words S t F.named in
      nine_follows σ s h H (node_call (conditions t)) S (Triples 0 1 t s.words (begin s.rec)) _
      (λ q. record { sizes = refl; accepted = tt; left_out = λ z. absurd (false≢true z); holds = grown-holds σ s h H (node_call (conditions t)) S X q; long = λ n. n; ports = λ n P. grown-ports σ s h H (node_call (conditions t)) S X q P; bits = λ P i l b. (λ z. z, λ z. z) })

-- What the list of calls goes on by: a call leaves a state that holds something, and whatever told the same as what was held, after the call's event tells the same as this. That it is the published list is not asked
pub record Goes (σ : ℕ → Bool) (s : State) (h : Held) (c : Call) (x : Result) : Type 0 where
  pub sizes : x.after.rec.sizes ≡ s.rec.sizes
  pub accepted : Accepted s.rec.sizes (event σ s c x.answer)
  pub next : Held
  pub holds : Holds σ x.after next
  pub wide : AllWide (cell_bits s.rec.sizes) h.entries → AllWide (cell_bits s.rec.sizes) next.entries
  pub tells : (g : Held) → SameHeld s.rec.sizes h g → SameHeld s.rec.sizes next (held_after s.rec.sizes g (event σ s c x.answer))
  pub long : length s.ports ≡ 128 → length x.after.ports ≡ 128
  pub ports : length s.ports ≡ 128 → PortsMean σ s h.ports → PortsMean σ x.after next.ports
  pub bits : PortsMean σ s h.ports → (i : ℕ) → i < data_bits s.rec.sizes → (b : Bool) → BitMay σ x.after.words x.answer i b ↔ NowMay s.rec.sizes h (event σ s c x.answer) i b

pub follows-goes : (σ : ℕ → Bool) (s : State) (h : Held) (c : Call) (x : Result) → Follows σ s h c x → Goes σ s h c x
follows-goes σ s h c x F = record {
  sizes = F.sizes;
  accepted = F.accepted;
  next = list_after s.rec.sizes h (is_left_out x.answer) (event σ s c x.answer);
  holds = F.holds;
  wide = wide (is_left_out x.answer);
  tells = λ g S. same-list s.rec.sizes h g S (is_left_out x.answer) (event σ s c x.answer) F.accepted F.left_out;
  long = F.long;
  ports = F.ports;
  bits = F.bits;
}
  where
    wide : (k : Bool) → AllWide (cell_bits s.rec.sizes) h.entries → AllWide (cell_bits s.rec.sizes) (list_after s.rec.sizes h k (event σ s c x.answer)).entries
    wide true W = W
    wide false W = wide-after s.rec.sizes h (event σ s c x.answer) F.accepted W
