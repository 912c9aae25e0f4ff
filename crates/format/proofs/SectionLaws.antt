-- The sections test by test, and what those that are read leave.
use mathlib.Core.Path.{◌≡◌, refl, sym, ap, ◌∙◌}
use mathlib.Core.Bool.{Bool, true, false, not, ◌&&◌, and-true}
use mathlib.Core.Logic.{◌⊎◌, inl, inr}
use mathlib.Core.List.{List, [], ◌++◌}
use Prim.Native.Nat.{ℕ, zero, suc, ◌+◌, ◌*◌, ◌-◌, ◌<◌, ◌≤◌}
use native.Mathlib.Numerals.{add-one}
use native.Mathlib.Omega.{arith}
use lib.Dec.{leb}
use lib.ListN.{length, get_or, length-replicate, get_or-replicate}
use borrow.Author.Tests.{lt-leb, le-leb, leb-true}
use Rattle.nodes.specs.Words.{with_node, with_terminals, capacity_of}
use Rattle.nodes.specs.Standard.{counted, is_standard, Standard}
use Rattle.nodes.proofs.TestLaws.{test_fails, test-holds}
use Rattle.nodes.proofs.WordsLaws.{node-length, node_other}
use Rattle.nodes.proofs.StandardLaws.{counted_is}
use Rattle.conditions.proofs.Promises.{standard_is, is-standard, is_user_lem}
use Rattle.model.specs.Record.{Record, fresh_ports}
use Rattle.model.specs.Rows.{first_row, row1}
use Rattle.model.specs.Step.{State, fresh_record}
use Rattle.model.specs.Claims.{Begins}
use Rattle.model.specs.Frames.{Valid, PortsValid}
use Rattle.model.proofs.FactLaws.{rows-hold, first-append, row1-tells}
use Rattle.model.proofs.ValidLaws.{no-entries, users-ports}
use Rattle.format.specs.Bytes.{number_at}
use Rattle.format.specs.Sections.{with_nodes, Sections, ready, refused, first_record, sections_unless, words_unless, nodes_in, stored, record_in, early_rows, late_rows, sections, nodes_end, accesses_in, first_at}
use Rattle.format.proofs.RowLaws.{rows_refuse, rows-number}

-- of row 2's tests of the count, what is left for a count from 2 up
pub room_is : (words : List ℕ) (k : ℕ) {c : ℕ} → c ≡ capacity_of words → (leb 6 (length words) && leb (k + 2) c) ≡ counted words (k + 2)
unfolding counted
room_is words k e = rw (e, le-leb 2 (k + 2) (omega arith), and-true (leb 6 (length words)))

-- nodes stored one after the other
module _ (file : List ℕ) (at : ℕ) (words : List ℕ) where
  pub nodes-none : words ≡ with_nodes file at 0 words
  unfolding with_nodes
  nodes-none = refl

  pub nodes-more : (k : ℕ) {l m : List ℕ} → l ≡ with_nodes file at k words → m ≡ with_node l (2 + k) (get_or file (at + 5 * k) 0) (number_at file (at + 5 * k + 1)) (number_at file (at + 5 * k + 3)) → m ≡ with_nodes file at (k + 1) words
  unfolding with_nodes
  nodes-more k e f = rw (add-one k, ← e) f

  pub nodes-length : (k : ℕ) → length (with_nodes file at k words) ≡ length words
  unfolding with_nodes
  nodes-length zero = refl
  nodes-length (suc k) = node-length (with_nodes file at k words) (2 + k) _ _ _ ∙ nodes-length k

  -- the words after them stay
  pub nodes-past : (k j : ℕ) → (2 + k) * 3 ≤ j → get_or (with_nodes file at k words) j 0 ≡ get_or words j 0
  unfolding with_nodes
  nodes-past zero j h = refl
  nodes-past (suc k) j h = node_other (with_nodes file at k words) (2 + k) _ _ _ j (omega arith) (omega arith) (omega arith) ∙ nodes-past k j (omega arith)

-- what is known where the nodes are stored
pub record Early (file words : List ℕ) : Type 0 where
  pub range : row1 (record_in file) words ≡ true
  pub bytes : nodes_end (nodes_in file) ≤ length file
  pub six : 6 ≤ length words
  pub room : (nodes_in file + 2) * 3 ≤ length words
  pub few : nodes_in file + 2 ≤ 16384

module _ (file words : List ℕ) where
  -- the rows before that, one after the other, each with what those before it found
  pub no_head : length file < 2 → 10 ≡ first_row (early_rows file words)
  no_head h = rw (lt-leb 2 (length file) h)

  module _ (h : 2 ≤ length file) {n w : ℕ} (en : n ≡ get_or file 0 0) (ew : w ≡ get_or file 1 0) {b : Bool} (e : b ≡ row1 (fresh_record (record { n = n; w = w })) []) where
    range_same : b ≡ row1 (record_in file) words
    unfolding row1
    range_same = rw (← en, ← ew) e

    pub out_of_range : not b ≡ true → 1 ≡ first_row (early_rows file words)
    out_of_range u = rw (le-leb 2 (length file) h, test_fails range_same u)

    module _ (u : not b ≡ false) where
      pub no-count : length file < 4 → 10 ≡ first_row (early_rows file words)
      no-count l = rw (le-leb 2 (length file) h, test-holds range_same u, lt-leb 4 (length file) l)

      module _ (l : 4 ≤ length file) {k : ℕ} (ek : k ≡ number_at file 2) where
        pub nodes-missing : length file < nodes_end k → 10 ≡ first_row (early_rows file words)
        nodes-missing m = rw (le-leb 2 (length file) h, test-holds range_same u, le-leb 4 (length file) l, ← ek, lt-leb (nodes_end k) (length file) m)

        module _ (m : nodes_end k ≤ length file) {c : Bool} (ec : c ≡ counted words (k + 2)) where
          pub no_room : c ≡ false → 2 ≡ first_row (early_rows file words)
          no_room o = rw (le-leb 2 (length file) h, test-holds range_same u, le-leb 4 (length file) l, ← ek, le-leb (nodes_end k) (length file) m, ← ec, o)

          pub room : c ≡ true → 0 ≡ first_row (early_rows file words)
          room o = rw (le-leb 2 (length file) h, test-holds range_same u, le-leb 4 (length file) l, ← ek, le-leb (nodes_end k) (length file) m, ← ec, o)

  pub early_is : first_row (early_rows file words) ≡ 0 → Early file words
  early_is e =
      let H = rows-hold (early_rows file words) refl e in
      let C = counted_is words (nodes_in file + 2) H.1.1.1.1.0 in
      record {
        range = H.1.0;
        bytes = leb-true (nodes_end (nodes_in file)) (length file) H.1.1.1.0;
        six = C.six;
        room = omega (arith, C.most);
        few = omega (arith, C.most);
      }

  -- the answer, in the same way
  pub refused_early : {r : ℕ} → r ≡ first_row (early_rows file words) → (r ≡ 0 → ⊥) → (words, refused r) ≡ sections file words
  unfolding sections
  refused_early {r = zero} e z = absurd (z refl)
  refused_early {r = suc r} e z = rw (← e, rows_refuse (early_rows file words) (late_rows file words) (sym e))

  module _ (o : first_row (early_rows file words) ≡ 0) {k : ℕ} (ek : k ≡ number_at file 2) {s ws : List ℕ} (es : s ≡ with_terminals words) (ews : ws ≡ with_nodes file 4 k s) {b : Bool} (eb : b ≡ is_standard ws (k + 2)) where
    stored_is : ws ≡ stored file words
    stored_is = rw (← es, ← ek) ews

    form-same : b ≡ is_standard (stored file words) (nodes_in file + 2)
    form-same = rw (← stored_is, ← ek) eb

    pub not-standard : not b ≡ true → (ws, refused 2) ≡ sections file words
    unfolding sections
    not-standard u = rw (o, first-append (early_rows file words) (late_rows file words) refl o, test_fails form-same u, ← stored_is)

    module _ (u : not b ≡ false) where
      pub no-accesses : length file - (nodes_end k) < 2 → (ws, refused 10) ≡ sections file words
      unfolding sections
      no-accesses l = rw (o, first-append (early_rows file words) (late_rows file words) refl o, test-holds form-same u, ← stored_is, ← ek, lt-leb (nodes_end k + 2) (length file) (omega arith))

      pub all_read : 2 ≤ length file - (nodes_end k) → {n w m : ℕ} → n ≡ get_or file 0 0 → w ≡ get_or file 1 0 → m ≡ number_at file (nodes_end k)
          → (ws, ready n w (k + 2) m (nodes_end k + 2)) ≡ sections file words
      unfolding sections
      all_read l en ew em =
          rw (o, first-append (early_rows file words) (late_rows file words) refl o, test-holds form-same u, ← stored_is, ← ek, le-leb (nodes_end k + 2) (length file) (omega arith), en, ew, em)

-- what is known of sections that are read
pub record SectionsRead (file words ws : List ℕ) (n w count accesses at : ℕ) : Type 0 where
  pub n_is : n ≡ get_or file 0 0
  pub w_is : w ≡ get_or file 1 0
  pub count_is : count ≡ nodes_in file + 2
  pub accesses_is : accesses ≡ accesses_in file
  pub at_is : at ≡ first_at file
  pub words_are : ws ≡ stored file words
  pub range : row1 (first_record n w count) ws ≡ true
  pub few : (1 ≤ n) × (n ≤ 8)
  pub wide : (1 ≤ w) × (w ≤ 16)
  pub standard : Standard ws count
  pub inside : at ≤ length file
  pub len : length ws ≡ length words
  pub past : (j : ℕ) → count * 3 ≤ j → get_or ws j 0 ≡ get_or words j 0

range_is : (n w count : ℕ) (ws : List ℕ) → row1 (first_record n w count) ws ≡ true → ((1 ≤ n) × (n ≤ 8)) × ((1 ≤ w) × (w ≤ 16))
range_is n w count ws e = let R = (row1-tells (first_record n w count) ws).is e in ((R.n_least, R.n-most), (R.w_least, R.w-most))

range-words : (r : Record) (ws us : List ℕ) → row1 r ws ≡ true → row1 r us ≡ true
unfolding row1
range-words r ws us e = e

-- the words after the nodes stay, and their number
stored_past : (file words : List ℕ) (j : ℕ) → (nodes_in file + 2) * 3 ≤ j → get_or (stored file words) j 0 ≡ get_or words j 0
stored_past file words j h =
    nodes-past file 4 (with_terminals words) (nodes_in file) j (omega arith)
    ∙ node_other (with_node words 0 64 0 0) 1 64 1 1 j (omega arith) (omega arith) (omega arith)
    ∙ node_other words 0 64 0 0 j (omega arith) (omega arith) (omega arith)

stored-length : (file words : List ℕ) → length (stored file words) ≡ length words
stored-length file words = nodes-length file 4 (with_terminals words) (nodes_in file) ∙ node-length (with_node words 0 64 0 0) 1 64 1 1 ∙ node-length words 0 64 0 0

-- sections that no row refuses
rows-read : (file words : List ℕ) → first_row (early_rows file words ++ late_rows file words) ≡ 0
    → (first_row (early_rows file words) ≡ 0) × SectionsRead file words (stored file words) (get_or file 0 0) (get_or file 1 0) (nodes_in file + 2) (accesses_in file) (first_at file)
rows-read file words q =
    let Q = rows-hold (early_rows file words ++ late_rows file words) refl q in
    let one = range-words (record_in file) words (stored file words) Q.1.0 in
    let R = range_is (get_or file 0 0) (get_or file 1 0) (nodes_in file + 2) (stored file words) one in (
      rw (Q.0, Q.1.0, Q.1.1.0, Q.1.1.1.0, Q.1.1.1.1.0),
      record {
        n_is = refl;
        w_is = refl;
        count_is = refl;
        accesses_is = refl;
        at_is = refl;
        words_are = refl;
        range = one;
        few = R.0;
        wide = R.1;
        standard = standard_is (stored file words) (nodes_in file + 2) Q.1.1.1.1.1.0;
        inside = omega (arith, leb-true (first_at file) (length file) Q.1.1.1.1.1.1.0);
        len = stored-length file words;
        past = stored_past file words;
      },
    )

pub sections-read : (file words : List ℕ) {ws : List ℕ} {n w count accesses at : ℕ} → (ws, ready n w count accesses at) ≡ sections file words → SectionsRead file words ws n w count accesses at
unfolding sections
sections-read file words {ws} {n} {w} {count} {accesses} {at} e = go (first_row (early_rows file words ++ late_rows file words)) refl (ap (λ (x : List ℕ × Sections). x.1) e) (ap (λ (x : List ℕ × Sections). x.0) e)
  where
    k : ℕ
    k = nodes_in file

    go : (r : ℕ) → first_row (early_rows file words ++ late_rows file words) ≡ r
        → ready n w count accesses at ≡ sections_unless r (ready (get_or file 0 0) (get_or file 1 0) (k + 2) (number_at file (nodes_end k)) (nodes_end k + 2))
        → ws ≡ words_unless (first_row (early_rows file words)) (stored file words) words
        → SectionsRead file words ws n w count accesses at
    go zero q f g =
        let R = rows-read file words q in
        let en : n ≡ get_or file 0 0 = cc in
        let ew : w ≡ get_or file 1 0 = cc in
        let ec : count ≡ k + 2 = cc in
        let em : accesses ≡ number_at file (nodes_end k) = cc in
        let ea : at ≡ nodes_end k + 2 = cc in
        let es : ws ≡ stored file words = g ∙ ap (λ (r : ℕ). words_unless r (stored file words) words) R.0 in
        rw (en, ew, ec, em, ea, es) R.1
    go (suc r) q f g = let z : ◌≡◌ {A = ℕ} 0 1 = cc in absurd (omega arith)

-- a case begins in a state in which rows 1 to 3 refuse nothing, and from which demand 3 is claimed
module _ {file words ws : List ℕ} {n w count accesses at : ℕ} (R : SectionsRead file words ws n w count accesses at) (list : List ℕ) where
  abbrev pub first_state : State
  first_state = record { rec = first_record n w count; words = ws; list = list; ports = fresh_ports }

  pub sections-begin : Begins first_state
  sections-begin = record { standard = R.standard; entries = refl; asserted = refl; checked = refl; ports = refl; wide = ((row1-tells (first_record n w count) ws).is R.range).w-most }

  pub sections-valid : Valid first_state
  sections-valid =
      let S = R.standard in
      let u = is_user_lem ws count 1 (omega (arith, S.two)) (omega (arith, S.var1)) in
      record {
        one = R.range;
        two = is-standard ws count S;
        three = no-entries (first_record n w count) ws list refl u u;
      }

  pub sections-ports-valid : PortsValid first_state
  sections-ports-valid =
      let S = R.standard in
      let u = is_user_lem ws count 1 (omega (arith, S.two)) (omega (arith, S.var1)) in
      let wide = ((row1-tells (first_record n w count) ws).is R.range).w-most in
      users-ports first_state (length-replicate {A = ℕ} 128 1) (λ p a i b. rw (get_or-replicate {A = ℕ} 128 (p * 32 + i) 1 0 (omega (arith, a, b, wide))) u)
