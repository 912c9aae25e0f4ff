-- A case that is accepted: what its accesses answered, what they left, and its text.
use mathlib.Core.Path.{◌≡◌, refl, sym, ap, subst, ◌∙◌}
use mathlib.Core.Bool.{Bool, true, false, cond}
use mathlib.Core.List.{List, ◌++◌}
use Prim.Native.Nat.{ℕ, zero, suc, ◌+◌, ◌≤◌}
use native.Mathlib.Nat.{zero-add}
use native.Mathlib.Omega.{arith}
use lib.Dec.{T, ltb}
use lib.ListN.{length, drop}
use borrow.Author.Tests.{ltb-true, ltb-false}
use Rattle.text.specs.Text.{Out, growing, appended}
use Rattle.text.proofs.TextLaws.{appended-append, appended-fits, appended_is-full}
use Rattle.lines.specs.Lines.{end_line}
use Rattle.conditions.specs.Value.{value}
use Rattle.conditions.specs.Assignment.{bit_at}
use Rattle.semantics.specs.declared.Sizes.{Sizes}
use Rattle.model.specs.Record.{Record, fresh_ports}
use Rattle.model.specs.Step.{State, Call, accepted, is_refused, step, run, AllAccepted}
use Rattle.model.specs.Frames.{SizesStay}
use Rattle.model.specs.Claims.{Begins, Demand3}
use Rattle.model.proofs.FrameLaws.{sizes_stay}
use Rattle.model.proofs.Demand3.{demand3}
use Rattle.format.specs.Sections.{Sections, ready, first_record, sections, accesses_in, first_at}
use Rattle.format.specs.Sections as sections
use Rattle.format.proofs.AccessLaws.{access_lies}
use Rattle.format.proofs.SectionLaws.{sections-read, sections-begin}
use Rattle.cases.specs.Case.{Running, Next, one, Ended, ended, stopped, last, after, rest, after_sections, whole, accepts, Case, closed, case_of}
use Rattle.cases.specs.Claims.{Printed, calls_from, end_from, calls_in, state_in, lines_of, SectionsReady, AllStand, CaseText, CaseExactly}
use Rattle.cases.proofs.LastLaws.{last-left, last-printed}
use Rattle.cases.proofs.WayLaws.{call_here, after_one, Way, goes_on, is_over, is_refused_by, is_missing, way}

-- what m accesses that are left come to, for n and w, where the case is accepted
record Comes (file : List ℕ) (n w m : ℕ) (c : Running) (s : State) (o : Out) : Type 0 where
  stand : AllStand file n w c.at m
  ends : end_from file n w c.at m ≡ length file
  accepted : AllAccepted (calls_from file n w c.at m) c.state
  state : s ≡ run (calls_from file n w c.at m) c.state
  text : o ≡ appended (lines_of (calls_from file n w c.at m) c.state) c.text
  free : o.text.full ≡ false

last-ended : (file : List ℕ) (k : ℕ) (c : Running) (s : State) (o : Out) → c.at ≤ length file → last file k c ≡ ended s o → Comes file c.state.rec.sizes.n c.state.rec.sizes.w 0 c s o
unfolding calls_from end_from run
last-ended file k c s o h e = go (ltb c.at (length file)) refl
  where
    end : Out
    end = appended (end_line c.state.rec.entries) c.text

    full : (f : Bool) → end.text.full ≡ f → cond f (stopped 13 k) (ended c.state end) ≡ ended s o → (s ≡ c.state) × (o ≡ end) × (end.text.full ≡ false)
    full true q e = let z : ◌≡◌ {A = ℕ} 0 1 = cc in absurd (omega arith)
    full false q e = (cc, cc, q)

    go : (f : Bool) → ltb c.at (length file) ≡ f → Comes file c.state.rec.sizes.n c.state.rec.sizes.w 0 c s o
    go true q =
        let u : stopped 12 k ≡ ended s o = sym (last-left file k c (ltb-true c.at (length file) q)) ∙ e in
        let z : ◌≡◌ {A = ℕ} 0 1 = cc in
        absurd (omega arith)
    go false q =
        let l : length file ≤ c.at = ltb-false c.at (length file) q in
        let F = full end.text.full refl (sym (last-printed file k c l) ∙ e) in
        record { stand = tt; ends = omega arith; accepted = tt; state = F.0; text = F.1; free = ap (λ (x : Out). x.text.full) F.1 ∙ F.2 }

-- n and w stay
pub same-sizes : (x : Call) (s : State) → is_refused (step x s).answer ≡ false → ((step x s).after.rec.sizes.n ≡ s.rec.sizes.n) × ((step x s).after.rec.sizes.w ≡ s.rec.sizes.w)
unfolding SizesStay
same-sizes x s e = let E = sizes_stay x s in (ap (λ (z : Sizes). z.n) E.sizes, ap (λ (z : Sizes). z.w) E.sizes)

rest_ended : (file : List ℕ) (m k : ℕ) (c : Running) (s : State) (o : Out) → c.at ≤ length file → rest file m k c ≡ ended s o → Comes file c.state.rec.sizes.n c.state.rec.sizes.w m c s o
unfolding rest calls_from end_from run
rest_ended file zero k c s o h e = last-ended file k c s o h e
rest_ended file (suc m) k c s o h e = go (λ d. rest_ended file m (suc k) d s o) (way file c)
  where
    from : {x : Next} → one file c ≡ x → after x k (rest file m (suc k)) ≡ ended s o
    from q = ap (λ (x : Next). after x k (rest file m (suc k))) (sym q) ∙ e

    no : (a b : ℕ) → stopped a b ≡ ended s o → Comes file c.state.rec.sizes.n c.state.rec.sizes.w (suc m) c s o
    no a b u = let z : ◌≡◌ {A = ℕ} 0 1 = cc in absurd (omega arith)

    go : ((d : Running) → d.at ≤ length file → rest file m (suc k) d ≡ ended s o → Comes file d.state.rec.sizes.n d.state.rec.sizes.w m d s o) → Way file c → Comes file c.state.rec.sizes.n c.state.rec.sizes.w (suc m) c s o
    go again (goes_on q t a f) =
        let n = c.state.rec.sizes.n in
        let w = c.state.rec.sizes.w in
        let d = after_one file c in
        let Z = same-sizes (call_here file c) c.state a in
        let C : Comes file n w m d s o =
        subst (λ (x : ℕ). Comes file n x m d s o) Z.1 (subst (λ (x : ℕ). Comes file x d.state.rec.sizes.w m d s o) Z.0 (again d (access_lies file c.at n w (sym t)).inside (from q))) in
        record { stand = (t, C.stand); ends = C.ends; accepted = (a, C.accepted); state = C.state; text = C.text ∙ sym (appended-append _ (lines_of (calls_from file n w d.at m) d.state) c.text); free = C.free }
    go again (is_over q t a f) = no _ _ (from q)
    go again (is_refused_by x q t a) = no _ _ (from q)
    go again (is_missing x q t) = no _ _ (from q)

-- the case with which the accesses of a file begin
abbrev pub start : List ℕ → List ℕ → List ℕ → List ℕ → Running
start file words list text = record { state = state_in file words list; at = first_at file; text = growing text 0 }

record Began (file words list text : List ℕ) (s : State) (o : Out) : Type 0 where
  read : SectionsReady file words
  begins : Begins (state_in file words list)
  inside : first_at file ≤ length file
  is : rest file (accesses_in file) 0 (start file words list text) ≡ ended s o

-- sections that are read
pub begun : (file words list text : List ℕ) {n w count m at : ℕ} → (sections file words).1 ≡ ready n w count m at
    → rest file m 0 (record { state = record { rec = first_record n w count; words = (sections file words).0; list = list; ports = fresh_ports }; at = at; text = growing text 0 }) ≡ rest file (accesses_in file) 0 (start file words list text)
begun file words list text {n} {w} {count} {m} {at} q =
    let ws = (sections file words).0 in
    let R = sections-read file words {ws = ws} {n = n} {w = w} {count = count} {accesses = m} {at = at} (ap (λ (y : Sections). (ws, y)) (sym q)) in
    let start_is : record { state = record { rec = first_record n w count; words = ws; list = list; ports = fresh_ports }; at = at; text = growing text 0 } ≡ start file words list text =
    λ i. record { state = record { rec = record { sizes = record { n = R.n_is i; w = R.w_is i }; count = R.count_is i; entries = 0; asserted = 1; checked = 1 }; words = R.words_are i; list = list; ports = fresh_ports }; at = R.at_is i; text = growing text 0 } in
    ap (λ (y : Running). rest file m 0 y) start_is ∙ ap (λ (i : ℕ). rest file i 0 (start file words list text)) R.accesses_is

whole_began : (file words list text : List ℕ) (s : State) (o : Out) → whole file words list text ≡ ended s o → Began file words list text s o
unfolding whole
whole_began file words list text s o e = go (sections file words).1 refl e
  where
    go : (x : Sections) → (sections file words).1 ≡ x → after_sections file (sections file words).0 x list text ≡ ended s o → Began file words list text s o
    go (ready n w count m at) q e =
        let ws = (sections file words).0 in
        let R = sections-read file words {ws = ws} {n = n} {w = w} {count = count} {accesses = m} {at = at} (ap (λ (y : Sections). (ws, y)) (sym q)) in
        let state-is : record { rec = first_record n w count; words = ws; list = list; ports = fresh_ports } ≡ state_in file words list =
        λ i. record { rec = record { sizes = record { n = R.n_is i; w = R.w_is i }; count = R.count_is i; entries = 0; asserted = 1; checked = 1 }; words = R.words_are i; list = list; ports = fresh_ports } in
        record {
          read = q ∙ (λ i. ready (R.n_is i) (R.w_is i) (R.count_is i) (R.accesses_is i) (R.at_is i));
          begins = subst Begins state-is (sections-begin R list);
          inside = omega (arith, R.at_is, R.inside);
          is = sym (begun file words list text q) ∙ e;
        }
    go (sections.refused k) q e = let z : ◌≡◌ {A = ℕ} 0 1 = cc in absurd (omega arith)

-- how an accepted case ended
record Ends (file words list text : List ℕ) (k : ℕ) (r : Record) : Type 0 where
  state : State
  text_end : Out
  is : whole file words list text ≡ ended state text_end
  size : k ≡ text_end.text.at
  rec : r ≡ state.rec

case-ends : (file words list text : List ℕ) (k : ℕ) (r : Record) → (case_of file words list text).answer ≡ accepts k r → Ends file words list text k r
unfolding case_of
case-ends file words list text k r e = go (whole file words list text) refl e
  where
    go : (x : Ended) → whole file words list text ≡ x → (closed words list text x).answer ≡ accepts k r → Ends file words list text k r
    go (ended s o) q e = record { state = s; text_end = o; is = q; size = cc; rec = cc }
    go (stopped a b) q e = let z : ◌≡◌ {A = ℕ} 0 1 = cc in absurd (omega arith)

pub case-left : (file words list text : List ℕ) {s : State} {o : Out} → whole file words list text ≡ ended s o → case_of file words list text ≡ closed words list text (ended s o)
unfolding case_of
case-left file words list text q = ap (closed words list text) q

-- a text that fitted
text-fits : (xs l : List ℕ) {o : Out} → o ≡ appended xs (growing l 0) → o.text.full ≡ false → (length xs ≤ length l) × (o ≡ growing (xs ++ drop (length xs) l) (length xs))
text-fits xs l {o} e f =
    let q : ltb (length l) (0 + length xs) ≡ false = sym (appended_is-full xs l 0 (omega arith)) ∙ ap (λ (x : Out). x.text.full) (sym e) ∙ f in
    let h : 0 + length xs ≤ length l = ltb-false (length l) (0 + length xs) q in
    (omega arith, e ∙ appended-fits xs l 0 h ∙ ap (λ (i : ℕ). growing (xs ++ drop i l) i) (zero-add (length xs)))

pub case-text : CaseText
unfolding CaseText
case-text file words list text k r e =
    let E = case-ends file words list text k r e in
    let B = whole_began file words list text E.state E.text_end E.is in
    let C = rest_ended file (accesses_in file) 0 (start file words list text) E.state E.text_end B.inside B.is in
    let xs = lines_of (calls_in file) (state_in file words list) in
    let F = text-fits xs text C.text C.free in
    let left = case-left file words list text E.is in
    let size_is : k ≡ length xs = E.size ∙ ap (λ (x : Out). x.text.at) F.1 in
    record {
      read = B.read;
      stand = C.stand;
      ends = C.ends;
      accepted = C.accepted;
      last = E.rec ∙ ap (λ (x : State). x.rec) C.state;
      nodes = ap (λ (x : Case). x.words) left ∙ ap (λ (x : State). x.words) C.state;
      entries = ap (λ (x : Case). x.list) left ∙ ap (λ (x : State). x.list) C.state;
      size = size_is;
      fits = omega (arith, F.0, size_is);
      bytes = ap (λ (x : Case). x.text) left ∙ ap (λ (x : Out). x.buffer) F.1 ∙ ap (λ (i : ℕ). xs ++ drop i text) (sym size_is);
    }

-- an accepted case began where lists of calls may begin
pub case-begins : (file words list text : List ℕ) (k : ℕ) (r : Record) → (case_of file words list text).answer ≡ accepts k r → Begins (state_in file words list)
case-begins file words list text k r e =
    let E = case-ends file words list text k r e in
    (whole_began file words list text E.state E.text_end E.is).begins

-- the check condition of the record that was answered, in the node words that were left, is that of the calls' run
pub case-condition : (file words list text : List ℕ) (k : ℕ) (r : Record) → Printed file words list text k r (case_of file words list text) → (φ : ℕ → Bool)
    → let t = run (calls_in file) (state_in file words list) in value (case_of file words list text).words φ r.checked ≡ value t.words φ t.rec.checked
case-condition file words list text k r P φ =
    let t = run (calls_in file) (state_in file words list) in
    ap (λ (x : List ℕ). value x φ r.checked) P.nodes ∙ ap (λ (x : Record). value t.words φ x.checked) P.last

pub case-exactly : CaseExactly
unfolding CaseExactly CaseText Demand3
case-exactly file words list text k r e a small =
    let P = case-text file words list text k r e in
    let X = demand3 (state_in file words list) (case-begins file words list text k r e) (calls_in file) a small in
    let same = case-condition file words list text k r P (bit_at a) in
    record {
      calls = X;
      checking = (λ z. X.admitted.checking (subst T same z), λ z. subst T (sym same) (X.exact.checking z));
    }
