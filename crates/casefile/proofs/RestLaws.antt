-- The accesses one after the other, and the end.
use Rattle.std.specs.Result.{is_err}
use Rattle.std.proofs.Common.{◌≡◌, refl, sym, ap, subst, ◌∙◌, Bool, true, false, cond, List, ℕ, suc, ◌+◌, ◌-◌, ◌<◌, ◌≤◌, length, replicate, Result, Ok, Err, arith}
use native.Mathlib.Nat.{sub-zero}
use native.Mathlib.Numerals.{add-one}
use Rattle.refusals.specs.declared.Refusal.{Refusal}
use Rattle.refusals.specs.declared.Refusal.TheVariants as row
use Rattle.refusals.specs.Refusal.{number}
use Rattle.text.specs.declared.Writer.{Writer}
use Rattle.text.specs.Text.{out, growing, appended}
use Rattle.text.specs.Writer.{out_of, SameBuffer}
use Rattle.text.proofs.WriterLaws.{same_refl, same_trans}
use Rattle.lines.specs.Lines.{end_line}
use Rattle.memory.specs.declared.Record.{Record}
use Rattle.memory.specs.Contract.{state_of}
use Rattle.reading.specs.declared.Loaded.{Loaded}
use Rattle.format.specs.Sections.{Sections, first_record, sections}
use Rattle.format.proofs.SectionLaws.{sections-valid, sections-ports-valid}
use Rattle.reading.specs.Contract.{sections_of}
use Rattle.reading.proofs.FindLaws.{sections-ready}
use Rattle.conditions.proofs.Promises.{zeros-sound}
use Rattle.cases.proofs.LastLaws.{last-left, last-printed}
use Rattle.case_entries.specs.declared.Run.{Run}
use Rattle.casefile.specs.declared.CaseDone.{CaseDone}
use Rattle.casefile.specs.declared.CaseRefused.{CaseRefused}
use Rattle.cases.specs.Case.{Running, one, Ended, ended, stopped, last_printed, last, after, rest, after_sections, whole, zeroed, closed, case_of}
use Rattle.case_entries.specs.Contract.{running_of, next_of, Ready, ReadyNext, StepAs, PortsReadyNext}
use Rattle.casefile.specs.Contract.{ended_of, EndsAs, case_as, after_as}
use Rattle.model.specs.Frames.{PortsValid}
use Rattle.model.specs.Record.{fresh_ports}
use Rattle.case_entries.proofs.WordLaws.{valid-plain}

module _ (file : List ℕ) (k : ℕ) (c : Run) (w l ps : List ℕ) (b : Writer) where
  pub bytes_left : c.at < length file → stopped 12 k ≡ last file k (running_of c w l b ps)
  bytes_left h = sym (last-left file k (running_of c w l b ps) h)

  module _ (h : length file ≤ c.at) (b' : Writer) (p : out_of b' ≡ appended (end_line c.memory.fields.entries) (out_of b)) where
    last_is : last file k (running_of c w l b ps) ≡ last_printed (state_of c.memory w l ps) k (out_of b')
    last_is = last-printed file k (running_of c w l b ps) h ∙ ap (last_printed (state_of c.memory w l ps) k) (sym p)

    pub end-over : b'.text.full ≡ true → ended_of (after_as k (Err row.BufferShort)) w l b'.buf.now ps ≡ last file k (running_of c w l b ps)
    end-over e = sym (last_is ∙ ap (λ (f : Bool). cond f (stopped 13 k) (ended (state_of c.memory w l ps) (out_of b'))) e)

    pub end_fits : b'.text.full ≡ false → ended_of (after_as k (Ok (record { length = b'.text.at; memory = c.memory }))) w l b'.buf.now ps ≡ last file k (running_of c w l b ps)
    end_fits e = sym (last_is ∙ ap (λ (f : Bool). cond f (stopped 13 k) (ended (state_of c.memory w l ps) (out b'.buf.now (record { at = b'.text.at; full = f })))) e)

-- an answer after so many accesses, refused and not
after-err : {A : Type 0} {k : ℕ} (r : Result A Refusal) {e : CaseRefused} → after_as k r ≡ Err e → (r ≡ Err e.refusal) × (k ≡ e.after)
after-err (Ok a) q = absurd (cc)
after-err {k = k} (Err f) {e} q = let z : record { refusal = f; after = k } ≡ e = cc in (ap (λ (x : CaseRefused). Err x.refusal) z, ap (λ (x : CaseRefused). x.after) z)

after-ok : {A : Type 0} (k : ℕ) (r : Result A Refusal) {a : A} → after_as k r ≡ Ok a → r ≡ Ok a
after-ok k (Ok b) q = cc
after-ok k (Err f) q = absurd (cc)

-- one access of those that are left
module _ (file : List ℕ) (n i : ℕ) (h : i < n) (c : Running) (w l : List ℕ) (b : Writer) (ps : List ℕ) (r : Result Run Refusal) (f : next_of r w l b ps ≡ one file c) where
  rest-next : rest file (n - i) i c ≡ after (next_of r w l b ps) i (rest file (n - (i + 1)) (i + 1))
  unfolding rest
  rest-next = let e : n - i ≡ suc (n - (i + 1)) = omega arith in rw (e, f, add-one i)

  pub rest_goes : {c' : Run} → r ≡ Ok c' → rest file (n - (i + 1)) (i + 1) (running_of c' w l b ps) ≡ rest file (n - i) i c
  rest_goes e = sym (rest-next ∙ ap (λ (x : Result Run Refusal). after (next_of x w l b ps) i (rest file (n - (i + 1)) (i + 1))) e)

  pub rest-stops : {k : Refusal} → r ≡ Err k → stopped (number k) i ≡ rest file (n - i) i c
  rest-stops e = sym (rest-next ∙ ap (λ (x : Result Run Refusal). after (next_of x w l b ps) i (rest file (n - (i + 1)) (i + 1))) e)

-- none is left
pub rest-none : (file : List ℕ) (n i : ℕ) (c : Running) → n ≤ i → rest file (n - i) i c ≡ last file i c
unfolding rest
rest-none file n i c h = let e : n - i ≡ 0 = omega arith in rw e

-- what the loop over the accesses keeps: i are done, and the rest from here is the rest from the start
pub record Done (file : List ℕ) (n : ℕ) (x : Ended) (a : Writer) (w l table ps : List ℕ) (b : Writer) (c : Run) (i : ℕ) : Type 0 where
  pub most : i ≤ n
  pub ready : Ready c.memory w l table
  pub ports : PortsValid (state_of c.memory w l ps)
  pub is : rest file (n - i) i (running_of c w l b ps) ≡ x
  pub same : SameBuffer a b

pub done_none : (file : List ℕ) (n : ℕ) (c : Run) (w l table ps : List ℕ) (b : Writer) → Ready c.memory w l table → PortsValid (state_of c.memory w l ps) → Done file n (rest file n 0 (running_of c w l b ps)) b w l table ps b c 0
done_none file n c w l table ps b R P = record { most = omega arith; ready = R; ports = P; is = ap (λ (k : ℕ). rest file k 0 (running_of c w l b ps)) (sub-zero n); same = same_refl b }

module _ {file : List ℕ} {n : ℕ} {x : Ended} {a : Writer} {w l table ps : List ℕ} {b : Writer} {c : Run} {i : ℕ} (D : Done file n x a w l table ps b c i) where
  pub done_more : i < n → {r : Result Run Refusal} {q : Result Run CaseRefused} {w' l' table' ps' : List ℕ} {b' : Writer} {c' : Run} → q ≡ after_as i r → q ≡ Ok c' → StepAs r w' l' b' table' ps' (one file (running_of c w l b ps)) × PortsReadyNext r w' l' ps' → SameBuffer b b' → Done file n x a w' l' table' ps' b' c' (i + 1)
  done_more h {r} {w' = w'} {l'} {table'} {ps'} {b'} {c'} m f C S =
      let e : r ≡ Ok c' = after-ok i r (sym m ∙ f) in
      record {
        most = omega arith;
        ready = subst (λ (y : Result Run Refusal). ReadyNext y w' l' table') e C.0.ready;
        ports = subst (λ (y : Result Run Refusal). PortsReadyNext y w' l' ps') e C.1;
        is = rest_goes file n i h (running_of c w l b ps) w' l' b' ps' r C.0.is e ∙ D.is;
        same = same_trans D.same S;
      }

  pub done-stop : i < n → {r : Result Run Refusal} {q : Result Run CaseRefused} {e : CaseRefused} {z : Result CaseDone CaseRefused} {w' l' table' ps' : List ℕ} {b' : Writer} → q ≡ after_as i r → q ≡ Err e → z ≡ Err e → StepAs r w' l' b' table' ps' (one file (running_of c w l b ps)) → ended_of z w' l' b'.buf.now ps' ≡ x
  done-stop h {r} {e = e} {w' = w'} {l'} {ps' = ps'} {b' = b'} m f g C =
      let E = after-err r (sym m ∙ f) in
      rw g (ap (stopped (number e.refusal)) (sym E.1) ∙ rest-stops file n i h (running_of c w l b ps) w' l' b' ps' r C.is E.0 ∙ D.is)

  pub done_all : n ≤ i → {y : Ended} → y ≡ last file n (running_of c w l b ps) → y ≡ x
  done_all h f =
      let e : n ≡ i = omega (arith, D.most) in
      f ∙ ap (λ (k : ℕ). last file k (running_of c w l b ps)) e ∙ sym (rest-none file n i (running_of c w l b ps) h) ∙ D.is

-- the sections, and then the accesses
module _ (file words list text ws : List ℕ) (r : Result Loaded Refusal) (f : (ws, sections_of r) ≡ sections file words) where
  whole_is : whole file words list text ≡ after_sections file ws (sections_of r) list text
  unfolding whole
  whole_is = ap (λ (x : List ℕ × Sections). after_sections file x.0 x.1 list text) (sym f)

  pub whole-stops : {q : Result Loaded CaseRefused} {e : CaseRefused} {z : Result CaseDone CaseRefused} → q ≡ after_as 0 r → q ≡ Err e → z ≡ Err e → (w l b ps : List ℕ) → ended_of z w l b ps ≡ whole file words list text
  whole-stops {e = e} m f g w l b ps =
      let E = after-err r (sym m ∙ f) in
      rw g (ap (stopped (number e.refusal)) (sym E.1) ∙ sym (whole_is ∙ ap (λ (x : Result Loaded Refusal). after_sections file ws (sections_of x) list text) E.0))

  pub whole-goes : {q : Result Loaded CaseRefused} {d : Loaded} → q ≡ after_as 0 r → q ≡ Ok d → {y : Ended} → y ≡ rest file d.accesses 0 (record { state = record { rec = first_record d.sizes.n d.sizes.w d.count; words = ws; list = list; ports = fresh_ports }; at = d.at; text = growing text 0 })
      → y ≡ whole file words list text
  whole-goes m f g = g ∙ sym (whole_is ∙ ap (λ (x : Result Loaded Refusal). after_sections file ws (sections_of x) list text) (after-ok 0 r (sym m ∙ f)))

-- the record of a case with which nothing is done yet
abbrev pub begun : Loaded → Record
begun d = record { fields = record { sizes = d.sizes; count = d.count; entries = 0; asserted = 1; checked = 1 } }

pub first-ready : (file words list ws : List ℕ) (r : Result Loaded Refusal) {q : Result Loaded CaseRefused} {d : Loaded} → q ≡ after_as 0 r → q ≡ Ok d → (ws, sections_of r) ≡ sections file words
    → Ready (begun d) ws list (replicate 32768 0) × PortsValid (state_of (begun d) ws list fresh_ports)
first-ready file words list ws r {d = d} m g f =
    let S = sections-ready file words (after-ok 0 r (sym m ∙ g)) f in
    (record { valid = valid-plain (begun d) ws list fresh_ports (sections-valid S list); sound = zeros-sound _ 32768 S.standard }, sections-ports-valid S list)

-- accepted, and refused
module _ (file words list text w l b : List ℕ) (r : Result CaseDone CaseRefused) (f : EndsAs r w l b (whole file words list text)) where
  case_is : case_of file words list text ≡ closed words list text (ended_of r w l b f.0)
  unfolding case_of
  case_is = ap (closed words list text) (sym f.1)

  pub case-done : false ≡ is_err r → case_as r w l b ≡ case_of file words list text
  case-done e = go r e ∙ sym case_is
    where
      go : (x : Result CaseDone CaseRefused) → false ≡ is_err x → case_as x w l b ≡ closed words list text (ended_of x w l b f.0)
      go (Ok d) e = refl
      go (Err k) e = absurd (cc)

  pub case-refused : true ≡ is_err r → {w' l' b' : List ℕ} → length w ≡ length words → length l ≡ length list → length b ≡ length text → w' ≡ zeroed w → l' ≡ zeroed l → b' ≡ zeroed b
      → case_as r w' l' b' ≡ case_of file words list text
  case-refused e {w'} {l'} {b'} p q s x y z = go r e ∙ sym case_is
    where
      go : (r : Result CaseDone CaseRefused) → true ≡ is_err r → case_as r w' l' b' ≡ closed words list text (ended_of r w l b f.0)
      go (Ok d) e = absurd (cc)
      go (Err k) e = rw (x, y, z, p, q, s)
