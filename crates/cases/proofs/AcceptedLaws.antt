-- A case with nothing to refuse is accepted.
use mathlib.Core.Path.{◌≡◌, refl, sym, ap, subst, ◌∙◌}
use mathlib.Core.Bool.{Bool, true, false, cond, false≢true}
use mathlib.Core.List.{List}
use Prim.Native.Nat.{ℕ, zero, suc, ◌+◌, ◌≤◌}
use native.Mathlib.Nat.{zero-add}
use native.Mathlib.Omega.{arith}
use lib.ListN.{length}
use Rattle.text.specs.Text.{Out, appended}
use Rattle.text.proofs.TextLaws.{appended-append, appended-full, appended-fits}
use Rattle.lines.specs.Lines.{end_line}
use Rattle.model.specs.Step.{step, run, AllAccepted}
use Rattle.format.specs.Sections.{Sections, sections, accesses_in}
use Rattle.cases.specs.Case.{line_of, Running, Next, ended, stopped, after, rest, after_sections, whole, accepts, Case}
use Rattle.cases.specs.Claims.{calls_from, end_from, calls_in, state_in, lines_of, SectionsReady, AllStand, CaseAccepted}
use Rattle.cases.proofs.LastLaws.{last-printed}
use Rattle.cases.proofs.WayLaws.{call_here, after_one, one-done}
use Rattle.cases.proofs.CaseLaws.{same-sizes, start, begun, case-left}

-- bytes before those that did fit
fitted : (xs : List ℕ) (o : Out) → (appended xs o).text.full ≡ false → o.text.full ≡ false
fitted xs o e = go o.text.full refl
  where
    go : (f : Bool) → o.text.full ≡ f → f ≡ false
    go true q = absurd (false≢true (sym e ∙ ap (λ (x : Out). x.text.full) (appended-full xs o q) ∙ q))
    go false q = refl

-- m accesses are left with nothing to refuse, for n and w
record Left (file : List ℕ) (n w m : ℕ) (c : Running) : Type 0 where
  stand : AllStand file n w c.at m
  accepted : AllAccepted (calls_from file n w c.at m) c.state
  ends : end_from file n w c.at m ≡ length file
  fits : (appended (lines_of (calls_from file n w c.at m) c.state) c.text).text.full ≡ false

-- then the case is accepted
abbrev Accepts : List ℕ → ℕ → ℕ → ℕ → ℕ → Running → Type 0
Accepts file n w m k c = Left file n w m c → rest file m k c ≡ ended (run (calls_from file n w c.at m) c.state) (appended (lines_of (calls_from file n w c.at m) c.state) c.text)

last-accepts : (file : List ℕ) (k : ℕ) (c : Running) → Accepts file c.state.rec.sizes.n c.state.rec.sizes.w 0 k c
unfolding rest calls_from end_from run
last-accepts file k c L =
    let o = appended (end_line c.state.rec.entries) c.text in
    let e : c.at ≡ length file = L.ends in
    last-printed file k c (omega arith) ∙ ap (λ (f : Bool). cond f (stopped 13 k) (ended c.state o)) L.fits

rest-accepts : (file : List ℕ) (m k : ℕ) (c : Running) → Accepts file c.state.rec.sizes.n c.state.rec.sizes.w m k c
unfolding rest calls_from end_from run
rest-accepts file zero k c L = last-accepts file k c L
rest-accepts file (suc m) k c L =
    let n = c.state.rec.sizes.n in
    let w = c.state.rec.sizes.w in
    let d = after_one file c in
    let x = step (call_here file c) c.state in
    let line = line_of x.answer x.after in
    let lines = lines_of (calls_from file n w d.at m) x.after in
    let Z = same-sizes (call_here file c) c.state L.accepted.0 in
    let again : Accepts file n w m (suc k) d = subst (λ (i : ℕ). Accepts file n i m (suc k) d) Z.1 (subst (λ (i : ℕ). Accepts file i x.after.rec.sizes.w m (suc k) d) Z.0 (rest-accepts file m (suc k) d)) in
    let fits : (appended lines d.text).text.full ≡ false = ap (λ (o : Out). o.text.full) (sym (appended-append line lines c.text)) ∙ L.fits in
    ap (λ (y : Next). after y k (rest file m (suc k))) (one-done file c L.stand.0 L.accepted.0 false (fitted lines d.text fits))
    ∙ again (record { stand = L.stand.1; accepted = L.accepted.1; ends = L.ends; fits = fits })
    ∙ ap (ended (run (calls_from file n w d.at m) x.after)) (sym (appended-append line lines c.text))

-- sections that are read, and the accesses
whole-rest : (file words list text : List ℕ) → SectionsReady file words → whole file words list text ≡ rest file (accesses_in file) 0 (start file words list text)
unfolding whole
whole-rest file words list text e = ap (λ (x : Sections). after_sections file (sections file words).0 x list text) e ∙ begun file words list text e

pub case-accepted : CaseAccepted
unfolding CaseAccepted
case-accepted file words list text A =
    let xs = lines_of (calls_in file) (state_in file words list) in
    let h : 0 + length xs ≤ length text = omega (arith, A.fits) in
    let o_is = appended-fits xs text 0 h in
    let ends_is = rest-accepts file (accesses_in file) 0 (start file words list text) (record { stand = A.stand; accepted = A.accepted; ends = A.ends; fits = ap (λ (o : Out). o.text.full) o_is }) in
    ap (λ (x : Case). x.answer) (case-left file words list text (whole-rest file words list text A.read ∙ ends_is))
    ∙ ap (λ (o : Out). accepts o.text.at (run (calls_in file) (state_in file words list)).rec) o_is
    ∙ ap (λ (i : ℕ). accepts i (run (calls_in file) (state_in file words list)).rec) (zero-add (length xs))
