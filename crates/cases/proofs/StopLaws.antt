-- Why a running case stops: after which access, by which number.
use mathlib.Core.Path.{◌≡◌, refl, sym, ap, subst, ◌∙◌}
use mathlib.Core.Bool.{Bool, true, false, cond}
use mathlib.Core.List.{List, append-nil}
use Prim.Native.Nat.{ℕ, zero, suc, ◌+◌, ◌<◌, ◌≤◌}
use native.Mathlib.Omega.{arith}
use lib.Dec.{ltb}
use lib.ListN.{length}
use borrow.Author.Tests.{ltb-true, ltb-false}
use Rattle.text.specs.Text.{Out, appended}
use Rattle.text.proofs.TextLaws.{appended-append}
use Rattle.lines.specs.Lines.{end_line}
use Rattle.model.specs.Step.{accepted, is_refused, step, run, AllAccepted}
use Rattle.model.specs.Step as model
use Rattle.format.specs.Accesses.{access_at}
use Rattle.format.specs.Accesses as accesses
use Rattle.cases.specs.Case.{line_of, Running, Next, stops, one, ended, stopped, last, after, rest}
use Rattle.cases.specs.Claims.{call_at, calls_from, end_from, lines_of, StandsAt, AllStand, access_lines}
use Rattle.cases.proofs.LastLaws.{last-left, last-printed}
use Rattle.cases.proofs.WayLaws.{call_here, after_one, StandsHere, answer_here, Way, goes_on, is_over, is_refused_by, is_missing, way}
use Rattle.cases.proofs.CaseLaws.{same-sizes}

-- why a running case with m accesses left stops by the number r after j of them, for n and w
pub data Why (file : List ℕ) (n w m : ℕ) (c : Running) (r j : ℕ) : Type 0 where
  why_missing : j < m → access_at file (end_from file n w c.at j) n w ≡ accesses.refused r → Why file n w m c r j
  why_refused : j < m → StandsAt file n w (end_from file n w c.at j) → (step (call_at file n w (end_from file n w c.at j)) (run (calls_from file n w c.at j) c.state)).answer ≡ model.refused r → Why file n w m c r j
  why_over : j < m → StandsAt file n w (end_from file n w c.at j) → is_refused (step (call_at file n w (end_from file n w c.at j)) (run (calls_from file n w c.at j) c.state)).answer ≡ false
      → (appended (access_lines (calls_from file n w c.at (suc j)) c.state) c.text).text.full ≡ true → r ≡ 13 → Why file n w m c r j
  why_left : j ≡ m → end_from file n w c.at j < length file → r ≡ 12 → Why file n w m c r j
  why_end : j ≡ m → length file ≤ end_from file n w c.at j → (appended (lines_of (calls_from file n w c.at m) c.state) c.text).text.full ≡ true → r ≡ 13 → Why file n w m c r j

pub record Stops (file : List ℕ) (n w m : ℕ) (c : Running) (r j : ℕ) : Type 0 where
  pub few : j ≤ m
  pub stand : AllStand file n w c.at j
  pub accepted : AllAccepted (calls_from file n w c.at j) c.state
  pub printed : (appended (access_lines (calls_from file n w c.at j) c.state) c.text).text.full ≡ false
  pub why : Why file n w m c r j

-- after none of them
stops-none : (file : List ℕ) (n w m : ℕ) (c : Running) (r : ℕ) → c.text.text.full ≡ false → Why file n w m c r 0 → Stops file n w m c r 0
unfolding calls_from appended
stops-none file n w m c r f y = record { few = omega arith; stand = tt; accepted = tt; printed = f; why = y }

-- after one more
module _ (file : List ℕ) (m : ℕ) (c : Running) (r j : ℕ) where
  why-more : Why file c.state.rec.sizes.n c.state.rec.sizes.w m (after_one file c) r j → Why file c.state.rec.sizes.n c.state.rec.sizes.w (suc m) c r (suc j)
  unfolding calls_from end_from run
  why-more (why_missing h e) = why_missing (omega arith) e
  why-more (why_refused h s e) = why_refused (omega arith) s e
  why-more (why_over h s a f e) = why_over (omega arith) s a (ap (λ (o : Out). o.text.full) (appended-append _ _ c.text) ∙ f) e
  why-more (why_left h l e) = why_left (omega arith) l e
  why-more (why_end h l f e) = why_end (omega arith) l (ap (λ (o : Out). o.text.full) (appended-append _ _ c.text) ∙ f) e

  stops-more : StandsHere file c → is_refused (answer_here file c) ≡ false → Stops file c.state.rec.sizes.n c.state.rec.sizes.w m (after_one file c) r j → Stops file c.state.rec.sizes.n c.state.rec.sizes.w (suc m) c r (suc j)
  unfolding calls_from end_from run
  stops-more s a S =
      record {
        few = omega (arith, S.few);
        stand = (s, S.stand);
        accepted = (a, S.accepted);
        printed = ap (λ (o : Out). o.text.full) (appended-append _ _ c.text) ∙ S.printed;
        why = why-more S.why;
      }

-- a case that stops after k, of which i were done before
pub record Stopped (file : List ℕ) (n w m i : ℕ) (c : Running) (r k : ℕ) : Type 0 where
  pub count : ℕ
  pub is : k ≡ i + count
  pub stops : Stops file n w m c r count

last-stopped : (file : List ℕ) (i : ℕ) (c : Running) (r k : ℕ) → last file i c ≡ stopped r k → (k ≡ i) × Why file c.state.rec.sizes.n c.state.rec.sizes.w 0 c r 0
unfolding calls_from end_from
last-stopped file i c r k e = go (ltb c.at (length file)) refl
  where
    end : Out
    end = appended (end_line c.state.rec.entries) c.text

    full : (f : Bool) → end.text.full ≡ f → length file ≤ c.at → cond f (stopped 13 i) (ended c.state end) ≡ stopped r k → (k ≡ i) × Why file c.state.rec.sizes.n c.state.rec.sizes.w 0 c r 0
    full true q h e = (cc, why_end refl h q cc)
    full false q h e = let z : ◌≡◌ {A = ℕ} 0 1 = cc in absurd (omega arith)

    go : (f : Bool) → ltb c.at (length file) ≡ f → (k ≡ i) × Why file c.state.rec.sizes.n c.state.rec.sizes.w 0 c r 0
    go true q =
        let h : c.at < length file = ltb-true c.at (length file) q in
        let u : stopped 12 i ≡ stopped r k = sym (last-left file i c h) ∙ e in
        (cc, why_left refl h cc)
    go false q =
        let h : length file ≤ c.at = ltb-false c.at (length file) q in
        full end.text.full refl h (sym (last-printed file i c h) ∙ e)

pub rest-stopped : (file : List ℕ) (m i : ℕ) (c : Running) (r k : ℕ) → c.text.text.full ≡ false → rest file m i c ≡ stopped r k → Stopped file c.state.rec.sizes.n c.state.rec.sizes.w m i c r k
unfolding rest calls_from end_from run
rest-stopped file zero i c r k f e =
    let L = last-stopped file i c r k e in
    record { count = 0; is = omega (arith, L.0); stops = stops-none file c.state.rec.sizes.n c.state.rec.sizes.w 0 c r f L.1 }
rest-stopped file (suc m) i c r k f e = go (λ d. rest-stopped file m (suc i) d r k) (way file c)
  where
    from : {x : Next} → one file c ≡ x → after x i (rest file m (suc i)) ≡ stopped r k
    from q = ap (λ (x : Next). after x i (rest file m (suc i))) (sym q) ∙ e

    here : {a : ℕ} → one file c ≡ stops a → (r ≡ a → Why file c.state.rec.sizes.n c.state.rec.sizes.w (suc m) c r 0) → Stopped file c.state.rec.sizes.n c.state.rec.sizes.w (suc m) i c r k
    here {a} q y =
        let u : stopped a i ≡ stopped r k = from q in
        let v : r ≡ a = cc in
        let z : k ≡ i = cc in
        record { count = 0; is = omega arith; stops = stops-none file c.state.rec.sizes.n c.state.rec.sizes.w (suc m) c r f (y v) }

    first : appended (access_lines (calls_from file c.state.rec.sizes.n c.state.rec.sizes.w c.at 1) c.state) c.text ≡ (after_one file c).text
    first = ap (λ (l : List ℕ). appended l c.text) (append-nil (line_of (answer_here file c) (after_one file c).state))

    go : ((d : Running) → d.text.text.full ≡ false → rest file m (suc i) d ≡ stopped r k → Stopped file d.state.rec.sizes.n d.state.rec.sizes.w m (suc i) d r k) → Way file c → Stopped file c.state.rec.sizes.n c.state.rec.sizes.w (suc m) i c r k
    go again (goes_on q s a g) =
        let d = after_one file c in
        let Z = same-sizes (call_here file c) c.state a in
        let S : Stopped file c.state.rec.sizes.n c.state.rec.sizes.w m (suc i) d r k =
        subst (λ (x : ℕ). Stopped file c.state.rec.sizes.n x m (suc i) d r k) Z.1 (subst (λ (x : ℕ). Stopped file x d.state.rec.sizes.w m (suc i) d r k) Z.0 (again d g (from q))) in
        record { count = suc S.count; is = omega (arith, S.is); stops = stops-more file m c r S.count s a S.stops }
    go again (is_over q s a g) = here q (λ v. why_over (omega arith) s a (ap (λ (o : Out). o.text.full) first ∙ g) v)
    go again (is_refused_by x q s g) = here q (λ v. why_refused (omega arith) s (g ∙ ap model.refused (sym v)))
    go again (is_missing x q g) = here q (λ v. why_missing (omega arith) (g ∙ ap accesses.refused (sym v)))
