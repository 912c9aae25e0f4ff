-- A case that is refused: the accesses before K are printed, and why the case stopped.
use mathlib.Core.Path.{◌≡◌, refl, sym, ap, subst, ◌∙◌}
use mathlib.Core.Bool.{true, false}
use mathlib.Core.List.{List}
use mathlib.Core.Logic.{◌⊎◌, inl, inr}
use Prim.Native.Nat.{ℕ, ◌+◌, ◌<◌, ◌≤◌}
use native.Mathlib.Omega.{arith}
use lib.ListN.{length, get_or, length-replicate, get_or-replicate}
use borrow.Author.Tests.{ltb-true, ltb-false}
use Rattle.text.specs.Text.{growing, appended}
use Rattle.text.proofs.TextLaws.{appended_is-full}
use Rattle.model.specs.Step.{accepted, AllAccepted}
use Rattle.format.specs.Sections.{Sections, ready, sections, accesses_in, first_at}
use Rattle.format.specs.Sections as sections
use Rattle.format.proofs.SectionLaws.{sections-read}
use Rattle.cases.specs.Case.{stops, Ended, ended, stopped, after_sections, whole, refuses, zeroed, closed, case_of}
use Rattle.cases.specs.Claims.{calls_from, state_in, SectionsReady, AllStand, access_lines, first_calls, RefusedAt, missing, refused_call, line_over, bytes_left, end_over, Zeroed, RefusedAfter, CaseRefused}
use Rattle.cases.proofs.CaseLaws.{start, begun}
use Rattle.cases.proofs.StopLaws.{Why, why_missing, why_refused, why_over, why_left, why_end, Stopped, rest-stopped}

-- lines that did not fit, and that did
too_long : (xs text : List ℕ) → (appended xs (growing text 0)).text.full ≡ true → length text < length xs
too_long xs text e = let h : length text < 0 + length xs = ltb-true (length text) (0 + length xs) (sym (appended_is-full xs text 0 (omega arith)) ∙ e) in omega arith

short-enough : (xs text : List ℕ) → (appended xs (growing text 0)).text.full ≡ false → length xs ≤ length text
short-enough xs text e = let h : 0 + length xs ≤ length text = ltb-false (length text) (0 + length xs) (sym (appended_is-full xs text 0 (omega arith)) ∙ e) in omega arith

-- the same of a file
module _ (file words list text : List ℕ) where
  refused_at : {r j : ℕ} → Why file (get_or file 0 0) (get_or file 1 0) (accesses_in file) (start file words list text) r j → RefusedAt file words list text r j
  refused_at (why_missing h e) = missing h e
  refused_at (why_refused h s e) = refused_call h s e
  refused_at (why_over h s a f e) = line_over h s a (too_long _ text f) e
  refused_at (why_left h l e) = bytes_left h l e
  refused_at (why_end h l f e) = end_over h l (too_long _ text f) e

  -- how a case is refused, its buffers aside
  record Refuses (r k : ℕ) : Type 0 where
    few : k ≤ accesses_in file
    stand : AllStand file (get_or file 0 0) (get_or file 1 0) (first_at file) k
    accepted : AllAccepted (first_calls file k) (state_in file words list)
    fits : length (access_lines (first_calls file k) (state_in file words list)) ≤ length text
    reason : (((sections file words).1 ≡ sections.refused r) × (k ≡ 0)) ⊎ (SectionsReady file words × RefusedAt file words list text r k)

  in-sections : {r k : ℕ} → (sections file words).1 ≡ sections.refused r → k ≡ 0 → Refuses r k
  unfolding calls_from
  in-sections {r} q z = subst (Refuses r) (sym z) (record { few = omega arith; stand = tt; accepted = tt; fits = omega arith; reason = inl (q, refl) })

  in-accesses : {r k : ℕ} → SectionsReady file words → Stopped file (get_or file 0 0) (get_or file 1 0) (accesses_in file) 0 (start file words list text) r k → Refuses r k
  in-accesses {r} {k} q S =
      let T = S.stops in
      let v : S.count ≡ k = omega (arith, S.is) in
      subst (Refuses r) v (record { few = T.few; stand = T.stand; accepted = T.accepted; fits = short-enough _ text T.printed; reason = inr (q, refused_at T.why) })

  whole-stopped : (r k : ℕ) → whole file words list text ≡ stopped r k → Refuses r k
  unfolding whole
  whole-stopped r k e = go (sections file words).1 refl e
    where
      go : (x : Sections) → (sections file words).1 ≡ x → after_sections file (sections file words).0 x list text ≡ stopped r k → Refuses r k
      go (ready n w count m at) q e =
          let ws = (sections file words).0 in
          let R = sections-read file words {ws = ws} {n = n} {w = w} {count = count} {accesses = m} {at = at} (ap (λ (y : Sections). (ws, y)) (sym q)) in
          in-accesses (q ∙ (λ i. ready (R.n_is i) (R.w_is i) (R.count_is i) (R.accesses_is i) (R.at_is i)))
          (rest-stopped file (accesses_in file) 0 (start file words list text) r k refl (sym (begun file words list text q) ∙ e))
      go (sections.refused a) q e = let u : r ≡ a = cc in let z : k ≡ 0 = cc in in-sections (q ∙ ap sections.refused (sym u)) z

zeroed-zeros : (l : List ℕ) → Zeroed l (zeroed l)
zeroed-zeros l = record { size = length-replicate {A = ℕ} (length l) 0; zeros = λ i h. get_or-replicate {A = ℕ} (length l) i 0 0 h }

pub case-refused-after : CaseRefused
unfolding CaseRefused case_of
case-refused-after file words list text number k e = go (whole file words list text) refl e
  where
    go : (x : Ended) → whole file words list text ≡ x → (closed words list text x).answer ≡ refuses number k → RefusedAfter file words list text number k (closed words list text (whole file words list text))
    go (ended s o) q e = let z : ◌≡◌ {A = ℕ} 0 1 = cc in absurd (omega arith)
    go (stopped a b) q e =
        let u : stopped a b ≡ stopped number k = cc in
        let S = whole-stopped file words list text number k (q ∙ u) in
        rw q (record { nodes = zeroed-zeros words; entries = zeroed-zeros list; bytes = zeroed-zeros text; few = S.few; stand = S.stand; accepted = S.accepted; fits = S.fits; reason = S.reason })
