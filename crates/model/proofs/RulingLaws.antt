-- R1 to R11 hold: the test of the whole table, computed, and what it says of each line.
use mathlib.Core.Path.{◌≡◌, refl, ap}
use mathlib.Core.Bool.{true, not, false≢true}
use mathlib.Core.List.{List, [], ◌∷◌}
use Prim.Native.Nat.{ℕ}
use lib.Dec.{eqb}
use borrow.Author.Tests.{eqb-true}
use Rattle.nodes.proofs.BoolLaws.{and_both}
use Rattle.conditions.specs.Computing.{computing}
use Rattle.model.specs.Record.{list_capacity, appended, replaced}
use Rattle.model.specs.Access.{unique_bit, Unique, Certain, Write, narrow_bit, Narrow, half_step, EachHalf, merge_half, entry_step, settle_half, Look, hold_half, Read, inside_half, Inside, Check}
use Rattle.model.specs.Rows.{row1, row3, ports_row}
use Rattle.model.specs.Step.{State, Call, Given, place, idle, filled, entered, kept, accepted, valued, node, triples, Answer, refused, done, is_refused, closed, unless_full, finish_write, finish_access, step, run, fresh}
use Rattle.model.specs.Rulings.{R1, R2, R3, R4, R5, R6, R7, R8, R9-idle, R9, R10, R10-held, R11, R11-not, Rulings, Expected, reading, leaving, idling, Ruling, start, result, Taken, Gives, Says, taken, same_words, fits, answers, ruled}

-- from a test that passes to what it says
words_same : (xs ys : List ℕ) → same_words xs ys ≡ true → xs ≡ ys
words_same [] [] e = refl
words_same [] (y ∷ ys) e = absurd (false≢true e)
words_same (x ∷ xs) [] e = absurd (false≢true e)
words_same (x ∷ xs) (y ∷ ys) e =
    let q = and_both (eqb x y) (same_words xs ys) e in
    cc (eqb-true x y q.0, words_same xs ys q.1)

fits_is : (e : Expected) (g : Given) (c : ℕ) → fits e g c ≡ true → Gives e (done g) c
fits_is e (place k) c p = absurd (false≢true p)
fits_is (reading ws) idle c p = absurd (false≢true p)
fits_is (leaving k) idle c p = absurd (false≢true p)
fits_is idling idle c p = refl
fits_is (reading ws) (filled r) c p = ap (λ (ws : List ℕ). done (filled ws)) (words_same r ws p)
fits_is (leaving k) (filled r) c p = absurd (false≢true p)
fits_is idling (filled r) c p = absurd (false≢true p)
fits_is e entered c p = absurd (false≢true p)
fits_is e kept c p = absurd (false≢true p)
fits_is (reading ws) accepted c p = absurd (false≢true p)
fits_is (leaving k) accepted c p = (refl, eqb-true c k p)
fits_is idling accepted c p = absurd (false≢true p)
fits_is e (valued b) c p = absurd (false≢true p)
fits_is e (node n) c p = absurd (false≢true p)
fits_is e (triples ts) c p = absurd (false≢true p)

answers_is : (e : Expected) (x : Answer) (c : ℕ) → answers e x c ≡ true → Gives e x c
answers_is e (refused k) c p = absurd (false≢true p)
answers_is e (done g) c p = fits_is e g c p

taken_is : (cs : List Call) (s : State) → taken cs s ≡ true → Taken cs s
unfolding taken
taken_is [] s e = tt
taken_is (c ∷ cs) s e =
    let q = and_both (not (is_refused (step c s).answer)) (taken cs (step c s).after) e in
    (λ k p. false≢true (rw p at q.0), taken_is cs (step c s).after q.1)

ruled_says : (r : Ruling) → ruled r ≡ true → Says r
unfolding ruled
ruled_says r e =
    let q = and_both (taken r.before (start r.w)) (answers r.expected (result r).answer (result r).after.rec.checked) e in
    (taken_is r.before (start r.w) q.0, answers_is r.expected (result r).answer (result r).after.rec.checked q.1)

-- every line of the table says what is so
pub rulings_say : Rulings
unfolding
    computing
    list_capacity appended replaced unique_bit Unique Certain Write narrow_bit Narrow half_step EachHalf merge_half entry_step settle_half Look hold_half Read inside_half Inside Check
    row1 row3 ports_row closed unless_full finish_write finish_access step run fresh start result taken ruled
rulings_say = record {
  r1 = ruled_says R1 refl;
  r2 = ruled_says R2 refl;
  r3 = ruled_says R3 refl;
  r4 = ruled_says R4 refl;
  r5 = ruled_says R5 refl;
  r6 = ruled_says R6 refl;
  r7 = ruled_says R7 refl;
  r8 = ruled_says R8 refl;
  r9-idle = ruled_says R9-idle refl;
  r9 = ruled_says R9 refl;
  r10 = ruled_says R10 refl;
  r10-held = ruled_says R10-held refl;
  r11 = ruled_says R11 refl;
  r11_not = ruled_says R11-not refl;
}
