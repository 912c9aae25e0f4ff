-- Three nodes that meet at a terminal: the test decides it, has its rule with no bound, and may go by notes. Rows 6 and 7 are two of its cases.
use Rattle.std.proofs.Common.{◌≡◌, refl, sym, ◌∙◌, Bool, true, false, ◌||◌, true≢false, ◌⊎◌, inl, inr, Option, None, Some, List, ℕ, zero, suc, ◌+◌, ◌-◌, ◌/◌, ◌%◌, ◌<◌, ◌≤◌, arith, eqb, get_or}
use Rattle.std.proofs.Math.ListN.{replicate, get_or-replicate}
use Rattle.std.proofs.lemmas.Bool.{false≢true}
use mathlib.Core.Logic.{⊎_elim}
use native.Mathlib.Decide.{dec_lt, ℕ_discrete}
use borrow.Author.Tests.{eqb-true, eq-eqb, ne_eqb}
use Rattle.nodes.specs.Words.{var_at}
use Rattle.nodes.specs.Standard.{Standard}
use Rattle.nodes.proofs.BoolLaws.{split, iff-same}
use Rattle.diagrams.specs.declared.Parts.{Parts}
use Rattle.diagrams.specs.Parts.{least_of, part_of, parts_of}
use Rattle.diagrams.specs.Value.{value}
use Rattle.diagrams.specs.Assignment.{bit_at, change, number_of}
use Rattle.diagrams.specs.Keys.{key_of, slot_of}
use Rattle.meets.specs.Meet.{judge_of, meets_by, meets_up_to, meets, Settles, Asks, neither, together, SomeNeither, SomeTogether, Decides, noted_in, with_note, judge_noted, NotesHold}
use Rattle.diagrams.proofs.ValueLaws.{value_end, value_0}
use Rattle.diagrams.proofs.AssignmentLaws.{change-same, number_fits, number-value}
use Rattle.diagrams.proofs.CanonLaws.{end_same, value-change}
use Rattle.diagrams.proofs.PartsLaws.{Ready, part_le, part_var, part-value, small_fall, small-ready}
use Rattle.diagrams.proofs.KeyLaws.{set_or}

-- two tests that decide one sentence are one
decided : {P : Type 0} {a b : Bool} → Decides P a → Decides P b → a ≡ b
decided {a = a} {b = b} A B =
    iff-same a b (λ e. split b (λ p. p) (λ n. absurd (B.no n (A.yes e)))) (λ e. split a (λ p. p) (λ n. absurd (A.no n (B.yes e))))

-- a test decides what is the same as what it decides
decides_as : {P Q : Type 0} {b : Bool} → Decides P b → (P → Q) → (Q → P) → Decides Q b
decides_as D f g = record { yes = λ e. f (D.yes e); no = λ e q. D.no e (g q) }

-- one test or another
decides_or : {P Q R : Type 0} (a b : Bool) → Decides P a → Decides Q b → (P → R) → (Q → R) → (R → P ⊎ Q) → Decides R (a || b)
decides_or true b A B f g s = record { yes = λ _. f (A.yes refl); no = λ e _. absurd (true≢false e) }
decides_or false b A B f g s = record { yes = λ e. g (B.yes e); no = λ e r. ⊎_elim (A.no refl) (B.no e) (s r) }

-- some assignment takes the three nodes to the terminal t
record Met (w : List ℕ) (t f g h : ℕ) : Type 0 where
  pub by : ℕ → Bool
  pub first : value w by f ≡ eqb t 1
  pub second : value w by g ≡ eqb t 1
  pub third : value w by h ≡ eqb t 1

-- the other terminal goes to t under no assignment
other_never : (w : List ℕ) (φ : ℕ → Bool) (t n : ℕ) → t < 2 → n ≡ 1 - t → value w φ n ≡ eqb t 1 → ⊥
other_never w φ t n lt e v =
    let l : n < 2 = omega arith in
    let s : n ≡ t = end_same n t l lt (value_end w φ n l ∙ v) in
    omega arith

-- and t under each
same_always : (w : List ℕ) (φ : ℕ → Bool) (t n : ℕ) → t < 2 → n ≡ t → value w φ n ≡ eqb t 1
same_always w φ t n lt e = rw e (sym (value_end w φ t lt))

-- what is told by the nodes themselves
abbrev Says : List ℕ → ℕ → ℕ → ℕ → ℕ → Option Bool → Type 0
Says w t f g h (Some false) = Met w t f g h → ⊥
Says w t f g h (Some true) = Met w t f g h
Says w t f g h None = f < 2 → g < 2 → h < 2 → ⊥

judge_says : (w : List ℕ) (t f g h : ℕ) → t < 2 → Says w t f g h (judge_of t f g h)
unfolding judge_of
judge_says w t f g h lt = off (ℕ_discrete f (1 - t)) (ℕ_discrete g (1 - t)) (ℕ_discrete h (1 - t))
  where
    on : (f ≡ 1 - t → ⊥) → (g ≡ 1 - t → ⊥) → (h ≡ 1 - t → ⊥) → Dec (f ≡ t) → Dec (g ≡ t) → Dec (h ≡ t) → Says w t f g h (judge_of t f g h)
    on p q r (yes i) (yes j) (yes k) =
        simp (ne_eqb f (1 - t) p, ne_eqb g (1 - t) q, ne_eqb h (1 - t) r, eq-eqb f t i, eq-eqb g t j, eq-eqb h t k)
        (record { by = λ _. false; first = same_always w (λ _. false) t f lt i; second = same_always w (λ _. false) t g lt j; third = same_always w (λ _. false) t h lt k })
    on p q r (yes i) (yes j) (no k) = simp (ne_eqb f (1 - t) p, ne_eqb g (1 - t) q, ne_eqb h (1 - t) r, eq-eqb f t i, eq-eqb g t j, ne_eqb h t k) (λ a b d. omega arith)
    on p q r (yes i) (no j) _ = simp (ne_eqb f (1 - t) p, ne_eqb g (1 - t) q, ne_eqb h (1 - t) r, eq-eqb f t i, ne_eqb g t j) (λ a b d. omega arith)
    on p q r (no i) _ _ = simp (ne_eqb f (1 - t) p, ne_eqb g (1 - t) q, ne_eqb h (1 - t) r, ne_eqb f t i) (λ a b d. omega arith)

    off : Dec (f ≡ 1 - t) → Dec (g ≡ 1 - t) → Dec (h ≡ 1 - t) → Says w t f g h (judge_of t f g h)
    off (yes p) _ _ = rw (eq-eqb f (1 - t) p) (λ m. other_never w m.by t f lt p m.first)
    off (no p) (yes q) _ = rw (ne_eqb f (1 - t) p, eq-eqb g (1 - t) q) (λ m. other_never w m.by t g lt q m.second)
    off (no p) (no q) (yes r) = rw (ne_eqb f (1 - t) p, ne_eqb g (1 - t) q, eq-eqb h (1 - t) r) (λ m. other_never w m.by t h lt r m.third)
    off (no p) (no q) (no r) = on p q r (ℕ_discrete f t) (ℕ_discrete g t) (ℕ_discrete h t)

-- a node's value with v changed is its part's
part-change : {w : List ℕ} {c : ℕ} → Standard w c → (v n : ℕ) → n < c → v < 64 → v ≤ var_at w n → (φ : ℕ → Bool) (b : Bool) → value w (change φ v b) n ≡ value w φ (part_of b w v n)
part-change {w} g v n h small top φ b =
    sym (rw (change-same φ v b) at (part-value g v n h small top (change φ v b)))
    ∙ value-change g (part_of b w v n) v (omega (arith, part_le g v n h small top b)) (part_var g v n h small top b) φ b

asks-ready : {w : List ℕ} {c t f g h : ℕ} → Asks w c t f g h → Ready w c f g h
asks-ready A = record { standard = A.standard; first = A.first; second = A.second; third = A.third }

-- of three nodes of which one is no terminal
module _ {w : List ℕ} {c t f g h : ℕ} (A : Asks w c t f g h) (some : f < 2 → g < 2 → h < 2 → ⊥) where
  some-small : least_of w f g h < 64
  some-small = go (dec_lt f 2) (dec_lt g 2) (dec_lt h 2)
    where
      go : Dec (f < 2) → Dec (g < 2) → Dec (h < 2) → least_of w f g h < 64
      go (no n) _ _ = omega (arith, (A.standard.shape f (omega arith) A.first).small)
      go (yes p) (no n) _ = omega (arith, (A.standard.shape g (omega arith) A.second).small)
      go (yes p) (yes q) (no n) = omega (arith, (A.standard.shape h (omega arith) A.third).small)
      go (yes p) (yes q) (yes r) = absurd (some p q r)

  some_fall : (b : Bool) → part_of b w (least_of w f g h) f + part_of b w (least_of w f g h) g + part_of b w (least_of w f g h) h < f + g + h
  some_fall = small_fall f g h (asks-ready A) some-small

  some_asks : (b : Bool) → Asks w c t (part_of b w (least_of w f g h) f) (part_of b w (least_of w f g h) g) (part_of b w (least_of w f g h) h)
  some_asks b =
      let R = small-ready f g h (asks-ready A) some-small b in
      record { standard = A.standard; terminal = A.terminal; first = R.first; second = R.second; third = R.third }

  -- that their low parts meet, or their high parts
  abbrev PartsMet : Bool → Type 0
  PartsMet b = Met w t (part_of b w (least_of w f g h) f) (part_of b w (least_of w f g h) g) (part_of b w (least_of w f g h) h)

  met_up : (b : Bool) → PartsMet b → Met w t f g h
  met_up b m =
      let v = least_of w f g h in
      record {
        by = change m.by v b;
        first = part-change A.standard v f A.first some-small (omega arith) m.by b ∙ m.first;
        second = part-change A.standard v g A.second some-small (omega arith) m.by b ∙ m.second;
        third = part-change A.standard v h A.third some-small (omega arith) m.by b ∙ m.third;
      }

  met_down : (m : Met w t f g h) → PartsMet (m.by (least_of w f g h))
  met_down m =
      let v = least_of w f g h in
      record {
        by = m.by;
        first = part-value A.standard v f A.first some-small (omega arith) m.by ∙ m.first;
        second = part-value A.standard v g A.second some-small (omega arith) m.by ∙ m.second;
        third = part-value A.standard v h A.third some-small (omega arith) m.by ∙ m.third;
      }

  met_sides : Met w t f g h → PartsMet false ⊎ PartsMet true
  met_sides m = go (m.by (least_of w f g h)) (met_down m)
    where
      go : (b : Bool) → PartsMet b → PartsMet false ⊎ PartsMet true
      go false p = inl p
      go true p = inr p

module _ (w : List ℕ) (c t : ℕ) where
  -- a step decides, where what it calls does
  step_decides : (rec : ℕ → ℕ → ℕ → Bool) (f g h : ℕ) → Asks w c t f g h
      → ((f' g' h' : ℕ) → f' + g' + h' < f + g + h → Asks w c t f' g' h' → Decides (Met w t f' g' h') (rec f' g' h'))
      → (v : Option Bool) → Says w t f g h v → Decides (Met w t f g h) (meets_by rec v (parts_of w f g h))
  unfolding meets_by
  step_decides rec f g h A law (Some false) never = record { yes = λ e. absurd (false≢true e); no = λ _. never }
  step_decides rec f g h A law (Some true) m = record { yes = λ _. m; no = λ e _. true≢false e }
  step_decides rec f g h A law None some =
      decides_or _ _ (law _ _ _ (some_fall A some false) (some_asks A some false)) (law _ _ _ (some_fall A some true) (some_asks A some true)) (met_up A some false) (met_up A some true) (met_sides A some)

  up_to_decides : (k f g h : ℕ) → f + g + h < k → Asks w c t f g h → Decides (Met w t f g h) (meets_up_to k w t f g h)
  unfolding meets_up_to
  up_to_decides zero f g h l A = absurd (omega arith)
  up_to_decides (suc k) f g h l A = step_decides (meets_up_to k w t) f g h A (λ f' g' h' l' A'. up_to_decides k f' g' h' (omega arith) A') (judge_of t f g h) (judge_says w t f g h A.terminal)

  meets_decides : (f g h : ℕ) → Asks w c t f g h → Decides (Met w t f g h) (meets w t f g h)
  unfolding meets
  meets_decides f g h A = up_to_decides (suc (f + g + h)) f g h (omega arith) A

  pub meets_rule : (f g h : ℕ) → Asks w c t f g h → meets w t f g h ≡ meets_by (meets w t) (judge_of t f g h) (parts_of w f g h)
  meets_rule f g h A = decided (meets_decides f g h A) (step_decides (meets w t) f g h A (λ f' g' h' l' A'. meets_decides f' g' h' A') (judge_of t f g h) (judge_says w t f g h A.terminal))

-- the answer, where the nodes tell it by themselves
module _ {w : List ℕ} {c t f g h : ℕ} (A : Asks w c t f g h) where
  pub meets_told : (b : Bool) → judge_of t f g h ≡ Some b → b ≡ meets w t f g h
  unfolding meets_by
  meets_told b e = rw (meets_rule w c t f g h A, e)

  pub asks-nodes : (t < 2) × (f < 16384) × (g < 16384) × (h < 16384)
  asks-nodes = let m = A.standard.most in omega arith

-- three nodes, read out of their number
note-nodes : {w : List ℕ} {c t f g h : ℕ} → Asks w c t f g h → (k : ℕ) → k ≡ key_of f g h → meets w t (k / 268435456) (k / 16384 % 16384) (k % 16384) ≡ meets w t f g h
note-nodes {f = f} {g = g} {h = h} A k e =
    let l = asks-nodes A in
    let e1 : k / 268435456 ≡ f = omega arith in
    let e2 : k / 16384 % 16384 ≡ g = omega arith in
    let e3 : k % 16384 ≡ h = omega arith in
    rw (e1, e2, e3)

module _ {w : List ℕ} {c t f g h : ℕ} {n : List ℕ} (A : Asks w c t f g h) (N : NotesHold w t n) where
  -- three nodes that the notes have do not meet
  noted_no : noted_in n f g h ≡ true → false ≡ meets w t f g h
  unfolding noted_in
  noted_no e = sym (N.at (slot_of f g h) (omega arith)) ∙ note-nodes A (get_or n (slot_of f g h) 0) (eqb-true _ _ e)

  pub judged : (b : Bool) {v : Option Bool} → v ≡ judge_noted n t f g h → v ≡ Some b → b ≡ meets w t f g h
  unfolding judge_noted
  judged b e q =
      split (noted_in n f g h) (λ k. let no : Some b ≡ Some false = sym q ∙ (rw k at e) in let z : b ≡ false = cc in z ∙ noted_no k)
      (λ k. meets_told A b (sym (rw k at e) ∙ q))

  -- the notes with three nodes more
  pub notes-more : false ≡ meets w t f g h → NotesHold w t (with_note n f g h)
  notes-more m = record { at = λ i lt. go i lt (set_or n (slot_of f g h) i (key_of f g h)) }
    where
      go : (i : ℕ) → i < 32768 → (get_or (with_note n f g h) i 0 ≡ key_of f g h) ⊎ (get_or (with_note n f g h) i 0 ≡ get_or n i 0)
          → meets w t (get_or (with_note n f g h) i 0 / 268435456) (get_or (with_note n f g h) i 0 / 16384 % 16384) (get_or (with_note n f g h) i 0 % 16384) ≡ false
      go i lt (inl z) = note-nodes A (get_or (with_note n f g h) i 0) z ∙ sym m
      go i lt (inr z) = rw z (N.at i lt)

-- notes of nothing but the other terminal
pub notes-none : (w : List ℕ) (t : ℕ) → NotesHold w t (replicate 32768 (key_of (1 - t) 0 0))
unfolding meets meets_up_to meets_by judge_of
notes-none w t = record { at = λ i lt. rw (get_or-replicate {A = ℕ} 32768 i (key_of (1 - t) 0 0) 0 lt, first (1 - t)) (rw (eq-eqb (1 - t) (1 - t) refl)) }
  where
    first : (f : ℕ) → key_of f 0 0 / 268435456 ≡ f
    first f = omega arith

-- where the parts have the verdict
pub record Down (w : List ℕ) (c t f g h : ℕ) (d : Parts) : Type 0 where
  pub asks : Asks w c t f g h
  pub unsettled : judge_of t f g h ≡ None
  pub parts : d ≡ parts_of w f g h

pub down_judge : {w : List ℕ} {c t f g h : ℕ} {d : Parts} {v : Option Bool} → Asks w c t f g h → v ≡ judge_of t f g h → v ≡ None → d ≡ parts_of w f g h → Down w c t f g h d
down_judge A e o ed = record { asks = A; unsettled = sym e ∙ o; parts = ed }

pub down : {w : List ℕ} {c t f g h : ℕ} {d : Parts} (n : List ℕ) {v : Option Bool} → Asks w c t f g h → v ≡ judge_noted n t f g h → v ≡ None → d ≡ parts_of w f g h → Down w c t f g h d
unfolding judge_noted
down {f = f} {g = g} {h = h} n A e o ed =
    record { asks = A; unsettled = split (noted_in n f g h) (λ k. let z = sym o ∙ (rw k at e) in cc) (λ k. sym (rw k at e) ∙ o); parts = ed }

module _ {w : List ℕ} {c t f g h : ℕ} {d : Parts} (D : Down w c t f g h d) where
  down-some : f < 2 → g < 2 → h < 2 → ⊥
  down-some = rw D.unsettled at (judge_says w t f g h D.asks.terminal)

  pub down_low : (d.f0 + d.g0 + d.h0 < f + g + h) × Asks w c t d.f0 d.g0 d.h0
  down_low = rw D.parts (some_fall D.asks down-some false, some_asks D.asks down-some false)

  pub down-high : (d.f1 + d.g1 + d.h1 < f + g + h) × Asks w c t d.f1 d.g1 d.h1
  down-high = rw D.parts (some_fall D.asks down-some true, some_asks D.asks down-some true)

  down_rule : meets w t f g h ≡ (meets w t d.f0 d.g0 d.h0 || meets w t d.f1 d.g1 d.h1)
  unfolding meets_by
  down_rule = rw (D.parts, meets_rule w c t f g h D.asks, D.unsettled)

  -- the answer, by that of the low parts and that of the high parts
  pub meets_low : {x : Bool} → x ≡ meets w t d.f0 d.g0 d.h0 → x ≡ true → true ≡ meets w t f g h
  meets_low ex x = rw (down_rule, ← ex, x)

  pub meets-high : {x y b : Bool} → x ≡ meets w t d.f0 d.g0 d.h0 → x ≡ false → y ≡ meets w t d.f1 d.g1 d.h1 → y ≡ b → b ≡ meets w t f g h
  meets-high ex x ey y = rw (down_rule, ← ex, x) (sym y ∙ ey)

  -- what is told of the high parts is told of the three nodes, where the low parts do not meet
  pub high_settles : {x : Bool} → meets w t d.f0 d.g0 d.h0 ≡ x → x ≡ false → (y : Option Bool) → Settles y (meets w t d.f1 d.g1 d.h1) → Settles y (meets w t f g h)
  high_settles ex e (Some b) q = sym (meets-high (sym ex) e (sym q) refl)
  high_settles ex e None q = tt

pub neither_decides : {w : List ℕ} {c : ℕ} → Standard w c → (h l : ℕ) → h < c → l < c → Decides (SomeNeither w h l) (neither w h l)
unfolding neither
neither_decides {w} {c} S h l lh ll =
    decides_as (meets_decides w c 0 h l 0 (record { standard = S; terminal = omega arith; first = lh; second = ll; third = omega arith }))
    (λ m. (number_of m.by 64, number_fits 64 m.by, number-value S m.by h lh ∙ m.first, number-value S m.by l ll ∙ m.second))
    (λ s. record { by = bit_at s.0; first = s.2; second = s.3; third = value_0 w (bit_at s.0) })

pub together_decides : {w : List ℕ} {c : ℕ} → Standard w c → (f g h : ℕ) → f < c → g < c → h < c → Decides (SomeTogether w f g h) (together w f g h)
unfolding together
together_decides {w} {c} S f g h lf lg lh =
    decides_as (meets_decides w c 1 f g h (record { standard = S; terminal = omega arith; first = lf; second = lg; third = lh }))
    (λ m. (number_of m.by 64, number_fits 64 m.by, number-value S m.by f lf ∙ m.first, number-value S m.by g lg ∙ m.second, number-value S m.by h lh ∙ m.third))
    (λ s. record { by = bit_at s.0; first = s.2; second = s.3; third = s.4 })
