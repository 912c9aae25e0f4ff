-- What is said of idle writes and kept asserts, with units: a memory that leaves them out tells the same as one in which each is entered.
use mathlib.Core.Path.{◌≡◌, refl, sym, ap, ◌∙◌}
use mathlib.Core.Bool.{Bool, true, false, ◌&&◌, ◌||◌, not, cond, true≢false}
use mathlib.Core.List.{List, [], ◌∷◌, ◌++◌}
use Prim.Native.Nat.{ℕ, suc, ◌/◌, ◌%◌, ◌<◌}
use lib.Dec.{T, eqb, ltb}
use lib.ListN.{length}
use Rattle.semantics.specs.Pairs.{Pair, X, only, admits, unique, at}
use Rattle.semantics.specs.Published.{Entry, entry, union, scan, cell, holding, keeps, control}
use Rattle.semantics.specs.Held.{Held}
use Rattle.semantics.specs.Array as One
use Rattle.semantics.proofs.PairLaws.{scan-append}
use Rattle.semantics.proofs.KeptLaws.{SameCells, over_off, same-look, same_more}
use Rattle.semantics.proofs.KeptLaws as Cell
use Rattle.units.specs.Parts.{Order, Shape, sizes, wide, part_pairs, parts_from, unit_entries, look_unit, answer_unit}
use Rattle.units.specs.Array.{Event, writes, reads, asserts, checks, nothing}
use Rattle.units.specs.Held.{held_after, Accepted}
use Rattle.units.proofs.ExactLaws.{in_cell, with-ports}

-- entering the parts of a write whose enable is 0 changes no cell
off-scan : (o : Order) (unit : ℕ) (c : Pair) (a : List Pair) → c.h ≡ false → (j : ℕ) (ds : List (List Pair)) (x : List Bool) (i : ℕ) (r : Pair) → scan (parts_from o unit c a j ds) x i r ≡ r
off-scan o unit c a e j [] x i r = refl
off-scan o unit c a e j (d ∷ ds) x i r =
    ap (λ (q : Pair). scan (parts_from o unit c a (suc j) ds) x i q) (go c.h e) ∙ off-scan o unit c a e (suc j) ds x i r
  where
    m : Bool
    m = admits (part_pairs o unit a j) x

    go : (h : Bool) → h ≡ false → cond (m && (h && not c.l && unique a)) (at d i) (cond (m && (h && c.l || h && not c.l && not (unique a))) (union (at d i) r) r) ≡ r
    go false e = over_off m (unique a) (at d i) r
    go true e = absurd (true≢false e)

pub idle_unit-same : (w : ℕ) (es : List Entry) (o : Order) (c : Pair) (a : List Pair) (ds : List (List Pair)) → c.h ≡ false → SameCells w (es ++ unit_entries o c a ds) es
idle_unit-same w es o c a ds e = record { cells = λ x i l. scan-append es (unit_entries o c a ds) x i X ∙ off-scan o (length ds) c a e 1 ds x i (cell es x i) }

-- two memories of a shape that tell the same
pub record SameHeld (g : Shape) (s t : Held) : Type 0 where
  pub entries : SameCells g.w s.entries t.entries
  pub ports : (p i : ℕ) → i < wide g → s.ports p i ≡ t.ports p i
  pub condition : s.condition ≡ t.condition

pub same_itself : (g : Shape) (s : Held) → SameHeld g s s
same_itself g s = record { entries = record { cells = λ x i h. refl }; ports = λ p i h. refl; condition = refl }

module _ (g : Shape) (s t : Held) (S : SameHeld g s t) where
  same_unit-look : (unit : ℕ) (a : List Pair) (i : ℕ) → i < wide g → look_unit g s.entries unit a i ≡ look_unit g t.entries unit a i
  same_unit-look unit a i h =
      ap (λ (r : Pair). cond (ltb (i / g.w) unit) r (only false))
      (same-look g.n g.w s.entries t.entries S.entries (part_pairs g.order unit a (suc (i / g.w))) (i % g.w) (in_cell g.m g.w i h))

  pub same_answer : (p unit : ℕ) (e : Pair) (a : List Pair) (i : ℕ) → i < wide g → answer_unit g s.entries (s.ports p) unit e a i ≡ answer_unit g t.entries (t.ports p) unit e a i
  same_answer p unit e a i h =
      ap (λ (r : Pair). holding e r (s.ports p i)) (same_unit-look unit a i h) ∙ ap (λ (q : Pair). holding e (look_unit g t.entries unit a i) q) (S.ports p i h)

  -- of cells and check condition, which are those of one cell
  cells_same : Cell.SameHeld (sizes g) (with-ports s X) (with-ports t X)
  cells_same = record { entries = S.entries; ports = λ p i h. refl; condition = S.condition }

  pub same_after : (e : Event) → SameHeld g (held_after g s e) (held_after g t e)
  same_after (writes c a ds) = record { entries = same_more g.w s.entries t.entries (unit_entries g.order c a ds) S.entries; ports = S.ports; condition = S.condition }
  same_after (reads p u e a) = record { entries = S.entries; ports = λ q i h. go q i h (eqb q p); condition = S.condition }
    where
      go : (q i : ℕ) → i < wide g → (k : Bool) → cond k (answer_unit g s.entries (s.ports p) u e a) (s.ports q) i ≡ cond k (answer_unit g t.entries (t.ports p) u e a) (t.ports q) i
      go q i h true = same_answer p u e a i h
      go q i h false = S.ports q i h
  same_after (asserts b a d) = record { entries = same_more g.w s.entries t.entries (entry (control b) a d ∷ []) S.entries; ports = S.ports; condition = S.condition }
  same_after (checks b a d) = record { entries = S.entries; ports = S.ports; condition = (Cell.same_after (sizes g) (with-ports s X) (with-ports t X) cells_same (One.checks b a d)).condition }
  same_after nothing = S

  -- where the left leaves out an idle write of any unit,
  pub same-idle : (c : Pair) (a : List Pair) (ds : List (List Pair)) → c.h ≡ false → SameHeld g s (held_after g t (writes c a ds))
  same-idle c a ds e = record {
    entries = record { cells = λ x i h. S.entries.cells x i h ∙ sym ((idle_unit-same g.w t.entries g.order c a ds e).cells x i h) };
    ports = S.ports;
    condition = S.condition;
  }

  -- and an assert that it keeps
  pub same_kept : (b : Bool) (a d : List Pair) → Accepted g (asserts b a d) → T (keeps (sizes g) s.entries b a d) → SameHeld g s (held_after g t (asserts b a d))
  same_kept b a d q k = record { entries = (Cell.same_kept (sizes g) (with-ports s X) (with-ports t X) cells_same b a d q k).entries; ports = S.ports; condition = S.condition }
