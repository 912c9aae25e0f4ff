-- The parts of three nodes at their least variable: they have fewer steps to go, and the values of the three.
use mathlib.Core.Path.{◌≡◌, refl, sym}
use mathlib.Core.Bool.{Bool, true, false, cond}
use mathlib.Core.List.{List}
use Prim.Native.Nat.{ℕ, ◌+◌, ◌<◌, ◌≤◌}
use native.Mathlib.Omega.{arith}
use native.Mathlib.Decide.{ℕ_discrete}
use borrow.Author.Tests.{eq-eqb, ne_eqb}
use Rattle.nodes.specs.Words.{var_at, low_at, high_at, child_at}
use Rattle.nodes.specs.Standard.{Standard}
use Rattle.nodes.proofs.GrowthLaws.{inner}
use Rattle.diagrams.specs.Parts.{least_of, part_of}
use Rattle.diagrams.specs.Value.{value}
use Rattle.diagrams.proofs.ValueLaws.{value-step}

-- a store in standard form and three nodes of it
pub record Ready (w : List ℕ) (c f g h : ℕ) : Type 0 where
  pub standard : Standard w c
  pub first : f < c
  pub second : g < c
  pub third : h < c

-- a node's part at v: its child if it is on v, itself if not
pub part_hit : (b : Bool) (w : List ℕ) (v n : ℕ) → var_at w n ≡ v → part_of b w v n ≡ child_at b w n
unfolding part_of
part_hit b w v n e = rw (eq-eqb (var_at w n) v e)

pub part_miss : (b : Bool) (w : List ℕ) (v n : ℕ) → (var_at w n ≡ v → ⊥) → part_of b w v n ≡ n
unfolding part_of
part_miss b w v n e = rw (ne_eqb (var_at w n) v e)

module _ {w : List ℕ} {c : ℕ} (g : Standard w c) (v n : ℕ) (h : n < c) (small : v < 64) (top : v ≤ var_at w n) where
  pub part_less : (b : Bool) → var_at w n ≡ v → part_of b w v n < n
  part_less b e = rw (part_hit b w v n e) ((g.shape n (inner g n h (omega arith)) h).below b)

  pub part_le : (b : Bool) → part_of b w v n ≤ n
  part_le b = go (ℕ_discrete (var_at w n) v)
    where
      go : Dec (var_at w n ≡ v) → part_of b w v n ≤ n
      go (yes e) = omega (arith, part_less b e)
      go (no q) = rw (part_miss b w v n q) (omega arith)

  pub part_var : (b : Bool) → v < var_at w (part_of b w v n)
  part_var b = go (ℕ_discrete (var_at w n) v)
    where
      go : Dec (var_at w n ≡ v) → v < var_at w (part_of b w v n)
      go (yes e) = rw (part_hit b w v n e) (omega (arith, (g.shape n (inner g n h (omega arith)) h).after b))
      go (no q) = rw (part_miss b w v n q) (omega arith)

  pub part-value : (a : ℕ → Bool) → value w a (part_of (a v) w v n) ≡ value w a n
  part-value a = go (ℕ_discrete (var_at w n) v)
    where
      child : (b : Bool) → cond b (value w a (high_at w n)) (value w a (low_at w n)) ≡ value w a (child_at b w n)
      child true = refl
      child false = refl

      go : Dec (var_at w n ≡ v) → value w a (part_of (a v) w v n) ≡ value w a n
      go (yes e) = rw (part_hit (a v) w v n e, value-step g a n (inner g n h (omega arith)) h, e) (sym (child (a v)))
      go (no q) = rw (part_miss (a v) w v n q)

-- the parts of three nodes are those of fewer steps
module _ {w : List ℕ} {c : ℕ} (f g h : ℕ) (r : Ready w c f g h) (least-small : least_of w f g h < 64) where
  pub small_fall : (b : Bool) → part_of b w (least_of w f g h) f + part_of b w (least_of w f g h) g + part_of b w (least_of w f g h) h < f + g + h
  small_fall b = go (ℕ_discrete (var_at w f) (least_of w f g h)) (ℕ_discrete (var_at w g) (least_of w f g h)) (ℕ_discrete (var_at w h) (least_of w f g h))
    where
      lf : part_of b w (least_of w f g h) f ≤ f
      lf = part_le r.standard (least_of w f g h) f r.first least-small (omega arith) b

      lg : part_of b w (least_of w f g h) g ≤ g
      lg = part_le r.standard (least_of w f g h) g r.second least-small (omega arith) b

      lh : part_of b w (least_of w f g h) h ≤ h
      lh = part_le r.standard (least_of w f g h) h r.third least-small (omega arith) b

      go : Dec (var_at w f ≡ least_of w f g h) → Dec (var_at w g ≡ least_of w f g h) → Dec (var_at w h ≡ least_of w f g h)
          → part_of b w (least_of w f g h) f + part_of b w (least_of w f g h) g + part_of b w (least_of w f g h) h < f + g + h
      go (yes e) _ _ = omega (arith, lf, lg, lh, part_less r.standard (least_of w f g h) f r.first least-small (omega arith) b e)
      go (no _) (yes e) _ = omega (arith, lf, lg, lh, part_less r.standard (least_of w f g h) g r.second least-small (omega arith) b e)
      go (no _) (no _) (yes e) = omega (arith, lf, lg, lh, part_less r.standard (least_of w f g h) h r.third least-small (omega arith) b e)
      go (no a) (no b') (no d) = absurd (omega arith)

  pub small-ready : (b : Bool) → Ready w c (part_of b w (least_of w f g h) f) (part_of b w (least_of w f g h) g) (part_of b w (least_of w f g h) h)
  small-ready b =
      record {
        standard = r.standard;
        first = omega (arith, r.first, part_le r.standard (least_of w f g h) f r.first least-small (omega arith) b);
        second = omega (arith, r.second, part_le r.standard (least_of w f g h) g r.second least-small (omega arith) b);
        third = omega (arith, r.third, part_le r.standard (least_of w f g h) h r.third least-small (omega arith) b);
      }

-- of three nodes of which the first is no terminal
module _ {w : List ℕ} {c : ℕ} (f g h : ℕ) (r : Ready w c f g h) (p : f ≡ 1 → ⊥) (q : f ≡ 0 → ⊥) where
  pub least-small : least_of w f g h < 64
  least-small = omega (arith, (r.standard.shape f (omega arith) r.first).small)

  pub parts_fall : (b : Bool) → part_of b w (least_of w f g h) f + part_of b w (least_of w f g h) g + part_of b w (least_of w f g h) h < f + g + h
  parts_fall = small_fall f g h r least-small

  pub parts-ready : (b : Bool) → Ready w c (part_of b w (least_of w f g h) f) (part_of b w (least_of w f g h) g) (part_of b w (least_of w f g h) h)
  parts-ready = small-ready f g h r least-small
