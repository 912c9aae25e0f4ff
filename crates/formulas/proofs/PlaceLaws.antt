-- Request 5: two places of one text, and which of them stands first.
use mathlib.Core.Path.{◌≡◌, refl, sym, ap, subst, ◌∙◌}
use mathlib.Core.List.{List, [], ◌∷◌, ◌++◌, append_assoc, append-nil}
use Prim.Native.Nat.{ℕ, ◌≤◌, ◌<◌}
use native.Mathlib.Omega.{arith}
use lib.ListN.{length, length-append}
use Rattle.formulas.specs.Language.{Tree, Text}
use Rattle.formulas.specs.Faults.{Stops, FaultAt}
use Rattle.formulas.proofs.Placing.{Begun}

-- Two places of one text: the same, or one of them sooner

data Apart (p x q y : List ℕ) : Type 0 where
  same : p ≡ q → x ≡ y → Apart p x q y
  sooner : (c : ℕ) (z : List ℕ) → x ≡ c ∷ (z ++ y) → q ≡ p ++ (c ∷ z) → Apart p x q y
  later : (c : ℕ) (z : List ℕ) → y ≡ c ∷ (z ++ x) → p ≡ q ++ (c ∷ z) → Apart p x q y

apart : (p x q y : List ℕ) → p ++ x ≡ q ++ y → Apart p x q y
apart [] x [] y e = same refl e
apart [] x (c ∷ q) y e = sooner c q e refl
apart (c ∷ p) x [] y e = later c p (sym e) refl
apart (c ∷ p) x (d ∷ q) y e = let h : c ≡ d = cc in let g : p ++ x ≡ q ++ y = cc in go h (apart p x q y g)
  where
    go : c ≡ d → Apart p x q y → Apart (c ∷ p) x (d ∷ q) y
    go h (same e f) = same (rw (h, e) refl) f
    go h (sooner b z e f) = sooner b z e (rw (h, f) refl)
    go h (later b z e f) = later b z e (rw (h, f) refl)

longer : (x z y : List ℕ) (c : ℕ) → y ≡ c ∷ (z ++ x) → length x < length y
longer x z y c e = rw (e, length-append z x) (omega arith)

-- a place of the text is told by how much is left
pub same_place : (s p x q y : List ℕ) → s ≡ p ++ x → s ≡ q ++ y → length x ≡ length y → x ≡ y
same_place s p x q y e f h = go (apart p x q y (sym e ∙ f))
  where
    go : Apart p x q y → x ≡ y
    go (same a b) = b
    go (sooner c z a b) = let u = longer y z x c a in absurd (omega arith)
    go (later c z a b) = let u = longer x z y c a in absurd (omega arith)

-- A fault stands before no place up to which a text goes on

pub fault_sooner : (s x y : List ℕ) → FaultAt s x → Begun s y [] → length x ≤ length y
fault_sooner s x y f b = go (apart f.before x b.before y (sym f.is ∙ b.is))
  where
    go : Apart f.before x b.before y → length x ≤ length y
    go (same e g) = rw g (omega arith)
    go (sooner c z e g) =
        absurd ((subst (Stops f.before) e f.stops) (z ++ b.on) b.tree (subst (λ w. Text w b.tree) (ap (λ w. w ++ b.on) g ∙ append_assoc f.before (c ∷ z) b.on) b.goes))
    go (later c z e g) = let u = longer x z y c e in omega arith

-- and no text goes on with the byte of a fault
pub fault-ends : (s r : List ℕ) (c : ℕ) (b : List ℕ) → FaultAt s (c ∷ r) → Begun s (c ∷ r) (c ∷ b) → ⊥
fault-ends s r c b f g = go (apart f.before (c ∷ r) g.before (c ∷ r) (sym f.is ∙ g.is))
  where
    go : Apart f.before (c ∷ r) g.before (c ∷ r) → ⊥
    go (same e h) = f.stops (b ++ g.on) g.tree (subst (λ w. Text (w ++ (c ∷ (b ++ g.on))) g.tree) (sym e) g.goes)
    go (sooner d z e h) = let u = longer (c ∷ r) z (c ∷ r) d e in omega arith
    go (later d z e h) = let u = longer (c ∷ r) z (c ∷ r) d e in omega arith

pub fault_no-text : (s x : List ℕ) (t : Tree) → FaultAt s x → Text s t → ⊥
fault_no-text s x t f h = go x f.is f.stops
  where
    go : (x : List ℕ) → s ≡ f.before ++ x → Stops f.before x → ⊥
    go [] e g = g t (subst (λ w. Text w t) (e ∙ append-nil f.before) h)
    go (c ∷ r) e g = g r t (subst (λ w. Text w t) e h)
