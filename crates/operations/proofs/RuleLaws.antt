-- The rules of Ite that build nothing, and what a part stands for.
use Rattle.std.proofs.Math.Decide.{ℕ_discrete}
use Rattle.std.proofs.Common.{◌≡◌, refl, Bool, true, false, List, ℕ, suc, ◌<◌, ◌≤◌, arith, eq-eqb, ne_eqb, Option, Some, None}
use Rattle.nodes.specs.Words.{var_at}
use Rattle.nodes.specs.Standard.{Standard}
use Rattle.diagrams.proofs.PartsLaws.{part_le, part_var}
use Rattle.operations.specs.declared.Store.{Store}
use Rattle.operations.specs.Ite.{plain_of, part_of}
use Rattle.diagrams.specs.Value.{value}
use Rattle.operations.specs.Meaning.{Stands}
use Rattle.operations.proofs.BuildLaws.{stands-value}

-- the rule that fits, by what it answers
pub data Rule (full : Bool) (f g h : ℕ) : Option ℕ → Type 0 where
  at-full : full ≡ true → Rule full f g h (Some 0)
  at_one : full ≡ false → f ≡ 1 → Rule full f g h (Some g)
  at_zero : full ≡ false → f ≡ 0 → Rule full f g h (Some h)
  at_same : full ≡ false → g ≡ h → Rule full f g h (Some g)
  at_self : full ≡ false → g ≡ 1 → h ≡ 0 → Rule full f g h (Some f)
  at_parts : full ≡ false → (f ≡ 1 → ⊥) → (f ≡ 0 → ⊥) → (g ≡ h → ⊥) → Rule full f g h None

pub rule : (full : Bool) (f g h : ℕ) → Rule full f g h (plain_of full f g h)
unfolding plain_of
rule true f g h = at-full refl
rule false f g h = one (ℕ_discrete f 1)
  where
    self : (f ≡ 1 → ⊥) → (f ≡ 0 → ⊥) → (g ≡ h → ⊥) → Dec (g ≡ 1) → Dec (h ≡ 0) → Rule false f g h (plain_of false f g h)
    self p q r (yes e) (yes d) = rw (ne_eqb f 1 p, ne_eqb f 0 q, ne_eqb g h r, eq-eqb g 1 e, eq-eqb h 0 d) (at_self refl e d)
    self p q r (yes e) (no d) = rw (ne_eqb f 1 p, ne_eqb f 0 q, ne_eqb g h r, eq-eqb g 1 e, ne_eqb h 0 d) (at_parts refl p q r)
    self p q r (no e) _ = rw (ne_eqb f 1 p, ne_eqb f 0 q, ne_eqb g h r, ne_eqb g 1 e) (at_parts refl p q r)

    same : (f ≡ 1 → ⊥) → (f ≡ 0 → ⊥) → Dec (g ≡ h) → Rule false f g h (plain_of false f g h)
    same p q (yes e) = rw (ne_eqb f 1 p, ne_eqb f 0 q, eq-eqb g h e) (at_same refl e)
    same p q (no r) = self p q r (ℕ_discrete g 1) (ℕ_discrete h 0)

    none : (f ≡ 1 → ⊥) → Dec (f ≡ 0) → Rule false f g h (plain_of false f g h)
    none p (yes e) = rw (ne_eqb f 1 p, eq-eqb f 0 e) (at_zero refl e)
    none p (no q) = same p q (ℕ_discrete g h)

    one : Dec (f ≡ 1) → Rule false f g h (plain_of false f g h)
    one (yes e) = rw (eq-eqb f 1 e) (at_one refl e)
    one (no p) = none p (ℕ_discrete f 0)

-- a part of a node stands for its value, on a later variable
pub part_stands : {w : List ℕ} {s : Store} → Standard w s.count → (v n : ℕ) → n < s.count → v < 64 → v ≤ var_at w n → (b : Bool) → Stands (suc v) (λ φ. value w φ (part_of b w v n)) w s (part_of b w v n)
part_stands {w} {s} g v n h small top b = stands-value w s (suc v) (part_of b w v n) (omega (arith, part_le g v n h small top b)) (part_var g v n h small top b)
