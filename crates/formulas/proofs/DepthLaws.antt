-- Request 5: how deep a tree is nested, and the limit of it.
use mathlib.Core.Logic.{◌↔◌}
use mathlib.Core.Bool.{true}
use Prim.Native.Nat.{ℕ, zero, suc, ◌≤◌, max}
use native.Mathlib.Omega.{arith}
use lib.Dec.{T}
use Rattle.formulas.specs.Language.{Tree, predicate, next, both, when, grouped}
use Rattle.formulas.specs.Reading.{Limits, within}
use Rattle.formulas.specs.Claims.{depth, numbers}
use Rattle.formulas.proofs.LimitLaws.{and_left, and_right, and_both}

below : (n d : ℕ) → n ≤ d → suc n ≤ suc d
below n d h = omega arith

above : (n d : ℕ) → suc n ≤ suc d → n ≤ d
above n d h = omega arith

joint : (d m n : ℕ) → m ≤ d → n ≤ d → max m n ≤ d
joint d m n h g = omega arith

apiece : (d m n : ℕ) → max m n ≤ d → (m ≤ d) × (n ≤ d)
apiece d m n h = (omega arith, omega arith)

-- 32 may be open, whatever they are and however they are nested
pub within_is : (l : Limits) (d : ℕ) (t : Tree) → T (within l d t) ↔ (T (numbers l t) × (depth t ≤ d))
within_is l d (predicate n) = (λ h. (h, omega arith), λ h. h.0)
within_is l zero (next t) = (λ h. absurd h, λ h. let u = h.1 in absurd (omega arith))
within_is l (suc d) (next t) = let a = within_is l d t in (λ h. let b = a.0 h in (b.0, below (depth t) d b.1), λ h. a.1 (h.0, above (depth t) d h.1))
within_is l d (both t u) =
    let a = within_is l d t in
    let b = within_is l d u in (
      λ h. let e = a.0 (and_left (within l d t) (within l d u) h) in let f = b.0 (and_right (within l d t) (within l d u) h) in (and_both (numbers l t) (numbers l u) e.0 f.0, joint d (depth t) (depth u) e.1 f.1),
      λ h. and_both (within l d t) (within l d u) (a.1 (and_left (numbers l t) (numbers l u) h.0, (apiece d (depth t) (depth u) h.1).0)) (b.1 (and_right (numbers l t) (numbers l u) h.0, (apiece d (depth t) (depth u) h.1).1)),
    )
within_is l zero (when b t) = (λ h. absurd h, λ h. let u = h.1 in absurd (omega arith))
within_is l (suc d) (when b t) =
    let a = within_is l d t in (
      λ h. let e = a.0 (and_right (l.nodes b) (within l d t) h) in (and_both (l.nodes b) (numbers l t) (and_left (l.nodes b) (within l d t) h) e.0, below (depth t) d e.1),
      λ h. and_both (l.nodes b) (within l d t) (and_left (l.nodes b) (numbers l t) h.0) (a.1 (and_right (l.nodes b) (numbers l t) h.0, above (depth t) d h.1)),
    )
within_is l zero (grouped t) = (λ h. absurd h, λ h. let u = h.1 in absurd (omega arith))
within_is l (suc d) (grouped t) = let a = within_is l d t in (λ h. let b = a.0 h in (b.0, below (depth t) d b.1), λ h. a.1 (h.0, above (depth t) d h.1))

-- limits by which every number is good
abbrev pub any : Limits
any = record { predicates = λ n. true; nodes = λ n. true }

pub numbers_any : (t : Tree) → T (numbers any t)
numbers_any (predicate n) = tt
numbers_any (next t) = numbers_any t
numbers_any (both t u) = and_both (numbers any t) (numbers any u) (numbers_any t) (numbers_any u)
numbers_any (when b t) = numbers_any t
numbers_any (grouped t) = numbers_any t
