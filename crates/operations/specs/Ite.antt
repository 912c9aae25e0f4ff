-- 01, 'Conditions': Ite, and Not, And, Or by it.
use Rattle.std.specs.Prelude.{Bool, cond, ℕ, zero, suc, ◌+◌, eqb, Option, Some, None}
use Rattle.diagrams.specs.declared.Parts.{Parts}
use Rattle.operations.specs.Build.{Build, pure, ◌>>=◌}
use Rattle.operations.specs.Make.{Make}
-- "v is the least top variable of the three", and the parts of the three at it
pub use Rattle.diagrams.specs.Parts.{least_of, parts_of}
unfoldable pub use Rattle.diagrams.specs.Parts.{part_of}

-- "Ite(f,g,h), first rule that fits: f is 1: g; f is 0: h; g=h: g; g=1 and h=0: f; else" by the parts. A full store answers 0.
unfoldable pub plain_of : Bool → ℕ → ℕ → ℕ → Option ℕ
plain_of full f g h =
    cond full (Some 0)
    (cond (eqb f 1) (Some g)
    (cond (eqb f 0) (Some h)
    (cond (eqb g h) (Some g)
    (cond (eqb g 1) (cond (eqb h 0) (Some f) None)
    None))))

-- "Ite of their low parts, then Ite of their high parts, then Make of v and the two", by a function for the parts
abbrev pub by_parts : (ℕ → ℕ → ℕ → Build ℕ) → Parts → Build ℕ
by_parts rec d = do
  x ← rec d.f0 d.g0 d.h0
  y ← rec d.f1 d.g1 d.h1
  Make d.v x y

unfoldable pub ite_by : (ℕ → ℕ → ℕ → Build ℕ) → Option ℕ → ℕ → ℕ → ℕ → Build ℕ
ite_by rec (Some n) f g h w s = pure n w s
ite_by rec None f g h w s = by_parts rec (parts_of w f g h) w s

-- Ite in so many steps at most
unfoldable pub ite_up_to : ℕ → ℕ → ℕ → ℕ → Build ℕ
ite_up_to zero f g h w s = pure 0 w s
ite_up_to (suc k) f g h w s = ite_by (ite_up_to k) (plain_of s.full f g h) f g h w s

-- each step goes to a child of one of the three at least, so these are enough: the law `ite-rule` is Ite with no bound
unfoldable pub Ite : ℕ → ℕ → ℕ → Build ℕ
Ite f g h = ite_up_to (suc (f + g + h)) f g h

-- "Not f = Ite(f,0,1). And = Ite(f,g,0). Or = Ite(f,1,g)."
abbrev pub Not : ℕ → Build ℕ
Not f = Ite f 0 1

abbrev pub And : ℕ → ℕ → Build ℕ
And f g = Ite f g 0

abbrev pub Or : ℕ → ℕ → Build ℕ
Or f g = Ite f 1 g
