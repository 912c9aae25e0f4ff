-- Kinds.
use mathlib.Core.Path.{◌≡◌}
use Prim.Native.Nat.{ℕ}
use borrow.Author.Tests.{ne_eqb}
use Rattle.format.specs.declared.Kind.TheVariants.{Unknown}
use Rattle.format.specs.Kinds.{kind_of}

pub kind_other : (b : ℕ) → (b ≡ 1 → ⊥) → (b ≡ 2 → ⊥) → (b ≡ 3 → ⊥) → (b ≡ 4 → ⊥) → Unknown ≡ kind_of b
unfolding kind_of
kind_other b p q r s = rw (ne_eqb b 1 p, ne_eqb b 2 q, ne_eqb b 3 r, ne_eqb b 4 s)
