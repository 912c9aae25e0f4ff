-- 02, 'Units of several cells': a constant added to an address, as the program that builds the sum's conditions. "Inner operations come first, left to right".
use Rattle.std.specs.Prelude.{Bool, true, false, List, [], ◌∷◌, ◌++◌, ℕ, ◌-◌, get_or}
use Rattle.conditions.specs.Build.{Build, pure, next, ◌>>=◌, for_each}
use Rattle.conditions.specs.Ite.{Ite, And, Or}
use Rattle.model.specs.Record.{h_at, l_at}

-- the words of a sum so far, and the carry into its next bit
pub record Adding : Type 0 where
  pub words : List ℕ
  pub carry_h : ℕ
  pub carry_l : ℕ

-- from carry (0,1), which is 0
abbrev pub no_carry : Adding
no_carry = record { words = []; carry_h = 0; carry_l = 1 }

-- x, of the address's pair a and the carry c: x.h = Ite(a.h, Or(a.l,c.l), c.h), x.l = Ite(a.h, Or(a.l,c.h), c.l); a half of it, by the carry's other half and its own
unfoldable pub mix_half : ℕ → ℕ → ℕ → ℕ → Build ℕ
mix_half ah al other own = do
  x ← Or al other
  Ite ah x own

-- a bit of the sum: x where the constant's bit is 0, and (x.l, x.h) where it is 1
abbrev pub turned : Bool → ℕ → ℕ → List ℕ
turned false h l = h ∷ l ∷ []
turned true h l = l ∷ h ∷ []

-- x's halves, h before l
unfoldable pub sum_bit : Bool → ℕ → ℕ → Adding → Build Adding
sum_bit k ah al s = do
  h ← mix_half ah al s.carry_l s.carry_h
  l ← mix_half ah al s.carry_h s.carry_l
  pure (record { words = s.words ++ turned k h l; carry_h = s.carry_h; carry_l = s.carry_l })

-- the carry after it: (And(a.h,c.h), Or(a.l,c.l)) where the constant's bit is 0, (Or(a.h,c.h), And(a.l,c.l)) where it is 1
unfoldable pub carry_bit : Bool → ℕ → ℕ → Adding → Build Adding
carry_bit false ah al s = do
  h ← And ah s.carry_h
  l ← Or al s.carry_l
  pure (record { words = s.words; carry_h = h; carry_l = l })
carry_bit true ah al s = do
  h ← Or ah s.carry_h
  l ← And al s.carry_l
  pure (record { words = s.words; carry_h = h; carry_l = l })

-- bit i of the sum, and then the carry
unfoldable pub add_bit : List Bool → List ℕ → ℕ → Adding → Build Adding
add_bit ks a i s = do
  t ← sum_bit (get_or ks i false) (h_at a i) (l_at a i) s
  carry_bit (get_or ks i false) (h_at a i) (l_at a i) t

-- the sum of an address of n bits and a constant, lowest bit first; no carry after the last bit
unfoldable pub Add : ℕ → List ℕ → List Bool → Build (List ℕ)
Add n a ks = do
  s ← for_each (add_bit ks a) 0 (n - 1) no_carry
  t ← sum_bit (get_or ks (n - 1) false) (h_at a (n - 1)) (l_at a (n - 1)) s
  pure t.words
