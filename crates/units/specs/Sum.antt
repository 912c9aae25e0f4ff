-- 02, 'Units of several cells', under one assignment: a constant added to an address, of bits and of pairs, and what is promised of the sum.
use Rattle.std.specs.Prelude.{◌≡◌, ◌↔◌, Bool, true, false, ◌&&◌, ◌||◌, not, cond, List, [], ◌∷◌, ℕ, zero, suc, ◌+◌, ◌*◌, ◌/◌, ◌%◌, ◌^◌, ◌<◌, T, eqb, length}
use Rattle.semantics.specs.Pairs.{Pair, only, legal, legals, admit, admits, unique, at, bit}
use Rattle.semantics.specs.Array.{Bit, Bits}

-- a constant's bits, lowest first; past its end they are 0
abbrev pub first : List Bool → Bool
first [] = false
first (k ∷ ks) = k

abbrev pub rest : List Bool → List Bool
rest [] = []
rest (k ∷ ks) = ks

-- the bits of a number, as many as are asked for
abbrev pub bits_of : ℕ → ℕ → List Bool
bits_of zero k = []
bits_of (suc n) k = eqb (k % 2) 1 ∷ bits_of n (k / 2)

-- the number that bits stand for
abbrev pub number : List Bool → ℕ
number [] = 0
number (b ∷ bs) = cond b 1 0 + 2 * number bs

-- Ordinary addition: one bit of the sum, and the carry, of the constant's bit k, the address's bit x and the carry c
abbrev pub digit : Bool → Bool → Bool → Bool
digit false x c = cond x (not c) c
digit true x c = cond x c (not c)

abbrev pub carried : Bool → Bool → Bool → Bool
carried false x c = x && c
carried true x c = x || c

-- as many bits as the address has: the carry after the last bit is dropped, so it wraps at 2^n
abbrev pub plus_from : Bool → List Bool → List Bool → List Bool
plus_from c ks [] = []
plus_from c ks (x ∷ xs) = digit (first ks) x c ∷ plus_from (carried (first ks) x c) (rest ks) xs

abbrev pub plus : List Bool → List Bool → List Bool
plus ks x = plus_from false ks x

-- "Ternary addition works bit by bit": the sum of the address's pair a and the carry c, where the constant's bit is 0
abbrev pub mixed : Pair → Pair → Pair
mixed a c = record { h = cond a.h (a.l || c.l) c.h; l = cond a.h (a.l || c.h) c.l }

-- and where it is 1, which exchanges its halves
abbrev pub digit_pair : Bool → Pair → Pair → Pair
digit_pair false a c = mixed a c
digit_pair true a c = record { h = (mixed a c).l; l = (mixed a c).h }

-- "a carry X where its inputs leave it open": where the constant's bit is 0 both have to be 1, where it is 1 one of them
abbrev pub carried_pair : Bool → Pair → Pair → Pair
carried_pair false a c = record { h = a.h && c.h; l = a.l || c.l }
carried_pair true a c = record { h = a.h || c.h; l = a.l && c.l }

abbrev pub sum_from : Pair → List Bool → List Pair → List Pair
sum_from c ks [] = []
sum_from c ks (a ∷ as') = digit_pair (first ks) a c ∷ sum_from (carried_pair (first ks) a c) (rest ks) as'

-- from carry 0
abbrev pub sum : List Bool → List Pair → List Pair
sum ks a = sum_from (only false) ks a

-- a pair that admits exactly what a function gives of the bits that two pairs admit
abbrev pub Gives : (Bool → Bool → Bool) → Pair → Pair → Pair → Type 0
Gives f a c p = (b : Bool) → T (admit p b) ↔ ((x : Bit a) × (d : Bit c) × (f x.0 d.0 ≡ b))

-- The promise. Each bit admits exactly what the admitted addresses and the carries give: a digit and a carry, of any legal pair and carry, and bit i of a sum, whose carries are those of one address
pub record EachBit : Type 0 where
  pub digits : (k : Bool) (a c : Pair) → T (legal a) → T (legal c) → Gives (digit k) a c (digit_pair k a c)
  pub carries : (k : Bool) (a c : Pair) → T (legal a) → T (legal c) → Gives (carried k) a c (carried_pair k a c)
  pub bits : (ks : List Bool) (a : List Pair) → T (legals a) → (i : ℕ) → i < length a → (b : Bool) → T (admit (at (sum ks a) i) b) ↔ ((x : Bits a) × (bit (plus ks x.0) i ≡ b))

-- at a known address the sum admits one address alone: that address plus the constant, as numbers, modulo 2^n
unfoldable pub KnownSum : Type 0
KnownSum = (k : ℕ) (a : List Pair) → T (legals a) → T (unique a) → (x : Bits a) (y : List Bool) → T (admits (sum (bits_of (length a) k) a) y) ↔ ((length y ≡ length a) × (number y ≡ (number x.0 + k) % 2 ^ length a))

-- a sum is unique exactly where its address is
unfoldable pub UniqueSum : Type 0
UniqueSum = (ks : List Bool) (a : List Pair) → T (legals a) → unique (sum ks a) ≡ unique a
