-- A number in decimal, as the bytes of its digits: 48 is the byte of the digit 0.
use Rattle.std.specs.Prelude.{◌≡◌, ℕ, zero, suc, ◌+◌, ◌*◌, ◌-◌, ◌/◌, ◌%◌, ◌^◌, ◌≤◌, ◌<◌, List, [], ◌∷◌, ◌++◌, true, false, ltb, length}

-- The last n digits of x, or all of them where there are fewer.
unfoldable pub digits : ℕ → ℕ → List ℕ
digits zero x = []
digits (suc n) x = elim (ltb x 10) [ true ↦ (48 + x) ∷ [] | false ↦ digits n (x / 10) ++ (48 + x % 10) ∷ [] ]

-- "Printed counts and variables are in decimal without leading zeros": all the digits, of which there are at most x + 1.
unfoldable pub decimal : ℕ → List ℕ
decimal x = digits (suc x) x

-- What digits say, as a sum: each stands for itself times as many tens as there are digits after it.
unfoldable pub value_of : List ℕ → ℕ
value_of [] = 0
value_of (d ∷ ds) = (d - 48) * 10 ^ length ds + value_of ds

-- nothing but digits
abbrev pub AllDigits : List ℕ → Type 0
AllDigits [] = Unit {0}
AllDigits (d ∷ ds) = (48 ≤ d) × (d < 58) × AllDigits ds

-- "in decimal without leading zeros": one digit or more, which say the number; a 0 that comes first stands alone
pub record IsDecimal (x : ℕ) (ds : List ℕ) : Type 0 where
  pub digits : AllDigits ds
  pub some : 1 ≤ length ds
  pub value : value_of ds ≡ x
  pub alone : (rest : List ℕ) → ds ≡ 48 ∷ rest → rest ≡ []

unfoldable pub DecimalExactly : Type 0
DecimalExactly = (x : ℕ) → IsDecimal x (decimal x)
