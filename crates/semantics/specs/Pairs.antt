-- 01, 'Pairs and the record': pairs under one assignment, where each condition is its value, a Bool.
use Rattle.std.specs.Prelude.{Bool, true, false, ◌&&◌, ◌||◌, not, List, [], ◌∷◌, ℕ, zero, suc, get_or, replicate}

-- "A pair (h,l) may be 1 where h holds, may be 0 where l holds; both is X; neither is illegal."
pub record Pair : Type 0 where
  pub h : Bool
  pub l : Bool

abbrev pub X : Pair
X = record { h = true; l = true }

abbrev pub legal : Pair → Bool
legal p = p.h || p.l

abbrev pub known : Pair → Bool
known p = not (p.h && p.l)

-- the pair that may be b and nothing else
abbrev pub only : Bool → Pair
only b = record { h = b; l = not b }

-- "A pair admits 1 where h holds and 0 where l holds;"
abbrev pub admit : Pair → Bool → Bool
admit p true = p.h
admit p false = p.l

-- "an address or a word is admitted if each bit is." Lists of two lengths do not match.
abbrev pub admits : List Pair → List Bool → Bool
admits [] [] = true
admits [] (b ∷ bs) = false
admits (p ∷ ps) [] = false
admits (p ∷ ps) (b ∷ bs) = admit p b && admits ps bs

-- no bit is illegal; no bit is X
abbrev pub legals : List Pair → Bool
legals [] = true
legals (p ∷ ps) = legal p && legals ps

abbrev pub unique : List Pair → Bool
unique [] = true
unique (p ∷ ps) = known p && unique ps

-- bit i, lowest first, of pairs and of a word. What stands past the end never counts.
abbrev pub at : List Pair → ℕ → Pair
at ps i = get_or ps i X

abbrev pub bit : List Bool → ℕ → Bool
bit bs i = get_or bs i false

-- w pairs that admit every word of w bits
abbrev pub anything : ℕ → List Pair
anything w = replicate w X
