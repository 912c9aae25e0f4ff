-- Request 5: where a text is wrong, and which row is met there. A place is told by what is left of the text from it on.
use Rattle.std.specs.Prelude.{◌≡◌, false, List, [], ◌∷◌, ◌++◌, ℕ, suc}
use Rattle.formulas.specs.Language.{Tree, digit, Spaces, Number, Part, formula, conjunction, unit, Written, Text}
use Rattle.formulas.specs.Reading.{Limits}

-- "In a written text a fault stands at the first byte with which no text of the language could go on, or at the end":
-- no text begins with p and the byte at the fault, or, at the end, p is no text
abbrev pub Stops : List ℕ → List ℕ → Type 0
Stops p [] = (t : Tree) → Text p t → ⊥
Stops p (c ∷ r) = (q : List ℕ) (t : Tree) → Text (p ++ (c ∷ q)) t → ⊥

-- the fault of s stands where r is left
pub record FaultAt (s r : List ℕ) : Type 0 where
  pub before : List ℕ
  pub is : s ≡ before ++ r
  pub goes : (q : List ℕ) × (t : Tree) × Text (before ++ q) t
  pub stops : Stops before r

-- the tokens that may be refused where a text of the language could go on with them: a number's letters, and what opens
pub data Token : Type 0 where
  letter_m letter-b letter-N parenthesis arrow : Token

abbrev pub bytes : Token → List ℕ
bytes letter_m = 109 ∷ []
bytes letter-b = 98 ∷ []
bytes letter-N = 78 ∷ []
bytes parenthesis = 40 ∷ []
bytes arrow = 45 ∷ 62 ∷ []

-- behind the bytes w of a part a token may stand, with e "open parentheses, N and arrows around" it
pub data Around : Part → List ℕ → Token → ℕ → Type 0 where
  at_m : Around unit [] letter_m 0
  at-N : Around unit [] letter-N 0
  at_parenthesis : Around unit [] parenthesis 0
  at_b : Around formula [] letter-b 0
  at_arrow : {ds x : List ℕ} {n : ℕ} → Number ds n → Spaces x → Around formula (98 ∷ (ds ++ x)) arrow 0
  in-next : {x w : List ℕ} {c : Token} {e : ℕ} → Spaces x → Around unit w c e → Around unit (78 ∷ (x ++ w)) c (suc e)
  in_group : {x w : List ℕ} {c : Token} {e : ℕ} → Spaces x → Around formula w c e → Around unit (40 ∷ (x ++ w)) c (suc e)
  in_arrow : {ds x y w : List ℕ} {n : ℕ} {c : Token} {e : ℕ} → Number ds n → Spaces x → Spaces y → Around formula w c e → Around formula (98 ∷ (ds ++ (x ++ (45 ∷ 62 ∷ (y ++ w))))) c (suc e)
  in_unit : {w : List ℕ} {c : Token} {e : ℕ} → Around unit w c e → Around conjunction w c e
  behind_and : {s x y w : List ℕ} {t : Tree} {c : Token} {e : ℕ} → Written unit s t → Spaces x → Spaces y → Around conjunction w c e → Around conjunction (s ++ (x ++ (38 ∷ (y ++ w)))) c e
  in_conjunction : {w : List ℕ} {c : Token} {e : ℕ} → Around conjunction w c e → Around formula w c e

-- in the text s the token c stands with e open around it, and r is left behind it
pub record Stands (s : List ℕ) (c : Token) (e : ℕ) (r : List ℕ) : Type 0 where
  pub lead : List ℕ
  pub before : List ℕ
  pub spaces : Spaces lead
  pub around : Around formula before c e
  pub is : s ≡ lead ++ (before ++ (bytes c ++ r))

-- no digit stands first: a number ends here
pub data Plain : List ℕ → Type 0 where
  plain_end : Plain []
  plain : {c : ℕ} {r : List ℕ} → digit c ≡ false → Plain (c ∷ r)

-- in the text s row k is met at x
pub data Wrong (l : Limits) (s : List ℕ) : ℕ → List ℕ → Type 0 where
  -- "15, text outside the language"
  outside : {x : List ℕ} → FaultAt s x → Wrong l s 15 x
  -- "a predicate past the table or 4,294,967,295"; "a wrong number's at its letter"
  wrong-predicate : {ds r : List ℕ} {n e : ℕ} → Stands s letter_m e (ds ++ r) → Number ds n → Plain r → l.predicates n ≡ false → Wrong l s 15 (109 ∷ (ds ++ r))
  -- "or a node that 5 would refuse"
  wrong-node : {ds r : List ℕ} {n e : ℕ} → Stands s letter-b e (ds ++ r) → Number ds n → Plain r → l.nodes n ≡ false → Wrong l s 15 (98 ∷ (ds ++ r))
  -- "16, more than 32 open parentheses, N and arrows around one place": "at the `(`, `N` or `->` that is one too many"
  deep_group : {r : List ℕ} → Stands s parenthesis 32 r → Wrong l s 16 (40 ∷ r)
  deep-next : {r : List ℕ} → Stands s letter-N 32 r → Wrong l s 16 (78 ∷ r)
  deep_arrow : {r : List ℕ} → Stands s arrow 32 r → Wrong l s 16 (45 ∷ 62 ∷ r)
