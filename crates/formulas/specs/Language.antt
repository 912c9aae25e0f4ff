-- Request 5, 'Written formulas': the trees, the language, what a tree lists and in what order. A text is a list of bytes.
use Rattle.std.specs.Prelude.{Bool, cond, ◌&&◌, List, [], ◌∷◌, ◌++◌, ℕ, zero, suc, ◌+◌, ◌*◌, ◌-◌, ◌≤◌, ◌<◌, T, eqb, leb}

-- `m` number, `N`, `&`, `b` number `->`; parentheses are kept, since they count as nesting
pub data Tree : Type 0 where
  predicate : ℕ → Tree
  next : Tree → Tree
  both : Tree → Tree → Tree
  when : ℕ → Tree → Tree
  grouped : Tree → Tree

-- bytes: 'm' 109, 'b' 98, 'N' 78, '&' 38, '(' 40, ')' 41, '-' 45, '>' 62, space 32, digits 48 to 57
abbrev pub digit : ℕ → Bool
digit d = leb 48 d && leb d 57

-- the digit d joined to the number a
abbrev pub joined : ℕ → ℕ → ℕ
joined a d = 10 * a + (d - 48)

-- nothing, or nothing but spaces
pub data Spaces : List ℕ → Type 0 where
  none : Spaces []
  space : {x : List ℕ} → Spaces x → Spaces (32 ∷ x)

-- digits that, joined to the number a, make it n
pub data Digits : ℕ → List ℕ → ℕ → Type 0 where
  stop : {a : ℕ} → Digits a [] a
  more : {a d n : ℕ} {ds : List ℕ} → T (digit d) → Digits (joined a d) ds n → Digits a (d ∷ ds) n

-- "a number is decimal digits": one or more; n is their value
pub data Number : List ℕ → ℕ → Type 0 where
  number : {d n : ℕ} {ds : List ℕ} → T (digit d) → Digits (joined 0 d) ds n → Number (d ∷ ds) n

pub data Part : Type 0 where
  formula conjunction unit : Part

-- the language, a constructor for each clause of its sentence; "Spaces may stand .. between .. tokens", "a number is decimal digits joined to its letter"
pub data Written : Part → List ℕ → Tree → Type 0 where
  -- "A unit is `m` number"
  is-predicate : {ds : List ℕ} {n : ℕ} → Number ds n → Written unit (109 ∷ ds) (predicate n)
  -- "or `N` unit"
  is-next : {x s : List ℕ} {t : Tree} → Spaces x → Written unit s t → Written unit (78 ∷ (x ++ s)) (next t)
  -- "units joined by `&` make a conjunction"
  is_unit : {s : List ℕ} {t : Tree} → Written unit s t → Written conjunction s t
  is-both : {s x y u : List ℕ} {t v : Tree} → Written unit s t → Spaces x → Spaces y → Written conjunction u v → Written conjunction (s ++ (x ++ (38 ∷ (y ++ u)))) (both t v)
  -- "a formula is a conjunction"
  is_conjunction : {s : List ℕ} {t : Tree} → Written conjunction s t → Written formula s t
  -- "or `b` number `->` formula"
  is-when : {ds x y s : List ℕ} {n : ℕ} {t : Tree} → Number ds n → Spaces x → Spaces y → Written formula s t → Written formula (98 ∷ (ds ++ (x ++ (45 ∷ 62 ∷ (y ++ s))))) (when n t)
  -- "and a formula in parentheses is itself a unit"
  is-grouped : {x s y : List ℕ} {t : Tree} → Spaces x → Written formula s t → Spaces y → Written unit (40 ∷ (x ++ (s ++ (y ++ (41 ∷ []))))) (grouped t)

-- a text of the language is a formula; "Spaces may stand before .. and after tokens"
pub data Text : List ℕ → Tree → Type 0 where
  text : {x s y : List ℕ} {t : Tree} → Spaces x → Written formula s t → Spaces y → Text (x ++ (s ++ y)) t

-- What is listed: "step (the number of N around it), condition (And of the enclosing ones, outermost first) and predicate"
pub record Listed : Type 0 where
  pub step : ℕ
  pub nodes : List ℕ
  pub named : ℕ

-- in text order, below k letters N and the arrows of nodes bs
abbrev pub listed : ℕ → List ℕ → Tree → List Listed
listed k bs (predicate n) = record { step = k; nodes = bs; named = n } ∷ []
listed k bs (next t) = listed (suc k) bs t
listed k bs (both t u) = listed k bs t ++ listed k bs u
listed k bs (when b t) = listed k (bs ++ (b ∷ [])) t
listed k bs (grouped t) = listed k bs t

-- The order of any elements by their steps, which `step` gives.

-- e stands before the first that has no lower step
abbrev pub placed : {A : Type 0} → (A → ℕ) → A → List A → List A
placed step e [] = e ∷ []
placed step e (x ∷ xs) = cond (leb (step e) (step x)) (e ∷ x ∷ xs) (x ∷ placed step e xs)

abbrev pub by_step : {A : Type 0} → (A → ℕ) → List A → List A
by_step step [] = []
by_step step (e ∷ es) = placed step e (by_step step es)

-- "ordered by step, then text"
abbrev pub ordered : Tree → List Listed
ordered t = by_step (λ e. e.step) (listed 0 [] t)

-- those of step k, in their order
abbrev pub only : {A : Type 0} → (A → ℕ) → ℕ → List A → List A
only step k [] = []
only step k (e ∷ es) = cond (eqb (step e) k) (e ∷ only step k es) (only step k es)

-- no step is lower than the one before it, nor than n
abbrev pub Rising : {A : Type 0} → (A → ℕ) → ℕ → List A → Type 0
Rising step n [] = Unit {0}
Rising step n (e ∷ es) = (n ≤ step e) × Rising step (step e) es

-- every step is below n
abbrev pub Below : {A : Type 0} → (A → ℕ) → ℕ → List A → Type 0
Below step n [] = Unit {0}
Below step n (e ∷ es) = (step e < n) × Below step n es

-- n passes over the list: those of step i, then those of step i + 1, and on
abbrev pub passes : {A : Type 0} → (A → ℕ) → ℕ → ℕ → List A → List A
passes step i zero xs = []
passes step i (suc n) xs = only step i xs ++ passes step (suc i) n xs
