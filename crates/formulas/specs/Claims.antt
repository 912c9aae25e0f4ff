-- Request 5: what is claimed of the reader and of the order.
use Rattle.std.specs.Prelude.{◌≡◌, ◌↔◌, Bool, ◌&&◌, List, [], ◌++◌, ℕ, suc, ◌≤◌, ◌<◌, max, T, length}
use Rattle.text.specs.Decimal.{value_of, AllDigits}
use Rattle.formulas.specs.Language.{Tree, predicate, next, both, when, grouped, Number, Text, listed, ordered, only, Rising}
use Rattle.formulas.specs.Reading.{Limits, fine, wrong, judge_text}
use Rattle.formulas.specs.Faults.{Wrong}

-- "a number is decimal digits", one or more, and what they say, as a sum of powers of ten
unfoldable pub NumberExactly : Type 0
NumberExactly = (ds : List ℕ) (n : ℕ) → Number ds n ↔ ((1 ≤ length ds) × AllDigits ds × (n ≡ value_of ds))

-- how many "parentheses, N and arrows" are open around the place of the tree that has most of them
abbrev pub depth : Tree → ℕ
depth (predicate n) = 0
depth (next t) = suc (depth t)
depth (both t u) = max (depth t) (depth u)
depth (when b t) = suc (depth t)
depth (grouped t) = suc (depth t)

-- no number in the tree is wrong
abbrev pub numbers : Limits → Tree → Bool
numbers l (predicate n) = l.predicates n
numbers l (next t) = numbers l t
numbers l (both t u) = numbers l t && numbers l u
numbers l (when b t) = l.nodes b && numbers l t
numbers l (grouped t) = numbers l t

-- the text s is read to its end, or refused
pub data Decided (l : Limits) (s : List ℕ) : Type 0 where
  is_read : (t : Tree) → judge_text l s ≡ fine t [] → Decided l s
  is-refused : (k : ℕ) (x : List ℕ) → judge_text l s ≡ wrong k x → Decided l s

-- where x is left is a wrong place of row k, and no wrong place of any row stands before it
pub record First (l : Limits) (s : List ℕ) (k : ℕ) (x : List ℕ) : Type 0 where
  pub wrong : Wrong l s k x
  pub first : (i : ℕ) (y : List ℕ) → Wrong l s i y → length y ≤ length x

-- the reader, whatever numbers the limits refuse
pub record Reads (l : Limits) : Type 0 where
  -- "But for wrong numbers and 16, exactly this language is read"
  pub exactly : (s : List ℕ) (t : Tree) → (judge_text l s ≡ fine t []) ↔ (Text s t × T (numbers l t) × (depth t ≤ 32))
  -- "and in one way"
  pub one_way : (s : List ℕ) (t u : Tree) → Text s t → Text s u → t ≡ u
  -- "Refused: 15 .. 16 .. the earlier place first"
  pub refused : (s : List ℕ) (k : ℕ) (x : List ℕ) → (judge_text l s ≡ wrong k x) ↔ First l s k x
  pub decided : (s : List ℕ) → Decided l s
  -- too deep a text, no number of which is wrong, meets 16; one with wrong numbers, and no deeper, 15
  pub deep : (s : List ℕ) (t : Tree) → Text s t → T (numbers l t) → 32 < depth t → (x : List ℕ) × (judge_text l s ≡ wrong 16 x)
  pub misnumbered : (s : List ℕ) (t : Tree) → Text s t → (T (numbers l t) → ⊥) → depth t ≤ 32 → (x : List ℕ) × (judge_text l s ≡ wrong 15 x)
  -- one place has one row, and lies in the text
  pub one_row : (s : List ℕ) (i k : ℕ) (x : List ℕ) → Wrong l s i x → Wrong l s k x → i ≡ k
  pub inside : (s : List ℕ) (k : ℕ) (x : List ℕ) → Wrong l s k x → (p : List ℕ) × (s ≡ p ++ x)

-- "ordered by step, then text": no step is lower than the one before it, and of each step the same stand in the order of the text
pub record Orders (t : Tree) : Type 0 where
  pub rising : Rising (λ e. e.step) 0 (ordered t)
  pub in-text-order : (k : ℕ) → only (λ e. e.step) k (ordered t) ≡ only (λ e. e.step) k (listed 0 [] t)
  pub as_many : length (ordered t) ≡ length (listed 0 [] t)
