-- What the functions of tokens promise, in the terms of the reader.
use Rattle.std.specs.Prelude.{◌≡◌, Bool, true, false, cond, ◌&&◌, List, ◌∷◌, ℕ, zero, suc, ◌≤◌, ltb, leb, min, length, get_or, drop, Option, Some, None, Result, Ok, Err}
use Rattle.formulas.specs.Language.{joined}
use Rattle.formulas.specs.Reading.{spaces, byte, digits, numbered}
use Rattle.refusals.specs.Refusal.{number}
use Rattle.tokens.specs.declared.Token.{Token}
use Rattle.tokens.specs.declared.Fault.{Fault}
use Rattle.tokens.specs.declared.Number.{Number}

-- at the place r of the text s is left
pub record Left (text : List ℕ) (r : ℕ) (s : List ℕ) : Type 0 where
  pub within : r ≤ length text
  pub is : drop r text ≡ s

abbrev pub starts : ℕ → List ℕ → Bool
starts c s = byte c s (λ x. true) false

-- the value of the digits with which s begins, and what is left behind them
abbrev pub value_of : List ℕ → ℕ
value_of s = digits 0 s (λ n y. n)

abbrev pub rest_of : List ℕ → List ℕ
rest_of s = digits 0 s (λ n y. y)

-- a number that is below 4,294,967,296
abbrev pub fitted : ℕ → Option ℕ
fitted n = cond (ltb n 4294967296) (Some n) None

-- a digit joined to one
abbrev pub joined_to : Option ℕ → ℕ → Option ℕ
joined_to None c = None
joined_to (Some a) c = fitted (joined a c)

-- a digit joined to a number, or to 4,294,967,296 where that is less
abbrev pub joined_up : ℕ → ℕ → ℕ
joined_up a c = joined (min a 4294967296) c

-- the digits with which s begins have this value, where it is below 4,294,967,296, and end at this place
pub record NumberIs (text s : List ℕ) (d : Number) : Type 0 where
  pub left : Left text d.«end» (rest_of s)
  pub is : d.value ≡ fitted (value_of s)

-- a token: its number and what is left behind it, or the row that refuses it and what is left at its place
pub data Took : Type 0 where
  took : ℕ → List ℕ → Took
  stops : ℕ → List ℕ → Took

abbrev pub took_by : List ℕ → Result Token Fault → Took
took_by text (Ok t) = took t.number (drop t.at text)
took_by text (Err f) = stops (number f.refusal) (drop f.at text)

abbrev pub place_of : Result Token Fault → ℕ
place_of (Ok t) = t.at
place_of (Err f) = f.at

pub record TookAt (text : List ℕ) (t : Result Token Fault) (x : Took) : Type 0 where
  pub within : place_of t ≤ length text
  pub is : took_by text t ≡ x

-- the number behind the letter c, where some are good: "a wrong number's [place is] at its letter"
abbrev pub number_token : (ℕ → Bool) → ℕ → List ℕ → Took
number_token good c x = numbered x (λ n y. cond (good n) (took n (spaces y)) (stops 15 (c ∷ x))) (stops 15 x)

-- a number, if it is good
abbrev pub where_good : (ℕ → Bool) → ℕ → Option ℕ
where_good good n = cond (good n) (Some n) None

abbrev pub kept : (ℕ → Bool) → Option ℕ → Option ℕ
kept good None = None
kept good (Some n) = where_good good n

-- the number behind the letter at this place
abbrev pub NumberTook : List ℕ → ℕ → Option ℕ → Result Token Fault → Type 0
NumberTook text at n t = (good : ℕ → Bool) → n ≡ where_good good (value_of (drop (suc at) text)) → TookAt text t (number_token good (get_or text at 0) (drop (suc at) text))

-- the numbers of a table's predicates
abbrev pub within_table : ℕ → ℕ → Bool
within_table predicates p = ltb p predicates && leb p 4294967295

-- one more is open, of d that may be
abbrev pub opens : ℕ → List ℕ → Took → Took
opens zero s t = stops 16 s
opens (suc d) s t = t

abbrev pub opener_token : ℕ → ℕ → List ℕ → Took
opener_token d c x = opens d (c ∷ x) (took 0 (spaces x))

-- the arrow behind the number n
abbrev pub arrow_token : ℕ → ℕ → List ℕ → Took
arrow_token d n s = byte 45 s (λ x. byte 62 x (λ y. opens d (45 ∷ 62 ∷ y) (took n (spaces y))) (stops 15 x)) (stops 15 s)

abbrev pub then_took : Took → (ℕ → List ℕ → Took) → Took
then_took (took n s) f = f n s
then_took (stops k s) f = stops k s

-- the number behind `b`, and its arrow
abbrev pub when_token : (ℕ → Bool) → ℕ → ℕ → List ℕ → Took
when_token good d c x = then_took (number_token good c x) (arrow_token d)
