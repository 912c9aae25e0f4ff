-- The reader of the language alone, without limits.
use mathlib.Core.List.{List, [], ◌∷◌}
use Prim.Native.Nat.{ℕ, zero, suc, ◌+◌, ◌*◌}
use lib.ListN.{length}
use Rattle.formulas.specs.Language.{Tree, predicate, next, both, when, grouped, Part, formula, conjunction, unit}
use Rattle.formulas.specs.Reading.{spaces, byte, numbered}

-- The reader. It answers a tree and the rest of the text, or the text from the fault's place on.
pub data Answer : Type 0 where
  read : Tree → List ℕ → Answer
  fault : List ℕ → Answer

-- go on with what was read
abbrev pub after : Answer → (Tree → List ℕ → Answer) → Answer
after (read t r) f = f t r
after (fault r) f = fault r

-- `rec` below is a reader of parts, for what stands inside

-- behind `b` and its number n: "`->` formula"
abbrev pub arrowed : (Part → List ℕ → Answer) → ℕ → List ℕ → Answer
arrowed rec n s = byte 45 s (λ x. byte 62 x (λ y. after (rec formula (spaces y)) (λ t r. read (when n t) r)) (fault x)) (fault s)

-- behind a unit t: the end of the conjunction, or "joined by `&`"
abbrev pub joining : (Part → List ℕ → Answer) → Tree → List ℕ → Answer
joining rec t s = byte 38 s (λ x. after (rec conjunction (spaces x)) (λ u r. read (both t u) r)) (read t s)

-- behind `(` and its formula t
abbrev pub closing : Tree → List ℕ → Answer
closing t s = byte 41 s (λ x. read (grouped t) (spaces x)) (fault s)

abbrev pub read_part : (Part → List ℕ → Answer) → Part → List ℕ → Answer
read_part rec formula s = byte 98 s (λ x. numbered x (λ n y. arrowed rec n (spaces y)) (fault x)) (rec conjunction s)
read_part rec conjunction s = after (rec unit s) (joining rec)
read_part rec unit s =
    byte 109 s (λ x. numbered x (λ n y. read (predicate n) (spaces y)) (fault x))
    (byte 78 s (λ x. after (rec unit (spaces x)) (λ t r. read (next t) r))
    (byte 40 s (λ x. after (rec formula (spaces x)) closing) (fault s)))

-- formula, conjunction and unit calling one another, k calls deep
abbrev pub reader : ℕ → Part → List ℕ → Answer
reader zero p s = fault s
reader (suc k) p s = read_part (reader k) p s

abbrev pub ended : Tree → List ℕ → Answer
ended t [] = read t []
ended t (c ∷ r) = fault (c ∷ r)

-- three calls for each byte are enough
abbrev pub read_text : List ℕ → Answer
read_text s = after (reader (3 * length s + 3) formula (spaces s)) ended
