-- Request 5: the reader, with its limits. It stops at the first wrong place of the text: rows 15 and 16.
use Rattle.std.specs.Prelude.{Bool, false, cond, ◌&&◌, List, [], ◌∷◌, ℕ, zero, suc, ◌+◌, ◌*◌, eqb, length}
use Rattle.formulas.specs.Language.{Tree, predicate, next, both, when, grouped, Part, formula, conjunction, unit, digit, joined}

abbrev pub spaces : List ℕ → List ℕ
spaces [] = []
spaces (c ∷ s) = cond (eqb c 32) (spaces s) (c ∷ s)

-- go on behind the byte c if it stands here, else a
abbrev pub byte : {A : Type 0} → ℕ → List ℕ → (List ℕ → A) → A → A
byte c [] f a = a
byte c (x ∷ s) f a = cond (eqb x c) (f s) a

-- go on behind a number, with its value; if none stands here, a
abbrev pub digits : {A : Type 0} → ℕ → List ℕ → (ℕ → List ℕ → A) → A
digits a [] f = f a []
digits a (d ∷ s) f = cond (digit d) (digits (joined a d) s f) (f a (d ∷ s))

abbrev pub numbered : {A : Type 0} → List ℕ → (ℕ → List ℕ → A) → A → A
numbered [] f a = a
numbered (d ∷ s) f a = cond (digit d) (digits (joined 0 d) s f) a

-- the numbers that are not refused: predicates of the table, nodes that 5 would not refuse
pub record Limits : Type 0 where
  pub predicates : ℕ → Bool
  pub nodes : ℕ → Bool

-- a tree whose numbers are good and that may stand where d more "parentheses, N and arrows" may be open
abbrev pub within : Limits → ℕ → Tree → Bool
within l d (predicate n) = l.predicates n
within l zero (next t) = false
within l (suc d) (next t) = within l d t
within l d (both t u) = within l d t && within l d u
within l zero (when b t) = false
within l (suc d) (when b t) = l.nodes b && within l d t
within l zero (grouped t) = false
within l (suc d) (grouped t) = within l d t

-- a tree and the rest of the text, or a row's number and the text from its place on
pub data Verdict : Type 0 where
  fine : Tree → List ℕ → Verdict
  wrong : ℕ → List ℕ → Verdict

abbrev pub follow : Verdict → (Tree → List ℕ → Verdict) → Verdict
follow (fine t r) f = f t r
follow (wrong k x) f = wrong k x

-- one more is open around what follows; "too deep a nesting's at the `(`, `N` or `->` that is one too many"
abbrev pub opened : ℕ → List ℕ → (ℕ → Verdict) → Verdict
opened zero x f = wrong 16 x
opened (suc d) x f = f d

abbrev pub judge_arrow : (ℕ → Part → List ℕ → Verdict) → ℕ → ℕ → List ℕ → Verdict
judge_arrow rec d n s =
    byte 45 s
    (λ x. byte 62 x (λ y. opened d (45 ∷ 62 ∷ y) (λ e. follow (rec e formula (spaces y)) (λ t r. fine (when n t) r))) (wrong 15 x))
    (wrong 15 s)

abbrev pub judge_joining : (ℕ → Part → List ℕ → Verdict) → ℕ → Tree → List ℕ → Verdict
judge_joining rec d t s = byte 38 s (λ x. follow (rec d conjunction (spaces x)) (λ u r. fine (both t u) r)) (fine t s)

abbrev pub judge_closing : Tree → List ℕ → Verdict
judge_closing t s = byte 41 s (λ x. fine (grouped t) (spaces x)) (wrong 15 s)

-- "a wrong number's [place is] at its letter"
abbrev pub judge_part : Limits → (ℕ → Part → List ℕ → Verdict) → ℕ → Part → List ℕ → Verdict
judge_part l rec d formula s =
    byte 98 s (λ x. numbered x (λ n y. cond (l.nodes n) (judge_arrow rec d n (spaces y)) (wrong 15 (98 ∷ x))) (wrong 15 x)) (rec d conjunction s)
judge_part l rec d conjunction s = follow (rec d unit s) (judge_joining rec d)
judge_part l rec d unit s =
    byte 109 s (λ x. numbered x (λ n y. cond (l.predicates n) (fine (predicate n) (spaces y)) (wrong 15 (109 ∷ x))) (wrong 15 x))
    (byte 78 s (λ x. opened d (78 ∷ x) (λ e. follow (rec e unit (spaces x)) (λ t r. fine (next t) r)))
    (byte 40 s (λ x. opened d (40 ∷ x) (λ e. follow (rec e formula (spaces x)) judge_closing)) (wrong 15 s)))

abbrev pub judge : Limits → ℕ → ℕ → Part → List ℕ → Verdict
judge l zero d p s = wrong 15 s
judge l (suc k) d p s = judge_part l (judge l k) d p s

abbrev pub judge_ended : Tree → List ℕ → Verdict
judge_ended t [] = fine t []
judge_ended t (c ∷ r) = wrong 15 (c ∷ r)

-- "16, more than 32 open parentheses, N and arrows around one place"
abbrev pub judge_text : Limits → List ℕ → Verdict
judge_text l s = follow (judge l (3 * length s + 3) 32 formula (spaces s)) judge_ended
