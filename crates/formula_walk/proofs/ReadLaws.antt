-- One step of the reader, by the token that stands first.
use mathlib.Core.Path.{◌≡◌, refl, sym, ap, ◌∙◌}
use mathlib.Core.Bool.{Bool, true, false, cond}
use mathlib.Core.List.{List, [], ◌∷◌}
use Prim.Native.Nat.{ℕ, zero, suc, ◌-◌}
use native.Mathlib.Omega.{arith}
use lib.Dec.{eqb}
use Rattle.formulas.specs.Language.{predicate, next, when, formula, conjunction, unit, digit, joined}
use Rattle.formulas.specs.Reading.{spaces, byte, digits, numbered, Limits, Verdict, fine, wrong, follow, opened, judge_arrow, judge_closing, judge}
use Rattle.tokens.specs.Contract.{starts, Took, took, stops, number_token, opens, opener_token, arrow_token, then_took, when_token}
use Rattle.tokens.proofs.TokenLaws.{byte_not}

-- the reader behind a token
abbrev pub onward : Took → (ℕ → List ℕ → Verdict) → Verdict
onward (took n r) f = f n r
onward (stops k r) f = wrong k r

-- A function of what was read goes through the tests.
byte_through : {A B : Type 0} (h : A → B) (c : ℕ) (s : List ℕ) (f : List ℕ → A) (g : List ℕ → B) (a : A) (b : B) → ((x : List ℕ) → h (f x) ≡ g x) → h a ≡ b → h (byte c s f a) ≡ byte c s g b
byte_through h c [] f g a b F e = e
byte_through h c (x ∷ s) f g a b F e = go (eqb x c) (F s) e
  where
    go : (t : Bool) → h (f s) ≡ g s → h a ≡ b → h (cond t (f s) a) ≡ cond t (g s) b
    go true F e = F
    go false F e = e

digits_through : {A B : Type 0} (h : A → B) (a : ℕ) (s : List ℕ) (f : ℕ → List ℕ → A) (g : ℕ → List ℕ → B) → ((n : ℕ) (y : List ℕ) → h (f n y) ≡ g n y) → h (digits a s f) ≡ digits a s g
digits_through h a [] f g F = F a []
digits_through h a (d ∷ s) f g F = go (digit d) (digits_through h (joined a d) s f g F) (F a (d ∷ s))
  where
    go : (t : Bool) → h (digits (joined a d) s f) ≡ digits (joined a d) s g → h (f a (d ∷ s)) ≡ g a (d ∷ s) → h (cond t (digits (joined a d) s f) (f a (d ∷ s))) ≡ cond t (digits (joined a d) s g) (g a (d ∷ s))
    go true p q = p
    go false p q = q

numbered_through : {A B : Type 0} (h : A → B) (s : List ℕ) (f : ℕ → List ℕ → A) (g : ℕ → List ℕ → B) (a : A) (b : B) → ((n : ℕ) (y : List ℕ) → h (f n y) ≡ g n y) → h a ≡ b → h (numbered s f a) ≡ numbered s g b
numbered_through h [] f g a b F e = e
numbered_through h (d ∷ s) f g a b F e = go (digit d) (digits_through h (joined 0 d) s f g F) e
  where
    go : (t : Bool) → h (digits (joined 0 d) s f) ≡ digits (joined 0 d) s g → h a ≡ b → h (cond t (digits (joined 0 d) s f) a) ≡ cond t (digits (joined 0 d) s g) b
    go true p q = p
    go false p q = q

cond_through : {A B : Type 0} (h : A → B) (t : Bool) {x y : A} {u v : B} → h x ≡ u → h y ≡ v → h (cond t x y) ≡ cond t u v
cond_through h true p q = p
cond_through h false p q = q

-- an opener, before a reader of what is inside
opens-read : (d : ℕ) (s : List ℕ) (n : ℕ) (r : List ℕ) (f : ℕ → ℕ → List ℕ → Verdict) → onward (opens d s (took n r)) (f (d - 1)) ≡ opened d s (λ e. f e n r)
opens-read zero s n r f = refl
opens-read (suc d) s n r f = let e : suc d - 1 ≡ d = omega arith in ap (λ (e : ℕ). f e n r) e

module _ (l : Limits) (k d : ℕ) where
  -- no `b`: a conjunction
  pub reads_conjunction : (s : List ℕ) → starts 98 s ≡ false → judge l (suc k) d formula s ≡ judge l k d conjunction s
  reads_conjunction s e = byte_not 98 s _ _ e

  -- "`b` number `->` formula"
  abbrev pub when_read : ℕ → List ℕ → Verdict
  when_read n r = follow (judge l k (d - 1) formula r) (λ t r. fine (when n t) r)

  arrow-read : (n : ℕ) (s : List ℕ) → onward (arrow_token d n s) when_read ≡ judge_arrow (judge l k) d n s
  arrow-read n s =
      byte_through (λ (t : Took). onward t when_read) 45 s _ _ _ _
      (λ x. byte_through (λ (t : Took). onward t when_read) 62 x _ _ _ _ (λ y. opens-read d (45 ∷ 62 ∷ y) n (spaces y) (λ e n r. follow (judge l k e formula r) (λ t r. fine (when n t) r))) refl)
      refl

  pub reads-when : (x : List ℕ) → judge l (suc k) d formula (98 ∷ x) ≡ onward (when_token l.nodes d 98 x) when_read
  reads-when x =
      sym
      (numbered_through (λ (t : Took). onward (then_took t (arrow_token d)) when_read) x _ _ _ _
      (λ n y. cond_through (λ (t : Took). onward (then_took t (arrow_token d)) when_read) (l.nodes n) (arrow-read n (spaces y)) refl)
      refl)

  -- "`m` number"
  pub reads-predicate : (x : List ℕ) → judge l (suc k) d unit (109 ∷ x) ≡ onward (number_token l.predicates 109 x) (λ n r. fine (predicate n) r)
  reads-predicate x =
      sym
      (numbered_through (λ (t : Took). onward t (λ n r. fine (predicate n) r)) x _ _ _ _
      (λ n y. cond_through (λ (t : Took). onward t (λ n r. fine (predicate n) r)) (l.predicates n) refl refl)
      refl)

  -- "`N` unit", "a formula in parentheses"
  pub reads-next : (x : List ℕ) → judge l (suc k) d unit (78 ∷ x) ≡ onward (opener_token d 78 x) (λ n r. follow (judge l k (d - 1) unit r) (λ t r. fine (next t) r))
  reads-next x = sym (opens-read d (78 ∷ x) 0 (spaces x) (λ e n r. follow (judge l k e unit r) (λ t r. fine (next t) r)))

  pub reads_group : (x : List ℕ) → judge l (suc k) d unit (40 ∷ x) ≡ onward (opener_token d 40 x) (λ n r. follow (judge l k (d - 1) formula r) judge_closing)
  reads_group x = sym (opens-read d (40 ∷ x) 0 (spaces x) (λ e n r. follow (judge l k e formula r) judge_closing))

  -- no unit
  pub reads_none : (s : List ℕ) → starts 109 s ≡ false → starts 78 s ≡ false → starts 40 s ≡ false → judge l (suc k) d unit s ≡ wrong 15 s
  reads_none s m n o = byte_not 109 s _ _ m ∙ byte_not 78 s _ _ n ∙ byte_not 40 s _ _ o
