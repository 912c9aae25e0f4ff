-- A refusal is the first wrong place, and one place has one row.
use mathlib.Core.Path.{◌≡◌, refl, sym, ap, subst, ◌∙◌}
use mathlib.Core.Bool.{cond, ◌||◌}
use mathlib.Core.List.{List, [], ◌∷◌, ◌++◌}
use Prim.Native.Nat.{ℕ, ◌+◌, ◌*◌, ◌≤◌, ◌<◌}
use native.Mathlib.Omega.{arith}
use lib.Dec.{T, eqb}
use lib.ListN.{length}
use Rattle.formulas.specs.Language.{Tree, formula, Text}
use Rattle.formulas.specs.Reading.{Limits, within, Verdict, fine, wrong, follow, judge, judge_ended, judge_text, spaces}
use Rattle.formulas.specs.Faults.{letter_m, letter-b, letter-N, parenthesis, arrow, FaultAt, Wrong, outside, wrong-predicate, wrong-node, deep_group, deep-next, deep_arrow}
use Rattle.formulas.specs.Claims.{depth, numbers, Decided, is_read, is-refused, First}
use Rattle.formulas.proofs.Spelling.{number-then}
use Rattle.formulas.proofs.Placing.{Begun, stands-begun}
use Rattle.formulas.proofs.CompleteLaws.{one_way}
use Rattle.formulas.proofs.LimitLaws.{predicate-refused, node-refused, next-refused, group-refused, arrow-refused, judged-fine, judged-wrong}
use Rattle.formulas.proofs.FirstLaws.{RefusedBy, judged-first, within_good}
use Rattle.formulas.proofs.DepthLaws.{within_is, any, numbers_any}
use Rattle.formulas.proofs.PlaceLaws.{same_place, fault_sooner, fault-ends, fault_no-text}

-- Every wrong place is one up to which a text goes on

begun_to : (s x b : List ℕ) → Begun s x b → Begun s x []
begun_to s x b h = record { before = h.before; is = h.is; on = b ++ h.on; tree = h.tree; goes = h.goes }

module _ (l : Limits) (s : List ℕ) where
  pub wrong-begun : (k : ℕ) (x : List ℕ) → Wrong l s k x → Begun s x []
  wrong-begun k x (outside f) = record { before = f.before; is = f.is; on = f.goes.0; tree = f.goes.1; goes = f.goes.2 }
  wrong-begun k x (wrong-predicate {ds} {r} {e} h n p q) = begun_to s x (109 ∷ []) (stands-begun s letter_m e (ds ++ r) h)
  wrong-begun k x (wrong-node {ds} {r} {e} h n p q) = begun_to s x (98 ∷ []) (stands-begun s letter-b e (ds ++ r) h)
  wrong-begun k x (deep_group {r} h) = begun_to s x (40 ∷ []) (stands-begun s parenthesis 32 r h)
  wrong-begun k x (deep-next {r} h) = begun_to s x (78 ∷ []) (stands-begun s letter-N 32 r h)
  wrong-begun k x (deep_arrow {r} h) = begun_to s x (45 ∷ 62 ∷ []) (stands-begun s arrow 32 r h)

  pub decide : Decided l s
  decide = go (judge l (3 * length s + 3) 32 formula (spaces s)) refl
    where
      go : (v : Verdict) → judge_text l s ≡ follow v judge_ended → Decided l s
      go (fine t []) e = is_read t e
      go (fine t (c ∷ r)) e = is-refused 15 (c ∷ r) e
      go (wrong k x) e = is-refused k x e

  -- wherever a row is met, the reader refuses there or before
  wrong-refused : (k : ℕ) (x : List ℕ) → Wrong l s k x → RefusedBy l s x
  wrong-refused k x (outside f) = go decide
    where
      go : Decided l s → RefusedBy l s x
      go (is_read t e) = absurd (fault_no-text s x t f ((judged-fine l s t).0 e).0)
      go (is-refused i y e) = record { row = i; left = y; is = e; no_later = fault_sooner s x y f (wrong-begun i y (judged-wrong l s i y e)) }
  wrong-refused k x (wrong-predicate {ds} {r} {n} {e} h m p q) = judged-first l s 15 letter_m e (ds ++ r) h (predicate-refused (number-then ds n m r) p q)
  wrong-refused k x (wrong-node {ds} {r} {n} {e} h m p q) = judged-first l s 15 letter-b e (ds ++ r) h (node-refused (number-then ds n m r) p q)
  wrong-refused k x (deep_group {r} h) = judged-first l s 16 parenthesis 32 r h group-refused
  wrong-refused k x (deep-next {r} h) = judged-first l s 16 letter-N 32 r h next-refused
  wrong-refused k x (deep_arrow {r} h) = judged-first l s 16 arrow 32 r h arrow-refused

  -- One place has one row

  -- the row of a token by its first byte
  abbrev row : List ℕ → ℕ
  row [] = 15
  row (c ∷ r) = cond (eqb c 40 || eqb c 78 || eqb c 45) 16 15

  -- a wrong place is the fault, a letter, or what opens
  data Kind : ℕ → List ℕ → Type 0 where
    at-fault : {x : List ℕ} → FaultAt s x → Kind 15 x
    at_letter : {x : List ℕ} → row x ≡ 15 → Kind 15 x
    at_opener : {c : ℕ} {b r : List ℕ} → row (c ∷ r) ≡ 16 → Begun s (c ∷ r) (c ∷ b) → Kind 16 (c ∷ r)

  wrong_kind : (k : ℕ) (x : List ℕ) → Wrong l s k x → Kind k x
  wrong_kind k x (outside f) = at-fault f
  wrong_kind k x (wrong-predicate h m p q) = at_letter {x = x} refl
  wrong_kind k x (wrong-node h m p q) = at_letter {x = x} refl
  wrong_kind k x (deep_group {r} h) = at_opener refl (stands-begun s parenthesis 32 r h)
  wrong_kind k x (deep-next {r} h) = at_opener refl (stands-begun s letter-N 32 r h)
  wrong_kind k x (deep_arrow {r} h) = at_opener refl (stands-begun s arrow 32 r h)

  kinds : (i k : ℕ) (x : List ℕ) → Kind i x → Kind k x → i ≡ k
  kinds i k x (at-fault f) (at-fault g) = refl
  kinds i k x (at-fault f) (at_letter h) = refl
  kinds i k x (at-fault f) (at_opener {c} {b} {r} h g) = absurd (fault-ends s r c b f g)
  kinds i k x (at_letter h) (at-fault f) = refl
  kinds i k x (at_letter h) (at_letter g) = refl
  kinds i k x (at_letter h) (at_opener g b) = sym h ∙ g
  kinds i k x (at_opener {c} {b} {r} h g) (at-fault f) = absurd (fault-ends s r c b f g)
  kinds i k x (at_opener h b) (at_letter g) = sym h ∙ g
  kinds i k x (at_opener h b) (at_opener g d) = refl

  pub one_row : (i k : ℕ) (x : List ℕ) → Wrong l s i x → Wrong l s k x → i ≡ k
  one_row i k x h g = kinds i k x (wrong_kind i x h) (wrong_kind k x g)

  wrong-left : (i k : ℕ) (x y : List ℕ) → wrong i x ≡ wrong k y → x ≡ y
  wrong-left i k x y e = cc

  -- a refusal is the first wrong place
  pub refused-first : (k : ℕ) (x : List ℕ) → judge_text l s ≡ wrong k x → First l s k x
  refused-first k x e = record { wrong = judged-wrong l s k x e; first = λ i y h. go y (wrong-refused i y h) }
    where
      go : (y : List ℕ) → RefusedBy l s y → length y ≤ length x
      go y h = let q : h.left ≡ x = wrong-left _ _ _ _ (sym h.is ∙ e) in subst (λ z. length y ≤ length z) q h.no_later

  pub first-refused : (k : ℕ) (x : List ℕ) → First l s k x → judge_text l s ≡ wrong k x
  first-refused k x h =
      let a = wrong-refused k x h.wrong in
      let b = judged-wrong l s a.row a.left a.is in
      let p = wrong-begun k x h.wrong in
      let q = wrong-begun a.row a.left b in
      let e : a.left ≡ x = same_place s q.before a.left p.before x q.is p.is (equal (length a.left) (length x) (h.first a.row a.left b) a.no_later) in
      a.is ∙ ap (λ y. wrong a.row y) e ∙ ap (λ i. wrong i x) (one_row a.row k x (subst (Wrong l s a.row) e b) h.wrong)
    where
      equal : (m n : ℕ) → m ≤ n → n ≤ m → m ≡ n
      equal m n h g = omega arith

  pub deep-refused : (t : Tree) → Text s t → T (numbers l t) → 32 < depth t → (x : List ℕ) × (judge_text l s ≡ wrong 16 x)
  deep-refused t h g b = go decide
    where
      good : T (within l (depth t) t)
      good = (within_is l (depth t) t).1 (g, omega arith)

      at : (k : ℕ) (x : List ℕ) → judge_text l s ≡ wrong k x → Wrong l s k x → (y : List ℕ) × (judge_text l s ≡ wrong 16 y)
      at k x q (outside f) = absurd (fault_no-text s x t f h)
      at k x q (wrong-predicate {ds} {r} {n} {e} u m p v) = absurd (within_good l s 15 (depth t) letter_m e (ds ++ r) t u (predicate-refused (number-then ds n m r) p v) h good)
      at k x q (wrong-node {ds} {r} {n} {e} u m p v) = absurd (within_good l s 15 (depth t) letter-b e (ds ++ r) t u (node-refused (number-then ds n m r) p v) h good)
      at k x q (deep_group u) = (x, q)
      at k x q (deep-next u) = (x, q)
      at k x q (deep_arrow u) = (x, q)

      less : (u : Tree) → u ≡ t → depth u ≤ 32 → ⊥
      less u q m = let e : depth u ≡ depth t = ap depth q in omega arith

      go : Decided l s → (x : List ℕ) × (judge_text l s ≡ wrong 16 x)
      go (is_read u e) = let a = (judged-fine l s u).0 e in let q : u ≡ t = one_way s u t a.0 h in let m = (within_is l 32 u).0 a.1 in absurd (less u q m.1)
      go (is-refused k x e) = at k x e (judged-wrong l s k x e)

  pub misnumbered-refused : (t : Tree) → Text s t → (T (numbers l t) → ⊥) → depth t ≤ 32 → (x : List ℕ) × (judge_text l s ≡ wrong 15 x)
  misnumbered-refused t h g b = go decide
    where
      good : T (within any 32 t)
      good = (within_is any 32 t).1 (numbers_any t, b)

      at : (k : ℕ) (x : List ℕ) → judge_text l s ≡ wrong k x → Wrong l s k x → (y : List ℕ) × (judge_text l s ≡ wrong 15 y)
      at k x q (outside f) = (x, q)
      at k x q (wrong-predicate u m p v) = (x, q)
      at k x q (wrong-node u m p v) = (x, q)
      at k x q (deep_group {r} u) = absurd (within_good any s 16 32 parenthesis 32 r t u group-refused h good)
      at k x q (deep-next {r} u) = absurd (within_good any s 16 32 letter-N 32 r t u next-refused h good)
      at k x q (deep_arrow {r} u) = absurd (within_good any s 16 32 arrow 32 r t u arrow-refused h good)

      go : Decided l s → (x : List ℕ) × (judge_text l s ≡ wrong 15 x)
      go (is_read u e) = let a = (judged-fine l s u).0 e in let q : u ≡ t = one_way s u t a.0 h in absurd (g (subst (λ v. T (numbers l v)) q ((within_is l 32 u).0 a.1).0))
      go (is-refused k x e) = at k x e (judged-wrong l s k x e)
