-- The certificate: where each node is found by its number, none has the words of an earlier one.
use mathlib.Core.Path.{◌≡◌, refl, sym, ◌∙◌}
use mathlib.Core.Bool.{true}
use mathlib.Core.List.{List}
use Prim.Native.Nat.{ℕ, zero, suc, ◌-◌, ◌<◌, ◌≤◌}
use native.Mathlib.Omega.{arith}
use lib.ListN.{get_or}
use borrow.Author.Tests.{eq-eqb, ne_eqb, lt-ltb, le-ltb, eqb-true}
use Rattle.nodes.specs.Words.{var_at, low_at, high_at}
use Rattle.nodes.specs.Search.{every}
use Rattle.nodes.specs.Standard.{first}
use Rattle.nodes.specs.Certificate.{number_of, walk, found}
use Rattle.nodes.proofs.SearchLaws.{every_is, is-every}
use Rattle.nodes.proofs.WordsLaws.{Has}
use Rattle.nodes.proofs.StandardLaws.{is-first}

-- the ways of a step along a chain
module _ (w next : List ℕ) (c x : ℕ) where
  pub walk_end : (i n : ℕ) → i ≤ 0 → walk w next c x i n ≡ c
  unfolding walk
  walk_end zero n h = refl
  walk_end (suc i) n h = absurd (omega arith)

  pub walk-past : (i n : ℕ) → 0 < i → c ≤ n → walk w next c x i n ≡ c
  unfolding walk
  walk-past zero n p h = absurd (omega arith)
  walk-past (suc i) n p h = rw (le-ltb n c h)

  pub walk_hit : (i n : ℕ) → 0 < i → n < c → number_of w n ≡ x → walk w next c x i n ≡ n
  unfolding walk
  walk_hit zero n p h e = absurd (omega arith)
  walk_hit (suc i) n p h e = rw (lt-ltb n c h, eq-eqb (number_of w n) x e)

  pub walk_step : (i j n : ℕ) → i ≡ suc j → n < c → (number_of w n ≡ x → ⊥) → walk w next c x i n ≡ walk w next c x j (get_or next n 0)
  unfolding walk
  walk_step i j n p h e = rw (p, lt-ltb n c h, ne_eqb (number_of w n) x e)

-- the same words have the same number
number_same : (w : List ℕ) (m n : ℕ) → Has w (var_at w n) (low_at w n) (high_at w n) m → number_of w m ≡ number_of w n
number_same w m n s = rw (s.var, s.low, s.high)

module _ (w head next : List ℕ) (c : ℕ) where
  found-same : (m n : ℕ) → found w head next c m ≡ true → found w head next c n ≡ true → number_of w m ≡ number_of w n → m ≡ n
  unfolding found
  found-same m n p q e = sym (eqb-true _ m p) ∙ rw e (eqb-true _ n q)

  pub found_first : every (found w head next c) 0 c ≡ true → every (first w) 2 (c - 2) ≡ true
  found_first e = is-every (first w) (c - 2) 2 (λ n a b. is-first w n (λ m h s.
      let q : m ≡ n = found-same m n (at m (omega arith)) (at n (omega arith)) (number_same w m n s) in
      omega arith))
    where
      at : (n : ℕ) → n < c → found w head next c n ≡ true
      at n h = every_is (found w head next c) c 0 e n (omega arith) (omega arith)
