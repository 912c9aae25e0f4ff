-- A node's words read and replaced.
use mathlib.Core.Path.{◌≡◌, sym, ◌∙◌}
use mathlib.Core.Bool.{true, false, false≢true}
use mathlib.Core.List.{List}
use Prim.Native.Nat.{ℕ, ◌+◌, ◌*◌, ◌<◌}
use native.Mathlib.Omega.{arith}
use lib.Dec.{eqb}
use lib.ListN.{length, get_or, set, length-set}
use lib.Seq.{get_or-set_same, get_or-set_other}
use borrow.Author.Tests.{eq-eqb, eqb-true}
use Rattle.nodes.specs.Words.{var_at, low_at, high_at, has_words, with_node}
use Rattle.nodes.proofs.BoolLaws.{and_both, iff-same}

-- the three words that `hasWords` tells
pub record Has (w : List ℕ) (v lo hi n : ℕ) : Type 0 where
  pub var : var_at w n ≡ v
  pub low : low_at w n ≡ lo
  pub high : high_at w n ≡ hi

module _ (w : List ℕ) (v lo hi n : ℕ) where
  pub words_has : has_words w v lo hi n ≡ true → Has w v lo hi n
  unfolding has_words
  words_has e =
      let p = and_both _ _ e in
      let q = and_both _ _ p.0 in
      record { var = eqb-true _ _ q.0; low = eqb-true _ _ q.1; high = eqb-true _ _ p.1 }

  pub has_words_lem : Has w v lo hi n → has_words w v lo hi n ≡ true
  unfolding has_words
  has_words_lem e = rw (eq-eqb _ _ e.var, eq-eqb _ _ e.low, eq-eqb _ _ e.high)

  -- the test word by word, up to the first that differs
  pub high-differs : {c : ℕ} → c ≡ high_at w n → (c ≡ hi → ⊥) → false ≡ has_words w v lo hi n
  high-differs ec h = iff-same _ _ (λ e. absurd (false≢true e)) (λ t. absurd (h (ec ∙ (words_has t).high)))

  pub low-differs : {b : ℕ} → b ≡ low_at w n → (b ≡ lo → ⊥) → false ≡ has_words w v lo hi n
  low-differs eb h = iff-same _ _ (λ e. absurd (false≢true e)) (λ t. absurd (h (eb ∙ (words_has t).low)))

  pub var_decides : {a b c : ℕ} → c ≡ high_at w n → c ≡ hi → b ≡ low_at w n → b ≡ lo → a ≡ var_at w n → eqb a v ≡ has_words w v lo hi n
  var_decides ec ch eb bl ea =
      iff-same _ _
      (λ t. has_words_lem (record { var = sym ea ∙ eqb-true _ _ t; low = sym eb ∙ bl; high = sym ec ∙ ch }))
      (λ t. eq-eqb _ _ (ea ∙ (words_has t).var))

module _ (w : List ℕ) (n v lo hi : ℕ) where
  pub node-length : length (with_node w n v lo hi) ≡ length w
  node-length = simp length-set

  pub node_other : (k : ℕ) → (k ≡ n * 3 → ⊥) → (k ≡ n * 3 + 1 → ⊥) → (k ≡ n * 3 + 2 → ⊥) → get_or (with_node w n v lo hi) k 0 ≡ get_or w k 0
  node_other k p q t =
      get_or-set_other (set (set w (n * 3) v) (n * 3 + 1) lo) (n * 3 + 2) k hi 0 t
      ∙ get_or-set_other (set w (n * 3) v) (n * 3 + 1) k lo 0 q
      ∙ get_or-set_other w (n * 3) k v 0 p

  module _ (r : n * 3 + 2 < length w) where
    pub node_has : Has (with_node w n v lo hi) v lo hi n
    node_has =
        record {
          var = get_or-set_other (set (set w (n * 3) v) (n * 3 + 1) lo) (n * 3 + 2) (n * 3) hi 0 (omega arith)
              ∙ get_or-set_other (set w (n * 3) v) (n * 3 + 1) (n * 3) lo 0 (omega arith)
              ∙ get_or-set_same w (n * 3) v 0 (omega arith);
          low = get_or-set_other (set (set w (n * 3) v) (n * 3 + 1) lo) (n * 3 + 2) (n * 3 + 1) hi 0 (omega arith)
              ∙ get_or-set_same (set w (n * 3) v) (n * 3 + 1) lo 0 (simp length-set (omega arith));
          high = get_or-set_same (set (set w (n * 3) v) (n * 3 + 1) lo) (n * 3 + 2) hi 0 (simp length-set (omega arith));
        }
