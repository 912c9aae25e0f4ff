-- A node's tree by its node, and that growth keeps trees and values.
use mathlib.Core.Path.{◌≡◌, refl, sym, ap, ap₂, ◌∙◌}
use mathlib.Core.Bool.{Bool, true, false, cond}
use mathlib.Core.List.{List}
use Prim.Native.Nat.{ℕ, zero, suc, ◌<◌, ◌≤◌}
use native.Mathlib.Omega.{arith}
use lib.Dec.{eqb, ltb}
use borrow.Author.Tests.{le-ltb, ltb-false}
use Rattle.nodes.specs.Words.{var_at, low_at, high_at, child_at}
use Rattle.nodes.specs.Standard.{Standard}
use Rattle.nodes.specs.Extends.{Agree}
use Rattle.nodes.proofs.ExtendsLaws.{agree_refl, agree_var, agree_low, agree-high}
use Rattle.diagrams.specs.Value.{leaf, branch, eval, grow, tree_of, value}

-- a tree is the same with more steps, and over words that agree on its nodes
module _ {w w' : List ℕ} {c : ℕ} (g : Standard w c) (e : Agree w w' c) where
  grow-same : (k k' : ℕ) (b : Bool) (n : ℕ) → ltb n 2 ≡ b → n < c → n ≤ k → n ≤ k' → grow w k b n ≡ grow w' k' b n
  unfolding grow
  grow-same zero zero b n q h l l' = refl
  grow-same zero (suc k') true n q h l l' = refl
  grow-same zero (suc k') false n q h l l' = absurd (omega (arith, ltb-false n 2 q))
  grow-same (suc k) zero true n q h l l' = refl
  grow-same (suc k) zero false n q h l l' = absurd (omega (arith, ltb-false n 2 q))
  grow-same (suc k) (suc k') true n q h l l' = refl
  grow-same (suc k) (suc k') false n q h l l' =
      let o = g.shape n (ltb-false n 2 q) h in
      let b0 : low_at w n < n = o.below false in
      let b1 : high_at w n < n = o.below true in
      rw (agree_var e n h, agree_low e n h, agree-high e n h)
      (ap₂ (branch (var_at w n)) (grow-same k k' (ltb (low_at w n) 2) (low_at w n) refl (omega arith) (omega arith) (omega arith)) (grow-same k k' (ltb (high_at w n) 2) (high_at w n) refl (omega arith) (omega arith) (omega arith)))

pub tree_end : (w : List ℕ) (n : ℕ) → n < 2 → tree_of w n ≡ leaf (eqb n 1)
unfolding tree_of grow
tree_end w zero h = refl
tree_end w (suc zero) h = refl
tree_end w (suc (suc n)) h = absurd (omega arith)

module _ {w : List ℕ} {c : ℕ} (g : Standard w c) where
  pub tree-node : (n : ℕ) → 2 ≤ n → n < c → tree_of w n ≡ branch (var_at w n) (tree_of w (low_at w n)) (tree_of w (high_at w n))
  unfolding tree_of grow
  tree-node zero l h = absurd (omega arith)
  tree-node (suc k) l h =
      let o = g.shape (suc k) l h in
      let b0 : low_at w (suc k) < suc k = o.below false in
      let b1 : high_at w (suc k) < suc k = o.below true in
      rw (le-ltb (suc k) 2 l)
      (ap₂ (branch (var_at w (suc k)))
      (grow-same g (agree_refl w c) k (low_at w (suc k)) (ltb (low_at w (suc k)) 2) (low_at w (suc k)) refl (omega arith) (omega arith) (omega arith))
      (grow-same g (agree_refl w c) k (high_at w (suc k)) (ltb (high_at w (suc k)) 2) (high_at w (suc k)) refl (omega arith) (omega arith) (omega arith)))

  pub tree_agree : {w' : List ℕ} → Agree w w' c → (n : ℕ) → n < c → tree_of w' n ≡ tree_of w n
  unfolding tree_of
  tree_agree e n h = sym (grow-same g e n n (ltb n 2) n refl h (omega arith) (omega arith))

  pub value_agree : {w' : List ℕ} → Agree w w' c → (φ : ℕ → Bool) (n : ℕ) → n < c → value w' φ n ≡ value w φ n
  unfolding value
  value_agree e φ n h = ap (eval φ) (tree_agree e n h)

  pub value-step : (φ : ℕ → Bool) (n : ℕ) → 2 ≤ n → n < c → value w φ n ≡ cond (φ (var_at w n)) (value w φ (high_at w n)) (value w φ (low_at w n))
  unfolding value eval
  value-step φ n l h = rw (tree-node n l h)

  -- a step down the tree on the side that the assignment takes
  pub value_child : (φ : ℕ → Bool) (n v : ℕ) (b : Bool) {m : ℕ} → 2 ≤ n → n < c → v ≡ var_at w n → b ≡ φ v → m ≡ child_at b w n → (m < n) × (value w φ m ≡ value w φ n)
  value_child φ n v b l h ev eb em = (rw em ((g.shape n l h).below b), rw em (child b ∙ sym (value-step φ n l h ∙ (rw (← ev, ← eb)))))
    where
      child : (b : Bool) → value w φ (child_at b w n) ≡ cond b (value w φ (high_at w n)) (value w φ (low_at w n))
      child true = refl
      child false = refl

pub value_end : (w : List ℕ) (φ : ℕ → Bool) (n : ℕ) → n < 2 → eqb n 1 ≡ value w φ n
unfolding value eval
value_end w φ n h = rw (tree_end w n h)

pub value_0 : (w : List ℕ) (φ : ℕ → Bool) → value w φ 0 ≡ false
value_0 w φ = sym (value_end w φ 0 (omega arith))

pub value_1 : (w : List ℕ) (φ : ℕ → Bool) → value w φ 1 ≡ true
value_1 w φ = sym (value_end w φ 1 (omega arith))
