-- The way down ends at true, and its number is what the loop adds up.
use mathlib.Core.Path.{◌≡◌, refl, sym, ◌∙◌, fun_ext}
use mathlib.Core.Bool.{Bool, true, false}
use mathlib.Core.List.{List}
use mathlib.Core.Logic.{◌⊎◌, inl, inr}
use Prim.Native.Nat.{ℕ, zero, suc, ◌+◌, ◌^◌, ◌<◌, ◌≤◌}
use native.Mathlib.Omega.{arith}
use native.Mathlib.Decide.{dec_lt, ℕ_discrete}
use native.Mathlib.Nat.{pow-succ'}
use borrow.Author.Tests.{eq-eqb, ne_eqb}
use lib.Dec.{eqb}
use Rattle.nodes.specs.Words.{var_at, low_at, high_at}
use Rattle.nodes.specs.Standard.{Standard}
use Rattle.diagrams.specs.Value.{leaf, tree_of, value}
use Rattle.diagrams.specs.Assignment.{bit_at, change, number_of}
use Rattle.diagrams.specs.Witness.{is_false, path, witness_of, HoldsThere}
use Rattle.diagrams.proofs.ValueLaws.{tree_end, tree-node}
use Rattle.diagrams.proofs.AssignmentLaws.{change-same, change_other, number-value}
use Rattle.diagrams.proofs.CanonLaws.{tree_reduced}
use Rattle.diagrams.proofs.PathLaws.{path-below, path-holds}

change_suc : (φ : ℕ → Bool) (v u : ℕ) → change φ (suc v) true (suc u) ≡ change (λ u. φ (suc u)) v true u
change_suc φ v u = go (ℕ_discrete u v)
  where
    go : Dec (u ≡ v) → change φ (suc v) true (suc u) ≡ change (λ u. φ (suc u)) v true u
    go (yes e) = rw e (change-same φ (suc v) true ∙ sym (change-same (λ u. φ (suc u)) v true))
    go (no e) = change_other φ (suc v) true (suc u) (omega arith) ∙ sym (change_other (λ u. φ (suc u)) v true u e)

-- one variable more that is 1
number-change : (k v : ℕ) (φ : ℕ → Bool) → v < k → φ v ≡ false → number_of (change φ v true) k ≡ 2 ^ v + number_of φ k
unfolding number_of
number-change zero v φ h e = absurd (omega arith)
number-change (suc k) zero φ h e =
    rw (change-same φ 0 true, e, fun_ext (λ u. change_other φ 0 true (suc u) (omega arith))) (omega arith)
number-change (suc k) (suc v) φ h e =
    rw (change_other φ (suc v) true 0 (omega arith), fun_ext (change_suc φ v), number-change k v (λ u. φ (suc u)) (omega arith) e, pow-succ' 2 v) (omega arith)

none : (k : ℕ) → number_of (λ u. false) k ≡ 0
unfolding number_of
none zero = refl
none (suc k) = rw (none k)

module _ {w : List ℕ} {c : ℕ} (g : Standard w c) where
  -- node 0 alone is false
  false_0 : (n : ℕ) → n < c → is_false (tree_of w n) ≡ eqb n 0
  unfolding is_false
  false_0 n h = go (dec_lt n 2)
    where
      ends : (n : ℕ) → n < 2 → is_false (leaf (eqb n 1)) ≡ eqb n 0
      ends zero q = refl
      ends (suc zero) q = refl
      ends (suc (suc n)) q = absurd (omega arith)

      go : Dec (n < 2) → is_false (tree_of w n) ≡ eqb n 0
      go (yes q) = rw (tree_end w n q) (ends n q)
      go (no q) = rw (tree-node g n (omega arith) h) (sym (ne_eqb n 0 (omega arith)))

  -- "the node holds there, or is node 0"
  holds_there : (n : ℕ) → n < c → (value w (bit_at (witness_of w n)) n ≡ true) ⊎ (n ≡ 0)
  unfolding value
  holds_there n h = go (ℕ_discrete n 0)
    where
      go : Dec (n ≡ 0) → (value w (bit_at (witness_of w n)) n ≡ true) ⊎ (n ≡ 0)
      go (yes e) = inr e
      go (no e) = inl (number-value g (path (tree_of w n)) n h ∙ path-holds (tree_of w n) 0 (tree_reduced g n 0 h (omega arith)) (false_0 n h ∙ ne_eqb n 0 e))

  -- the end of the way
  pub witness_end : (n : ℕ) → n < 2 → witness_of w n ≡ 0
  unfolding path
  witness_end n q = rw (tree_end w n q) (none 64)

  -- a step to the low child
  pub witness_low : (n m : ℕ) → 2 ≤ n → n < c → m ≡ low_at w n → (m ≡ 0 → ⊥) → (m < n) × (witness_of w m ≡ witness_of w n)
  unfolding path
  witness_low n m l h em e =
      let b : low_at w n < n = (g.shape n l h).below false in
      let k : low_at w n ≡ 0 → ⊥ = λ z. e (em ∙ z) in
      (omega arith, rw (em, tree-node g n l h, false_0 (low_at w n) (omega arith), ne_eqb (low_at w n) 0 k))

  -- a step to the high child adds its variable
  pub witness-high : (n v : ℕ) → 2 ≤ n → n < c → low_at w n ≡ 0 → v ≡ var_at w n → 2 ^ v + witness_of w (high_at w n) ≡ witness_of w n
  unfolding path
  witness-high n v l h e ev =
      let o = g.shape n l h in
      rw (ev, tree-node g n l h, false_0 (low_at w n) (omega (arith, o.below false)), eq-eqb (low_at w n) 0 e)
      (sym (number-change 64 (var_at w n) (path (tree_of w (high_at w n))) o.small (path-below (tree_of w (high_at w n)) (suc (var_at w n)) (tree_reduced g (high_at w n) (suc (var_at w n)) (omega (arith, o.below true)) (o.after true)) (var_at w n) (omega arith))))

pub witness-holds : HoldsThere
unfolding HoldsThere
witness-holds w c n g h = holds_there g n h
