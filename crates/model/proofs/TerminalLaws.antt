-- Of the nodes of a standard store, node 0 alone is false under every 64-bit assignment, and node 1 alone true. So an idle write is one whose enable is never 1.
use mathlib.Core.Path.{◌≡◌, sym, ◌∙◌}
use mathlib.Core.Logic.{◌↔◌}
use mathlib.Core.Bool.{Bool, true, false}
use mathlib.Core.List.{List}
use Prim.Native.Nat.{ℕ, ◌^◌, ◌<◌}
use native.Mathlib.Omega.{arith}
use lib.ListN.{get_or}
use borrow.Author.Tests.{eqb-true, eqb-false}
use Rattle.nodes.proofs.BoolLaws.{split}
use Rattle.conditions.specs.Stores.{Standard}
use Rattle.conditions.specs.Value.{value}
use Rattle.conditions.specs.Assignment.{bit_at}
use Rattle.conditions.specs.Meet.{neither, together}
use Rattle.conditions.proofs.Promises.{neither_decides, together_decides, value_0, value_1, one-node}
use Rattle.model.specs.Step.{is_idle}

module _ {w : List ℕ} {c : ℕ} (S : Standard w c) (n : ℕ) (below : n < c) where
  pub node_0-alone : (n ≡ 0) ↔ ((k : ℕ) → k < 2 ^ 64 → value w (bit_at k) n ≡ false)
  node_0-alone =
      let O = one-node S n 0 below (omega (arith, S.two)) in
      (λ e k small. O.0 e k small ∙ value_0 w (bit_at k), λ f. O.1 (λ k small. f k small ∙ sym (value_0 w (bit_at k))))

  node_1-alone : (n ≡ 1) ↔ ((k : ℕ) → k < 2 ^ 64 → value w (bit_at k) n ≡ true)
  node_1-alone =
      let O = one-node S n 1 below (omega (arith, S.two)) in
      (λ e k small. O.0 e k small ∙ value_1 w (bit_at k), λ f. O.1 (λ k small. f k small ∙ sym (value_1 w (bit_at k))))

  -- so every other node is true, and false, under some assignment
  pub somewhere_true : (n ≡ 0 → ⊥) → (k : ℕ) × (k < 2 ^ 64) × (value w (bit_at k) n ≡ true)
  somewhere_true other =
      let D = together_decides S n n n below below below in
      split (together w n n n) (λ t. let m = D.yes t in (m.0, m.1, m.2))
      (λ t. absurd (other (node_0-alone.1 (λ k small. split (value w (bit_at k) n) (λ e. absurd (D.no t (k, small, e, e, e))) (λ e. e)))))

  pub somewhere_false : (n ≡ 1 → ⊥) → (k : ℕ) × (k < 2 ^ 64) × (value w (bit_at k) n ≡ false)
  somewhere_false other =
      let D = neither_decides S n n below below in
      split (neither w n n) (λ t. let m = D.yes t in (m.0, m.1, m.2))
      (λ t. absurd (other (node_1-alone.1 (λ k small. split (value w (bit_at k) n) (λ e. e) (λ e. absurd (D.no t (k, small, e, e)))))))

-- a write is idle where its enable's h is node 0, and nowhere else
pub idle_zero : (c : List ℕ) → is_idle c ≡ true → get_or c 0 0 ≡ 0
idle_zero c e = eqb-true (get_or c 0 0) 0 e

pub other_not_zero : (c : List ℕ) → is_idle c ≡ false → get_or c 0 0 ≡ 0 → ⊥
other_not_zero c e = eqb-false (get_or c 0 0) 0 e
