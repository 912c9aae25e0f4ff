-- Tests that a call makes: one by itself, and a loop of one number after the other, in which at each turn the numbers from i on give what all of them give.
use mathlib.Core.Path.{◌≡◌, sym, ◌∙◌}
use mathlib.Core.Bool.{Bool, true, false, not}
use Prim.Native.Nat.{ℕ, ◌+◌, ◌-◌, ◌<◌, ◌≤◌}
use native.Mathlib.Omega.{arith}
use borrow.Author.Tests.{not-true, not-false}
use Rattle.nodes.specs.Search.{every}
use Rattle.nodes.proofs.SearchLaws.{every-step, every_end}

module _ {b t : Bool} (e : b ≡ t) where
  pub test_fails : not b ≡ true → t ≡ false
  test_fails n = sym e ∙ not-true b n

  pub test-holds : not b ≡ false → t ≡ true
  test-holds n = sym e ∙ not-false b n

module _ (p : ℕ → Bool) (c i : ℕ) where
  module _ {r : Bool} (left : every p i (c - i) ≡ r) where
    pub every_fails : i < c → {b : Bool} → b ≡ p i → not b ≡ true → false ≡ r
    every_fails h e n = sym (every-step p c i h ∙ rw (test_fails e n)) ∙ left

    pub every-goes_on : i < c → {b : Bool} → b ≡ p i → not b ≡ false → every p (i + 1) (c - (i + 1)) ≡ r
    every-goes_on h e n = sym (every-step p c i h ∙ rw (test-holds e n)) ∙ left

    pub every-stops : c ≤ i → true ≡ r
    every-stops h = sym (every_end p i (c - i) (omega arith)) ∙ left
