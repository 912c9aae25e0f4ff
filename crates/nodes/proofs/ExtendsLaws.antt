-- Growth goes on from itself, and what it leaves of a node.
use mathlib.Core.Path.{◌≡◌, refl, ◌∙◌}
use mathlib.Core.Bool.{Bool, true, false}
use mathlib.Core.List.{List}
use Prim.Native.Nat.{ℕ, ◌+◌, ◌*◌, ◌<◌}
use native.Mathlib.Omega.{arith}
use Rattle.nodes.specs.Words.{var_at, low_at, high_at, child_at, with_node}
use Rattle.nodes.specs.Extends.{Agree, Extends}
use Rattle.nodes.proofs.WordsLaws.{node-length, node_other}

pub agree_refl : (w : List ℕ) (c : ℕ) → Agree w w c
agree_refl w c = record { at = λ k h. refl }

pub extends_refl : (w : List ℕ) (c : ℕ) → Extends w c w c
extends_refl w c = record { more = omega arith; len = refl; old = agree_refl w c; past = λ k h. refl }

pub extends_trans : {w w' w'' : List ℕ} {c c' c'' : ℕ} → Extends w c w' c' → Extends w' c' w'' c'' → Extends w c w'' c''
extends_trans p q = record {
  more = omega arith;
  len = q.len ∙ p.len;
  old = record { at = λ k h. q.old.at k (omega arith) ∙ p.old.at k h };
  past = λ k h. q.past k h ∙ p.past k (omega arith);
}

module _ {w w' : List ℕ} {c : ℕ} (e : Agree w w' c) (n : ℕ) (h : n < c) where
  pub agree_var : var_at w' n ≡ var_at w n
  agree_var = e.at (n * 3) (omega arith)

  pub agree_low : low_at w' n ≡ low_at w n
  agree_low = e.at (n * 3 + 1) (omega arith)

  pub agree-high : high_at w' n ≡ high_at w n
  agree-high = e.at (n * 3 + 2) (omega arith)

  pub agree_child : (b : Bool) → child_at b w' n ≡ child_at b w n
  agree_child true = agree-high
  agree_child false = agree_low

-- a node stored at the count
pub node-extends : (w : List ℕ) (c v lo hi : ℕ) → Extends w c (with_node w c v lo hi) (c + 1)
node-extends w c v lo hi =
    record {
      more = omega arith;
      len = node-length w c v lo hi;
      old = record { at = λ k h. node_other w c v lo hi k (omega arith) (omega arith) (omega arith) };
      past = λ k h. node_other w c v lo hi k (omega arith) (omega arith) (omega arith);
    }
