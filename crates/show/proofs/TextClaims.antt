-- Demand 2: "the text of a condition is the same for two conditions exactly when they agree under every assignment".
-- The two conditions may be of two stores. Within one store they are then one node.
use Rattle.std.proofs.Common.{◌≡◌, sym, ap, ◌∙◌, Bool, ◌↔◌, List, ℕ, ◌<◌}
use Rattle.nodes.specs.Standard.{Standard}
use Rattle.diagrams.specs.Value.{eval, tree_of, value}
use Rattle.diagrams.specs.Assignment.{bit_at, number_of}
use Rattle.show.specs.Show.{show, text_of, Alike}
use Rattle.diagrams.proofs.AssignmentLaws.{number_fits, number-value}
use Rattle.diagrams.proofs.CanonLaws.{tree_one, node_canon}
use Rattle.show.proofs.ShowLaws.{show_injective}

-- equal texts: equal values under every assignment, whatever the words
pub same_text : (w w' : List ℕ) (n n' : ℕ) → text_of w n ≡ text_of w' n' → Alike w n w' n'
unfolding value
same_text w w' n n' e a h = ap (eval (bit_at a)) (show_injective (tree_of w n) (tree_of w' n') e)

module _ {w w' : List ℕ} {c c' : ℕ} (g : Standard w c) (g' : Standard w' c') (n n' : ℕ) (h : n < c) (h' : n' < c') where
  -- the 64-bit numbers are all the assignments that two conditions can tell apart
  alike_all : Alike w n w' n' → (φ : ℕ → Bool) → value w φ n ≡ value w' φ n'
  alike_all e φ =
      sym (number-value g φ n h) ∙ e (number_of φ 64) (number_fits 64 φ) ∙ number-value g' φ n' h'

  -- equal values under every assignment: equal texts
  pub text_same : Alike w n w' n' → text_of w n ≡ text_of w' n'
  text_same e = ap show (node_canon g g' n n' h h' (alike_all e))

  -- both ways
  pub text-exactly : (text_of w n ≡ text_of w' n') ↔ Alike w n w' n'
  text-exactly = (same_text w w' n n', text_same)

module _ {w : List ℕ} {c : ℕ} (g : Standard w c) where
  module _ (m n : ℕ) (h : m < c) (h' : n < c) where
    -- in one store, nodes with one text are one node
    pub node-same-text : (m ≡ n) ↔ (text_of w m ≡ text_of w n)
    node-same-text = (ap (text_of w), λ e. tree_one g m n h h' (show_injective (tree_of w m) (tree_of w n) e))

    -- and so are nodes that agree under every assignment
    pub one-node : (m ≡ n) ↔ Alike w m w n
    one-node = (λ e. same_text w w m n (ap (text_of w) e), λ e. node-same-text.1 (text_same g g m n h h' e))
