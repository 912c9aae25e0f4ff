-- What a node means: the tree that it unfolds to, and the tree's value under an assignment.
use Rattle.std.specs.Prelude.{Bool, true, false, cond, List, ℕ, zero, suc, eqb, ltb}
use Rattle.nodes.specs.Words.{var_at, low_at, high_at}

pub data Tree : Type 0 where
  leaf : Bool → Tree
  branch : ℕ → Tree → Tree → Tree

-- an assignment gives each variable its value
unfoldable pub eval : (ℕ → Bool) → Tree → Bool
eval φ (leaf b) = b
eval φ (branch v l h) = cond (φ v) (eval φ h) (eval φ l)

-- the tree below a node, in so many steps at most
unfoldable pub grow : List ℕ → ℕ → Bool → ℕ → Tree
grow w zero end n = leaf (eqb n 1)
grow w (suc k) true n = leaf (eqb n 1)
grow w (suc k) false n = branch (var_at w n) (grow w k (ltb (low_at w n) 2) (low_at w n)) (grow w k (ltb (high_at w n) 2) (high_at w n))

-- "Node 0 is false .., node 1 true"; from 2 up a node branches on its variable. Children are less than the node, so n steps are enough
unfoldable pub tree_of : List ℕ → ℕ → Tree
tree_of w n = grow w n (ltb n 2) n

-- a node's value under an assignment
unfoldable pub value : List ℕ → (ℕ → Bool) → ℕ → Bool
value w φ n = eval φ (tree_of w n)
