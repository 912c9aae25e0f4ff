-- A condition's text tells its tree, and how it is put together.
use Rattle.std.proofs.Common.{◌≡◌, refl, ap, true, false, List, [], ◌∷◌, ◌++◌, append_assoc, ℕ, zero, suc, ◌+◌, ◌<◌, ◌≤◌, arith}
use Rattle.text.specs.Decimal.{decimal}
use Rattle.text.proofs.ByteLaws.{heads, tails}
use Rattle.text.proofs.DecimalLaws.{decimal-then}
use Rattle.nodes.specs.Words.{var_at, low_at, high_at}
use Rattle.nodes.specs.Standard.{Standard}
use Rattle.diagrams.specs.Value.{Tree, leaf, branch, tree_of}
use Rattle.show.specs.Show.{show, text_of}
use Rattle.diagrams.proofs.ValueLaws.{tree_end, tree-node}

-- a text that begins with a tree's tells the tree, and what follows
show-first : (a b : Tree) (r s : List ℕ) → show a ++ r ≡ show b ++ s → (a ≡ b) × (r ≡ s)
unfolding show
show-first (leaf true) (leaf true) r s e = (refl, tails e)
show-first (leaf false) (leaf false) r s e = (refl, tails e)
show-first (leaf true) (leaf false) r s e = absurd (omega (arith, heads e))
show-first (leaf false) (leaf true) r s e = absurd (omega (arith, heads e))
show-first (leaf true) (branch v l h) r s e = absurd (omega (arith, heads e))
show-first (leaf false) (branch v l h) r s e = absurd (omega (arith, heads e))
show-first (branch v l h) (leaf true) r s e = absurd (omega (arith, heads e))
show-first (branch v l h) (leaf false) r s e = absurd (omega (arith, heads e))
show-first (branch v l h) (branch v' l' h') r s e =
    let d = decimal-then v v' 32 32 _ _ (omega arith) (omega arith) (tails (simp append_assoc at e)) in
    let p = show-first l l' _ _ d.2 in
    let q = show-first h h' _ _ (tails p.1) in
    let ev = d.0 in
    let el = p.0 in
    let eh = q.0 in
    (cc, tails q.1)

-- so a text that begins with a condition's tells the condition's text, and what follows
pub text-first : (w w' : List ℕ) (n n' : ℕ) (r s : List ℕ) → text_of w n ++ r ≡ text_of w' n' ++ s → (text_of w n ≡ text_of w' n') × (r ≡ s)
text-first w w' n n' r s e =
    let p = show-first (tree_of w n) (tree_of w' n') r s e in
    (ap show p.0, p.1)

pub show_injective : (a b : Tree) → show a ≡ show b → a ≡ b
show_injective a b e = (show-first a b [] [] (ap (λ (l : List ℕ). l ++ []) e)).0

-- a terminal's text is one digit
pub text_end : (w : List ℕ) (n : ℕ) → n < 2 → text_of w n ≡ (48 + n) ∷ []
unfolding show
text_end w zero h = rw (tree_end w 0 h)
text_end w (suc zero) h = rw (tree_end w 1 h)
text_end w (suc (suc n)) h = absurd (omega arith)

-- the text of a node from 2 up, by what was read of its words
pub node-text : {w : List ℕ} {c : ℕ} → Standard w c → (n : ℕ) → 2 ≤ n → n < c → {v low high : ℕ} → v ≡ var_at w n → low ≡ low_at w n → high ≡ high_at w n
    → text_of w n ≡ 40 ∷ decimal v ++ 32 ∷ text_of w low ++ 32 ∷ text_of w high ++ 41 ∷ []
unfolding show
node-text g n l h ev el eh = rw (tree-node g n l h, ev, el, eh) refl

-- the children of a node from 2 up are below it
pub low_below : {w : List ℕ} {c : ℕ} (n : ℕ) → Standard w c → 2 ≤ n → n < c → low_at w n < n
low_below n g l h = (g.shape n l h).below false

pub high_below : {w : List ℕ} {c : ℕ} (n : ℕ) → Standard w c → 2 ≤ n → n < c → high_at w n < n
high_below n g l h = (g.shape n l h).below true
