-- Trees that are reduced and in order are equal if their values are; so nodes are, in one store and across stores.
use mathlib.Core.Path.{◌≡◌, refl, sym, ap, ◌∙◌}
use mathlib.Core.Bool.{Bool, true, false, true≢false}
use mathlib.Core.List.{List}
use Prim.Native.Nat.{ℕ, zero, suc, ◌<◌, ◌≤◌}
use native.Mathlib.Omega.{arith}
use native.Mathlib.Decide.{ℕ_discrete, dec_lt}
use lib.Dec.{eqb}
use borrow.Author.Tests.{eq-eqb, ne_eqb}
use Rattle.nodes.specs.Words.{var_at, low_at, high_at}
use Rattle.nodes.specs.Standard.{Standard}
use Rattle.diagrams.specs.Value.{Tree, leaf, branch, eval, tree_of, value}
use Rattle.diagrams.specs.Assignment.{change}
use Rattle.diagrams.proofs.AssignmentLaws.{change-same, change_other}
use Rattle.diagrams.proofs.ValueLaws.{tree_end, tree-node}

-- variables rise from u on, and no branch has two equal children
abbrev pub Reduced : ℕ → Tree → Type 0
Reduced u (leaf b) = Unit {0}
Reduced u (branch v l h) = (u ≤ v) × Reduced (suc v) l × Reduced (suc v) h × (l ≡ h → ⊥)

-- a tree's value turns on no variable below its own
pub eval_agree : (t : Tree) (u : ℕ) → Reduced u t → (a b : ℕ → Bool) → ((v : ℕ) → u ≤ v → a v ≡ b v) → eval a t ≡ eval b t
unfolding eval
eval_agree (leaf x) u r a b e = refl
eval_agree (branch v l h) u r a b e =
    rw (e v r.0, eval_agree h (suc v) r.2 a b (λ n k. e n (omega (arith, r.0))), eval_agree l (suc v) r.1 a b (λ n k. e n (omega (arith, r.0))))

abbrev Same : Tree → Tree → Type 0
Same s t = (a : ℕ → Bool) → eval a s ≡ eval a t

pub eval-change : (t : Tree) (v : ℕ) → Reduced (suc v) t → (a : ℕ → Bool) (b : Bool) → eval (change a v b) t ≡ eval a t
eval-change t v r a b = eval_agree t (suc v) r (change a v b) a (λ n k. change_other a v b n (omega arith))

-- a child's value is its parent's with the variable changed
low_at_lem : (v : ℕ) (l h : Tree) → Reduced (suc v) l → (a : ℕ → Bool) → eval a l ≡ eval (change a v false) (branch v l h)
unfolding eval
low_at_lem v l h r a = rw (change-same a v false) (sym (eval-change l v r a false))

high_at_lem : (v : ℕ) (l h : Tree) → Reduced (suc v) h → (a : ℕ → Bool) → eval a h ≡ eval (change a v true) (branch v l h)
unfolding eval
high_at_lem v l h r a = rw (change-same a v true) (sym (eval-change h v r a true))

module _ (v : ℕ) (l h t : Tree) (rl : Reduced (suc v) l) (rh : Reduced (suc v) h) (rt : Reduced (suc v) t) (e : Same (branch v l h) t) where
  low_same : Same l t
  low_same a = low_at_lem v l h rl a ∙ e (change a v false) ∙ eval-change t v rt a false

  high_same : Same h t
  high_same a = high_at_lem v l h rh a ∙ e (change a v true) ∙ eval-change t v rt a true

abbrev Canon : Tree → Type 0
Canon s = (t : Tree) (u : ℕ) → Reduced u s → Reduced u t → Same s t → s ≡ t

canon-leaf : (x : Bool) → Canon (leaf x)
unfolding eval
canon-leaf x (leaf y) u rs rt e = ap leaf (e (λ n. false))
canon-leaf x (branch v l h) u rs rt e =
    let p : leaf x ≡ l = canon-leaf x l (suc v) tt rt.1 (λ a. sym (low_same v l h (leaf x) rt.1 rt.2 tt (λ a. sym (e a)) a)) in
    let q : leaf x ≡ h = canon-leaf x h (suc v) tt rt.2 (λ a. sym (high_same v l h (leaf x) rt.1 rt.2 tt (λ a. sym (e a)) a)) in
    absurd (rt.3 (sym p ∙ q))

canon-branch : (v : ℕ) (l h : Tree) → Canon l → Canon h → Canon (branch v l h)
canon-branch v l h cl ch (leaf y) u rs rt e =
    absurd (rs.3 (cl (leaf y) (suc v) rs.1 tt (low_same v l h (leaf y) rs.1 rs.2 tt e) ∙ sym (ch (leaf y) (suc v) rs.2 tt (high_same v l h (leaf y) rs.1 rs.2 tt e))))
canon-branch v l h cl ch (branch v' l' h') u rs rt e = go (canon-branch v l h cl ch l') (canon-branch v l h cl ch h') (ℕ_discrete v v') (dec_lt v v')
  where
    go : ((u : ℕ) → Reduced u (branch v l h) → Reduced u l' → Same (branch v l h) l' → branch v l h ≡ l') → ((u : ℕ) → Reduced u (branch v l h) → Reduced u h' → Same (branch v l h) h' → branch v l h ≡ h')
        → Dec (v ≡ v') → Dec (v < v') → branch v l h ≡ branch v' l' h'
    go il ih (yes p) _ =
        let rl : Reduced (suc v) l' = rw p rt.1 in
        let rh : Reduced (suc v) h' = rw p rt.2 in
        let e' : Same (branch v l h) (branch v l' h') = rw (← p) at e in
        let el : l ≡ l' = cl l' (suc v) rs.1 rl (λ a. low_at_lem v l h rs.1 a ∙ e' (change a v false) ∙ sym (low_at_lem v l' h' rl a)) in
        let eh : h ≡ h' = ch h' (suc v) rs.2 rh (λ a. high_at_lem v l h rs.2 a ∙ e' (change a v true) ∙ sym (high_at_lem v l' h' rh a)) in
        cc
    go il ih (no n) (yes p) =
        let t = branch v' l' h' in
        let r : Reduced (suc v) t = (p, rt.1, rt.2, rt.3) in
        absurd (rs.3 (cl t (suc v) rs.1 r (low_same v l h t rs.1 rs.2 r e) ∙ sym (ch t (suc v) rs.2 r (high_same v l h t rs.1 rs.2 r e))))
    go il ih (no n) (no m) =
        let s = branch v l h in
        let r : Reduced (suc v') s = (omega arith, rs.1, rs.2, rs.3) in
        absurd (rt.3 (sym (il (suc v') r rt.1 (λ a. sym (low_same v' l' h' s rt.1 rt.2 r (λ a. sym (e a)) a))) ∙ ih (suc v') r rt.2 (λ a. sym (high_same v' l' h' s rt.1 rt.2 r (λ a. sym (e a)) a))))

pub canon : (s : Tree) → Canon s
canon (leaf x) = canon-leaf x
canon (branch v l h) = canon-branch v l h (canon l) (canon h)

pub end_same : (m n : ℕ) → m < 2 → n < 2 → eqb m 1 ≡ eqb n 1 → m ≡ n
end_same m n lm ln e = go (ℕ_discrete m 1) (ℕ_discrete n 1)
  where
    go : Dec (m ≡ 1) → Dec (n ≡ 1) → m ≡ n
    go (yes p) (yes q) = omega arith
    go (yes p) (no q) = let z : true ≡ false = sym (eq-eqb m 1 p) ∙ e ∙ ne_eqb n 1 q in absurd (true≢false z)
    go (no p) (yes q) = let z : true ≡ false = sym (eq-eqb n 1 q) ∙ sym e ∙ ne_eqb m 1 p in absurd (true≢false z)
    go (no p) (no q) = omega arith

module _ {w : List ℕ} {c : ℕ} (g : Standard w c) where
  -- two nodes with one tree are one
  one_up_to : (k m n : ℕ) → m < k → m < c → n < c → tree_of w m ≡ tree_of w n → m ≡ n
  one_up_to zero m n l hm hn e = absurd (omega arith)
  one_up_to (suc k) m n l hm hn e = go (dec_lt m 2) (dec_lt n 2) (one_up_to k)
    where
      go : Dec (m < 2) → Dec (n < 2) → ((m n : ℕ) → m < k → m < c → n < c → tree_of w m ≡ tree_of w n → m ≡ n) → m ≡ n
      go (yes p) (yes q) ih =
          let z : eqb m 1 ≡ eqb n 1 = cc (tree_end w m p, tree_end w n q) in
          end_same m n p q z
      go (yes p) (no q) ih = let z : ◌≡◌ {A = ℕ} 0 1 = cc (tree_end w m p, tree-node g n (omega arith) hn) in omega arith
      go (no p) (yes q) ih = let z : ◌≡◌ {A = ℕ} 0 1 = cc (tree_end w n q, tree-node g m (omega arith) hm) in omega arith
      go (no p) (no q) ih =
          let tm = tree-node g m (omega arith) hm in
          let tn = tree-node g n (omega arith) hn in
          let b0 : low_at w m < m = (g.shape m (omega arith) hm).below false in
          let b1 : high_at w m < m = (g.shape m (omega arith) hm).below true in
          let c0 : low_at w n < n = (g.shape n (omega arith) hn).below false in
          let c1 : high_at w n < n = (g.shape n (omega arith) hn).below true in
          let ev : var_at w m ≡ var_at w n = cc in
          let el : tree_of w (low_at w m) ≡ tree_of w (low_at w n) = cc in
          let eh : tree_of w (high_at w m) ≡ tree_of w (high_at w n) = cc in
          g.once m n (omega arith) hm (omega arith) hn ev (ih (low_at w m) (low_at w n) (omega arith) (omega arith) (omega arith) el) (ih (high_at w m) (high_at w n) (omega arith) (omega arith) (omega arith) eh)

  pub tree_one : (m n : ℕ) → m < c → n < c → tree_of w m ≡ tree_of w n → m ≡ n
  tree_one m n = one_up_to (suc m) m n (omega arith)

  -- a node's tree is reduced
  reduced_up_to : (k n u : ℕ) → n < k → n < c → u ≤ var_at w n → Reduced u (tree_of w n)
  reduced_up_to zero n u l h top = absurd (omega arith)
  reduced_up_to (suc k) n u l h top = go (dec_lt n 2) (reduced_up_to k)
    where
      go : Dec (n < 2) → ((n u : ℕ) → n < k → n < c → u ≤ var_at w n → Reduced u (tree_of w n)) → Reduced u (tree_of w n)
      go (yes p) ih = rw (tree_end w n p) tt
      go (no q) ih =
          let o = g.shape n (omega arith) h in
          let b0 : low_at w n < n = o.below false in
          let b1 : high_at w n < n = o.below true in
          rw (tree-node g n (omega arith) h) (
            top,
            ih (low_at w n) (suc (var_at w n)) (omega arith) (omega arith) (o.after false),
            ih (high_at w n) (suc (var_at w n)) (omega arith) (omega arith) (o.after true),
            λ e. o.apart (tree_one (low_at w n) (high_at w n) (omega arith) (omega arith) e),
          )

  pub tree_reduced : (n u : ℕ) → n < c → u ≤ var_at w n → Reduced u (tree_of w n)
  tree_reduced n u = reduced_up_to (suc n) n u (omega arith)

-- two nodes, of two stores, with equal values have equal trees
pub node_canon : {w w' : List ℕ} {c c' : ℕ} → Standard w c → Standard w' c' → (n n' : ℕ) → n < c → n' < c' → ((a : ℕ → Bool) → value w a n ≡ value w' a n') → tree_of w n ≡ tree_of w' n'
unfolding value
node_canon {w} {w'} g g' n n' h h' e = canon (tree_of w n) (tree_of w' n') 0 (tree_reduced g n 0 h (omega arith)) (tree_reduced g' n' 0 h' (omega arith)) e

-- and of one store are one node
pub node-same : {w : List ℕ} {c : ℕ} → Standard w c → (m n : ℕ) → m < c → n < c → ((a : ℕ → Bool) → value w a m ≡ value w a n) → m ≡ n
node-same g m n hm hn e = tree_one g m n hm hn (node_canon g g m n hm hn e)

-- a node's value turns on no variable below its own
pub value-from : {w : List ℕ} {c : ℕ} → Standard w c → (n u : ℕ) → n < c → u ≤ var_at w n → (a b : ℕ → Bool) → ((v : ℕ) → u ≤ v → a v ≡ b v) → value w a n ≡ value w b n
unfolding value
value-from {w} g n u h top a b e = eval_agree (tree_of w n) u (tree_reduced g n u h top) a b e

pub value-change : {w : List ℕ} {c : ℕ} → Standard w c → (n v : ℕ) → n < c → v < var_at w n → (a : ℕ → Bool) (x : Bool) → value w (change a v x) n ≡ value w a n
value-change g n v h top a x = value-from g n (suc v) h top (change a v x) a (λ m k. change_other a v x m (omega arith))
