-- The way down from a tree that is not false ends at true.
use mathlib.Core.Path.{◌≡◌, refl, sym, ◌∙◌, subst}
use mathlib.Core.Bool.{Bool, true, false, cond, true≢false}
use Prim.Native.Nat.{ℕ, suc, ◌<◌}
use native.Mathlib.Omega.{arith}
use Rattle.diagrams.specs.Value.{Tree, leaf, branch, eval}
use Rattle.diagrams.specs.Assignment.{change}
use Rattle.diagrams.specs.Witness.{is_false, path}
use Rattle.diagrams.proofs.AssignmentLaws.{change-same, change_other}
use Rattle.diagrams.proofs.CanonLaws.{Reduced, eval-change}

-- variables below a tree's own are 0
pub path-below : (t : Tree) (u : ℕ) → Reduced u t → (x : ℕ) → x < u → path t x ≡ false
unfolding path
path-below (leaf b) u r x l = refl
path-below (branch v t h) u r x l =
    side (is_false t) (change (path h) v true) (path t) (change_other (path h) v true x (omega (arith, r.0)) ∙ path-below h (suc v) r.2 x (omega (arith, r.0))) (path-below t (suc v) r.1 x (omega (arith, r.0)))
  where
    side : (b : Bool) (f g : ℕ → Bool) → f x ≡ false → g x ≡ false → cond b f g x ≡ false
    side true f g p q = p
    side false f g p q = q

false-leaf : (t : Tree) → is_false t ≡ true → t ≡ leaf false
unfolding is_false
false-leaf (leaf true) e = absurd (true≢false (sym e))
false-leaf (leaf false) e = refl
false-leaf (branch v l h) e = absurd (true≢false (sym e))

-- a tree that is not false holds there
pub path-holds : (t : Tree) (u : ℕ) → Reduced u t → is_false t ≡ false → eval (path t) t ≡ true
unfolding path eval is_false
path-holds (leaf true) u r e = refl
path-holds (leaf false) u r e = absurd (true≢false e)
path-holds (branch v l h) u r e = go (is_false l) refl (is_false h) refl (path-holds l (suc v) r.1) (path-holds h (suc v) r.2)
  where
    go : (b : Bool) → is_false l ≡ b → (d : Bool) → is_false h ≡ d → (is_false l ≡ false → eval (path l) l ≡ true) → (is_false h ≡ false → eval (path h) h ≡ true)
        → eval (path (branch v l h)) (branch v l h) ≡ true
    go true p true q il ih = absurd (r.3 (false-leaf l p ∙ sym (false-leaf h q)))
    go true p false q il ih =
        let e : path (branch v l h) ≡ change (path h) v true = rw p in
        subst (λ (φ : ℕ → Bool). eval φ (branch v l h) ≡ true) (sym e) (rw (change-same (path h) v true) (eval-change h v r.2 (path h) true ∙ ih q))
    go false p d q il ih =
        let e : path (branch v l h) ≡ path l = rw p in
        subst (λ (φ : ℕ → Bool). eval φ (branch v l h) ≡ true) (sym e) (rw (path-below l (suc v) r.1 v (omega arith)) (il p))
