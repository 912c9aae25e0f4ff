-- An assert that adds no entry is kept, so one that is not kept adds one.
use mathlib.Core.Path.{◌≡◌, refl, sym, ◌∙◌, subst}
use mathlib.Core.Bool.{Bool, true, false, ◌&&◌, true≢false}
use mathlib.Core.List.{List}
use Prim.Native.Nat.{ℕ, zero, suc, ◌<◌}
use native.Mathlib.Omega.{arith}
use lib.Dec.{T}
use Rattle.semantics.specs.declared.Sizes.{Sizes}
use Rattle.semantics.specs.Sizes.{cell_bits}
use Rattle.semantics.specs.Pairs.{Pair, at, admit}
use Rattle.semantics.specs.Published.{Entry, look, inside, keeps}
use Rattle.semantics.specs.Array.{asserts}
use Rattle.semantics.specs.Count.{same_pair, differs, adds_at}
use Rattle.semantics.proofs.PairLaws.{and_both, not_or, T→eq, eq→T, inside-from}
use Rattle.semantics.proofs.CountLaws.{same_pair_lem}

and_eq : {a b : Bool} → a ≡ true → b ≡ true → (a && b) ≡ true
and_eq {a} {b} p q = T→eq (a && b) (and_both a b (eq→T p) (eq→T q))

same_word : (w : ℕ) (d r : ℕ → Pair) → differs w d r ≡ false → (i : ℕ) → i < w → d i ≡ r i
same_word zero d r e i l = absurd (omega arith)
same_word (suc k) d r e zero l = same_pair_lem (d 0) (r 0) (not_or (same_pair (d 0) (r 0)) _ e).0
same_word (suc k) d r e (suc i) l = same_word k (λ i. d (suc i)) (λ i. r (suc i)) (not_or (same_pair (d 0) (r 0)) _ e).1 i (omega arith)

none_kept : (z : Sizes) (es : List Entry) (b : Bool) (a d : List Pair) → adds_at z es (asserts b a d) 0 ≡ false → keeps z es b a d ≡ true
none_kept z es false a d e = refl
none_kept z es true a d e =
    let same = same_word (cell_bits z) (at d) (look z.n es a) e in
    and_eq (T→eq (inside (cell_bits z) (at d) (look z.n es a)) (inside-from (cell_bits z) (at d) (look z.n es a) (λ i l b t. subst (λ (p : Pair). T (admit p b)) (same i l) t)))
    (T→eq (inside (cell_bits z) (look z.n es a) (at d)) (inside-from (cell_bits z) (look z.n es a) (at d) (λ i l b t. subst (λ (p : Pair). T (admit p b)) (sym (same i l)) t)))

pub not-kept-adds : (z : Sizes) (es : List Entry) (b : Bool) (a d : List Pair) → keeps z es b a d ≡ false → adds_at z es (asserts b a d) 0 ≡ true
not-kept-adds z es b a d k = go (adds_at z es (asserts b a d) 0) refl
  where
    go : (t : Bool) → adds_at z es (asserts b a d) 0 ≡ t → t ≡ true
    go true e = refl
    go false e = absurd (true≢false (sym (none_kept z es b a d e) ∙ k))
