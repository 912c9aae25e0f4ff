-- What Any leaves and means, and its rule with no bound on the steps.
use Rattle.std.proofs.Math.Decide.{dec_lt}
use Rattle.std.proofs.Common.{◌≡◌, refl, sym, ◌∙◌, Bool, true, false, cond, ◌||◌, ⊎_elim, List, ℕ, zero, suc, ◌<◌, ◌≤◌, arith, lt-ltb, le-ltb, Option, Some, None}
use Rattle.nodes.specs.Words.{var_at, low_at, high_at}
use Rattle.nodes.specs.Standard.{Standard}
use Rattle.nodes.proofs.BoolLaws.{or_cases, or_left, or_right, iff-same}
use Rattle.nodes.proofs.GrowthLaws.{inner}
use Rattle.operations.specs.declared.Store.{Store}
use Rattle.operations.specs.Build.{Outcome, Build, pure, next}
use Rattle.operations.specs.Ite.{Or}
use Rattle.operations.specs.Any.{stop_of, any_by, any_up_to, Any}
use Rattle.diagrams.specs.Value.{value}
use Rattle.diagrams.specs.Assignment.{change, some}
use Rattle.operations.specs.Meaning.{Meaning, Stands, Builds}
use Rattle.diagrams.proofs.ValueLaws.{value-step}
use Rattle.diagrams.proofs.AssignmentLaws.{change-same, change_other, some_has, some_all}
use Rattle.diagrams.proofs.CanonLaws.{value-from, value-change}
use Rattle.operations.proofs.BuildLaws.{pure-builds, next-builds, keep, builds-same, stands-value, stands-full}
use Rattle.operations.proofs.IteLaws.{or-builds}

pub data Stop (full : Bool) (v f : ℕ) : Option ℕ → Type 0 where
  stop-full : full ≡ true → Stop full v f (Some 0)
  stop_user : full ≡ false → 8 ≤ v → Stop full v f (Some f)
  stop_not : full ≡ false → v < 8 → Stop full v f None

stop : (full : Bool) (v f : ℕ) → Stop full v f (stop_of full v f)
unfolding stop_of
stop true v f = stop-full refl
stop false v f = go (dec_lt v 8)
  where
    go : Dec (v < 8) → Stop false v f (stop_of false v f)
    go (yes p) = rw (lt-ltb v 8 p) (stop_not refl p)
    go (no q) = rw (le-ltb v 8 (omega arith)) (stop_user refl (omega arith))

-- equal meanings hold for some setting together
pub some_same : {m m' : Meaning} → (k : ℕ) (φ : ℕ → Bool) → ((ψ : ℕ → Bool) → m ψ ≡ m' ψ) → some k m φ ≡ some k m' φ
some_same {m} {m'} k φ e =
    iff-same _ _ (λ t. let h = some_has k m φ t in some_all k m' φ h.0 h.1 (sym (e h.0) ∙ h.2))
    (λ t. let h = some_has k m' φ t in some_all k m φ h.0 h.1 (e h.0 ∙ h.2))

-- a meaning that turns on no variable below k holds for some setting of them where it holds
pub some-none : (k : ℕ) (m : Meaning) (φ : ℕ → Bool) → ((ψ : ℕ → Bool) → ((v : ℕ) → k ≤ v → ψ v ≡ φ v) → m ψ ≡ m φ) → m φ ≡ some k m φ
some-none k m φ e = iff-same _ _ (λ t. some_all k m φ φ (λ v l. refl) t) (λ t. let h = some_has k m φ t in sym (e h.0 h.1) ∙ h.2)

-- a node on an index variable is true for some setting exactly where a child is
module _ {w : List ℕ} {c : ℕ} (g : Standard w c) (f : ℕ) (l : 2 ≤ f) (h : f < c) (index : var_at w f < 8) (φ : ℕ → Bool) where
  abbrev v : ℕ
  v = var_at w f

  -- a setting under which a child is true, with the node's variable set to the child's side
  low_side : (ψ : ℕ → Bool) → value w ψ (low_at w f) ≡ true → value w (change ψ v false) f ≡ true
  low_side ψ t =
      let o = g.shape f l h in
      value-step g (change ψ v false) f l h ∙ (rw (change-same ψ v false) (value-change g (low_at w f) v (omega (arith, o.below false)) (o.after false) ψ false ∙ t))

  high_side : (ψ : ℕ → Bool) → value w ψ (high_at w f) ≡ true → value w (change ψ v true) f ≡ true
  high_side ψ t =
      let o = g.shape f l h in
      value-step g (change ψ v true) f l h ∙ (rw (change-same ψ v true) (value-change g (high_at w f) v (omega (arith, o.below true)) (o.after true) ψ true ∙ t))

  moved : (ψ : ℕ → Bool) (b : Bool) → ((u : ℕ) → 8 ≤ u → ψ u ≡ φ u) → (u : ℕ) → 8 ≤ u → change ψ v b u ≡ φ u
  moved ψ b e u k = change_other ψ v b u (omega arith) ∙ e u k

  some_children : (some 8 (λ ψ. value w ψ (low_at w f)) φ || some 8 (λ ψ. value w ψ (high_at w f)) φ) ≡ some 8 (λ ψ. value w ψ f) φ
  some_children =
      iff-same _ _
      (λ t. ⊎_elim
      (λ p. let s = some_has 8 (λ ψ. value w ψ (low_at w f)) φ p in some_all 8 (λ ψ. value w ψ f) φ (change s.0 v false) (moved s.0 false s.1) (low_side s.0 s.2))
      (λ p. let s = some_has 8 (λ ψ. value w ψ (high_at w f)) φ p in some_all 8 (λ ψ. value w ψ f) φ (change s.0 v true) (moved s.0 true s.1) (high_side s.0 s.2))
      (or_cases _ _ t))
      (λ t. let s = some_has 8 (λ ψ. value w ψ f) φ t in side s.0 s.1 (s.0 v) (sym (value-step g s.0 f l h) ∙ s.2))
    where
      side : (ψ : ℕ → Bool) → ((u : ℕ) → 8 ≤ u → ψ u ≡ φ u) → (z : Bool) → cond z (value w ψ (high_at w f)) (value w ψ (low_at w f)) ≡ true
          → (some 8 (λ ψ. value w ψ (low_at w f)) φ || some 8 (λ ψ. value w ψ (high_at w f)) φ) ≡ true
      side ψ e true t = or_right (some 8 (λ ψ. value w ψ (low_at w f)) φ) _ (some_all 8 (λ ψ. value w ψ (high_at w f)) φ ψ e t)
      side ψ e false t = or_left _ (some 8 (λ ψ. value w ψ (high_at w f)) φ) (some_all 8 (λ ψ. value w ψ (low_at w f)) φ ψ e t)

-- what a function for the children does below t
Law : (ℕ → Build ℕ) → ℕ → Type 0
Law rec t = (w : List ℕ) (s : Store) (f u : ℕ) (p : Meaning) → f < t → Standard w s.count → Stands u p w s f → Builds w s (Stands 8 (some 8 p)) (rec f w s)

module _ (rec : ℕ → Build ℕ) (t : ℕ) (law : Law rec t) (w : List ℕ) (s : Store) (f u : ℕ) (p : Meaning) (less : f < suc t) (S : Standard w s.count) (F : Stands u p w s f) where
  children-builds : var_at w f < 8 → Builds w s (Stands 8 (some 8 p)) (any_by rec None f w s)
  unfolding any_by Law
  children-builds index =
      let l : 2 ≤ f = inner S f F.below (omega arith) in
      let o = S.shape f l F.below in
      let b0 : low_at w f < f = o.below false in
      let b1 : high_at w f < f = o.below true in
      let c = F.below in
      let X = law w s (low_at w f) 0 (λ ψ. value w ψ (low_at w f)) (omega arith) S (stands-value w s 0 (low_at w f) (omega arith) (omega arith)) in
      let H = stands-value w s 0 (high_at w f) (omega arith) (omega arith) in
      let Y = law _ _ (high_at w f) 0 (λ ψ. value w ψ (high_at w f)) (omega arith) X.standard (keep X S H) in
      builds-same (next-builds X _ (next-builds Y _ (or-builds Y.standard (keep Y X.standard X.post) Y.post)))
      (λ e φ. some_children S f l F.below index φ ∙ some_same 8 φ (F.is e))

  stop-builds : (d : Option ℕ) → Stop s.full (var_at w f) f d → Builds w s (Stands 8 (some 8 p)) (any_by rec d f w s)
  unfolding any_by
  stop-builds d (stop-full e) = pure-builds S (stands-full 8 S (omega arith) e)
  stop-builds d (stop_user e k) =
      pure-builds S
      (record {
        below = F.below;
        from = k;
        is = λ n φ. some-none 8 (λ ψ. value w ψ f) φ (λ ψ a. value-from S f 8 F.below k ψ φ a) ∙ some_same 8 φ (F.is n);
      })
  stop-builds d (stop_not e k) = children-builds k

up_to-builds : (t : ℕ) → Law (any_up_to t) t
unfolding any_up_to Law
up_to-builds zero w s f u p less S F = absurd (omega arith)
up_to-builds (suc t) w s f u p less S F = stop-builds (any_up_to t) t (up_to-builds t) w s f u p less S F (stop_of s.full (var_at w f) f) (stop s.full (var_at w f) f)

pub any-builds : {w : List ℕ} {s : Store} {u f : ℕ} {p : Meaning} → Standard w s.count → Stands u p w s f → Builds w s (Stands 8 (some 8 p)) (Any f w s)
unfolding Any Law
any-builds {w} {s} {u} {f} {p} S F = up_to-builds (suc f) w s f u p (omega arith) S F

-- Any of any node
pub below-builds : {w : List ℕ} (s : Store) {f : ℕ} → Standard w s.count → f < s.count → Builds w s (Stands 8 (some 8 (λ φ. value w φ f))) (Any f w s)
below-builds {w} s {f} S h = any-builds S (stands-value w s 0 f h (omega arith))

-- two functions for the children that agree below t give one answer
module _ (rec rec' : ℕ → Build ℕ) (t : ℕ) (law : Law rec t) (same : (w : List ℕ) (s : Store) (f : ℕ) → f < t → Standard w s.count → f < s.count → rec f w s ≡ rec' f w s)
    (w : List ℕ) (s : Store) (f : ℕ) (less : f < suc t) (S : Standard w s.count) (h : f < s.count) where
  children-same : var_at w f < 8 → any_by rec None f w s ≡ any_by rec' None f w s
  unfolding any_by Law next
  children-same index =
      let l : 2 ≤ f = inner S f h (omega arith) in
      let o = S.shape f l h in
      let b0 : low_at w f < f = o.below false in
      let b1 : high_at w f < f = o.below true in
      let x = rec (low_at w f) w s in
      let X = law w s (low_at w f) 0 (λ ψ. value w ψ (low_at w f)) (omega arith) S (stands-value w s 0 (low_at w f) (omega arith) (omega arith)) in
      let e : x ≡ rec' (low_at w f) w s = same w s (low_at w f) (omega arith) S (omega arith) in
      let d : rec (high_at w f) x.words x.store ≡ rec' (high_at w f) x.words x.store = same x.words x.store (high_at w f) (omega arith) X.standard (omega (arith, X.extends.more)) in
      rw (← e, ← d)

  stop-same : (d : Option ℕ) → Stop s.full (var_at w f) f d → any_by rec d f w s ≡ any_by rec' d f w s
  unfolding any_by
  stop-same d (stop-full e) = refl
  stop-same d (stop_user e k) = refl
  stop-same d (stop_not e k) = children-same k

up_to-same : (k k' : ℕ) (w : List ℕ) (s : Store) (f : ℕ) → f < k → k ≤ k' → Standard w s.count → f < s.count → any_up_to k f w s ≡ any_up_to k' f w s
unfolding any_up_to
up_to-same zero k' w s f l m S h = absurd (omega arith)
up_to-same (suc k) zero w s f l m S h = absurd (omega arith)
up_to-same (suc k) (suc k') w s f l m S h =
    stop-same (any_up_to k) (any_up_to k') k (up_to-builds k) (λ w s f l S h. up_to-same k k' w s f l (omega arith) S h) w s f l S h (stop_of s.full (var_at w f) f) (stop s.full (var_at w f) f)

-- Any by its rules
pub any_rule : (w : List ℕ) (s : Store) (f : ℕ) → Standard w s.count → f < s.count → Any f w s ≡ any_by Any (stop_of s.full (var_at w f) f) f w s
unfolding any_up_to Any
any_rule w s f S h =
    stop-same (any_up_to f) Any f (up_to-builds f) (λ w s f' l S h. sym (up_to-same (suc f') f w s f' (omega arith) l S h)) w s f (omega arith) S h (stop_of s.full (var_at w f) f)
    (stop s.full (var_at w f) f)

pub any-done : (w : List ℕ) (s : Store) (f v n : ℕ) → Standard w s.count → f < s.count → v ≡ var_at w f → stop_of s.full v f ≡ Some n → pure n w s ≡ Any f w s
unfolding any_by
any-done w s f v n S h k e = rw (any_rule w s f S h, ← k, e)

stop_index : {full : Bool} {v f : ℕ} {d : Option ℕ} → Stop full v f d → d ≡ None → v < 8
stop_index (stop-full e) k = let z : ◌≡◌ {A = ℕ} 0 1 = cc in omega arith
stop_index (stop_user e n) k = let z : ◌≡◌ {A = ℕ} 0 1 = cc in omega arith
stop_index (stop_not e n) k = n

-- the children, one call after the other
module _ (w : List ℕ) (s : Store) (f v lo hi : ℕ) (S : Standard w s.count) (h : f < s.count) (k : v ≡ var_at w f) (e : stop_of s.full v f ≡ None) (el : lo ≡ low_at w f) (eh : hi ≡ high_at w f) where
  pub children-below : (lo < f) × (hi < f)
  children-below =
      let n = stop_index (stop s.full v f) e in
      let o = S.shape f (inner S f h (omega arith)) h in
      (omega (arith, o.below false), omega (arith, o.below true))

  pub any_all : {x y z : Outcome ℕ} → x ≡ Any lo w s → y ≡ Any hi x.words x.store → z ≡ Or x.answer y.answer y.words y.store → z ≡ Any f w s
  unfolding any_by next
  any_all ex ey ez = rw (any_rule w s f S h, ← k, e, ← el, ← eh, ← ex, ← ey) ez
