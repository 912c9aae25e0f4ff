-- What Ite leaves and means, and its rule with no bound on the steps.
use Rattle.std.proofs.Common.{◌≡◌, refl, sym, ap, ◌∙◌, Bool, true, false, cond, not, ◌&&◌, ◌||◌, List, ℕ, zero, suc, ◌+◌, ◌<◌, ◌≤◌, arith, Option, Some, None}
use Rattle.nodes.specs.Words.{var_at}
use Rattle.nodes.specs.Standard.{Standard}
use Rattle.operations.specs.declared.Store.{Store}
use Rattle.diagrams.specs.declared.Parts.{Parts}
use Rattle.operations.specs.Build.{Outcome, Build, pure, next}
use Rattle.operations.specs.Make.{Make}
use Rattle.operations.specs.Ite.{plain_of, least_of, part_of, parts_of, ite_by, ite_up_to, Ite, Not, And, Or}
use Rattle.diagrams.specs.Value.{value}
use Rattle.operations.specs.Meaning.{Meaning, Stands, Builds}
use Rattle.diagrams.proofs.ValueLaws.{value_0, value_1}
use Rattle.operations.proofs.BuildLaws.{pure-builds, next-builds, keep, builds_weaker, stands_same, stands_from, builds-same, stands-value, stands_0, stands_1, stands-full, from-most}
use Rattle.operations.proofs.MakeLaws.{cond_both, make-builds}
use Rattle.diagrams.proofs.PartsLaws.{Ready, part-value, least-small, parts_fall, parts-ready}
use Rattle.operations.proofs.RuleLaws.{Rule, at-full, at_one, at_zero, at_same, at_self, at_parts, rule, part_stands}

-- the meaning of Ite, by the values of its nodes
abbrev pub Chosen : List ℕ → ℕ → ℕ → ℕ → Meaning
Chosen w f g h φ = cond (value w φ f) (value w φ g) (value w φ h)

cond_self : (b : Bool) → b ≡ cond b true false
cond_self true = refl
cond_self false = refl

-- by the parts on the side that the assignment takes
module _ {w : List ℕ} {c : ℕ} (f g h : ℕ) (r : Ready w c f g h) (p : f ≡ 1 → ⊥) (q : f ≡ 0 → ⊥) (φ : ℕ → Bool) where
  part_side : (b : Bool) (n : ℕ) → φ (least_of w f g h) ≡ b → n < c → least_of w f g h ≤ var_at w n → value w φ (part_of b w (least_of w f g h) n) ≡ value w φ n
  part_side b n e l top = rw e at (part-value r.standard (least_of w f g h) n l (least-small f g h r p q) top φ)

  side : (b : Bool) → φ (least_of w f g h) ≡ b
      → Chosen w (part_of b w (least_of w f g h) f) (part_of b w (least_of w f g h) g) (part_of b w (least_of w f g h) h) φ ≡ Chosen w f g h φ
  side b e = rw (part_side b f e r.first (omega arith), part_side b g e r.second (omega arith), part_side b h e r.third (omega arith))

  sides : (b : Bool) → φ (least_of w f g h) ≡ b
      → cond b (Chosen w (part_of true w (least_of w f g h) f) (part_of true w (least_of w f g h) g) (part_of true w (least_of w f g h) h) φ)
      (Chosen w (part_of false w (least_of w f g h) f) (part_of false w (least_of w f g h) g) (part_of false w (least_of w f g h) h) φ)
      ≡ Chosen w f g h φ
  sides true e = side true e
  sides false e = side false e

-- what a function for the parts does where the three numbers add up to less than t
Law : (ℕ → ℕ → ℕ → Build ℕ) → ℕ → Type 0
Law rec t =
    (w : List ℕ) (s : Store) (f g h u : ℕ) (p q r : Meaning) → f + g + h < t → Standard w s.count → Stands u p w s f → Stands u q w s g → Stands u r w s h
    → Builds w s (Stands u (λ φ. cond (p φ) (q φ) (r φ))) (rec f g h w s)

module _ (rec : ℕ → ℕ → ℕ → Build ℕ) (t : ℕ) (law : Law rec t) (w : List ℕ) (s : Store) (f g h u : ℕ) (p q r : Meaning) (less : f + g + h < suc t)
    (S : Standard w s.count) (F : Stands u p w s f) (G : Stands u q w s g) (H : Stands u r w s h) where
  split-builds : (f ≡ 1 → ⊥) → (f ≡ 0 → ⊥) → Builds w s (Stands u (λ φ. cond (p φ) (q φ) (r φ))) (ite_by rec None f g h w s)
  unfolding ite_by Law
  split-builds n1 n0 =
      let R : Ready w s.count f g h = record { standard = S; first = F.below; second = G.below; third = H.below } in
      let v = least_of w f g h in
      let small = least-small f g h R n1 n0 in
      let F0 = part_stands S v f F.below small (omega arith) false in
      let G0 = part_stands S v g G.below small (omega arith) false in
      let H0 = part_stands S v h H.below small (omega arith) false in
      let F1 = part_stands S v f F.below small (omega arith) true in
      let G1 = part_stands S v g G.below small (omega arith) true in
      let H1 = part_stands S v h H.below small (omega arith) true in
      let X = law w s _ _ _ (suc v) _ _ _ (omega (arith, parts_fall f g h R n1 n0 false)) S F0 G0 H0 in
      let Y = law _ _ _ _ _ (suc v) _ _ _ (omega (arith, parts_fall f g h R n1 n0 true)) X.standard (keep X S F1) (keep X S G1) (keep X S H1) in
      let Z = make-builds Y.standard small (keep Y X.standard X.post) Y.post in
      builds-same (next-builds X _ (next-builds Y _ (builds_weaker Z (stands_from (omega (arith, F.from, G.from, H.from))))))
      (λ e φ. sides f g h R n1 n0 φ (φ v) refl ∙ (rw (F.is e φ, G.is e φ, H.is e φ)))

  rule-builds : (d : Option ℕ) → Rule s.full f g h d → Builds w s (Stands u (λ φ. cond (p φ) (q φ) (r φ))) (ite_by rec d f g h w s)
  unfolding ite_by
  rule-builds d (at-full e) = pure-builds S (stands-full u S (from-most S F) e)
  rule-builds d (at_one e o) = pure-builds S (stands_same G (λ f φ. let t : p φ ≡ true = sym (F.is f φ) ∙ (rw o (value_1 w φ)) in rw t))
  rule-builds d (at_zero e o) = pure-builds S (stands_same H (λ f φ. let t : p φ ≡ false = sym (F.is f φ) ∙ (rw o (value_0 w φ)) in rw t))
  rule-builds d (at_same e o) = pure-builds S (stands_same G (λ f φ. cond_both (p φ) refl (sym (G.is f φ) ∙ ap (value w φ) o ∙ H.is f φ)))
  rule-builds d (at_self e o z) =
      pure-builds S
      (stands_same F
      (λ f φ.
      let a : q φ ≡ true = sym (G.is f φ) ∙ (rw o (value_1 w φ)) in
      let b : r φ ≡ false = sym (H.is f φ) ∙ (rw z (value_0 w φ)) in
      rw (a, b) (cond_self (p φ))))
  rule-builds d (at_parts e n1 n0 n) = split-builds n1 n0

up_to-builds : (t : ℕ) → Law (ite_up_to t) t
unfolding ite_up_to Law
up_to-builds zero w s f g h u p q r less S F G H = absurd (omega arith)
up_to-builds (suc t) w s f g h u p q r less S F G H = rule-builds (ite_up_to t) t (up_to-builds t) w s f g h u p q r less S F G H (plain_of s.full f g h) (rule s.full f g h)

cond_not : (b : Bool) → cond b false true ≡ not b
cond_not true = refl
cond_not false = refl

cond_and : (b x : Bool) → cond b x false ≡ (b && x)
cond_and true x = refl
cond_and false x = refl

cond_or : (b x : Bool) → cond b true x ≡ (b || x)
cond_or true x = refl
cond_or false x = refl

module _ {w : List ℕ} {s : Store} {u : ℕ} (S : Standard w s.count) where
  pub ite-builds : {f g h : ℕ} {p q r : Meaning} → Stands u p w s f → Stands u q w s g → Stands u r w s h → Builds w s (Stands u (λ φ. cond (p φ) (q φ) (r φ))) (Ite f g h w s)
  unfolding Ite Law
  ite-builds {f} {g} {h} F G H = up_to-builds (suc (f + g + h)) w s f g h u _ _ _ (omega arith) S F G H

  pub not-builds : {f : ℕ} {p : Meaning} → Stands u p w s f → Builds w s (Stands u (λ φ. not (p φ))) (Not f w s)
  not-builds {p = p} F = builds-same (ite-builds F (stands_0 u S (from-most S F)) (stands_1 u S (from-most S F))) (λ e φ. cond_not (p φ))

  pub and-builds : {f g : ℕ} {p q : Meaning} → Stands u p w s f → Stands u q w s g → Builds w s (Stands u (λ φ. p φ && q φ)) (And f g w s)
  and-builds {p = p} {q = q} F G = builds-same (ite-builds F G (stands_0 u S (from-most S F))) (λ e φ. cond_and (p φ) (q φ))

  pub or-builds : {f g : ℕ} {p q : Meaning} → Stands u p w s f → Stands u q w s g → Builds w s (Stands u (λ φ. p φ || q φ)) (Or f g w s)
  or-builds {p = p} {q = q} F G = builds-same (ite-builds F (stands_1 u S (from-most S F)) G) (λ e φ. cond_or (p φ) (q φ))

-- Ite of any three nodes
pub ready-builds : {w : List ℕ} {s : Store} {f g h : ℕ} → Ready w s.count f g h → Builds w s (Stands 0 (Chosen w f g h)) (Ite f g h w s)
ready-builds {w} {s} {f} {g} {h} R =
    ite-builds R.standard (stands-value w s 0 f R.first (omega arith)) (stands-value w s 0 g R.second (omega arith)) (stands-value w s 0 h R.third (omega arith))

pub ite_bounds : {w : List ℕ} (s : Store) {f g h : ℕ} {x : Outcome ℕ} → Ready w s.count f g h → x ≡ Ite f g h w s → (x.answer < x.store.count) × (x.store.count ≤ 16384)
ite_bounds s r e = let X = ready-builds {s = s} r in rw e (X.post.below, X.standard.most)

pub ready_later : {A : Type 0} {w : List ℕ} {s : Store} {P : List ℕ → Store → A → Type 0} {x : Outcome A} {f g h : ℕ} → Builds w s P x → Ready w s.count f g h → Ready x.words x.store.count f g h
ready_later X r = record {
  standard = X.standard;
  first = omega (arith, r.first, X.extends.more);
  second = omega (arith, r.second, X.extends.more);
  third = omega (arith, r.third, X.extends.more);
}

-- two functions for the parts that agree below t give one answer
module _ (rec rec' : ℕ → ℕ → ℕ → Build ℕ) (t : ℕ) (law : Law rec t) (same : (w : List ℕ) (s : Store) (f g h : ℕ) → f + g + h < t → Ready w s.count f g h → rec f g h w s ≡ rec' f g h w s)
    (w : List ℕ) (s : Store) (f g h : ℕ) (less : f + g + h < suc t) (r : Ready w s.count f g h) where
  split-same : (f ≡ 1 → ⊥) → (f ≡ 0 → ⊥) → ite_by rec None f g h w s ≡ ite_by rec' None f g h w s
  unfolding ite_by Law next
  split-same n1 n0 =
      let d = parts_of w f g h in
      let r0 = parts-ready f g h r n1 n0 false in
      let r1 = parts-ready f g h r n1 n0 true in
      let x = rec d.f0 d.g0 d.h0 w s in
      let X : Builds w s (Stands 0 (Chosen w d.f0 d.g0 d.h0)) x =
      law w s d.f0 d.g0 d.h0 0 _ _ _ (omega (arith, parts_fall f g h r n1 n0 false)) r.standard (stands-value w s 0 d.f0 r0.first (omega arith)) (stands-value w s 0 d.g0 r0.second (omega arith))
      (stands-value w s 0 d.h0 r0.third (omega arith)) in
      let e : x ≡ rec' d.f0 d.g0 d.h0 w s = same w s d.f0 d.g0 d.h0 (omega (arith, parts_fall f g h r n1 n0 false)) r0 in
      let d' : rec d.f1 d.g1 d.h1 x.words x.store ≡ rec' d.f1 d.g1 d.h1 x.words x.store = same x.words x.store d.f1 d.g1 d.h1 (omega (arith, parts_fall f g h r n1 n0 true)) (ready_later X r1) in
      rw (← e, ← d')

  rule-same : (d : Option ℕ) → Rule s.full f g h d → ite_by rec d f g h w s ≡ ite_by rec' d f g h w s
  unfolding ite_by
  rule-same d (at-full e) = refl
  rule-same d (at_one e o) = refl
  rule-same d (at_zero e o) = refl
  rule-same d (at_same e o) = refl
  rule-same d (at_self e o z) = refl
  rule-same d (at_parts e n1 n0 n) = split-same n1 n0

up_to-same : (k k' : ℕ) (w : List ℕ) (s : Store) (f g h : ℕ) → f + g + h < k → k ≤ k' → Ready w s.count f g h → ite_up_to k f g h w s ≡ ite_up_to k' f g h w s
unfolding ite_up_to
up_to-same zero k' w s f g h l m r = absurd (omega arith)
up_to-same (suc k) zero w s f g h l m r = absurd (omega arith)
up_to-same (suc k) (suc k') w s f g h l m r =
    rule-same (ite_up_to k) (ite_up_to k') k (up_to-builds k) (λ w s f g h l r. up_to-same k k' w s f g h l (omega arith) r) w s f g h l r (plain_of s.full f g h) (rule s.full f g h)

-- Ite by its rules
pub ite_rule : (w : List ℕ) (s : Store) (f g h : ℕ) → Ready w s.count f g h → Ite f g h w s ≡ ite_by Ite (plain_of s.full f g h) f g h w s
unfolding ite_up_to Ite
ite_rule w s f g h r =
    rule-same (ite_up_to (f + g + h)) Ite (f + g + h) (up_to-builds (f + g + h)) (λ w s f' g' h' l r. sym (up_to-same (suc (f' + g' + h')) (f + g + h) w s f' g' h' (omega arith) l r))
    w s f g h (omega arith) r (plain_of s.full f g h) (rule s.full f g h)

-- where a rule that builds nothing fits
pub ite-done : (w : List ℕ) (s : Store) (f g h n : ℕ) → Ready w s.count f g h → plain_of s.full f g h ≡ Some n → pure n w s ≡ Ite f g h w s
unfolding ite_by
ite-done w s f g h n r e = rw (ite_rule w s f g h r, e)

-- what is known where Ite goes by the parts
pub record Splits (full : Bool) (f : ℕ) : Type 0 where
  pub free : full ≡ false
  pub not1 : f ≡ 1 → ⊥
  pub not0 : f ≡ 0 → ⊥

splits_rule : {full : Bool} {f g h : ℕ} {d : Option ℕ} → Rule full f g h d → d ≡ None → Splits full f
splits_rule (at-full e) k = let z : ◌≡◌ {A = ℕ} 0 1 = cc in absurd (omega arith)
splits_rule (at_one e o) k = let z : ◌≡◌ {A = ℕ} 0 1 = cc in absurd (omega arith)
splits_rule (at_zero e o) k = let z : ◌≡◌ {A = ℕ} 0 1 = cc in absurd (omega arith)
splits_rule (at_same e o) k = let z : ◌≡◌ {A = ℕ} 0 1 = cc in absurd (omega arith)
splits_rule (at_self e o z) k = let z : ◌≡◌ {A = ℕ} 0 1 = cc in absurd (omega arith)
splits_rule (at_parts e n1 n0 n) k = record { free = e; not1 = n1; not0 = n0 }

pub splits : (full : Bool) (f g h : ℕ) → plain_of full f g h ≡ None → Splits full f
splits full f g h e = splits_rule (rule full f g h) e

-- the parts, one call after the other
module _ (w : List ℕ) (s : Store) (f g h : ℕ) (d : Parts) (r : Ready w s.count f g h) (e : plain_of s.full f g h ≡ None) (ed : d ≡ parts_of w f g h) where
  n : Splits s.full f
  n = splits s.full f g h e

  pub split_var : d.v < 64
  split_var = rw ed (least-small f g h r n.not1 n.not0)

  pub split_low : (d.f0 + d.g0 + d.h0 < f + g + h) × Ready w s.count d.f0 d.g0 d.h0
  split_low = rw ed (parts_fall f g h r n.not1 n.not0 false, parts-ready f g h r n.not1 n.not0 false)

  pub split-high : (d.f1 + d.g1 + d.h1 < f + g + h) × Ready w s.count d.f1 d.g1 d.h1
  split-high = rw ed (parts_fall f g h r n.not1 n.not0 true, parts-ready f g h r n.not1 n.not0 true)

  part_floor : (b : Bool) (n' : ℕ) → n' < s.count → least_of w f g h ≤ var_at w n' → Stands (suc (least_of w f g h)) (λ φ. value w φ (part_of b w (least_of w f g h) n')) w s (part_of b w (least_of w f g h) n')
  part_floor b n' l top = part_stands r.standard (least_of w f g h) n' l (least-small f g h r n.not1 n.not0) top b

  module _ {x y : Outcome ℕ} (ex : x ≡ Ite d.f0 d.g0 d.h0 w s) (ey : y ≡ Ite d.f1 d.g1 d.h1 x.words x.store) where
    -- what the two calls left, and the two answers in it, on variables above d's
    pub split_left : Standard y.words y.store.count × Stands (suc d.v) (Chosen w d.f0 d.g0 d.h0) y.words y.store x.answer × Stands (suc d.v) (Chosen w d.f1 d.g1 d.h1) y.words y.store y.answer
    split_left =
        let v = least_of w f g h in
        let S = r.standard in
        let ex' : x ≡ Ite (part_of false w v f) (part_of false w v g) (part_of false w v h) w s = rw ed at ex in
        let ey' : y ≡ Ite (part_of true w v f) (part_of true w v g) (part_of true w v h) x.words x.store = rw ed at ey in
        let X : Builds w s (Stands (suc v) (Chosen w (part_of false w v f) (part_of false w v g) (part_of false w v h))) x =
        rw ex' (ite-builds S (part_floor false f r.first (omega arith)) (part_floor false g r.second (omega arith)) (part_floor false h r.third (omega arith))) in
        let Y : Builds x.words x.store (Stands (suc v) (Chosen w (part_of true w v f) (part_of true w v g) (part_of true w v h))) y =
        rw ey' (ite-builds X.standard (keep X S (part_floor true f r.first (omega arith))) (keep X S (part_floor true g r.second (omega arith))) (keep X S (part_floor true h r.third (omega arith)))) in
        rw ed (Y.standard, keep Y X.standard X.post, Y.post)

    -- Make at the end of Ite, over what the two calls left
    pub split-make : Builds y.words y.store (Stands d.v (λ φ. cond (φ d.v) (Chosen w d.f1 d.g1 d.h1 φ) (Chosen w d.f0 d.g0 d.h0 φ))) (Make d.v x.answer y.answer y.words y.store)
    split-make = make-builds split_left.0 split_var split_left.1 split_left.2

    pub split_all : {z : Outcome ℕ} → z ≡ Make d.v x.answer y.answer y.words y.store → z ≡ Ite f g h w s
    unfolding ite_by next
    split_all ez =
        let ex' = rw ed at ex in
        let ey' = rw ed at ey in
        let ez' = rw ed at ez in
        rw (ite_rule w s f g h r, e, ← ex', ← ey') ez'
