-- An operation done again, in the store that it left or one grown out of that, builds nothing and answers the same node.
use Rattle.std.proofs.Math.Decide.{dec_lt, ℕ_discrete}
use Rattle.std.proofs.Common.{◌≡◌, refl, sym, ap, ◌∙◌, Bool, true, false, true≢false, List, ℕ, zero, suc, ◌+◌, ◌<◌, ◌≤◌, arith, Option, Some, None}
use Rattle.nodes.specs.Words.{capacity_of}
use Rattle.nodes.specs.Standard.{Standard, lowest}
use Rattle.nodes.specs.Extends.{Agree, Extends}
use Rattle.nodes.proofs.WordsLaws.{Has, node_has}
use Rattle.nodes.proofs.ExtendsLaws.{extends_trans, agree_var, agree_low, agree-high, agree_child}
use Rattle.operations.specs.declared.Store.{Store}
use Rattle.operations.specs.Build.{Outcome, pure}
use Rattle.operations.specs.Make.{Make}
use Rattle.operations.specs.Ite.{plain_of, least_of, part_of, parts_of, Ite}
use Rattle.operations.proofs.BuildLaws.{was_free}
use Rattle.operations.proofs.MakeLaws.{make-full, make_same, make_old, make_new, make-none}
use Rattle.search.proofs.LowestLaws.{lowest_has, lowest_is}
use Rattle.diagrams.proofs.PartsLaws.{Ready}
use Rattle.operations.proofs.IteLaws.{ready-builds, ready_later, ite-done, split_var, split_low, split-high, split-make, split_all}

-- a store that grew out of what an operation left, and is not full
pub record Later (x : Outcome ℕ) (w : List ℕ) (s : Store) : Type 0 where
  pub standard : Standard w s.count
  pub extends : Extends x.words x.store.count w s.count
  pub free : s.full ≡ false

-- what Make answers: a child that both are, or a node with these words
data Answer (v lo hi : ℕ) (x : Outcome ℕ) : Type 0 where
  child : lo ≡ hi → x.answer ≡ lo → Answer v lo hi x
  node : (lo ≡ hi → ⊥) → x.answer < x.store.count → Has x.words v lo hi x.answer → Answer v lo hi x

module _ (w : List ℕ) (s : Store) (v lo hi : ℕ) where
  make-answer : (Make v lo hi w s).store.full ≡ false → Answer v lo hi (Make v lo hi w s)
  make-answer n = full s.full refl
    where
      placed : s.full ≡ false → (lo ≡ hi → ⊥) → Dec (lowest w s.count v lo hi < s.count) → Dec (s.count < capacity_of w) → Answer v lo hi (Make v lo hi w s)
      placed f ne (yes p) _ = rw (make_old w s v lo hi f ne refl p) (node ne p (lowest_has w s.count v lo hi p))
      placed f ne (no q) (yes r) = rw (make_new w s v lo hi f ne refl (omega arith) r) (node ne (omega arith) (node_has w s.count v lo hi (omega arith)))
      placed f ne (no q) (no r) =
          let e : true ≡ false = rw (make-none w s v lo hi f ne refl (omega arith) (omega arith)) at n in
          absurd (true≢false e)

      same : s.full ≡ false → Dec (lo ≡ hi) → Answer v lo hi (Make v lo hi w s)
      same f (yes e) = rw (make_same w s v lo hi f e) (child e refl)
      same f (no ne) = placed f ne (dec_lt _ _) (dec_lt _ _)

      full : (b : Bool) → s.full ≡ b → Answer v lo hi (Make v lo hi w s)
      full true f = let e : s.full ≡ false = rw (make-full w s v lo hi f) at n in absurd (true≢false (sym f ∙ e))
      full false f = same f (ℕ_discrete lo hi)

answer-again : {v lo hi : ℕ} {x : Outcome ℕ} {w : List ℕ} {s : Store} → v < 64 → Answer v lo hi x → Later x w s → Make v lo hi w s ≡ pure x.answer w s
answer-again {v} {lo} {hi} {x} {w} {s} small (child e d) t = make_same w s v lo hi t.free e ∙ ap (λ n. pure n w s) (sym d)
answer-again {v} {lo} {hi} {x} {w} {s} small (node ne h e) t =
    let a = t.extends.old in
    let h' : x.answer < s.count = omega (arith, t.extends.more) in
    let e' : Has w v lo hi x.answer = record { var = agree_var a x.answer h ∙ e.var; low = agree_low a x.answer h ∙ e.low; high = agree-high a x.answer h ∙ e.high } in
    make_old w s v lo hi t.free ne (sym (lowest_is t.standard small x.answer h' e')) h'

pub make-again : (w : List ℕ) (s : Store) (v lo hi : ℕ) → v < 64 → (Make v lo hi w s).store.full ≡ false → (w' : List ℕ) (s' : Store) → Later (Make v lo hi w s) w' s'
    → Make v lo hi w' s' ≡ pure (Make v lo hi w s).answer w' s'
make-again w s v lo hi small free w' s' l = answer-again small (make-answer w s v lo hi free) l

-- the parts of older nodes are the same
part_agree : {w w' : List ℕ} {c : ℕ} → Agree w w' c → (b : Bool) (v n : ℕ) → n < c → part_of b w' v n ≡ part_of b w v n
unfolding part_of
part_agree e b v n h = rw (agree_var e n h, agree_child e n h b)

parts_agree : {w w' : List ℕ} {c f g h : ℕ} → Agree w w' c → Ready w c f g h → parts_of w' f g h ≡ parts_of w f g h
parts_agree {w} {w'} {f = f} {g = g} {h = h} e r =
    let v = least_of w f g h in
    rw (
      agree_var e f r.first,
      agree_var e g r.second,
      agree_var e h r.third,
      part_agree e false v f r.first,
      part_agree e false v g r.second,
      part_agree e false v h r.third,
      part_agree e true v f r.first,
      part_agree e true v g r.second,
      part_agree e true v h r.third,
    )

-- Ite done again where the three numbers add up to less than t
Again : ℕ → Type 0
Again t =
    (w : List ℕ) (s : Store) (f g h : ℕ) → f + g + h < t → Ready w s.count f g h → (Ite f g h w s).store.full ≡ false → (w' : List ℕ) (s' : Store) → Later (Ite f g h w s) w' s'
    → Ite f g h w' s' ≡ pure (Ite f g h w s).answer w' s'

module _ (t : ℕ) (ih : Again t) (w : List ℕ) (s : Store) (f g h : ℕ) (less : f + g + h < suc t) (r : Ready w s.count f g h) (free : (Ite f g h w s).store.full ≡ false)
    (w' : List ℕ) (s' : Store) (l : Later (Ite f g h w s) w' s') where
  ready : Ready w' s'.count f g h
  ready =
      let m : s.count ≤ (Ite f g h w s).store.count = (ready-builds r).extends.more in
      record { standard = l.standard; first = omega (arith, r.first, l.extends.more); second = omega (arith, r.second, l.extends.more); third = omega (arith, r.third, l.extends.more) }

  same_rule : s.full ≡ s'.full
  same_rule = was_free (ready-builds r) free ∙ sym l.free

  parts_again : plain_of s.full f g h ≡ None → Ite f g h w' s' ≡ pure (Ite f g h w s).answer w' s'
  unfolding Again
  parts_again e =
      let d = parts_of w f g h in
      let low = split_low w s f g h d r e refl in
      let high = split-high w s f g h d r e refl in
      let x = Ite d.f0 d.g0 d.h0 w s in
      let X = ready-builds low.1 in
      let high' = ready_later X high.1 in
      let y = Ite d.f1 d.g1 d.h1 x.words x.store in
      let Y = ready-builds high' in
      let z = Make d.v x.answer y.answer y.words y.store in
      let Z = split-make w s f g h d r e refl {x = x} {y = y} refl refl in
      let ez : z ≡ Ite f g h w s = split_all w s f g h d r e refl {x = x} {y = y} refl refl refl in
      let fz : z.store.full ≡ false = rw ez free in
      let fy = was_free Z fz in
      let lz : Later z w' s' = rw ez l in
      let ly : Later y w' s' = record { standard = l.standard; extends = extends_trans Z.extends lz.extends; free = l.free } in
      let lx : Later x w' s' = record { standard = l.standard; extends = extends_trans Y.extends ly.extends; free = l.free } in
      let ax = ih w s d.f0 d.g0 d.h0 (omega (arith, low.0)) low.1 (was_free Y fy) w' s' lx in
      let ay = ih x.words x.store d.f1 d.g1 d.h1 (omega (arith, high.0)) high' fy w' s' ly in
      let az = make-again y.words y.store d.v x.answer y.answer (split_var w s f g h d r e refl) fz w' s' lz in
      let ed : d ≡ parts_of w' f g h = sym (parts_agree (extends_trans X.extends lx.extends).old r) in
      sym (split_all w' s' f g h d ready (ap (λ b. plain_of b f g h) (sym same_rule) ∙ e) ed (sym ax) (sym ay) (sym az)) ∙ ap (λ (o : Outcome ℕ). pure o.answer w' s') ez

  rule-again : (d : Option ℕ) → plain_of s.full f g h ≡ d → Ite f g h w' s' ≡ pure (Ite f g h w s).answer w' s'
  rule-again (Some n) e =
      sym (ite-done w' s' f g h n ready (ap (λ b. plain_of b f g h) (sym same_rule) ∙ e)) ∙ ap (λ (o : Outcome ℕ). pure o.answer w' s') (ite-done w s f g h n r e)
  rule-again None e = parts_again e

again_up_to : (t : ℕ) → Again t
unfolding Again
again_up_to zero w s f g h less r n w' s' l = absurd (omega arith)
again_up_to (suc t) w s f g h less r n w' s' l = rule-again t (again_up_to t) w s f g h less r n w' s' l (plain_of s.full f g h) refl

pub ite-again : (w : List ℕ) (s : Store) (f g h : ℕ) → Ready w s.count f g h → (Ite f g h w s).store.full ≡ false → (w' : List ℕ) (s' : Store) → Later (Ite f g h w s) w' s'
    → Ite f g h w' s' ≡ pure (Ite f g h w s).answer w' s'
unfolding Again
ite-again w s f g h r = again_up_to (suc (f + g + h)) w s f g h (omega arith) r
