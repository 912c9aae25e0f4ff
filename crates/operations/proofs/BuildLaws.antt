-- What steps keep, one after another.
use Rattle.std.proofs.Common.{◌≡◌, refl, sym, ap, ◌∙◌, Bool, true, false, true≢false, List, ℕ, zero, suc, ◌+◌, ◌-◌, ◌<◌, ◌≤◌, arith, add-one}
use Rattle.nodes.specs.Standard.{Standard}
use Rattle.nodes.specs.Extends.{Agree}
use Rattle.nodes.specs.Clear.{clear_of}
use Rattle.nodes.proofs.BoolLaws.{split}
use Rattle.nodes.proofs.ExtendsLaws.{extends_refl, extends_trans, agree_var}
use Rattle.nodes.proofs.ClearLaws.{clear-below, clear-extends}
use Rattle.nodes.proofs.GrowthLaws.{var-most}
use Rattle.operations.specs.declared.Store.{Store}
use Rattle.operations.specs.Build.{Outcome, Build, pure, next, for_each}
use Rattle.diagrams.specs.Value.{value}
use Rattle.operations.specs.Meaning.{Meaning, From, Stands, Builds}
use Rattle.diagrams.proofs.ValueLaws.{value_0, value_1, value_agree}

-- a node is on a variable from any lesser one up, stays so where older nodes stay, and a terminal is on none
pub from_less : (w : List ℕ) (n : ℕ) {u u' : ℕ} → u' ≤ u → From u w n → From u' w n
from_less w n h f = omega arith

pub from-stays : {w w' : List ℕ} {c u : ℕ} → Agree w w' c → (n : ℕ) → n < c → From u w n → From u w' n
from-stays e n h f = rw (agree_var e n h) f

pub from_0 : {w : List ℕ} {c : ℕ} (u : ℕ) → Standard w c → u ≤ 64 → From u w 0
from_0 u g l = omega (arith, g.var0)

pub from_1 : {w : List ℕ} {c : ℕ} (u : ℕ) → Standard w c → u ≤ 64 → From u w 1
from_1 u g l = omega (arith, g.var1)

-- a step that builds nothing
pub pure-builds : {A : Type 0} {w : List ℕ} {s : Store} {P : List ℕ → Store → A → Type 0} {a : A} → Standard w s.count → P w s a → Builds w s P (pure a w s)
pure-builds {w = w} {s = s} g p = record { standard = g; extends = extends_refl w s.count; stuck = λ e. (refl, refl); post = p }

module _ {A : Type 0} {w : List ℕ} {s : Store} {P : List ℕ → Store → A → Type 0} {x : Outcome A} (X : Builds w s P x) where
  -- a store that is not full afterwards was not full before
  pub was_free : x.store.full ≡ false → s.full ≡ false
  was_free e = split s.full (λ t. absurd (true≢false (sym t ∙ ap (λ (r : Store). r.full) (sym (X.stuck t).1) ∙ e))) (λ f. f)

  -- a node stands for what it stood for
  pub keep : {u n : ℕ} {m : Meaning} → Standard w s.count → Stands u m w s n → Stands u m x.words x.store n
  keep {n = n} g N =
      record {
        below = omega (arith, N.below, X.extends.more);
        from = from-stays X.extends.old n N.below N.from;
        is = λ e φ. value_agree g X.extends.old φ n N.below ∙ N.is (was_free e) φ;
      }

  -- a step after a step
  pub next-builds : {B : Type 0} {Q : List ℕ → Store → B → Type 0} (k : A → Build B) → Builds x.words x.store Q (k x.answer x.words x.store) → Builds w s Q (next x k)
  unfolding next
  next-builds k Y =
      record {
        standard = Y.standard;
        extends = extends_trans X.extends Y.extends;
        stuck = λ e.
            let p = X.stuck e in
            let q = Y.stuck (ap (λ (r : Store). r.full) p.1 ∙ e) in
            (q.0 ∙ p.0, q.1 ∙ p.1);
        post = Y.post;
      }

  -- the same step, with a weaker promise of its answer
  pub builds_weaker : {Q : List ℕ → Store → A → Type 0} → (P x.words x.store x.answer → Q x.words x.store x.answer) → Builds w s Q x
  builds_weaker f = record { standard = X.standard; extends = X.extends; stuck = X.stuck; post = f X.post }

  -- clearing after building is clearing the words at entry
  pub builds_clear : clear_of x.words s.count ≡ clear_of w s.count
  builds_clear = clear-extends w x.words s.count x.store.count X.extends X.standard

-- and there a node stands for what it stood for
pub clear-keep : {w : List ℕ} {s : Store} {u n : ℕ} {m : Meaning} → Standard w s.count → Stands u m w s n → Stands u m (clear_of w s.count) s n
clear-keep {w} {s} {n = n} g N =
    let e : Agree w (clear_of w s.count) s.count = record { at = clear-below w s.count } in
    record { below = N.below; from = from-stays e n N.below N.from; is = λ f φ. value_agree g e φ n N.below ∙ N.is f φ }

-- the same meaning, said otherwise
pub stands_same : {w : List ℕ} {s : Store} {u n : ℕ} {m m' : Meaning} → Stands u m w s n → (s.full ≡ false → (φ : ℕ → Bool) → m φ ≡ m' φ) → Stands u m' w s n
stands_same N e = record { below = N.below; from = N.from; is = λ f φ. N.is f φ ∙ e f φ }

pub builds-same : {w : List ℕ} {s : Store} {u : ℕ} {m m' : Meaning} {x : Outcome ℕ} → Builds w s (Stands u m) x → (s.full ≡ false → (φ : ℕ → Bool) → m φ ≡ m' φ) → Builds w s (Stands u m') x
builds-same X e = builds_weaker X (λ N. stands_same N (λ f φ. e (was_free X f) φ))

-- a node stands as well on a variable from any lesser one up
pub stands_from : {w : List ℕ} {s : Store} {u u' n : ℕ} {m : Meaning} → u' ≤ u → Stands u m w s n → Stands u' m w s n
stands_from {w} {n = n} h N = record { below = N.below; from = from_less w n h N.from; is = N.is }

-- each node stands for its value
pub stands-value : (w : List ℕ) (s : Store) (u n : ℕ) → n < s.count → From u w n → Stands u (λ φ. value w φ n) w s n
stands-value w s u n h l = record { below = h; from = l; is = λ e φ. refl }

module _ {w : List ℕ} {s : Store} (u : ℕ) (g : Standard w s.count) (l : u ≤ 64) where
  pub stands_0 : Stands u (λ φ. false) w s 0
  stands_0 = record { below = omega (arith, g.two); from = from_0 u g l; is = λ e φ. value_0 w φ }

  pub stands_1 : Stands u (λ φ. true) w s 1
  stands_1 = record { below = omega (arith, g.two); from = from_1 u g l; is = λ e φ. value_1 w φ }

  -- in a full store node 0 stands for anything
  pub stands-full : {m : Meaning} → s.full ≡ true → Stands u m w s 0
  stands-full e = record { below = stands_0.below; from = stands_0.from; is = λ f. absurd (true≢false (sym e ∙ f)) }

-- no node is on a variable above 64
pub from-most : {w : List ℕ} {s : Store} {u n : ℕ} {m : Meaning} → Standard w s.count → Stands u m w s n → u ≤ 64
from-most {n = n} g N = omega (arith, var-most g n N.below, N.from)

-- what a step left goes on by the next
pub next_is : {A B : Type 0} {x x' : Outcome A} (k : A → Build B) {y : Outcome B} → x ≡ x' → y ≡ k x.answer x.words x.store → y ≡ next x' k
unfolding next
next_is {A} k e d = d ∙ ap (λ (o : Outcome A). k o.answer o.words o.store) e

-- steps for each number, by what holds before each
pub each-builds : {A : Type 0} (f : ℕ → A → Build A) (I : ℕ → List ℕ → Store → A → Type 0) (i k : ℕ)
    → ((j : ℕ) (a : A) (w : List ℕ) (s : Store) → i ≤ j → j < i + k → Standard w s.count → I j w s a → Builds w s (I (suc j)) (f j a w s))
    → (a : A) (w : List ℕ) (s : Store) → Standard w s.count → I i w s a → Builds w s (I (i + k)) (for_each f i k a w s)
unfolding for_each
each-builds f I i zero step a w s g h = let e : i + 0 ≡ i = omega arith in rw e (pure-builds g h)
each-builds f I i (suc k) step a w s g h =
    let e : i + suc k ≡ suc i + k = omega arith in
    let X = step i a w s (omega arith) (omega arith) g h in
    rw e
    (next-builds X (for_each f (suc i) k)
    (each-builds f I (suc i) k (λ j a w s l m. step j a w s (omega arith) (omega arith)) (f i a w s).answer (f i a w s).words (f i a w s).store X.standard X.post))

module _ {A : Type 0} (f : ℕ → A → Build A) (a : A) (w : List ℕ) (s : Store) where
  pub each_end : (i k : ℕ) → k ≡ 0 → for_each f i k a w s ≡ pure a w s
  unfolding for_each
  each_end i k e = rw e

  pub each_step : (c i : ℕ) → i < c → for_each f i (c - i) a w s ≡ next (f i a w s) (for_each f (i + 1) (c - (i + 1)))
  unfolding for_each
  each_step c i h =
      let e : c - i ≡ suc (c - (i + 1)) = omega arith in
      rw (e, add-one i)
