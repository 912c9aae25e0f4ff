-- Make by its cases, and what it leaves.
use Rattle.std.proofs.Math.Decide.{dec_lt, ℕ_discrete}
use Rattle.std.proofs.Common.{◌≡◌, refl, sym, ap, ◌∙◌, Bool, true, false, cond, true≢false, List, ℕ, suc, ◌+◌, ◌<◌, ◌≤◌, arith, eq-eqb, ne_eqb, lt-ltb, le-ltb}
use Rattle.nodes.specs.Words.{has_words, with_node, capacity_of}
use Rattle.nodes.specs.Standard.{Standard, lowest}
use Rattle.nodes.proofs.WordsLaws.{Has, words_has, node_has}
use Rattle.nodes.proofs.ExtendsLaws.{extends_refl, node-extends}
use Rattle.nodes.proofs.GrowthLaws.{node-standard}
use Rattle.search.proofs.LowestLaws.{has_above, lowest_has, lowest-none, lowest_is}
use Rattle.operations.specs.declared.Store.{Store}
use Rattle.operations.specs.Build.{Outcome, pure}
use Rattle.operations.specs.Make.{added, overflow, Make, Variable}
use Rattle.diagrams.specs.Value.{value}
use Rattle.operations.specs.Meaning.{Meaning, Stands, Builds}
use Rattle.diagrams.proofs.ValueLaws.{value-step, value_agree}
use Rattle.operations.proofs.BuildLaws.{pure-builds, builds-same, stands_0, stands_1, stands-full}

-- the cases
module _ (w : List ℕ) (s : Store) (v lo hi : ℕ) where
  pub make-full : s.full ≡ true → Make v lo hi w s ≡ pure 0 w s
  unfolding Make
  make-full f = rw f

  pub make_same : s.full ≡ false → lo ≡ hi → Make v lo hi w s ≡ pure lo w s
  unfolding Make
  make_same f e = rw (f, eq-eqb lo hi e)

  module _ {n : ℕ} (f : s.full ≡ false) (ne : lo ≡ hi → ⊥) (e : n ≡ lowest w s.count v lo hi) where
    pub make_old : n < s.count → Make v lo hi w s ≡ pure n w s
    unfolding Make
    make_old h = rw (f, ne_eqb lo hi ne, ← e, lt-ltb n s.count h)

    pub make_new : s.count ≤ n → s.count < capacity_of w → Make v lo hi w s ≡ added v lo hi w s
    unfolding Make
    make_new h r = rw (f, ne_eqb lo hi ne, ← e, le-ltb n s.count h, lt-ltb s.count (capacity_of w) r)

    pub make-none : s.count ≤ n → capacity_of w ≤ s.count → Make v lo hi w s ≡ overflow w s
    unfolding Make
    make-none h r = rw (f, ne_eqb lo hi ne, ← e, le-ltb n s.count h, le-ltb s.count (capacity_of w) r)

-- Make answers a node that has the words
pub make_has : {w : List ℕ} (s : Store) {v : ℕ} (lo hi : ℕ) → Standard w s.count → v < 64 → s.full ≡ false → (n : ℕ) → n < s.count → has_words w v lo hi n ≡ true → Make v lo hi w s ≡ pure n w s
make_has {w} s {v} lo hi g small f n h t =
    let p = words_has w v lo hi n t in
    let l = (has_above g small n h p).0 in
    make_old w s v lo hi f (λ q. (g.shape n l h).apart (p.low ∙ q ∙ sym p.high)) (sym (lowest_is g small n h p)) h

pub cond_both : (b : Bool) {x y z : Bool} → x ≡ y → x ≡ z → x ≡ cond b y z
cond_both true p q = p
cond_both false p q = q

-- Make of a variable below those of two nodes
module _ {w : List ℕ} {s : Store} {v lo hi : ℕ} {p q : Meaning} (g : Standard w s.count) (small : v < 64) (L : Stands (suc v) p w s lo) (H : Stands (suc v) q w s hi) where
  abbrev Here : Outcome ℕ → Type 0
  Here = Builds w s (Stands v (λ φ. cond (φ v) (q φ) (p φ)))

  -- a node with these words stands for that
  has_stands : s.full ≡ false → (n : ℕ) → n < s.count → Has w v lo hi n → Stands v (λ φ. cond (φ v) (q φ) (p φ)) w s n
  has_stands f n h e =
      record {
        below = h;
        from = omega (arith, e.var);
        is = λ t φ. value-step g φ n (has_above g small n h e).0 h ∙ (rw (e.var, e.low, e.high, L.is f φ, H.is f φ));
      }

  make-found : s.full ≡ false → (lo ≡ hi → ⊥) → lowest w s.count v lo hi < s.count → Here (Make v lo hi w s)
  make-found f ne h = rw (make_old w s v lo hi f ne refl h) (pure-builds g (has_stands f (lowest w s.count v lo hi) h (lowest_has w s.count v lo hi h)))

  make-added : s.full ≡ false → (lo ≡ hi → ⊥) → s.count ≤ lowest w s.count v lo hi → s.count < capacity_of w → Here (Make v lo hi w s)
  make-added f ne h r =
      let c = s.count in
      let x = with_node w c v lo hi in
      let G : Standard x (c + 1) = node-standard w c v lo hi g r L.below H.below small L.from H.from ne (λ n l k. lowest-none w c v lo hi h n k) in
      let E = node-extends w c v lo hi in
      let e = node_has w c v lo hi (omega arith) in
      rw (make_new w s v lo hi f ne refl h r)
      (record {
        standard = G;
        extends = E;
        stuck = λ t. absurd (true≢false (sym t ∙ f));
        post = record {
          below = omega arith;
          from = omega (arith, e.var);
          is = λ t φ. value-step G φ c g.two (omega arith) ∙ (rw (e.var, e.low, e.high, value_agree g E.old φ hi H.below, value_agree g E.old φ lo L.below, H.is f φ, L.is f φ));
        };
      })

  make-over : s.full ≡ false → (lo ≡ hi → ⊥) → s.count ≤ lowest w s.count v lo hi → capacity_of w ≤ s.count → Here (Make v lo hi w s)
  make-over f ne h r =
      rw (make-none w s v lo hi f ne refl h r)
      (record { standard = g; extends = extends_refl w s.count; stuck = λ t. absurd (true≢false (sym t ∙ f)); post = stands-full v g (omega arith) refl })

  pub make-builds : Here (Make v lo hi w s)
  make-builds = full s.full refl
    where
      room : s.full ≡ false → (lo ≡ hi → ⊥) → s.count ≤ lowest w s.count v lo hi → Dec (s.count < capacity_of w) → Here (Make v lo hi w s)
      room f ne h (yes r) = make-added f ne h r
      room f ne h (no r) = make-over f ne h (omega arith)

      found : s.full ≡ false → (lo ≡ hi → ⊥) → Dec (lowest w s.count v lo hi < s.count) → Here (Make v lo hi w s)
      found f ne (yes h) = make-found f ne h
      found f ne (no h) = room f ne (omega arith) (dec_lt s.count (capacity_of w))

      same : s.full ≡ false → Dec (lo ≡ hi) → Here (Make v lo hi w s)
      same f (yes e) =
          rw (make_same w s v lo hi f e)
          (pure-builds g (record { below = L.below; from = omega (arith, L.from); is = λ t φ. cond_both (φ v) (ap (value w φ) e ∙ H.is f φ) (L.is f φ) }))
      same f (no ne) = found f ne (dec_lt _ _)

      full : (b : Bool) → s.full ≡ b → Here (Make v lo hi w s)
      full true f = rw (make-full w s v lo hi f) (pure-builds g (stands-full v g (omega arith) f))
      full false f = same f (ℕ_discrete lo hi)

cond_self : (b : Bool) → cond b true false ≡ b
cond_self true = refl
cond_self false = refl

-- a variable's node
pub variable-builds : {w : List ℕ} {s : Store} {v : ℕ} → Standard w s.count → v < 64 → Builds w s (Stands v (λ φ. φ v)) (Variable v w s)
variable-builds {v = v} g small = builds-same (make-builds g small (stands_0 (suc v) g (omega arith)) (stands_1 (suc v) g (omega arith))) (λ e φ. cond_self (φ v))
