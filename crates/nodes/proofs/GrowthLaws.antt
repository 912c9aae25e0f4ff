-- Stores in standard form: the two terminals alone, one node more, and any words that agree on the nodes.
use mathlib.Core.Path.{◌≡◌, sym, ◌∙◌}
use mathlib.Core.Bool.{true, false, true≢false}
use mathlib.Core.List.{List}
use Prim.Native.Nat.{ℕ, zero, suc, ◌+◌, ◌*◌, ◌<◌, ◌≤◌}
use native.Mathlib.Omega.{arith}
use native.Mathlib.Decide.{dec_lt}
use lib.ListN.{length}
use Rattle.nodes.specs.Words.{var_at, low_at, high_at, child_at, has_words, with_node, with_terminals, capacity_of}
use Rattle.nodes.specs.Standard.{Shape, Standard}
use Rattle.nodes.specs.Extends.{Agree}
use Rattle.nodes.specs.Clear.{clear_of}
use Rattle.nodes.proofs.WordsLaws.{Has, has_words_lem, node_has, node-length}
use Rattle.nodes.proofs.ExtendsLaws.{agree_var, agree_low, agree-high, agree_child, node-extends}
use Rattle.nodes.proofs.ClearLaws.{clear-length, clear-below}

module _ {w : List ℕ} {c : ℕ} (g : Standard w c) where
  -- a node is a terminal, whose variable is 64, or has a shape
  pub var-most : (n : ℕ) → n < c → var_at w n ≤ 64
  var-most zero h = omega (arith, g.var0)
  var-most (suc zero) h = omega (arith, g.var1)
  var-most (suc (suc n)) h = omega (arith, (g.shape (suc (suc n)) (omega arith) h).small)

  pub inner : (n : ℕ) → n < c → var_at w n < 64 → 2 ≤ n
  inner zero h l = omega (arith, g.var0)
  inner (suc zero) h l = omega (arith, g.var1)
  inner (suc (suc n)) h l = omega arith

  module _ {w' : List ℕ} (e : Agree w w' c) where
    pub shape_agree : (n : ℕ) → 2 ≤ n → n < c → Shape w' n
    shape_agree n l h =
        let o = g.shape n l h in
        record {
          small = rw (agree_var e n h) o.small;
          below = λ b. rw (agree_child e n h b) (o.below b);
          after = λ b. rw (agree_child e n h b, agree_var e n h, agree_var e (child_at b w n) (omega (arith, o.below b))) (o.after b);
          apart = λ p. o.apart (sym (agree_low e n h) ∙ p ∙ agree-high e n h);
        }

    pub once_agree : (m n : ℕ) → 2 ≤ m → m < c → 2 ≤ n → n < c → var_at w' m ≡ var_at w' n → low_at w' m ≡ low_at w' n → high_at w' m ≡ high_at w' n → m ≡ n
    once_agree m n lm hm ln hn ev el eh =
        g.once m n lm hm ln hn (sym (agree_var e m hm) ∙ ev ∙ agree_var e n hn) (sym (agree_low e m hm) ∙ el ∙ agree_low e n hn) (sym (agree-high e m hm) ∙ eh ∙ agree-high e n hn)

    -- with as many nodes or more, whose own facts are given
    pub standard-more : {c' : ℕ} → c ≤ c' → c' * 3 ≤ length w' → c' ≤ 16384 → ((n : ℕ) → 2 ≤ n → n < c' → Shape w' n)
        → ((m n : ℕ) → 2 ≤ m → m < c' → 2 ≤ n → n < c' → var_at w' m ≡ var_at w' n → low_at w' m ≡ low_at w' n → high_at w' m ≡ high_at w' n → m ≡ n) → Standard w' c'
    standard-more more room most shapes onces =
        let z : 0 < c = omega (arith, g.two) in
        let o : 1 < c = omega (arith, g.two) in
        record {
          two = omega (arith, g.two);
          room = room;
          most = most;
          var0 = agree_var e 0 z ∙ g.var0;
          var1 = agree_var e 1 o ∙ g.var1;
          low0 = agree_low e 0 z ∙ g.low0;
          low1 = agree_low e 1 o ∙ g.low1;
          high0 = agree-high e 0 z ∙ g.high0;
          high1 = agree-high e 1 o ∙ g.high1;
          shape = shapes;
          once = onces;
        }

  -- clearing keeps standard form
  pub clear-standard : Standard (clear_of w c) c
  clear-standard =
      let e : Agree w (clear_of w c) c = record { at = clear-below w c } in
      standard-more e (omega arith) (rw (clear-length w c) g.room) g.most (shape_agree e) (once_agree e)

-- one node more, at the count
module _ (w : List ℕ) (c v lo hi : ℕ) (g : Standard w c) (room : c < capacity_of w) (ll : lo < c) (lh : hi < c) (small : v < 64) (vl : v < var_at w lo) (vh : v < var_at w hi) (ne : lo ≡ hi → ⊥)
    (none : (n : ℕ) → 2 ≤ n → n < c → has_words w v lo hi n ≡ false) where
  has : Has (with_node w c v lo hi) v lo hi c
  has = node_has w c v lo hi (omega arith)

  old : Agree w (with_node w c v lo hi) c
  old = (node-extends w c v lo hi).old

  new-shape : Shape (with_node w c v lo hi) c
  new-shape =
      record {
        small = rw has.var small;
        below = elim [ true ↦ rw has.high lh | false ↦ rw has.low ll ];
        after = elim [ true ↦ rw (has.high, has.var, agree_var old hi lh) vh | false ↦ rw (has.low, has.var, agree_var old lo ll) vl ];
        apart = λ p. ne (sym has.low ∙ p ∙ has.high);
      }

  shapes : (n : ℕ) → 2 ≤ n → n < c + 1 → Shape (with_node w c v lo hi) n
  shapes n l h = go (dec_lt n c)
    where
      go : Dec (n < c) → Shape (with_node w c v lo hi) n
      go (yes p) = shape_agree g old n l p
      go (no q) = let e : n ≡ c = omega arith in rw e new-shape

  -- an older node has other words
  other : (n : ℕ) → 2 ≤ n → n < c → var_at (with_node w c v lo hi) n ≡ v → low_at (with_node w c v lo hi) n ≡ lo → high_at (with_node w c v lo hi) n ≡ hi → ⊥
  other n l h a b d =
      true≢false (sym (has_words_lem w v lo hi n (record { var = sym (agree_var old n h) ∙ a; low = sym (agree_low old n h) ∙ b; high = sym (agree-high old n h) ∙ d })) ∙ none n l h)

  onces : (m n : ℕ) → 2 ≤ m → m < c + 1 → 2 ≤ n → n < c + 1 → var_at (with_node w c v lo hi) m ≡ var_at (with_node w c v lo hi) n → low_at (with_node w c v lo hi) m ≡ low_at (with_node w c v lo hi) n
      → high_at (with_node w c v lo hi) m ≡ high_at (with_node w c v lo hi) n → m ≡ n
  onces m n lm hm ln hn ev el eh = go (dec_lt m c) (dec_lt n c)
    where
      go : Dec (m < c) → Dec (n < c) → m ≡ n
      go (yes p) (yes q) = once_agree g old m n lm p ln q ev el eh
      go (yes p) (no q) =
          let e : n ≡ c = omega arith in
          absurd (other m lm p (rw e at ev ∙ has.var) (rw e at el ∙ has.low) (rw e at eh ∙ has.high))
      go (no p) (yes q) =
          let e : m ≡ c = omega arith in
          absurd (other n ln q (sym (rw e at ev) ∙ has.var) (sym (rw e at el) ∙ has.low) (sym (rw e at eh) ∙ has.high))
      go (no p) (no q) = omega arith

  pub node-standard : Standard (with_node w c v lo hi) (c + 1)
  node-standard = standard-more g old (omega arith) (rw (node-length w c v lo hi) (omega arith)) (omega arith) shapes onces

-- the two terminals
pub terminals-standard : (w : List ℕ) → 6 ≤ length w → Standard (with_terminals w) 2
terminals-standard w h =
    let z = node_has w 0 64 0 0 (omega arith) in
    let o = node_has (with_node w 0 64 0 0) 1 64 1 1 (rw (node-length w 0 64 0 0) (omega arith)) in
    let a = (node-extends (with_node w 0 64 0 0) 1 64 1 1).old in
    record {
      two = omega arith;
      room = rw (node-length (with_node w 0 64 0 0) 1 64 1 1, node-length w 0 64 0 0) h;
      most = omega arith;
      var0 = agree_var a 0 (omega arith) ∙ z.var;
      var1 = o.var;
      low0 = agree_low a 0 (omega arith) ∙ z.low;
      low1 = o.low;
      high0 = agree-high a 0 (omega arith) ∙ z.high;
      high1 = o.high;
      shape = λ n l m. absurd (omega arith);
      once = λ m n lm hm ln hn ev el eh. absurd (omega arith);
    }
