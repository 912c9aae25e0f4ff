-- The test of standard form and the facts of standard form are each other.
use mathlib.Core.Path.{◌≡◌, sym, ◌∙◌}
use mathlib.Core.Bool.{true, false, true≢false}
use mathlib.Core.List.{List}
use Prim.Native.Nat.{ℕ, zero, suc, ◌+◌, ◌-◌, ◌<◌, ◌≤◌}
use native.Mathlib.Omega.{arith}
use lib.ListN.{length}
use borrow.Author.Tests.{lt-ltb, le-leb, eq-eqb, ne_eqb, ltb-true, leb-true, eqb-true, eqb-false, not-true}
use Rattle.nodes.specs.Words.{var_at, low_at, high_at, has_words, capacity_of}
use Rattle.nodes.specs.Search.{seek}
use Rattle.nodes.specs.Standard.{counted, terminals, child_fits, shaped, lowest, first, is_standard, Shape, Standard}
use Rattle.nodes.proofs.BoolLaws.{split, and_both, both_and}
use Rattle.nodes.proofs.SearchLaws.{seek_miss, seek-none, every_is, is-every}
use Rattle.nodes.proofs.WordsLaws.{Has, words_has, has_words_lem}

pub record Counted (w : List ℕ) (c : ℕ) : Type 0 where
  pub six : 6 ≤ length w
  pub two : 2 ≤ c
  pub most : c ≤ capacity_of w

pub counted_is : (w : List ℕ) (c : ℕ) → counted w c ≡ true → Counted w c
unfolding counted
counted_is w c e =
    let p = and_both _ _ e in
    let q = and_both _ _ p.0 in
    record { six = leb-true _ _ q.0; two = leb-true _ _ q.1; most = leb-true _ _ p.1 }

child_is : (w : List ℕ) (n k : ℕ) → child_fits w n k ≡ true → (var_at w n < var_at w k) × (k < n)
unfolding child_fits
child_is w n k e = let p = and_both _ _ e in (ltb-true _ _ p.0, ltb-true _ _ p.1)

is_child : (w : List ℕ) (n k : ℕ) → var_at w n < var_at w k → k < n → child_fits w n k ≡ true
unfolding child_fits
is_child w n k a b = both_and (lt-ltb _ _ a) (lt-ltb _ _ b)

pub shaped_is : (w : List ℕ) (n : ℕ) → shaped w n ≡ true → Shape w n
unfolding shaped
shaped_is w n e =
    let p = and_both _ _ e in
    let q = and_both _ _ p.0 in
    let r = and_both _ _ q.0 in
    let a = child_is w n (low_at w n) r.1 in
    let b = child_is w n (high_at w n) q.1 in
    record {
      small = omega (arith, leb-true (var_at w n) 63 r.0);
      below = elim [ true ↦ b.1 | false ↦ a.1 ];
      after = elim [ true ↦ b.0 | false ↦ a.0 ];
      apart = eqb-false _ _ (not-true _ p.1);
    }

is-shaped : (w : List ℕ) (n : ℕ) → Shape w n → shaped w n ≡ true
unfolding shaped
is-shaped w n o =
    rw (
      le-leb (var_at w n) 63 (omega (arith, o.small)),
      is_child w n (low_at w n) (o.after false) (o.below false),
      is_child w n (high_at w n) (o.after true) (o.below true),
      ne_eqb (low_at w n) (high_at w n) o.apart,
    )

-- a node that is the first with its words: no earlier node has them
pub first_is : (w : List ℕ) (n : ℕ) → first w n ≡ true → (m : ℕ) → m < n → Has w (var_at w n) (low_at w n) (high_at w n) m → ⊥
unfolding first lowest
first_is w n e m h s =
    let f : seek (has_words w (var_at w n) (low_at w n) (high_at w n)) 0 n ≡ n = eqb-true _ _ e in
    true≢false (sym (has_words_lem w (var_at w n) (low_at w n) (high_at w n) m s) ∙ seek_miss (has_words w (var_at w n) (low_at w n) (high_at w n)) n 0 (omega arith) m (omega arith) (omega arith))

pub is-first : (w : List ℕ) (n : ℕ) → ((m : ℕ) → m < n → Has w (var_at w n) (low_at w n) (high_at w n) m → ⊥) → first w n ≡ true
unfolding first lowest
is-first w n none =
    let p = has_words w (var_at w n) (low_at w n) (high_at w n) in
    let e : seek p 0 n ≡ 0 + n = seek-none p n 0 (λ m a b. split (p m) (λ t. absurd (none m (omega arith) (words_has w (var_at w n) (low_at w n) (high_at w n) m t))) (λ t. t)) in
    eq-eqb (seek p 0 n) n (omega arith)

-- what the four tests find, put together
pub standard_of : (w : List ℕ) (c : ℕ) → Counted w c → terminals w ≡ true → ((n : ℕ) → 2 ≤ n → n < c → Shape w n) → ((m n : ℕ) → 2 ≤ m → m < n → n < c → Has w (var_at w n) (low_at w n) (high_at w n) m → ⊥) → Standard w c
unfolding terminals
standard_of w c d t shapes apart =
    let p = and_both _ _ t in
    let z = words_has w 64 0 0 0 p.0 in
    let o = words_has w 64 1 1 1 p.1 in
    record {
      two = d.two;
      room = omega (arith, d.most);
      most = omega (arith, d.most);
      var0 = z.var;
      var1 = o.var;
      low0 = z.low;
      low1 = o.low;
      high0 = z.high;
      high1 = o.high;
      shape = shapes;
      once = λ m n lm hm ln hn ev el eh. order m n (λ h. apart m n lm h hn (record { var = ev; low = el; high = eh })) (λ h. apart n m ln h hm (record { var = sym ev; low = sym el; high = sym eh }));
    }
  where
    order : (m n : ℕ) → (m < n → ⊥) → (n < m → ⊥) → m ≡ n
    order m n a b = omega arith

-- the test finds the facts
pub standard_is : (w : List ℕ) (c : ℕ) → is_standard w c ≡ true → Standard w c
unfolding is_standard
standard_is w c e =
    let p = and_both _ _ e in
    let q = and_both _ _ p.0 in
    let r = and_both _ _ q.0 in
    let d = counted_is w c r.0 in
    standard_of w c d r.1 (λ n l h. shaped_is w n (every_is (shaped w) (c - 2) 2 q.1 n l (omega (arith, d.two))))
    (λ m n l h k. first_is w n (every_is (first w) (c - 2) 2 p.1 n (omega arith) (omega (arith, d.two))) m h)

-- and where the facts hold the test does
pub is-standard : (w : List ℕ) (c : ℕ) → Standard w c → is_standard w c ≡ true
unfolding is_standard counted terminals
is-standard w c g =
    let t = g.two in
    let r = g.room in
    let m = g.most in
    rw (
      le-leb 6 (length w) (omega arith),
      le-leb 2 c t,
      le-leb c (capacity_of w) (omega arith),
      has_words_lem w 64 0 0 0 (record { var = g.var0; low = g.low0; high = g.high0 }),
      has_words_lem w 64 1 1 1 (record { var = g.var1; low = g.low1; high = g.high1 }),
      is-every (shaped w) (c - 2) 2 (λ n a b. is-shaped w n (g.shape n a (omega arith))),
      is-every (first w) (c - 2) 2 (λ n a b. is-first w n (λ k h s. earlier n k a (omega arith) h s)),
    )
  where
    earlier : (n k : ℕ) → 2 ≤ n → n < c → k < n → Has w (var_at w n) (low_at w n) (high_at w n) k → ⊥
    earlier n zero a b h s = let x = (g.shape n a b).small in let z : var_at w 0 ≡ var_at w n = s.var in omega (arith, g.var0)
    earlier n (suc zero) a b h s = let x = (g.shape n a b).small in let z : var_at w 1 ≡ var_at w n = s.var in omega (arith, g.var1)
    earlier n (suc (suc k)) a b h s = let z : suc (suc k) ≡ n = g.once (suc (suc k)) n (omega arith) (omega arith) a b s.var s.low s.high in omega arith
