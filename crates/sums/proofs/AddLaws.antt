-- The loop of a sum over the bits before the last, and the last bit after it.
use Rattle.std.proofs.Common.{◌≡◌, refl, sym, ap, ◌∙◌, false, List, ℕ, zero, suc, ◌+◌, ◌*◌, ◌-◌, ◌/◌, ◌%◌, ◌^◌, ◌<◌, ◌≤◌, arith, eqb, length, get_or, take}
use native.Mathlib.Nat.{pow-succ', div-div-eq-div-mul}
use lib.Seq.{take_all}
use Rattle.conditions.specs.Build.{Store, pure, for_each}
use Rattle.conditions.specs.declared.builder.Builder.{Builder}
use Rattle.conditions.specs.Builder.{Later}
use Rattle.conditions.proofs.Promises.{later_refl, later_trans, next_is, each_end, each_step}
use Rattle.model.specs.Record.{h_at, l_at}
use Rattle.model.specs.declared.AddressNode.{AddressNode}
use Rattle.model.specs.declared.Pair.{Pair}
use Rattle.units.specs.Sum.{bits_of}
use Rattle.addresses.specs.Words.{WordDid}
use Rattle.unit_programs.specs.Add.{Adding, no_carry, sum_bit, add_bit, Add}
use Rattle.sums.specs.Contract.{PairNodes, FirstNodes, adding, sum_bit_of, add_bit_of, BitDid}

-- bit i of a constant
bits_at : (n k i : ℕ) → i < n → get_or (bits_of n k) i false ≡ eqb (k / 2 ^ i % 2) 1
bits_at zero k i h = absurd (omega arith)
bits_at (suc n) k zero h = let e : k / 1 ≡ k = omega arith in rw e
bits_at (suc n) k (suc i) h = bits_at n (k / 2) i (omega arith) ∙ (rw (pow-succ' 2 i, ← div-div-eq-div-mul k 2 (2 ^ i)))

module _ (n k : ℕ) (a : List ℕ) where
  bit_is : (i : ℕ) → i < n → (t : Adding) (w : List ℕ) (s : Store) → add_bit_of k a i t w s ≡ add_bit (bits_of n k) a i t w s
  unfolding add_bit
  bit_is i h t w s = rw (bits_at n k i h)

  -- what the loop keeps: what is left to do from here is what was to do at the start
  pub record AddLoop (b d : Builder) (out : List ℕ) (c : Pair AddressNode) (i : ℕ) : Type 0 where
    pub size : length out ≡ 2 * n
    pub later : Later b d
    pub nodes : PairNodes d.store.count c
    pub first : FirstNodes d.store.count (2 * i) out
    pub is : for_each (add_bit (bits_of n k) a) i (n - 1 - i) (adding (take (2 * i) out) c) d.words.now d.store ≡ for_each (add_bit (bits_of n k) a) 0 (n - 1) no_carry b.words.now b.store

  pub loop-begins : {b : Builder} {out : List ℕ} → length out ≡ 2 * n → AddLoop b b out (record { h = record { 0 = 0 }; l = record { 0 = 1 } }) 0
  loop-begins {b} size =
      let e : n - 1 - 0 ≡ n - 1 = omega arith in
      record {
        size = size;
        later = later_refl b;
        nodes = record { high = omega (arith, b.sound.standard.two); low = omega (arith, b.sound.standard.two) };
        first = record { at = λ j m. absurd (omega arith) };
        is = rw e;
      }

  pub loop-goes_on : {b d e : Builder} {out out' : List ℕ} {c c' : Pair AddressNode} {i : ℕ} → AddLoop b d out c i → i < n - 1 → length out' ≡ length out
      → BitDid d e c' (i + 1) out' (add_bit_of k a i (adding (take (2 * i) out) c)) → AddLoop b e out' c' (i + 1)
  loop-goes_on {d = d} {out = out} {c = c} {i = i} L h size D =
      record {
        size = size ∙ L.size;
        later = later_trans L.later D.later;
        nodes = D.nodes;
        first = D.first;
        is = next_is (for_each (add_bit (bits_of n k) a) (i + 1) (n - 1 - (i + 1))) (D.is ∙ bit_is i (omega arith) (adding (take (2 * i) out) c) d.words.now d.store) refl
            ∙ sym (each_step (add_bit (bits_of n k) a) (adding (take (2 * i) out) c) d.words.now d.store (n - 1) i h) ∙ L.is;
      }

  pub loop-ends : {b d e : Builder} {out out' : List ℕ} {c : Pair AddressNode} {i : ℕ} → 1 ≤ n → i ≡ n - 1 → AddLoop b d out c i → length out' ≡ length out
      → BitDid d e c (n - 1 + 1) out' (sum_bit_of k a (n - 1) (adding (take (2 * (n - 1)) out) c)) → WordDid b e out' (Add n a (bits_of n k))
  unfolding Add
  loop-ends {b} {d} {e} {out} {out'} {c = c} some last-i M size D =
      let L : AddLoop b d out c (n - 1) = rw last-i at M in
      let T : Adding = adding (take (2 * (n - 1)) out) c in
      let whole : take (2 * (n - 1 + 1)) out' ≡ out' = take_all (2 * (n - 1 + 1)) out' (omega (arith, size, L.size)) in
      let last : record { words = e.words.now; store = e.store; answer = adding (take (2 * (n - 1 + 1)) out') c } ≡ sum_bit (get_or (bits_of n k) (n - 1) false) (h_at a (n - 1)) (l_at a (n - 1)) T d.words.now d.store = rw (bits_at n k (n - 1) (omega arith)) D.is in
      record {
        is = next_is _ (sym (each_end (add_bit (bits_of n k) a) T d.words.now d.store (n - 1) (n - 1 - (n - 1)) (omega arith)) ∙ L.is) (next_is (λ t. pure t.words) last (ap (λ (ws : List ℕ). record { words = e.words.now; store = e.store; answer = ws }) (sym whole)));
        later = later_trans L.later D.later;
        nodes = record { at = λ j m. D.first.at j (omega (arith, size, L.size)) };
      }
