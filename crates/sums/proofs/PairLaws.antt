-- The pairs of a sum, one call after another.
use Rattle.std.proofs.Common.{◌≡◌, refl, ap, ◌∙◌, Bool, true, false, not, List, [], ◌∷◌, ◌++◌, append_assoc, ℕ, zero, suc, ◌+◌, ◌*◌, ◌/◌, ◌%◌, ◌^◌, ◌<◌, ◌≤◌, arith, eqb, length, get_or, set, take, length-set}
use native.Mathlib.Decide.{ℕ_discrete}
use lib.Seq.{take-suc, get_or-set_same, get_or-set_other}
use Rattle.conditions.specs.declared.builder.Builder.{Builder}
use Rattle.conditions.specs.Builder.{Did}
use Rattle.conditions.proofs.Promises.{later_trans, later_node, next_is}
use Rattle.model.specs.Record.{h_at, l_at}
use Rattle.model.specs.declared.AddressNode.{AddressNode}
use Rattle.model.specs.declared.Pair.{Pair}
use Rattle.addresses.specs.Contract.{Nodes, address_pair}
use Rattle.addresses.proofs.LoopLaws.{pair-nodes}
use Rattle.unit_programs.specs.Add.{mix_half, sum_bit, carry_bit}
use Rattle.sums.specs.Contract.{PairNodes, FirstNodes, adding, halves_of, turned_pair, either_of, sum_bit_of, add_bit_of, PairDid, BitDid}

module _ (a p : Pair AddressNode) {b c d : Builder} {h l : AddressNode} where
  -- x's halves, exchanged where the constant's bit is 1
  pub sum_did : (one : Bool) → Did b c h.0 (mix_half a.h.0 a.l.0 p.l.0 p.h.0) → Did c d l.0 (mix_half a.h.0 a.l.0 p.h.0 p.l.0)
      → PairDid b d (turned_pair one (record { h = h; l = l })) (λ ws. adding (ws ++ halves_of (turned_pair one (record { h = h; l = l }))) p) (λ ws. sum_bit one a.h.0 a.l.0 (adding ws p))
  unfolding sum_bit
  sum_did false D E = record { is = λ ws. next_is _ D.is (next_is _ E.is refl); later = later_trans D.later E.later; nodes = record { high = later_node E.later _ D.node; low = E.node } }
  sum_did true D E = record { is = λ ws. next_is _ D.is (next_is _ E.is refl); later = later_trans D.later E.later; nodes = record { high = E.node; low = later_node E.later _ D.node } }

  -- the carry's halves
  pub carry_did : (one : Bool) → Did b c h.0 (either_of one a.h.0 p.h.0) → Did c d l.0 (either_of (not one) a.l.0 p.l.0)
      → PairDid b d (record { h = h; l = l }) (λ ws. adding ws (record { h = h; l = l })) (λ ws. carry_bit one a.h.0 a.l.0 (adding ws p))
  unfolding carry_bit
  carry_did false D E = record { is = λ ws. next_is _ D.is (next_is _ E.is refl); later = later_trans D.later E.later; nodes = record { high = later_node E.later _ D.node; low = E.node } }
  carry_did true D E = record { is = λ ws. next_is _ D.is (next_is _ E.is refl); later = later_trans D.later E.later; nodes = record { high = later_node E.later _ D.node; low = E.node } }

-- a pair put in its place after the pairs before it
take-set : (l : List ℕ) (k i v : ℕ) → k ≤ i → take k (set l i v) ≡ take k l
take-set [] k i v h = refl
take-set (x ∷ l) zero i v h = refl
take-set (x ∷ l) (suc k) zero v h = absurd (omega arith)
take-set (x ∷ l) (suc k) (suc i) v h = ap {B = List ℕ} (λ z. x ∷ z) (take-set l k i v (omega arith))

module _ (out : List ℕ) (i h l : ℕ) (fits : 2 * i + 1 < length out) where
  put : List ℕ
  put = set (set out (2 * i) h) (2 * i + 1) l

  put-length : length put ≡ length out
  unfolding put
  put-length = length-set (set out (2 * i) h) (2 * i + 1) l ∙ length-set out (2 * i) h

  at_high : get_or put (2 * i) 0 ≡ h
  unfolding put
  at_high = get_or-set_other (set out (2 * i) h) (2 * i + 1) (2 * i) l 0 (omega arith) ∙ get_or-set_same out (2 * i) h 0 (omega arith)

  at_low : get_or put (2 * i + 1) 0 ≡ l
  unfolding put
  at_low = get_or-set_same (set out (2 * i) h) (2 * i + 1) l 0 (omega (arith, length-set out (2 * i) h))

  put-taken : take (2 * (i + 1)) put ≡ take (2 * i) out ++ (h ∷ l ∷ [])
  unfolding put
  put-taken =
      let e : 2 * (i + 1) ≡ suc (2 * i + 1) = omega arith in
      let d : 2 * i + 1 ≡ suc (2 * i) = omega arith in
      ap (λ (k : ℕ). take k put) e ∙ take-suc put (2 * i + 1) 0 (omega (arith, put-length))
      ∙ ap (λ (v : ℕ). take (2 * i + 1) put ++ (v ∷ [])) at_low
      ∙ ap (λ (k : ℕ). take k put ++ (l ∷ [])) d
      ∙ ap (λ (z : List ℕ). z ++ (l ∷ [])) (take-suc put (2 * i) 0 (omega (arith, put-length)))
      ∙ ap (λ (v : ℕ). (take (2 * i) put ++ (v ∷ [])) ++ (l ∷ [])) at_high
      ∙ append_assoc (take (2 * i) put) (h ∷ []) (l ∷ [])
      ∙ ap (λ (z : List ℕ). z ++ (h ∷ l ∷ [])) (take-set (set out (2 * i) h) (2 * i) (2 * i + 1) l (omega arith) ∙ take-set out (2 * i) (2 * i) h (omega arith))

  put_first : {c : ℕ} → FirstNodes c (2 * i) out → h < c → l < c → FirstNodes c (2 * (i + 1)) put
  unfolding put
  put_first {c} F a b = record { at = λ j m. go j m (ℕ_discrete j (2 * i)) (ℕ_discrete j (2 * i + 1)) }
    where
      go : (j : ℕ) → j < 2 * (i + 1) → Dec (j ≡ 2 * i) → Dec (j ≡ 2 * i + 1) → get_or put j 0 < c
      go j m (yes e) q = rw (e, at_high) a
      go j m (no p) (yes e) = rw (e, at_low) b
      go j m (no p) (no q) = rw (get_or-set_other (set out (2 * i) h) (2 * i + 1) j l 0 q, get_or-set_other out (2 * i) j h 0 p) (F.at j (omega arith))

pub more-first : {c c' k : ℕ} {ws : List ℕ} → c ≤ c' → FirstNodes c k ws → FirstNodes c' k ws
more-first h F = record { at = λ j m. omega (arith, F.at j m) }

pub more_pair : {c c' : ℕ} {p : Pair AddressNode} → c ≤ c' → PairNodes c p → PairNodes c' p
more_pair h N = record { high = omega (arith, N.high); low = omega (arith, N.low) }

pub address-nodes : {c : ℕ} {a : List ℕ} → Nodes c a → (i : ℕ) → 2 * i + 1 < length a → PairNodes c (address_pair a i)
address-nodes N i h = let q = pair-nodes N i h in record { high = q.0; low = q.1 }

-- a bit of the sum put in its place
pub place_did : (k i : ℕ) (a out : List ℕ) (c : Pair AddressNode) {b d : Builder} {x : Pair AddressNode} → 2 * i + 1 < length out → FirstNodes b.store.count (2 * i) out → PairNodes b.store.count c
    → PairDid b d x (λ ws. adding (ws ++ halves_of x) c) (λ ws. sum_bit_of k a i (adding ws c))
    → BitDid b d c (i + 1) (set (set out (2 * i) x.h.0) (2 * i + 1) x.l.0) (sum_bit_of k a i (adding (take (2 * i) out) c))
unfolding put
place_did k i a out c {d = d} {x = x} fits F C D =
    record {
      is = ap (λ (ws : List ℕ). record { words = d.words.now; store = d.store; answer = adding ws c }) (put-taken out i x.h.0 x.l.0 fits) ∙ D.is (take (2 * i) out);
      later = D.later;
      nodes = more_pair D.later.more C;
      first = put_first out i x.h.0 x.l.0 fits (more-first D.later.more F) D.nodes.high D.nodes.low;
    }

-- and the carry after it
pub bit_did : (k i : ℕ) (a out out' : List ℕ) (c : Pair AddressNode) {b d e : Builder} {r : Pair AddressNode} → BitDid b d c (i + 1) out' (sum_bit_of k a i (adding (take (2 * i) out) c))
    → PairDid d e r (λ ws. adding ws r) (λ ws. carry_bit (eqb (k / 2 ^ i % 2) 1) (h_at a i) (l_at a i) (adding ws c))
    → BitDid b e r (i + 1) out' (add_bit_of k a i (adding (take (2 * i) out) c))
bit_did k i a out out' c D E =
    record { is = next_is _ D.is (E.is (take (2 * (i + 1)) out')); later = later_trans D.later E.later; nodes = E.nodes; first = more-first E.later.more D.first }
