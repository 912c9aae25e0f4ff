-- Adding 0 to an address builds nothing: each operation's answer has a node.
use mathlib.Core.Path.{◌≡◌, refl, sym, ap, ◌∙◌}
use mathlib.Core.Bool.{Bool, true, false, cond}
use mathlib.Core.List.{List, [], ◌∷◌, ◌++◌, append_assoc}
use Prim.Native.Nat.{ℕ, zero, suc, ◌+◌, ◌*◌, ◌-◌, ◌<◌}
use native.Mathlib.Omega.{arith}
use lib.ListN.{length, get_or, take}
use lib.Seq.{take-suc, take_all}
use Rattle.nodes.proofs.BoolLaws.{split}
use Rattle.conditions.specs.Stores.{Standard}
use Rattle.conditions.specs.Build.{Store, Outcome, Build, pure, next, for_each}
use Rattle.conditions.specs.Ite.{Ite, And, Or}
use Rattle.conditions.specs.Value.{value}
use Rattle.conditions.specs.Assignment.{bit_at}
use Rattle.conditions.proofs.Promises.{next_is, each_end, each_step, value_0, value_1, neither_decides}
use Rattle.present.specs.Present.{BuildsNothing}
use Rattle.present.proofs.PresentLaws.{builds-nothing}
use Rattle.model.specs.Record.{h_at, l_at}
use Rattle.units.specs.Sum.{bits_of}
use Rattle.unit_programs.specs.Add.{Adding, no_carry, mix_half, sum_bit, carry_bit, add_bit, Add}
use Rattle.unit_programs.specs.Claims.{Legal, AddingNothing}

-- on from a step that built nothing
pub then-pure : {A B : Type 0} (k : A → Build B) {x : Outcome A} {v : A} {w : List ℕ} {s : Store} → x ≡ pure v w s → next x k ≡ k v w s
then-pure k e = sym (next_is k (sym e) refl)

cond_same : (b c : Bool) → c ≡ cond b c c
cond_same true c = refl
cond_same false c = refl

cond_self : (b : Bool) → b ≡ cond b true false
cond_self true = refl
cond_self false = refl

-- the words so far, and no carry
abbrev uncarried : List ℕ → Adding
uncarried ws = record { words = ws; carry_h = 0; carry_l = 1 }

module _ (w : List ℕ) (s : Store) (S : Standard w s.count) (free : s.full ≡ false) where
  module _ (h l : ℕ) (L : Legal w s.count h l) where
    -- 1 where the bit may be 0, or is not 1
    or_one : Or l 1 w s ≡ pure 1 w s
    unfolding BuildsNothing
    or_one = builds-nothing w s l 1 1 1 S free (record { first = L.low; second = omega (arith, S.two); third = omega (arith, S.two); node = omega (arith, S.two); is = λ a m. cond_same (value w (bit_at a) l) (value w (bit_at a) 1) })

    or_zero : Or l 0 w s ≡ pure l w s
    unfolding BuildsNothing
    or_zero = builds-nothing w s l 1 0 l S free (record { first = L.low; second = omega (arith, S.two); third = omega (arith, S.two); node = L.low; is = λ a m. rw (value_1 w (bit_at a), value_0 w (bit_at a)) (cond_self (value w (bit_at a) l)) })

    choose-high : Ite h 1 0 w s ≡ pure h w s
    unfolding BuildsNothing
    choose-high = builds-nothing w s h 1 0 h S free (record { first = L.high; second = omega (arith, S.two); third = omega (arith, S.two); node = L.high; is = λ a m. rw (value_1 w (bit_at a), value_0 w (bit_at a)) (cond_self (value w (bit_at a) h)) })

    choose_low : Ite h l 1 w s ≡ pure l w s
    unfolding BuildsNothing
    choose_low =
        builds-nothing w s h l 1 l S free
        (record {
          first = L.high;
          second = L.low;
          third = omega (arith, S.two);
          node = L.low;
          is = λ a m.
              rw (value_1 w (bit_at a))
              (split (value w (bit_at a) h) (λ t. rw t)
              (λ t. rw t (split (value w (bit_at a) l) (λ u. u) (λ u. absurd ((neither_decides S h l L.high L.low).no L.some (a, m, t, u))))));
        })

    and_zero : And h 0 w s ≡ pure 0 w s
    unfolding BuildsNothing
    and_zero = builds-nothing w s h 0 0 0 S free (record { first = L.high; second = omega (arith, S.two); third = omega (arith, S.two); node = omega (arith, S.two); is = λ a m. cond_same (value w (bit_at a) h) (value w (bit_at a) 0) })

    sum_pure : (ws : List ℕ) → sum_bit false h l (uncarried ws) w s ≡ pure (uncarried (ws ++ (h ∷ l ∷ []))) w s
    unfolding sum_bit mix_half
    sum_pure ws = then-pure _ (then-pure _ or_one ∙ choose-high) ∙ then-pure _ (then-pure _ or_zero ∙ choose_low)

    carry-pure : (ws : List ℕ) → carry_bit false h l (uncarried ws) w s ≡ pure (uncarried ws) w s
    unfolding carry_bit
    carry-pure ws = then-pure _ and_zero ∙ then-pure _ or_one

  module _ (n : ℕ) (a : List ℕ) (len : length a ≡ 2 * n) (L : (i : ℕ) → i < n → Legal w s.count (h_at a i) (l_at a i)) where
    taken : (i : ℕ) → i < n → take (2 * i) a ++ (h_at a i ∷ l_at a i ∷ []) ≡ take (2 * suc i) a
    taken i h =
        let e : 2 * suc i ≡ suc (suc (2 * i)) = omega arith in
        let d : 2 * i + 1 ≡ suc (2 * i) = omega arith in
        sym (ap (λ (k : ℕ). take k a) e ∙ take-suc a (suc (2 * i)) 0 (omega arith) ∙ ap (λ (l : List ℕ). l ++ (get_or a (suc (2 * i)) 0 ∷ [])) (take-suc a (2 * i) 0 (omega arith))
        ∙ append_assoc (take (2 * i) a) (get_or a (2 * i) 0 ∷ []) (get_or a (suc (2 * i)) 0 ∷ []) ∙ ap (λ (k : ℕ). take (2 * i) a ++ (h_at a i ∷ get_or a k 0 ∷ [])) (sym d))

    no_bit : (n i : ℕ) → get_or (bits_of n 0) i false ≡ false
    no_bit zero i = refl
    no_bit (suc n) zero = refl
    no_bit (suc n) (suc i) = no_bit n i

    last : (i : ℕ) → i < n → sum_bit (get_or (bits_of n 0) i false) (h_at a i) (l_at a i) (uncarried (take (2 * i) a)) w s ≡ pure (uncarried (take (2 * suc i) a)) w s
    last i h = rw (no_bit n i, ← taken i h) (sum_pure (h_at a i) (l_at a i) (L i h) (take (2 * i) a))

    bit : (i : ℕ) → i < n → add_bit (bits_of n 0) a i (uncarried (take (2 * i) a)) w s ≡ pure (uncarried (take (2 * suc i) a)) w s
    unfolding add_bit
    bit i h = then-pure _ (last i h) ∙ (rw (no_bit n i) (carry-pure (h_at a i) (l_at a i) (L i h) (take (2 * suc i) a)))

    bits : (c m i : ℕ) → c < n → i + m ≡ c → for_each (add_bit (bits_of n 0) a) i (c - i) (uncarried (take (2 * i) a)) w s ≡ pure (uncarried (take (2 * c) a)) w s
    bits c zero i h e =
        let d : i ≡ c = omega arith in
        each_end (add_bit (bits_of n 0) a) (uncarried (take (2 * i) a)) w s i (c - i) (omega arith) ∙ ap (λ (k : ℕ). pure (uncarried (take (2 * k) a)) w s) d
    bits c (suc m) i h e =
        let d : i + 1 ≡ suc i = omega arith in
        each_step (add_bit (bits_of n 0) a) (uncarried (take (2 * i) a)) w s c i (omega arith)
        ∙ then-pure (for_each (add_bit (bits_of n 0) a) (i + 1) (c - (i + 1))) (bit i (omega arith))
        ∙ (rw d (bits c m (suc i) h (omega arith)))

pub adding-nothing : AddingNothing
unfolding AddingNothing Add
adding-nothing n a w s A =
    let c = n - 1 in
    let z : c - 0 ≡ c = omega arith in
    then-pure _ (ap (λ (k : ℕ). for_each (add_bit (bits_of n 0) a) 0 k no_carry w s) (sym z) ∙ bits w s A.standard A.free n a A.size A.legal c c 0 (omega (arith, A.some)) (omega arith))
    ∙ then-pure _ (last w s A.standard A.free n a A.size A.legal c (omega (arith, A.some)))
    ∙ ap (λ (l : List ℕ). pure l w s) (take_all (2 * suc c) a (omega (arith, A.some, A.size)))
