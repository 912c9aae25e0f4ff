-- What a bit of a sum and its carry mean, near one assignment.
use mathlib.Core.Path.{◌≡◌, ◌∙◌}
use mathlib.Core.Bool.{Bool, true, false}
use mathlib.Core.List.{List}
use Prim.Native.Nat.{ℕ, suc, ◌+◌, ◌*◌, ◌-◌, ◌<◌}
use native.Mathlib.Omega.{arith}
use lib.ListN.{length, get_or}
use Rattle.conditions.specs.Stores.{Standard}
use Rattle.conditions.specs.Build.{Store, Outcome}
use Rattle.conditions.specs.Meaning.{Builds}
use Rattle.conditions.proofs.Promises.{pure-builds, next-builds}
use Rattle.semantics.specs.Pairs.{Pair, only, at}
use Rattle.model.specs.Record.{h_at, l_at}
use Rattle.model.proofs.MeansLaws.{Means, means_as, up, and-means, or-means}
use Rattle.model.proofs.HalfLaws.{half_of, half_even, half_odd}
use Rattle.model.proofs.AccessLaws.{Halves, up_halves}
use Rattle.units.specs.Sum.{carried_pair, sum}
use Rattle.unit_programs.specs.Add.{Adding, sum_bit, carry_bit}
use Rattle.unit_programs.proofs.HalfLaws.{carry_at, sum_at, turned_halves, turned-length, mix-means}

module _ (σ : ℕ → Bool) (n : ℕ) (a : List ℕ) (ks : List Bool) (qs : List Pair) (len : length qs ≡ n) where
  -- i bits of the sum stand, with the carry c, while the address means what it did
  pub record Added (i : ℕ) (c : Pair) (w : List ℕ) (s : Store) (t : Adding) : Type 0 where
    pub size : length t.words ≡ 2 * i
    pub halves : (h : ℕ) → h < 2 * i → Means σ 8 (λ τ. half_of h (at (sum ks qs))) w s (get_or t.words h 0)
    pub carry_h_lem : Means σ 8 (λ τ. c.h) w s t.carry_h
    pub carry_l_lem : Means σ 8 (λ τ. c.l) w s t.carry_l
    pub address : Halves σ 8 (2 * n) (λ τ. at qs) w s a

  abbrev pub into : ℕ → Pair
  into i = carry_at (only false) ks qs i

  up-added : {A : Type 0} {w : List ℕ} {s : Store} {P : List ℕ → Store → A → Type 0} {x : Outcome A} (i : ℕ) (c : Pair) (t : Adding) → Standard w s.count → Builds w s P x → Added i c w s t → Added i c x.words x.store t
  up-added i c t S B I = record { size = I.size; halves = λ h k. up S B (I.halves h k); carry_h_lem = up S B I.carry_h_lem; carry_l_lem = up S B I.carry_l_lem; address = up_halves S B I.address }

  h_at_lem : {w : List ℕ} {s : Store} → Halves σ 8 (2 * n) (λ τ. at qs) w s a → (i : ℕ) → i < n → Means σ 8 (λ τ. (at qs i).h) w s (h_at a i)
  h_at_lem H i l = means_as (H.half (2 * i) (omega arith)) (λ τ. half_even i (at qs))

  l_at_lem : {w : List ℕ} {s : Store} → Halves σ 8 (2 * n) (λ τ. at qs) w s a → (i : ℕ) → i < n → Means σ 8 (λ τ. (at qs i).l) w s (l_at a i)
  l_at_lem H i l = means_as (H.half (2 * i + 1) (omega arith)) (λ τ. half_odd i (at qs))

  pub sum_bit_lem : (i : ℕ) (t : Adding) (w : List ℕ) (s : Store) → i < n → Standard w s.count → Added i (into i) w s t → Builds w s (Added (suc i) (into i)) (sum_bit (get_or ks i false) (h_at a i) (l_at a i) t w s)
  unfolding sum_bit
  sum_bit_lem i t w s l S I =
      let Y1 = mix-means S (h_at_lem I.address i l) (l_at_lem I.address i l) I.carry_l_lem I.carry_h_lem in
      let I1 = up-added i (into i) t S Y1 I in
      let Y2 = mix-means Y1.standard (h_at_lem I1.address i l) (l_at_lem I1.address i l) I1.carry_h_lem I1.carry_l_lem in
      let I2 = up-added i (into i) t Y1.standard Y2 I1 in
      next-builds Y1 _ (next-builds Y2 _ (pure-builds Y2.standard (record {
        size = turned-length t.words (get_or ks i false) _ _ ∙ (omega (arith, I.size));
        halves = turned_halves (at (sum ks qs)) i t.words I.size I2.halves (get_or ks i false) (at qs i) (into i) _ _ (sum_at (only false) ks qs i (omega arith)) (up Y1.standard Y2 Y1.post) Y2.post;
        carry_h_lem = I2.carry_h_lem;
        carry_l_lem = I2.carry_l_lem;
        address = I2.address;
      })))

  pub carry_bit_lem : (b : Bool) (i j : ℕ) (c : Pair) (t : Adding) (w : List ℕ) (s : Store) → i < n → Standard w s.count → Added j c w s t → Builds w s (Added j (carried_pair b (at qs i) c)) (carry_bit b (h_at a i) (l_at a i) t w s)
  unfolding carry_bit
  carry_bit_lem false i j c t w s l S I =
      let Y1 = and-means S (h_at_lem I.address i l) I.carry_h_lem in
      let I1 = up-added j c t S Y1 I in
      let Y2 = or-means Y1.standard (l_at_lem I1.address i l) I1.carry_l_lem in
      let I2 = up-added j c t Y1.standard Y2 I1 in
      next-builds Y1 _ (next-builds Y2 _ (pure-builds Y2.standard (record { size = I.size; halves = I2.halves; carry_h_lem = up Y1.standard Y2 Y1.post; carry_l_lem = Y2.post; address = I2.address })))
  carry_bit_lem true i j c t w s l S I =
      let Y1 = or-means S (h_at_lem I.address i l) I.carry_h_lem in
      let I1 = up-added j c t S Y1 I in
      let Y2 = and-means Y1.standard (l_at_lem I1.address i l) I1.carry_l_lem in
      let I2 = up-added j c t Y1.standard Y2 I1 in
      next-builds Y1 _ (next-builds Y2 _ (pure-builds Y2.standard (record { size = I.size; halves = I2.halves; carry_h_lem = up Y1.standard Y2 Y1.post; carry_l_lem = Y2.post; address = I2.address })))
