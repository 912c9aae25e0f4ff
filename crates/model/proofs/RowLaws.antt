-- What the facts of an accepted call say of its pairs, under one 64-bit assignment.
use mathlib.Core.Path.{◌≡◌, refl, sym, ap, ◌∙◌}
use mathlib.Core.Bool.{Bool, true, false, not, ◌&&◌, ◌||◌}
use mathlib.Core.List.{List, [], ◌∷◌}
use Prim.Native.Nat.{ℕ, zero, suc, ◌+◌, ◌*◌, ◌^◌, ◌<◌, ◌≤◌}
use native.Mathlib.Omega.{arith}
use lib.Dec.{T}
use lib.ListN.{length, get_or}
use Rattle.conditions.specs.Stores.{Standard}
use Rattle.conditions.specs.Build.{Store}
use Rattle.conditions.specs.Value.{value}
use Rattle.conditions.specs.Assignment.{bit_at}
use Rattle.conditions.proofs.Promises.{stands_turns}
use Rattle.semantics.specs.Pairs.{Pair, legal, legals, known, unique, at}
use Rattle.model.specs.Record.{Record, h_at, l_at}
use Rattle.model.specs.Claims.{pair_at, pairs_from, pairs}
use Rattle.model.specs.Table.{Names, AllName, NoneNeither, NoneUnknown}
use Rattle.semantics.proofs.PairLaws.{and_both as T-both}
use Rattle.model.proofs.MeansLaws.{Means, means_as}
use Rattle.model.proofs.HalfLaws.{half_of}
use Rattle.model.proofs.AccessLaws.{Halves}

pub length_pairs : (φ : ℕ → Bool) (w ws : List ℕ) (i k : ℕ) → length (pairs_from φ w ws i k) ≡ k
length_pairs φ w ws i zero = refl
length_pairs φ w ws i (suc k) = ap suc (length_pairs φ w ws (suc i) k)

-- half h of the pairs in these words is the value of word h
pub pairs_half : (φ : ℕ → Bool) (w ws : List ℕ) (k i h : ℕ) → h < 2 * k → value w φ (get_or ws (2 * i + h) 0) ≡ half_of h (at (pairs_from φ w ws i k))
pairs_half φ w ws zero i h l = absurd (omega arith)
pairs_half φ w ws (suc k) i zero l = let e : 2 * i + 0 ≡ 2 * i = omega arith in ap (λ (n : ℕ). value w φ (get_or ws n 0)) e
pairs_half φ w ws (suc k) i (suc zero) l = refl
pairs_half φ w ws (suc k) i (suc (suc h)) l =
    let e : 2 * i + suc (suc h) ≡ 2 * suc i + h = omega arith in
    ap (λ (n : ℕ). value w φ (get_or ws n 0)) e ∙ pairs_half φ w ws k (suc i) h (omega arith)

module _ (φ : ℕ → Bool) (r : Record) (w : List ℕ) (S : Standard w r.count) where
  -- a node of row 5 means its value
  pub name-means : {n : ℕ} → Names r w n → Means φ 8 (λ τ. value w φ n) w (record { count = r.count; full = false }) n
  name-means N = record { below = N.below; from = N.from; is = λ f τ h. stands_turns S N f τ φ (λ v k. h.user v k) }

  -- k pairs of such nodes mean the pairs of their values
  pub names_halves : (ws : List ℕ) (k : ℕ) → AllName r w ws (2 * k) → Halves φ 8 (2 * k) (λ τ. at (pairs φ w ws k)) w (record { count = r.count; full = false }) ws
  names_halves ws k N = record { half = λ h l. means_as (name-means (N h l)) (λ τ. word h l) }
    where
      word : (h : ℕ) → h < 2 * k → value w φ (get_or ws h 0) ≡ half_of h (at (pairs φ w ws k))
      word h l = let z : 2 * 0 + h ≡ h = omega arith in ap (λ (n : ℕ). value w φ (get_or ws n 0)) (sym z) ∙ pairs_half φ w ws k 0 h l

module _ (a : ℕ) (small : a < 2 ^ 64) (r : Record) (w ws : List ℕ) where
  module _ (k : ℕ) (N : NoneNeither r w ws k) where
    -- row 6 leaves legal pairs
    pub pair-legal : (i : ℕ) → i < k → T (legal (pair_at (bit_at a) w ws i))
    pair-legal i l = go (value w (bit_at a) (h_at ws i)) refl (value w (bit_at a) (l_at ws i)) refl
      where
        go : (x : Bool) → value w (bit_at a) (h_at ws i) ≡ x → (y : Bool) → value w (bit_at a) (l_at ws i) ≡ y → T (x || y)
        go true ex y ey = tt
        go false ex true ey = tt
        go false ex false ey = absurd (N i l a small ex ey)

    legals-from : (m i : ℕ) → i + m ≤ k → T (legals (pairs_from (bit_at a) w ws i m))
    legals-from zero i l = tt
    legals-from (suc m) i l = T-both (legal (pair_at (bit_at a) w ws i)) (legals (pairs_from (bit_at a) w ws (suc i) m)) (pair-legal i (omega arith)) (legals-from m (suc i) (omega arith))

    pub pairs-legal : T (legals (pairs (bit_at a) w ws k))
    pairs-legal = legals-from k 0 (omega arith)

  -- row 7 leaves addresses with no X where b holds
  module _ (b : ℕ) (N : NoneUnknown r w b ws) where
    known_at : (i : ℕ) → i < r.sizes.n → T (not (value w (bit_at a) b) || known (pair_at (bit_at a) w ws i))
    known_at i l =
        go (value w (bit_at a) b) refl (value w (bit_at a) (h_at ws i)) refl (value w (bit_at a) (l_at ws i)) refl
      where
        go : (z : Bool) → value w (bit_at a) b ≡ z → (x : Bool) → value w (bit_at a) (h_at ws i) ≡ x → (y : Bool) → value w (bit_at a) (l_at ws i) ≡ y → T (not z || not (x && y))
        go false ez x ex y ey = tt
        go true ez false ex y ey = tt
        go true ez true ex false ey = tt
        go true ez true ex true ey = absurd (N i l a small ez ex ey)

    unique-from : (m i : ℕ) → i + m ≤ r.sizes.n → T (not (value w (bit_at a) b) || unique (pairs_from (bit_at a) w ws i m))
    unique-from zero i l = last (value w (bit_at a) b)
      where
        last : (z : Bool) → T (not z || true)
        last true = tt
        last false = tt
    unique-from (suc m) i l = both (value w (bit_at a) b) (known (pair_at (bit_at a) w ws i)) (unique (pairs_from (bit_at a) w ws (suc i) m)) (known_at i (omega arith)) (unique-from m (suc i) (omega arith))
      where
        both : (z x y : Bool) → T (not z || x) → T (not z || y) → T (not z || x && y)
        both true x y s t = T-both x y s t
        both false x y s t = tt

    pub pairs-unique : T (not (value w (bit_at a) b) || unique (pairs (bit_at a) w ws r.sizes.n))
    pairs-unique = unique-from r.sizes.n 0 (omega arith)
