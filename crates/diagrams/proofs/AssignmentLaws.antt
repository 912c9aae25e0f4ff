-- Each assignment to the 64 variables is a 64-bit number's, and a node's value turns on those alone.
use mathlib.Core.Path.{◌≡◌, refl, sym, ap, ◌∙◌, fun_ext}
use mathlib.Core.Bool.{Bool, true, false, cond, ◌||◌}
use mathlib.Core.Logic.{⊎_elim}
use Prim.Native.Nat.{ℕ, zero, suc, ◌+◌, ◌*◌, ◌/◌, ◌%◌, ◌^◌, ◌<◌, ◌≤◌}
use mathlib.Core.List.{List}
use native.Mathlib.Omega.{arith}
use native.Mathlib.Decide.{dec_lt, ℕ_discrete}
use native.Mathlib.Nat.{pow-succ', div-div-eq-div-mul}
use borrow.Author.Tests.{eq-eqb, ne_eqb}
use Rattle.nodes.specs.Words.{var_at, low_at, high_at}
use Rattle.nodes.specs.Standard.{Standard}
use Rattle.nodes.proofs.BoolLaws.{or_cases, or_left, or_right}
use Rattle.diagrams.specs.Value.{value}
use Rattle.diagrams.specs.Assignment.{bit_at, change, some, number_of}
use Rattle.diagrams.proofs.ValueLaws.{value-step, value_end}

pub change-same : (φ : ℕ → Bool) (v : ℕ) (b : Bool) → change φ v b v ≡ b
unfolding change
change-same φ v b = rw (eq-eqb v v refl)

pub change_other : (φ : ℕ → Bool) (v : ℕ) (b : Bool) (n : ℕ) → (n ≡ v → ⊥) → change φ v b n ≡ φ n
unfolding change
change_other φ v b n h = rw (ne_eqb n v h)

-- a setting below k is one of k + 1
change_up : (φ ψ : ℕ → Bool) (k : ℕ) (x : Bool) → ((v : ℕ) → k ≤ v → ψ v ≡ change φ k x v) → (v : ℕ) → suc k ≤ v → ψ v ≡ φ v
change_up φ ψ k x e v l = e v (omega arith) ∙ change_other φ k x v (omega arith)

pub some_has : (k : ℕ) (m : (ℕ → Bool) → Bool) (φ : ℕ → Bool) → some k m φ ≡ true → (ψ : ℕ → Bool) × ((v : ℕ) → k ≤ v → ψ v ≡ φ v) × (m ψ ≡ true)
unfolding some
some_has zero m φ e = (φ, (λ v l. refl), e)
some_has (suc k) m φ e =
    ⊎_elim
    (λ p. let t = some_has k m (change φ k false) p in (t.0, change_up φ t.0 k false t.1, t.2))
    (λ p. let t = some_has k m (change φ k true) p in (t.0, change_up φ t.0 k true t.1, t.2))
    (or_cases _ _ e)

pub some_all : (k : ℕ) (m : (ℕ → Bool) → Bool) (φ ψ : ℕ → Bool) → ((v : ℕ) → k ≤ v → ψ v ≡ φ v) → m ψ ≡ true → some k m φ ≡ true
unfolding some
some_all zero m φ ψ e t = ap m (sym (fun_ext (λ v. e v (omega arith)))) ∙ t
some_all (suc k) m φ ψ e t = side (ψ k) refl (λ x. some_all k m (change φ k x) ψ)
  where
    at : (x : Bool) → ψ k ≡ x → (v : ℕ) → k ≤ v → ψ v ≡ change φ k x v
    at x p v l = go (ℕ_discrete v k)
      where
        go : Dec (v ≡ k) → ψ v ≡ change φ k x v
        go (yes q) = rw q (p ∙ sym (change-same φ k x))
        go (no n) = e v (omega arith) ∙ sym (change_other φ k x v n)

    side : (x : Bool) → ψ k ≡ x → ((x : Bool) → ((v : ℕ) → k ≤ v → ψ v ≡ change φ k x v) → m ψ ≡ true → some k m (change φ k x) ≡ true)
        → (some k m (change φ k false) || some k m (change φ k true)) ≡ true
    side false p ih = or_left (some k m (change φ k false)) (some k m (change φ k true)) (ih false (at false p) t)
    side true p ih = or_right (some k m (change φ k false)) (some k m (change φ k true)) (ih true (at true p) t)

bit_low : (b : Bool) (m : ℕ) → bit_at (cond b 1 0 + m * 2) 0 ≡ b
unfolding bit_at
bit_low true m = eq-eqb ((1 + m * 2) / 2 ^ 0 % 2) 1 (omega arith)
bit_low false m = ne_eqb ((0 + m * 2) / 2 ^ 0 % 2) 1 (omega arith)

half : (b : Bool) (m : ℕ) → (cond b 1 0 + m * 2) / 2 ≡ m
half true m = omega arith
half false m = omega arith

bit-next : (n v : ℕ) → bit_at n (suc v) ≡ bit_at (n / 2) v
unfolding bit_at
bit-next n v = rw (pow-succ' 2 v, ← div-div-eq-div-mul n 2 (2 ^ v))

-- each assignment to the variables below k is a number's bits
pub bit-number : (k : ℕ) (a : ℕ → Bool) (v : ℕ) → v < k → bit_at (number_of a k) v ≡ a v
unfolding number_of
bit-number zero a v h = absurd (omega arith)
bit-number (suc k) a zero h = bit_low (a 0) (number_of (λ v. a (suc v)) k)
bit-number (suc k) a (suc v) h =
    bit-next (cond (a 0) 1 0 + number_of (λ v. a (suc v)) k * 2) v
    ∙ (rw (half (a 0) (number_of (λ v. a (suc v)) k)) (bit-number k (λ v. a (suc v)) v (omega arith)))

pub number_fits : (k : ℕ) (a : ℕ → Bool) → number_of a k < 2 ^ k
unfolding number_of
number_fits zero a = omega arith
number_fits (suc k) a = rw (pow-succ' 2 k) (go (a 0) (number_fits k (λ v. a (suc v))))
  where
    go : (b : Bool) → number_of (λ v. a (suc v)) k < 2 ^ k → cond b 1 0 + number_of (λ v. a (suc v)) k * 2 < 2 * 2 ^ k
    go true h = omega arith
    go false h = omega arith

-- a node's value turns on the 64 variables alone
module _ {w : List ℕ} {c : ℕ} (g : Standard w c) (a b : ℕ → Bool) (e : (v : ℕ) → v < 64 → a v ≡ b v) where
  small_up_to : (k n : ℕ) → n < k → n < c → value w a n ≡ value w b n
  small_up_to zero n l h = absurd (omega arith)
  small_up_to (suc k) n l h = go (dec_lt n 2) (small_up_to k)
    where
      go : Dec (n < 2) → ((n : ℕ) → n < k → n < c → value w a n ≡ value w b n) → value w a n ≡ value w b n
      go (yes p) ih = sym (value_end w a n p) ∙ value_end w b n p
      go (no q) ih =
          let o = g.shape n (omega arith) h in
          let b0 : low_at w n < n = o.below false in
          let b1 : high_at w n < n = o.below true in
          rw (value-step g a n (omega arith) h, value-step g b n (omega arith) h, e (var_at w n) o.small, ih (low_at w n) (omega arith) (omega arith), ih (high_at w n) (omega arith) (omega arith))

  value-small : (n : ℕ) → n < c → value w a n ≡ value w b n
  value-small n = small_up_to (suc n) n (omega arith)

-- the number of an assignment gives a node the value that the assignment gives it
pub number-value : {w : List ℕ} {c : ℕ} → Standard w c → (φ : ℕ → Bool) (n : ℕ) → n < c → value w (bit_at (number_of φ 64)) n ≡ value w φ n
number-value g φ n h = value-small g (bit_at (number_of φ 64)) φ (bit-number 64 φ) n h
