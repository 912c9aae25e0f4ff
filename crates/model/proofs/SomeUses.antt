-- 'Under some assignment' where it is under none, of two that say the same, and of what turns on variable 8 alone.
use mathlib.Core.Path.{◌≡◌, sym, ap, ◌∙◌}
use mathlib.Core.Bool.{Bool, true, false, ◌||◌, true≢false}
use Prim.Native.Nat.{ℕ, ◌^◌, ◌<◌}
use native.Mathlib.Omega.{arith}
use Rattle.nodes.proofs.BoolLaws.{split, iff-same, or_left, or_right}
use Rattle.conditions.specs.Assignment.{bit_at, number_of}
use Rattle.conditions.proofs.Promises.{bit-number, number_fits}
use Rattle.model.specs.Count.{under_some, SomeExactly}
use Rattle.model.proofs.SomeLaws.{some-exactly}

pub some-none : (f : (ℕ → Bool) → Bool) → ((a : ℕ) → a < 2 ^ 64 → f (bit_at a) ≡ false) → under_some f ≡ false
unfolding SomeExactly
some-none f none = split (under_some f) (λ t. let m = (some-exactly f).0 t in absurd (true≢false (sym m.2 ∙ none m.0 m.1))) (λ t. t)

pub some_as : (f g : (ℕ → Bool) → Bool) → ((a : ℕ) → a < 2 ^ 64 → f (bit_at a) ≡ g (bit_at a)) → under_some f ≡ under_some g
unfolding SomeExactly
some_as f g same =
    iff-same (under_some f) (under_some g) (λ e. let m = (some-exactly f).0 e in (some-exactly g).1 (m.0, m.1, sym (same m.0 m.1) ∙ m.2))
    (λ e. let m = (some-exactly g).0 e in (some-exactly f).1 (m.0, m.1, same m.0 m.1 ∙ m.2))

-- of what turns on variable 8 alone, one of its two values will do
pub some_of_8 : (f : Bool → Bool) → under_some (λ φ. f (φ 8)) ≡ f false || f true
unfolding SomeExactly
some_of_8 f =
    let S = some-exactly (λ φ. f (φ 8)) in
    iff-same (under_some (λ φ. f (φ 8))) (f false || f true) (λ e. let m = S.0 e in among (bit_at m.0 8) m.2) (λ e. split (f false) (λ t. S.1 (set false t)) (λ t. S.1 (set true (rw t at e))))
  where
    among : (b : Bool) → f b ≡ true → (f false || f true) ≡ true
    among true t = or_right (f false) (f true) t
    among false t = or_left (f false) (f true) t

    set : (b : Bool) → f b ≡ true → (a : ℕ) × (a < 2 ^ 64) × (f (bit_at a 8) ≡ true)
    set b t = (number_of (λ v. b) 64, number_fits 64 (λ v. b), ap f (bit-number 64 (λ v. b) 8 (omega arith)) ∙ t)
