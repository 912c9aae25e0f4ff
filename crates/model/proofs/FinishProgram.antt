-- What holds of what a program and what follows it come to: the store that it fills, or what follows.
use mathlib.Core.Path.{◌≡◌, refl}
use mathlib.Core.Bool.{Bool, true, false, cond}
use mathlib.Core.List.{List}
use Prim.Native.Nat.{ℕ}
use Rattle.conditions.specs.Build.{Outcome}
use Rattle.model.specs.Step.{Finish, full, unless_full}

module _ (P : Finish → Type 0) where
  -- a program: its store is full, or what follows
  pub of-program : {A : Type 0} (x : Outcome A) (k : A → List ℕ → ℕ → Finish) → (x.store.full ≡ true → P (full x.store)) → (x.store.full ≡ false → P (k x.answer x.words x.store.count)) → P (unless_full x k)
  unfolding unless_full
  of-program x k f g = go x.store.full refl
    where
      go : (b : Bool) → x.store.full ≡ b → P (cond b (full x.store) (k x.answer x.words x.store.count))
      go true e = f e
      go false e = g e
