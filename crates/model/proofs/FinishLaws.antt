-- What holds of what a call comes to, case by case: of space, of a write and of an assert.
use mathlib.Core.Path.{◌≡◌}
use mathlib.Core.Bool.{true, false}
use mathlib.Core.List.{List}
use Prim.Native.Nat.{ℕ}
use lib.Dec.{eqb}
use Rattle.nodes.proofs.BoolLaws.{split}
use Rattle.conditions.specs.Build.{Outcome}
use Rattle.model.specs.Access.{Marks, AssertBuilt}
use Rattle.model.specs.Rows.{space_for}
use Rattle.model.specs.Step.{State, assert, place, idle, entered, kept, Finish, full, short, gives, grown, with_entry, with_assert_condition, if_space, assert_first, entry_built, enter, is_idle, write_built, finish_write, finish_access}
use Rattle.model.proofs.FinishProgram.{of-program}

module _ (P : Finish → Type 0) where
  -- space for k entries, or none
  pub of_space : (k : ℕ) (s : State) (x : Finish) → (space_for s.rec s.words k s.list ≡ true → P x) → (space_for s.rec s.words k s.list ≡ false → P short) → P (if_space k s x)
  of_space k s x f g = split (space_for s.rec s.words k s.list) (λ t. rw t (f t)) (λ t. rw t (g t))

  -- a write: idle; or what it builds overflows, or is entered, or has no space
  module _ (c a d : List ℕ) (s : State) where
    abbrev x : Outcome Marks
    x = write_built c a s

    pub of-write : (is_idle c ≡ true → P (gives idle s)) → (is_idle c ≡ false → x.store.full ≡ true → P (full x.store))
        → (is_idle c ≡ false → x.store.full ≡ false → space_for s.rec s.words 1 s.list ≡ true → P (gives (place s.rec.entries) (with_entry (grown s x.words x.store.count) x.answer a d)))
        → (is_idle c ≡ false → x.store.full ≡ false → space_for s.rec s.words 1 s.list ≡ false → P short) → P (finish_write c a d s)
    unfolding finish_write
    of-write idles overflows enters lacks =
        split (is_idle c) (λ i. rw i (idles i)) (λ i. rw i (of-program P x _ (overflows i) (λ f. of_space 1 s _ (enters i f) (lacks i f))))

  -- an assert: what it builds first overflows, or it is kept; or it has no space for its entry, or its Write overflows, or it is entered
  module _ (b : ℕ) (a d : List ℕ) (s : State) where
    abbrev q : Outcome AssertBuilt
    q = assert_first b a d s

    abbrev y : Outcome Marks
    y = entry_built s b a q.answer q.words q.store.count

    pub of-assert : (q.store.full ≡ true → P (full q.store)) → (q.store.full ≡ false → eqb q.answer.keep 1 ≡ true → P (gives kept (with_assert_condition (grown s q.words q.store.count) q.answer.condition)))
        → (q.store.full ≡ false → eqb q.answer.keep 1 ≡ false → space_for s.rec s.words 1 s.list ≡ false → P short)
        → (q.store.full ≡ false → eqb q.answer.keep 1 ≡ false → space_for s.rec s.words 1 s.list ≡ true → y.store.full ≡ true → P (full y.store))
        → (q.store.full ≡ false → eqb q.answer.keep 1 ≡ false → space_for s.rec s.words 1 s.list ≡ true → y.store.full ≡ false
        → P (gives entered (with_entry (with_assert_condition (grown s y.words y.store.count) q.answer.condition) y.answer a d)))
        → P (finish_access (assert b a d) s)
    unfolding finish_access enter
    of-assert first keeps lacks overflows enters =
        of-program P q (enter s b a d) first
        (λ f. split (eqb q.answer.keep 1) (λ k. rw k (keeps f k))
        (λ k. rw k (of_space 1 s _ (λ r. of-program P y _ (overflows f k r) (enters f k r)) (lacks f k))))
