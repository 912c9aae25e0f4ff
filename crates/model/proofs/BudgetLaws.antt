-- What a call comes to keeps within the entries that the list takes, and is refused with 8 only where it takes no more.
use mathlib.Core.Path.{◌≡◌, ap}
use mathlib.Core.Bool.{true, false, false≢true}
use mathlib.Core.List.{List, ◌++◌}
use Prim.Native.Nat.{ℕ, ◌+◌, ◌^◌, ◌<◌, ◌≤◌}
use native.Mathlib.Omega.{arith}
use borrow.Author.Tests.{leb-false}
use Rattle.nodes.proofs.BoolLaws.{split}
use Rattle.conditions.specs.Build.{Store, Outcome}
use Rattle.conditions.specs.Assignment.{bit_at}
use Rattle.semantics.specs.declared.Sizes.{Sizes}
use Rattle.model.specs.Record.{list_capacity}
use Rattle.model.specs.Rows.{space_for}
use Rattle.model.specs.Step.{State, Call, access, node_call, upkeep, Given, refused, is_refused, Result, Finish, full, short, gives, closed, unless_full}
use Rattle.model.specs.Claims.{argument, fed, under}
use Rattle.model.specs.Meanings.{entry_values}
use Rattle.semantics.specs.Published.{Entry}
use Rattle.semantics.specs.Held.{entries_after}
use Rattle.model.specs.Frames.{SizesStay}
use Rattle.model.specs.Count.{SomeExactly, new_entries, entry_count_from, entry_count, CountExactly, BudgetExactly}
use Rattle.semantics.specs.Count.{adds_at, entries_after_all}
use Rattle.model.proofs.FinishProgram.{of-program}
use Rattle.model.proofs.FinishLaws.{of-write, of-assert}
use Rattle.model.proofs.FactLaws.{space-room}
use Rattle.model.proofs.CallFactLaws.{write-facts}
use Rattle.model.proofs.FrameLaws.{rows-plain, sizes_stay}
use Rattle.model.proofs.Demand2.{needs_where}
use Rattle.model.proofs.IdleLaws.{not-idle_may}
use Rattle.model.proofs.SomeLaws.{some-exactly}
use Rattle.model.proofs.AgreeLaws.{Agrees, agrees_values, run_agrees}
use Rattle.semantics.proofs.KeepsLaws.{not-kept-adds}
use Rattle.model.proofs.CountLaws.{refused-number, new_as}
use Rattle.model.proofs.CountFresh.{count-exactly}

-- the entries that a state's list takes
abbrev pub takes : State → ℕ
takes s = list_capacity s.rec s.list

-- a call that would add an entry, under some assignment
abbrev pub Adds : Call → State → Type 0
Adds (access c) s = (k : ℕ) × (k < 2 ^ 64) × (adds_at s.rec.sizes (entry_values (bit_at k) s) (argument (bit_at k) s c) 0 ≡ true)
Adds (node_call c) s = ⊥
Adds (upkeep c) s = absurd c

-- what a call comes to: its entries are within what the list takes; and where 8 refuses it they are all that it takes, and it would add one
pub record Within (c : Call) (s : State) (x : Result) : Type 0 where
  pub below : s.rec.entries ≤ takes s → x.after.rec.entries ≤ takes s
  pub eight : x.answer ≡ refused 8 → (takes s ≤ s.rec.entries) × Adds c s

abbrev pub Stays : Call → State → Finish → Type 0
Stays c s z = Within c s (closed s z)

module _ (c : Call) (s : State) where
  pub full-within : (t : Store) → Stays c s (full t)
  unfolding closed
  full-within t = record { below = λ h. h; eight = λ e. let z : ◌≡◌ {A = ℕ} 9 8 = cc in absurd (omega arith) }

  pub done-within : (g : Given) (t : State) → (s.rec.entries ≤ takes s → t.rec.entries ≤ takes s) → Stays c s (gives g t)
  unfolding closed
  done-within g t h = record { below = h; eight = λ e. absurd (false≢true (ap is_refused e)) }

  pub short-within : space_for s.rec s.words 1 s.list ≡ false → Adds c s → Stays c s short
  unfolding closed
  short-within r m = record { below = λ h. h; eight = λ e. (omega (arith, leb-false (s.rec.entries + 1) (takes s) r), m) }

  pub one-within : space_for s.rec s.words 1 s.list ≡ true → s.rec.entries ≤ takes s → s.rec.entries + 1 ≤ takes s
  one-within r h = omega (arith, space-room s.rec s.words s.list r)

  -- a program that leaves nothing but its nodes and what it gives
  pub program-within : {A : Type 0} (x : Outcome A) (k : A → List ℕ → ℕ → Finish) → Stays c s (k x.answer x.words x.store.count) → Stays c s (unless_full x k)
  program-within x k h = of-program (Stays c s) x k (λ f. full-within _) (λ f. h)
