-- One call, whichever it is: the state goes on holding what the published accesses make of the values.
-- So what it leaves holds something that tells the same as the published run.
use mathlib.Core.Path.{◌≡◌, refl}
use mathlib.Core.Bool.{Bool}
use Prim.Native.Nat.{ℕ, zero, suc, ◌^◌, ◌<◌}
use Rattle.conditions.specs.Assignment.{bit_at}
use Rattle.semantics.specs.Held.{Held}
use Rattle.model.specs.Step.{State, write, read, assert, check, Call, access, node_call, upkeep, refusal, closed, finish, turned_down_by, step}
use Rattle.model.proofs.StepLaws.{Holds, Follows, turned_follows, write_follows, read_follows, assert_follows, check_follows, node_follows, Goes, follows-goes}

module _ (k : ℕ) (small : k < 2 ^ 64) (s : State) (h : Held) (H : Holds (bit_at k) s h) where
  abbrev σ : ℕ → Bool
  σ = bit_at k

  finish_follows : (c : Call) → refusal c s ≡ 0 → Follows σ s h c (closed s (finish c s))
  finish_follows (access (write c a d)) e = write_follows k small s h H c a d e
  finish_follows (access (read p en a out)) e = read_follows k small s h H p en a out e
  finish_follows (access (assert b a d)) e = assert_follows k small s h H b a d e
  finish_follows (access (check b a d)) e = check_follows k small s h H b a d e
  finish_follows (node_call c) e = node_follows k small s h H c e
  finish_follows (upkeep c) e = absurd c

  pub step_follows : (c : Call) → Follows σ s h c (step c s)
  unfolding step
  step_follows c = go (refusal c s) refl
    where
      go : (n : ℕ) → refusal c s ≡ n → Follows σ s h c (turned_down_by n s (closed s (finish c s)))
      go zero e = finish_follows c e
      go (suc n) e = turned_follows σ s h H c (suc n)

pub step-goes : (a : ℕ) → a < 2 ^ 64 → (s : State) (h : Held) → Holds (bit_at a) s h → (c : Call) → Goes (bit_at a) s h c (step c s)
step-goes a small s h H c = follows-goes (bit_at a) s h c (step c s) (step_follows a small s h H c)
