-- A list of calls from a fresh memory holds, under each assignment, what says the same of each location as the published list of its accesses.
use mathlib.Core.Path.{◌≡◌, refl, sym, subst}
use mathlib.Core.Bool.{Bool, true, false}
use mathlib.Core.List.{List, [], ◌∷◌, append-nil}
use Prim.Native.Nat.{ℕ, ◌^◌, ◌<◌}
use Rattle.conditions.specs.Assignment.{bit_at}
use Rattle.semantics.specs.declared.Sizes.{Sizes}
use Rattle.semantics.specs.Sizes.{cell_bits}
use Rattle.semantics.specs.Published.{Entry, entry, control}
use Rattle.semantics.specs.Array.{Event, writes, reads, asserts, checks, nothing}
use Rattle.semantics.specs.Count.{entries_after_all}
use Rattle.semantics.specs.Held.{Held, holds_nothing, entries_after, held_after, Accepted}
use Rattle.model.specs.Step.{State, Call, step, run}
use Rattle.model.specs.Claims.{event, events, Begins}
use Rattle.model.specs.Meanings.{entry_values}
use Rattle.model.specs.Count.{LookIsList}
use Rattle.semantics.proofs.KeptLaws.{SameCells, same-look}
use Rattle.model.proofs.StepLaws.{AllWide, Holds}
use Rattle.model.proofs.StepFollows.{step-goes}
use Rattle.model.proofs.EntryLaws.{holds_are}
use Rattle.model.proofs.Demand3.{begins-holds}

-- a state that holds, under an assignment, what says the same of each location as the published list
pub record Agrees (φ : ℕ → Bool) (z : Sizes) (s : State) (es : List Entry) : Type 0 where
  held : Held
  holds : Holds φ s held
  pub sizes_are : s.rec.sizes ≡ z
  wide : AllWide (cell_bits z) held.entries
  same : SameCells (cell_bits z) held.entries es

pub agrees_values : {φ : ℕ → Bool} {z : Sizes} {s : State} {es : List Entry} → Agrees φ z s es → SameCells (cell_bits z) (entry_values φ s) es
agrees_values {φ} {z} {s} {es} A = rw (holds_are φ s A.held A.holds (rw A.sizes_are A.wide)) A.same

-- goes on so, call by call
held-entries : (z : Sizes) (g : Held) (e : Event) → (held_after z g e).entries ≡ entries_after g.entries e
held-entries z g (writes c a d) = refl
held-entries z g (reads p e a) = sym (append-nil g.entries)
held-entries z g (asserts b a d) = refl
held-entries z g (checks b a d) = sym (append-nil g.entries)
held-entries z g nothing = sym (append-nil g.entries)

agrees-step : (a : ℕ) → a < 2 ^ 64 → (c : Call) (s : State) (es : List Entry) → Agrees (bit_at a) s.rec.sizes s es
    → Agrees (bit_at a) s.rec.sizes (step c s).after (entries_after es (event (bit_at a) s c (step c s).answer))
agrees-step a small c s es A =
    let F = step-goes a small s A.held A.holds c in
    let g : Held = record { entries = es; ports = A.held.ports; condition = A.held.condition } in
    let G = F.tells g (record { entries = A.same; ports = λ p i l. refl; condition = refl }) in
    record {
      held = F.next;
      holds = F.holds;
      sizes_are = F.sizes;
      wide = F.wide A.wide;
      same = rw (held-entries s.rec.sizes g (event (bit_at a) s c (step c s).answer)) at G.entries;
    }

-- the sizes stay
pub agrees-next : (z : Sizes) (a : ℕ) → a < 2 ^ 64 → (c : Call) (s : State) (es : List Entry) → Agrees (bit_at a) z s es → Agrees (bit_at a) z (step c s).after (entries_after es (event (bit_at a) s c (step c s).answer))
agrees-next z a small c s es A =
    subst (λ (z : Sizes). Agrees (bit_at a) z s es → Agrees (bit_at a) z (step c s).after (entries_after es (event (bit_at a) s c (step c s).answer))) A.sizes_are (agrees-step a small c s es) A

-- nothing, where lists of calls begin
pub begins_agrees : (s : State) → Begins s → (φ : ℕ → Bool) → Agrees φ s.rec.sizes s []
begins_agrees s B φ = record { held = holds_nothing; holds = begins-holds s B φ; sizes_are = refl; wide = tt; same = record { cells = λ x i h. refl } }

-- so after a list of calls
agrees_run : (a : ℕ) → a < 2 ^ 64 → (z : Sizes) (cs : List Call) (s : State) (es : List Entry) → Agrees (bit_at a) z s es → Agrees (bit_at a) z (run cs s) (entries_after_all es (events (bit_at a) s cs))
unfolding run
agrees_run a small z [] s es A = A
agrees_run a small z (c ∷ cs) s es A = agrees_run a small z cs (step c s).after _ (agrees-next z a small c s es A)

pub run_agrees : (s : State) → Begins s → (cs : List Call) (a : ℕ) → a < 2 ^ 64 → Agrees (bit_at a) s.rec.sizes (run cs s) (entries_after_all [] (events (bit_at a) s cs))
run_agrees s B cs a small = agrees_run a small s.rec.sizes cs s [] (begins_agrees s B (bit_at a))

pub look_is-list : LookIsList
unfolding LookIsList
look_is-list s B cs a small x i l = same-look s.rec.sizes.n (cell_bits s.rec.sizes) _ _ (agrees_values (run_agrees s B cs a small)) x i l
