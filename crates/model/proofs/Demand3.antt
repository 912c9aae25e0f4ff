-- Demand 3, over the whole list of calls.
use mathlib.Core.Path.{◌≡◌, refl, sym, ap, ◌∙◌, subst, subst₂}
use mathlib.Core.Logic.{◌↔◌}
use mathlib.Core.Bool.{Bool}
use mathlib.Core.List.{List, [], ◌∷◌}
use Prim.Native.Nat.{ℕ, zero, suc, ◌+◌, ◌*◌, ◌^◌, ◌<◌}
use native.Mathlib.Omega.{arith}
use lib.Dec.{T}
use lib.ListN.{length, get_or, replicate, length-replicate, get_or-replicate}
use Rattle.conditions.specs.Value.{value}
use Rattle.conditions.specs.Assignment.{bit_at}
use Rattle.conditions.proofs.Promises.{from_1, terminals-standard, value_1}
use Rattle.semantics.specs.declared.Sizes.{Sizes}
use Rattle.semantics.specs.Sizes.{data_bits}
use Rattle.semantics.specs.Pairs.{Pair, X, admit}
use Rattle.model.specs.Record.{Record, held_word}
use Rattle.model.specs.Step.{State, Call, Result, begin, step, run, fresh, fresh_rows, fresh_unless, fresh_record}
use Rattle.semantics.specs.Array.{Event, writes, reads, asserts, checks, nothing}
use Rattle.semantics.specs.Claims.{published, EventsAsRuns}
use Rattle.semantics.specs.Held.{Held, holds_nothing, held_after, held_after_all, NowMay, RunMay, AllAccepted}
use Rattle.model.specs.Claims.{pair_at, event, events, May, told, Exactly, Begins, Demand3, FromFresh}
use Rattle.semantics.proofs.KeptLaws.{SameHeld, same_itself, same_answer}
use Rattle.semantics.proofs.RunLaws.{events_as-runs, told_along}
use Rattle.model.proofs.MeansLaws.{Means, means_as, near_self, one-means}
use Rattle.model.proofs.HalfLaws.{half_of, half-X}
use Rattle.model.proofs.PortLaws.{held_at}
use Rattle.model.proofs.FactLaws.{fresh-told}
use Rattle.model.proofs.StepLaws.{Holds, PortsMean, Goes, port_is}
use Rattle.model.proofs.StepFollows.{step-goes}

-- the list of calls goes on telling what the published run of its events does
pub record Traced (σ : ℕ → Bool) (z : Sizes) (cs : List Call) (s : State) (g : Held) : Type 0 where
  pub accepted : AllAccepted z (events σ s cs)
  pub bits : (j i : ℕ) → i < data_bits z → (b : Bool) → May σ s cs j i b ↔ RunMay z g (events σ s cs) j i b
  pub ports : (p i : ℕ) → p < 4 → i < data_bits z → pair_at σ (run cs s).words (held_word (run cs s).rec (run cs s).ports p) i ≡ (held_after_all z g (events σ s cs)).ports p i
  pub condition : value (run cs s).words σ (run cs s).rec.checked ≡ (held_after_all z g (events σ s cs)).condition

-- two memories that tell the same answer the same
same_now : (z : Sizes) (s t : Held) → SameHeld z s t → (e : Event) (i : ℕ) → i < data_bits z → (b : Bool) → NowMay z s e i b ↔ NowMay z t e i b
same_now z s t S (writes c a d) i l b = (λ x. x, λ x. x)
same_now z s t S (reads p e a) i l b =
    let q = same_answer z s t S p e a i l in
    (λ x. subst (λ (p : Pair). T (admit p b)) q x, λ x. subst (λ (p : Pair). T (admit p b)) (sym q) x)
same_now z s t S (asserts c a d) i l b = (λ x. x, λ x. x)
same_now z s t S (checks c a d) i l b = (λ x. x, λ x. x)
same_now z s t S nothing i l b = (λ x. x, λ x. x)

-- h is what the state holds, g the published run
traced : (a : ℕ) → a < 2 ^ 64 → (z : Sizes) (cs : List Call) (s : State) (h g : Held) → s.rec.sizes ≡ z → Holds (bit_at a) s h → length s.ports ≡ 128 → PortsMean (bit_at a) s h.ports → SameHeld z h g → Traced (bit_at a) z cs s g
unfolding run
traced a small z [] s h g ez H N P E =
    record { accepted = tt; bits = λ j i l b. (λ x. x, λ x. x); ports = λ p i l m. port_is P p i l (rw ez m) ∙ E.ports p i m; condition = H.checked.is refl (bit_at a) (near_self (bit_at a)) ∙ E.condition }
traced a small z (c ∷ cs) s h g ez H N P E =
    subst (λ (z : Sizes). SameHeld z h g → ((h' g' : Held) → (step c s).after.rec.sizes ≡ z → Holds (bit_at a) (step c s).after h' → length (step c s).after.ports ≡ 128 → PortsMean (bit_at a) (step c s).after h'.ports → SameHeld z h' g' → Traced (bit_at a) z cs (step c s).after g') → Traced (bit_at a) z (c ∷ cs) s g) ez
    (λ E rest. both (step-goes a small s h H c) E rest) E (λ h' g' q H' N' P' E'. traced a small z cs (step c s).after h' g' q H' N' P' E')
  where
    both : Goes (bit_at a) s h c (step c s) → SameHeld s.rec.sizes h g
        → ((h' g' : Held) → (step c s).after.rec.sizes ≡ s.rec.sizes → Holds (bit_at a) (step c s).after h' → length (step c s).after.ports ≡ 128 → PortsMean (bit_at a) (step c s).after h'.ports → SameHeld s.rec.sizes h' g' → Traced (bit_at a) s.rec.sizes cs (step c s).after g')
        → Traced (bit_at a) s.rec.sizes (c ∷ cs) s g
    both F E rest = record { accepted = (F.accepted, R.accepted); bits = bits; ports = R.ports; condition = R.condition }
      where
        R : Traced (bit_at a) s.rec.sizes cs (step c s).after (held_after s.rec.sizes g (event (bit_at a) s c (step c s).answer))
        R = rest _ _ F.sizes F.holds (F.long N) (F.ports N P) (F.tells g E)

        bits : (j i : ℕ) → i < data_bits s.rec.sizes → (b : Bool) → May (bit_at a) s (c ∷ cs) j i b ↔ RunMay s.rec.sizes g (events (bit_at a) s (c ∷ cs)) j i b
        bits zero i l b =
            let f = F.bits P i l b in
            let q = same_now s.rec.sizes h g E (event (bit_at a) s c (step c s).answer) i l b in
            (λ x. q.0 (f.0 x), λ x. f.1 (q.1 x))
        bits (suc j) i l b = R.bits j i l b

-- fresh ports: every word is node 1, which holds everywhere
fresh-ports : (s : State) → Begins s → (σ : ℕ → Bool) → PortsMean σ s (λ p i. X)
fresh-ports s B σ = record { words = λ p l. record { half = λ i m. rw (held_at s.rec s.ports p i m, B.ports) (one p i l m) } }
  where
    one : (p i : ℕ) → p < 4 → i < 2 * s.rec.sizes.w → Means σ 8 (λ τ. half_of i (λ k. X)) s.words (begin s.rec) (get_or (replicate 128 1) (p * 32 + i) 0)
    one p i l m = rw (get_or-replicate {A = ℕ} 128 (p * 32 + i) 1 0 (omega (arith, l, m, B.wide))) (means_as (one-means 8 (omega arith) B.standard) (λ τ. sym (half-X i)))

-- where lists of calls begin, nothing is held
pub begins-holds : (s : State) → Begins s → (σ : ℕ → Bool) → Holds σ s holds_nothing
begins-holds s B σ =
    let t = B.standard.two in
    record {
      entries = record { count = sym B.entries; at = λ j h. absurd (omega (arith, B.entries)) };
      checked = record { below = omega (arith, B.checked); from = rw B.checked (from_1 8 B.standard (omega arith)); is = λ f τ k. ap (value s.words τ) B.checked ∙ value_1 s.words τ };
    }

-- and the whole list tells what its published run does, from no entries on
pub begins_traced : (s : State) → Begins s → (cs : List Call) (a : ℕ) → a < 2 ^ 64 → Traced (bit_at a) s.rec.sizes cs s holds_nothing
begins_traced s B cs a small =
    traced a small s.rec.sizes cs s holds_nothing holds_nothing refl (begins-holds s B (bit_at a)) (ap length B.ports ∙ length-replicate {A = ℕ} 128 1) (fresh-ports s B (bit_at a)) (same_itself s.rec.sizes holds_nothing)

pub demand3 : Demand3
unfolding Demand3 EventsAsRuns
demand3 s B cs a small =
    let R = begins_traced s B cs a small in
    let es = events (bit_at a) s cs in
    told_along s.rec.sizes es (published s.rec.sizes es) (told (bit_at a) (May (bit_at a) s cs) (run cs s))
    (record {
      bits = λ j i l b. let f = R.bits j i l b in (f.1, f.0);
      holds = λ p i l m b. let e = R.ports p i l m in (λ x. subst (λ (q : Pair). T (admit q b)) (sym e) x, λ x. subst (λ (q : Pair). T (admit q b)) e x);
      checking = (λ x. subst T (sym R.condition) x, λ x. subst T R.condition x);
    })
    (events_as-runs s.rec.sizes es R.accepted)

-- what an accepted Fresh leaves, with a list of any words, is such a state
pub from-fresh : FromFresh
unfolding FromFresh fresh
from-fresh given z ws ps list e = go (fresh_rows z ws) refl e
  where
    go : (k : ℕ) → fresh_rows z ws ≡ k → (fresh_unless k given (fresh_record z) ws ps).answer ≡ 0
        → Begins (record { rec = (fresh_unless k given (fresh_record z) ws ps).rec; words = (fresh_unless k given (fresh_record z) ws ps).words; list = list; ports = (fresh_unless k given (fresh_record z) ws ps).ports })
    go zero q e =
        let (range, rest) = (fresh-told z ws).none q in
        record { standard = terminals-standard ws rest.0; entries = refl; asserted = refl; checked = refl; ports = refl; wide = range.w-most }
    go (suc k) q e = absurd (omega arith)
