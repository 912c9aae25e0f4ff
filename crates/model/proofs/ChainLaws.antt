-- A chain of calls that met their promises is the model's run of those calls; so it has demand 3, and the count of its entries.
use mathlib.Core.Path.{◌≡◌, refl, sym, ap, subst, ◌∙◌}
use mathlib.Core.Logic.{◌↔◌}
use mathlib.Core.Bool.{Bool, true≢false}
use mathlib.Core.List.{List, [], ◌∷◌}
use Prim.Native.Nat.{ℕ, zero, suc, ◌^◌, ◌<◌}
use Rattle.conditions.specs.Assignment.{bit_at}
use Rattle.semantics.specs.declared.Sizes.{Sizes}
use Rattle.model.specs.Record.{Record}
use Rattle.model.specs.Step.{State, Call, accepted, Answer, done, Result, is_refused, run, Fresh, fresh}
use Rattle.semantics.specs.Array.{Event}
use Rattle.semantics.specs.Claims.{ExactlyAsRuns}
use Rattle.semantics.proofs.RunLaws.{told_along}
use Rattle.model.specs.Claims.{event, Fed, fed, under, events, BitMay, May, HeldMay, CheckHolds, told, Begins, Exactly, Demand3, FromFresh}
use Rattle.model.specs.Chain.{numbered, freshed, Link, Chained, last_state, fed_of, MayBe, ExactlyRuns, ChainExactly}
use Rattle.model.specs.Frames.{FreshLeaves}
use Rattle.model.specs.Count.{entry_count, CountExactly, ChainCount}
use Rattle.model.proofs.Demand3.{demand3, from-fresh}
use Rattle.model.proofs.CountFresh.{count-exactly}
use Rattle.model.proofs.FrameLaws.{fresh-leaves}

pub calls : List Link → List Call
calls [] = []
calls (k ∷ ks) = k.call ∷ calls ks

pub chain_run : (s : State) (ks : List Link) → Chained s ks → run (calls ks) s ≡ last_state s ks
unfolding run calls
chain_run s [] C = refl
chain_run s (k ∷ ks) C = ap (λ (x : Result). run (calls ks) x.after) C.0 ∙ chain_run k.after ks C.1

pub chain_fed : (s : State) (ks : List Link) → Chained s ks → fed s (calls ks) ≡ fed_of s ks
unfolding calls
chain_fed s [] C = refl
chain_fed s (k ∷ ks) C =
    ap (λ (x : Result). (λ (φ : ℕ → Bool). event φ s k.call x.answer) ∷ fed x.after (calls ks)) C.0 ∙ ap (λ (es : List Fed). (λ (φ : ℕ → Bool). event φ s k.call k.answer) ∷ es) (chain_fed k.after ks C.1)

pub chain_may : (φ : ℕ → Bool) (s : State) (ks : List Link) (j i : ℕ) (b : Bool) → Chained s ks → May φ s (calls ks) j i b ≡ MayBe φ ks j i b
unfolding calls
chain_may φ s [] j i b C = refl
chain_may φ s (k ∷ ks) zero i b C = ap (λ (x : Result). BitMay φ x.after.words x.answer i b) C.0
chain_may φ s (k ∷ ks) (suc j) i b C = ap (λ (x : Result). May φ x.after (calls ks) j i b) C.0 ∙ chain_may φ k.after ks j i b C.1

-- from any state in which lists of calls may begin
pub chain-from : (s : State) → Begins s → (ks : List Link) → Chained s ks → (a : ℕ) → a < 2 ^ 64 → ExactlyRuns s ks (bit_at a)
unfolding Demand3
chain-from s B ks C a h =
    let φ = bit_at a in
    let z = s.rec.sizes in
    let last = chain_run s ks C in
    subst (λ (es : List Event). ExactlyAsRuns z es (told φ (MayBe φ ks) (last_state s ks))) (ap (under φ) (chain_fed s ks C))
    (told_along z (events φ s (calls ks)) (told φ (May φ s (calls ks)) (run (calls ks) s)) (told φ (MayBe φ ks) (last_state s ks))
    (record {
      bits = λ j i m b. same (chain_may φ s ks j i b C);
      holds = λ p i l m b. same (ap (λ (t : State). HeldMay φ t p i b) last);
      checking = same (ap (CheckHolds φ) last);
    })
    (demand3 s B (calls ks) a h))
  where
    same : {P Q : Type 0} → P ≡ Q → P ↔ Q
    same {P} {Q} e = (λ x. subst (λ (R : Type 0). R) e x, λ x. subst (λ (R : Type 0). R) (sym e) x)

-- an answer numbered 0 is the accepted one
pub accepted_zero : (k : ℕ) → numbered k ≡ done accepted → k ≡ 0
accepted_zero zero e = refl
accepted_zero (suc k) e = absurd (true≢false (ap is_refused e))

-- an accepted Fresh leaves a state in which lists of calls may begin
pub fresh-begins : (given : Record) (z : Sizes) (ws ps : List ℕ) (s : State) → freshed (fresh given z ws ps) ≡ (done accepted, s.rec, s.words, s.ports) → Begins s
unfolding FromFresh
fresh-begins given z ws ps s e =
    let x = fresh given z ws ps in
    let e0 = accepted_zero x.answer (ap (λ (t : Answer × Record × List ℕ × List ℕ). t.0) e) in
    subst (λ (t : Answer × Record × List ℕ × List ℕ). Begins (record { rec = t.1; words = t.2; list = s.list; ports = t.3 })) e (from-fresh given z ws ps s.list e0)

-- and the sizes that it was given
pub fresh-sizes : (given : Record) (z : Sizes) (ws ps : List ℕ) (s : State) → freshed (fresh given z ws ps) ≡ (done accepted, s.rec, s.words, s.ports) → s.rec.sizes ≡ z
unfolding FreshLeaves
fresh-sizes given z ws ps s e =
    let e0 = accepted_zero (fresh given z ws ps).answer (ap (λ (t : Answer × Record × List ℕ × List ℕ). t.0) e) in
    sym (ap (λ (t : Answer × Record × List ℕ × List ℕ). t.1.sizes) e) ∙ ap (λ (x : Fresh). x.rec.sizes) ((fresh-leaves given z ws ps).1 e0)

pub chain-exactly : ChainExactly
unfolding ChainExactly
chain-exactly given z ws ps s e ks C a h = chain-from s (fresh-begins given z ws ps s e) ks C a h

-- and the count of its entries
pub chain-count : ChainCount
unfolding ChainCount CountExactly
chain-count given z ws ps s e ks C =
    ap (λ (t : State). t.rec.entries) (sym (chain_run s ks C)) ∙ count-exactly s (fresh-begins given z ws ps s e) (calls ks) ∙ ap (λ (es : List Fed). entry_count s.rec.sizes es) (chain_fed s ks C)
