-- Two lists of calls: each tells what its published run does, and the second run is narrower. So do two chains of calls that ran, with formulas among them.
use mathlib.Core.Path.{◌≡◌, sym, ap, ◌∙◌, subst, subst₂}
use mathlib.Core.Bool.{Bool}
use mathlib.Core.List.{List}
use Prim.Native.Nat.{ℕ, ◌^◌, ◌<◌}
use lib.Dec.{T}
use Rattle.conditions.specs.Assignment.{bit_at}
use Rattle.semantics.specs.declared.Sizes.{Sizes}
use Rattle.semantics.specs.Pairs.{Pair, admit}
use Rattle.semantics.specs.Array.{Event}
use Rattle.semantics.specs.Held.{holds_nothing}
use Rattle.model.specs.Step.{State, Call, run}
use Rattle.model.specs.Claims.{events, under, May, HeldMay, CheckHolds, Begins}
use Rattle.model.specs.Chain.{Link, Chained, last_state, events_of, MayBe}
use Rattle.model.proofs.Demand3.{Traced, begins_traced}
use Rattle.model.proofs.ChainLaws.{calls, chain_run, chain_fed, chain_may, fresh-begins, fresh-sizes}
use Rattle.formula_calls.specs.Chain.{spelled_out, AnySpelledOut}
use Rattle.formula_calls.proofs.ChainLaws.{any-spelled_out}
use Rattle.sharper.specs.Sharper.{SharperList, Matched}
use Rattle.sharper.specs.Narrower.{AccessLists}
use Rattle.sharper.proofs.RunLaws.{nothing_narrower}
use Rattle.sharper.proofs.ListLaws.{access-lists}
use Rattle.sharpening.specs.Claims.{AnswersNarrower, Sharpening, ChainSharpening, FormulaChainSharpening}

-- two lists that tell what their published runs do
traced_narrower : (φ : ℕ → Bool) (z : Sizes) (s t : State) (cs ds : List Call) → Traced φ z cs s holds_nothing → Traced φ z ds t holds_nothing
    → (M : SharperList (events φ s cs) (events φ t ds)) → AnswersNarrower φ z (Matched M) (May φ s cs) (May φ t ds) (run cs s) (run ds t)
unfolding AccessLists
traced_narrower φ z s t cs ds R S M =
    let L = access-lists z holds_nothing holds_nothing (events φ s cs) (events φ t ds) M (nothing_narrower z) R.accepted S.accepted in
    record {
      bits = λ j k m i h b y. (R.bits j i h b).1 (L.bits j k m i h b ((S.bits k i h b).0 y));
      holds = λ p i l h b y. subst (λ (q : Pair). T (admit q b)) (sym (R.ports p i l h)) (L.after.ports p i h b (subst (λ (q : Pair). T (admit q b)) (S.ports p i l h) y));
      checking = λ y. subst T (sym S.condition) (L.after.condition (subst T R.condition y));
    }

pub sharpening : Sharpening
unfolding Sharpening
sharpening s t B C e cs ds a small M =
    traced_narrower (bit_at a) s.rec.sizes s t cs ds (begins_traced s B cs a small)
    (subst (λ (z : Sizes). Traced (bit_at a) z ds t holds_nothing) e (begins_traced t C ds a small)) M

-- of two chains of calls that ran: each is the run of its calls
chains_narrower : (s t : State) → Begins s → Begins t → t.rec.sizes ≡ s.rec.sizes → (ks ls : List Link) → Chained s ks → Chained t ls → (a : ℕ) → a < 2 ^ 64
    → (M : SharperList (events_of (bit_at a) s ks) (events_of (bit_at a) t ls)) → AnswersNarrower (bit_at a) s.rec.sizes (Matched M) (MayBe (bit_at a) ks) (MayBe (bit_at a) ls) (last_state s ks) (last_state t ls)
unfolding Sharpening
chains_narrower s t B C e ks ls c d a small =
    let φ = bit_at a in
    let E = ap (under φ) (chain_fed s ks c) in
    let F = ap (under φ) (chain_fed t ls d) in
    subst₂ (λ (es fs : List Event). (M : SharperList es fs) → AnswersNarrower φ s.rec.sizes (Matched M) (MayBe φ ks) (MayBe φ ls) (last_state s ks) (last_state t ls)) E F
    (λ M.
    let A = sharpening s t B C e (calls ks) (calls ls) a small M in
    record {
      bits = λ j k m i h b z. subst (λ (P : Type 0). P) (chain_may φ s ks j i b c) (A.bits j k m i h b (subst (λ (P : Type 0). P) (sym (chain_may φ t ls k i b d)) z));
      holds = λ p i l h b z.
          subst (λ (x : State). HeldMay φ x p i b) (chain_run s ks c) (A.holds p i l h b (subst (λ (x : State). HeldMay φ x p i b) (sym (chain_run t ls d)) z));
      checking = λ z. subst (λ (x : State). CheckHolds φ x) (chain_run t ls d) (A.checking (subst (λ (x : State). CheckHolds φ x) (sym (chain_run s ks c)) z));
    })

pub chain-sharpening : ChainSharpening
unfolding ChainSharpening
chain-sharpening given given' z ws ws' ps ps' s t e f ks ls c d a small M =
    let r = fresh-sizes given z ws ps s e in
    subst (λ (v : Sizes). AnswersNarrower (bit_at a) v (Matched M) (MayBe (bit_at a) ks) (MayBe (bit_at a) ls) (last_state s ks) (last_state t ls)) r
    (chains_narrower s t (fresh-begins given z ws ps s e) (fresh-begins given' z ws' ps' t f) (fresh-sizes given' z ws' ps' t f ∙ sym r) ks ls c d a small M)

pub formula_chain-sharpening : FormulaChainSharpening
unfolding FormulaChainSharpening ChainSharpening AnySpelledOut
formula_chain-sharpening given given' z ws ws' ps ps' s t e f ks ls c d a small M =
    let S = any-spelled_out s ks c in
    let R = any-spelled_out t ls d in
    subst₂ (λ (x y : State). AnswersNarrower (bit_at a) z (Matched M) (MayBe (bit_at a) (spelled_out s ks)) (MayBe (bit_at a) (spelled_out t ls)) x y) S.last R.last
    (chain-sharpening given given' z ws ws' ps ps' s t e f (spelled_out s ks) (spelled_out t ls) S.chained R.chained a small M)
