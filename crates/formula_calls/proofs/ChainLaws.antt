-- Lists of calls and formulas that ran, with each formula as its calls: chains of the model, which have demand 3 and the count of entries.
use mathlib.Core.Path.{◌≡◌, refl, sym, ap, subst, ◌∙◌}
use mathlib.Core.List.{List, [], ◌∷◌, ◌++◌}
use Rattle.conditions.specs.Assignment.{bit_at}
use Rattle.model.specs.Step.{State, Call, step, run}
use Rattle.semantics.specs.Claims.{ExactlyAsRuns}
use Rattle.model.specs.Claims.{told}
use Rattle.model.specs.Chain.{Link, Chained, last_state, events_of, MayBe, ChainExactly}
use Rattle.model.specs.Count.{ChainCount}
use Rattle.model.proofs.ChainLaws.{chain-exactly, chain-count}
use Rattle.formula_calls.specs.Call.{FormulaResult}
use Rattle.formula_calls.specs.Claims.{calls_of, FormulaIsCalls}
use Rattle.formula_calls.specs.Chain.{call, formula, links_of, spelled_out, AnySpelledOut, FormulaChainExactly, FormulaChainCount}
use Rattle.formula_calls.proofs.CallLaws.{formula_is-calls}

-- calls that are made one after the other, before links that are chained to what they leave
links-chained : (s : State) (cs : List Call) (ks : List Link) → Chained (run cs s) ks → Chained s (links_of s cs ++ ks)
unfolding run
links-chained s [] ks C = C
links-chained s (c ∷ cs) ks C = (refl, links-chained (step c s).after cs ks C)

links-last : (s : State) (cs : List Call) (ks : List Link) → last_state s (links_of s cs ++ ks) ≡ last_state (run cs s) ks
unfolding run
links-last s [] ks = refl
links-last s (c ∷ cs) ks = links-last (step c s).after cs ks

pub any-spelled_out : AnySpelledOut
unfolding AnySpelledOut FormulaIsCalls
any-spelled_out s [] C = record { chained = tt; last = refl }
any-spelled_out s (call k ∷ ks) C = let S = any-spelled_out k.after ks C.1 in record { chained = (C.0, S.chained); last = S.last }
any-spelled_out s (formula k ∷ ks) C =
    let S = any-spelled_out k.after ks C.1 in
    let cs = calls_of k.making k.text k.table k.out s in
    let e : k.after ≡ run cs s = sym (ap (λ (x : FormulaResult). x.after) C.0) ∙ (formula_is-calls k.making k.text k.table k.out s).leaves in
    let ls = spelled_out k.after ks in
    record {
      chained = links-chained s cs ls (subst (λ t. Chained t ls) e S.chained);
      last = links-last s cs ls ∙ ap (λ t. last_state t ls) (sym e) ∙ S.last;
    }

pub formula_chain-exactly : FormulaChainExactly
unfolding FormulaChainExactly AnySpelledOut ChainExactly
formula_chain-exactly given z ws ps s e ks C a h =
    let S = any-spelled_out s ks C in
    let ls = spelled_out s ks in
    subst (λ (t : State). ExactlyAsRuns s.rec.sizes (events_of (bit_at a) s ls) (told (bit_at a) (MayBe (bit_at a) ls) t)) S.last (chain-exactly given z ws ps s e ls S.chained a h)

pub formula_chain-count : FormulaChainCount
unfolding FormulaChainCount AnySpelledOut ChainCount
formula_chain-count given z ws ps s e ks C =
    let S = any-spelled_out s ks C in
    ap (λ (t : State). t.rec.entries) (sym S.last) ∙ chain-count given z ws ps s e (spelled_out s ks) S.chained
