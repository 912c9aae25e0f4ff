-- What the panel was promised, each by the theorem of a crate below.
use mathlib.Core.Path.{◌≡◌, sym, ap, subst, subst₂, ◌∙◌}
use mathlib.Core.List.{List, [], ◌∷◌}
use Prim.Native.Nat.{ℕ, ◌^◌, ◌<◌}
use Rattle.conditions.specs.Assignment.{bit_at}
use Rattle.conditions.proofs.Promises.{text-exactly}
use Rattle.semantics.specs.declared.Sizes.{Sizes}
use Rattle.semantics.specs.Claims.{ExactlyAsRuns}
use Rattle.model.specs.Record.{Record}
use Rattle.model.specs.Step.{State, Answer, accepted, done, fresh}
use Rattle.model.specs.Claims.{told}
use Rattle.model.specs.Chain.{freshed, MayBe, fed_of, events_of}
use Rattle.model.specs.Count.{entry_count, total}
use Rattle.model.proofs.ChainLaws.{fresh-sizes}
use Rattle.model.proofs.TableLaws.{accepted-exactly, refused-exactly, fresh-exactly}
use Rattle.model.proofs.NineLaws.{nine-exactly}
use Rattle.model.proofs.FrameLaws.{refusal-leaves, success-leaves, fresh-leaves}
use Rattle.model.proofs.Demand2.{demand2}
use Rattle.model.proofs.CountLaws.{kept-exactly}
use Rattle.formula_calls.specs.Chain.{AnyLink, AnswersLink, AllChained, spelled_out, last_of, FormulaChainExactly, FormulaChainCount}
use Rattle.formula_calls.proofs.CallLaws.{formula_is-calls}
use Rattle.formula_calls.proofs.ChainLaws.{formula_chain-exactly, formula_chain-count}
use Rattle.sharpening.specs.Claims.{FormulaChainSharpening, CaseNarrower, CaseSharpening}
use Rattle.sharpening.proofs.CallLaws.{formula_chain-sharpening}
use Rattle.sharpening.proofs.CaseLaws.{case-sharpening}
use Rattle.memory.specs.Contract.{state_of}
use Rattle.cases.specs.Case.{Answered, Case, case_of}
use Rattle.cases.specs.Claims.{CaseExact, CaseExactly, CaseCount}
use Rattle.cases.proofs.CaseLaws.{case-exactly}
use Rattle.cases.proofs.CountLaws.{case_count}
use Rattle.memory.proofs.Record.fresh.Met as fresh-met
use Rattle.memory.proofs.Record.evaluate.Met as evaluate-met
use Rattle.memory.proofs.Record.variable.Met as variable-met
use Rattle.memory.proofs.Record.ite.Met as ite-met
use Rattle.memory.proofs.Record.write.Met as write-met
use Rattle.memory.proofs.Record.read.Met as read-met
use Rattle.memory.proofs.Record.assert.Met as assert-met
use Rattle.memory.proofs.Record.check.Met as check-met
use Rattle.formula_record.proofs.assert_formula.Met as assert-formula-met
use Rattle.formula_record.proofs.check_formula.Met as check-formula-met
use Rattle.casefile.proofs.run_case.Met as run-case-met
use Rattle.panel.specs.Panel.{FunctionsMeet, NothingAsked, Ran, evaluates, gives, builds, writes, reads, asserts, checks, asserts_formula, checks_formula, AllRan, Begun, begins, CaseRan, runs, Demand3, Count, Sharpening, Promise}

functions_meet : FunctionsMeet
functions_meet = record {
  fresh_meets = fresh-met.met;
  evaluate-meets = evaluate-met.met;
  variable-meets = variable-met.met;
  ite-meets = ite-met.met;
  write_meets = write-met.met;
  read_meets = read-met.met;
  assert-meets = assert-met.met;
  check-meets = check-met.met;
  assert-formula-meets = assert-formula-met.met;
  check-formula-meets = check-formula-met.met;
  run_case-meets = run-case-met.met;
}

nothing_asked : NothingAsked
nothing_asked = record {
  fresh_asks = λ κs self words ports z. tt;
  evaluate_asks = λ κs self words f a. tt;
  variable_asks = λ κs self words v. tt;
  ite_asks = λ κs self words f g h. tt;
  write_asks = λ κs self words list enable address «data». tt;
  read_asks = λ κs self words list ports port enable address out. tt;
  assert_asks = λ κs self words list b address «data». tt;
  check_asks = λ κs self words list b address «data». tt;
  assert-formula_asks = λ κs self words list text table out. tt;
  check-formula_asks = λ κs self words list text table out. tt;
  run_case_asks = λ κs file words list text. tt;
}

-- a contract is the promise that a chain asks of its link
each-call : (s : State) (k : AnyLink) → Ran s k → AnswersLink s k
each-call _ _ (evaluates κs self words f a r list ports p) = p list ports
each-call _ _ (gives κs self words v r words' list ports p) = p list ports
each-call _ _ (builds κs self words f g h r words' list ports p) = p list ports
each-call _ _ (writes κs self words list enable address «data» r words' list' ports p) = p ports
each-call _ _ (reads κs self words list ports port enable address out r words' ports' out' p) = p.is
each-call _ _ (asserts κs self words list b address «data» r words' list' ports p) = p ports
each-call _ _ (checks κs self words list b address «data» r words' ports p) = p ports
each-call _ _ (asserts_formula κs self words list text table out r words' list' out' ports p) = p ports
each-call _ _ (checks_formula κs self words list text table out r words' out' ports p) = p ports

all-chained : (s : State) (ks : List AnyLink) → AllRan s ks → AllChained s ks
all-chained s [] R = tt
all-chained s (k ∷ ks) R = (each-call s k R.0, all-chained _ ks R.1)

-- what a Fresh that ran left is what an accepted one leaves
pub record Fresh (z : Sizes) (s : State) : Type 0 where
  pub given : Record
  pub words : List ℕ
  pub ports : List ℕ
  pub left : freshed (fresh given z words ports) ≡ (done accepted, s.rec, s.words, s.ports)
  pub sizes : s.rec.sizes ≡ z

begun_fresh : (z : Sizes) (s : State) → Begun z s → Fresh z s
begun_fresh _ _ (begins κs self words ports z r words' ports' list p e) =
    let q = p ∙ ap (λ (a : Answer). (a, r.after.fields, words'.now, ports'.now)) e in
    record {
      given = self.fields;
      words = words.now;
      ports = ports.now;
      left = q;
      sizes = fresh-sizes self.fields z words.now ports.now (state_of r.after words'.now list ports'.now) q;
    }

-- a case that ran answered and left what the definition says
case_ran : (file words list text : List ℕ) (c : Case) → CaseRan file words list text c → c ≡ case_of file words list text
case_ran _ _ _ _ _ (runs κs file words list text r words' list' text' p) = p

case-answer : (file words list text : List ℕ) (c : Case) → CaseRan file words list text c → {x : Answered} → c.answer ≡ x → (case_of file words list text).answer ≡ x
case-answer file words list text c R e = sym (ap (λ (d : Case). d.answer) (case_ran file words list text c R)) ∙ e

exactly : Demand3
unfolding FormulaChainExactly CaseExactly
exactly = record {
  of_calls = λ z s B ks R a h.
      let F = begun_fresh z s B in
      subst (λ (y : Sizes). ExactlyAsRuns y (events_of (bit_at a) s (spelled_out s ks)) (told (bit_at a) (MayBe (bit_at a) (spelled_out s ks)) (last_of s ks))) F.sizes
      (formula_chain-exactly F.given z F.words F.ports s F.left ks (all-chained s ks R) a h);
  of_cases = λ file words list text c R k r e a h.
      subst (λ (d : Case). CaseExact file words list r d (bit_at a)) (sym (case_ran file words list text c R)) (case-exactly file words list text k r (case-answer file words list text c R e) a h);
}

counted : Count
unfolding FormulaChainCount CaseCount
counted = record {
  of_calls = λ z s B ks R.
      let F = begun_fresh z s B in
      subst (λ (y : Sizes). total (last_of s ks).rec ≡ entry_count y (fed_of s (spelled_out s ks))) F.sizes (formula_chain-count F.given z F.words F.ports s F.left ks (all-chained s ks R));
  of_cases = λ file words list text c R k r e. (case_count file words list text k r (case-answer file words list text c R e)).entries;
}

sharpened : Sharpening
unfolding FormulaChainSharpening CaseSharpening
sharpened = record {
  of_calls = λ z s t B C ks ls R S a h M.
      let F = begun_fresh z s B in
      let G = begun_fresh z t C in
      formula_chain-sharpening F.given G.given z F.words G.words F.ports G.ports s t F.left G.left ks ls (all-chained s ks R) (all-chained t ls S) a h M;
  of_cases = λ file words list text file' words' list' text' c c' R S k k' r r' e e' same a h M.
      subst₂ (λ (d d' : Case). CaseNarrower (bit_at a) file words list file' words' list' r r' d.words d'.words) (sym (case_ran file words list text c R)) (sym (case_ran file' words' list' text' c' S))
      (case-sharpening file words list text file' words' list' text' k k' r r' (case-answer file words list text c R e) (case-answer file' words' list' text' c' S e') same a h M);
}

pub promise : Promise
promise = record {
  functions = functions_meet;
  nothing_asked = nothing_asked;
  demand1 = record {
    each-call = each-call;
    answer-words = λ κs self words list ports port enable address out r words' ports' out' p. p.leaves;
    accepted = accepted-exactly;
    refused = refused-exactly;
    nine = nine-exactly;
    refusal-leaves = refusal-leaves;
    success-leaves = success-leaves;
    fresh-exactly = fresh-exactly;
    fresh-leaves = fresh-leaves;
    formula_is-calls = formula_is-calls;
  };
  demand2 = record { published = demand2; kept = kept-exactly; texts = λ w c g w' c' g' n n' h h'. text-exactly g g' n n' h h' };
  demand3 = exactly;
  count = counted;
  sharpening = sharpened;
}
