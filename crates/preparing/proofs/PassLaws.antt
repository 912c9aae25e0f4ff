-- What a walk over a whole text comes to, pass by pass.
use Rattle.std.proofs.Common.{◌≡◌, ℕ, ◌+◌, ◌*◌, ◌<◌, ◌≤◌, Bool, true, false, List, length, Result, Ok, Err, IsOk, T, ltb, ltb→lt, ltb-false, refl, sym, ap, ap₂, subst, ◌∙◌, arith}
use Rattle.formulas.specs.Language.{Tree, only, passes}
use Rattle.formulas.specs.Reading.{Verdict, fine, judge_text}
use Rattle.conditions.specs.Build.{Store, Outcome, pure}
use Rattle.conditions.specs.declared.builder.Builder.{Builder}
use Rattle.conditions.specs.Builder.{Later}
use Rattle.conditions.proofs.Promises.{later_refl, later_trans}
use Rattle.model.specs.Formula.{Triple, Triples}
use Rattle.formula_calls.specs.Call.{in_order, listed_over}
use Rattle.tokens.specs.declared.Fault.{Fault}
use Rattle.formula_walk.specs.declared.Pass.TheVariants.{List as Lists}
use Rattle.formula_walk.specs.declared.Plan.{Plan}
use Rattle.formula_walk.specs.declared.Walk.{Walk}
use Rattle.formula_walk.specs.Contract.{Out, out_of, put_all, limits, Seen, listed_as, seen_at, outermost, begun, Came, MayWalk, Walked}
use Rattle.formula_walk.proofs.OutLaws.{put_all-append}
use Rattle.preparing.specs.Contract.{step_of, Built, MayList, ListedAs}
use Rattle.preparing.proofs.StepLaws.{passes-next, put_all-over, all-passes, all-written, before-fits}

-- the plan of a walk that lists the triples of step k
abbrev pub listing : ℕ → ℕ → ℕ → Plan
listing k predicates count = record { pass = Lists k; predicates = predicates; count = count }

-- a text that is read is read whole by each walk
pub came-ok : (g : Plan) (text : List ℕ) (b : Builder) (out : List ℕ) (listed : ℕ) (b' : Builder) (out' : List ℕ) (y : Result Walk Fault) (v : Verdict) {t : Tree} {r : List ℕ} → v ≡ fine t r → Came g outermost text b out (begun listed) v b' out' y → IsOk y
came-ok g text b out listed b' out' (Ok y) v e C = refl
came-ok g text b out listed b' out' (Err f) v e C = absurd (subst (λ (v : Verdict). Came g outermost text b out (begun listed) v b' out' (Err f)) e C)

-- a walk over a formula that is built again: nothing is built, and the triples of its step are put
pub record PutAgain (w : List ℕ) (s : Store) (out : List ℕ) (k listed : ℕ) (triples : List Triple) (b' : Builder) (out' : List ℕ) (y : Walk) : Type 0 where
  pub same : b'.words.now ≡ w
  pub store : b'.store ≡ s
  pub puts : out_of out' y.listed ≡ put_all (only step_of k triples) (out_of out listed)

module _ {text w : List ℕ} {predicates count : ℕ} {s : Store} (B : Built text w predicates count s) where
  read_here : (b : Builder) (e : b.words.now ≡ w) (k : ℕ) → judge_text (limits (listing k predicates count) b.words.now) text ≡ fine B.tree B.rest
  read_here b e k = ap (λ (v : List ℕ). judge_text (limits (listing k predicates count) v) text) e ∙ B.read

  pub reads-again : {b : Builder} → b.words.now ≡ w → {out : List ℕ} {k listed : ℕ} {b' : Builder} {out' : List ℕ} {y : Result Walk Fault} → Walked (listing k predicates count) text b out listed b' out' y → IsOk y
  reads-again {b} e {out} {k} {listed} {b'} {out'} {y} W = came-ok (listing k predicates count) text b out listed b' out' y (judge_text (limits (listing k predicates count) b.words.now) text) (read_here b e k) W.came

  pub put-again : {b : Builder} → b.words.now ≡ w → b.store ≡ s → {out : List ℕ} {k listed : ℕ} {b' : Builder} {out' : List ℕ} {y : Walk} → Walked (listing k predicates count) text b out listed b' out' (Ok y) → PutAgain w s out k listed B.triples b' out' y
  put-again {b} e f {out} {k} {listed} {b'} {out'} {y} W =
      let C = subst (λ (v : Verdict). Came (listing k predicates count) outermost text b out (begun listed) v b' out' (Ok y)) (read_here b e k) W.came in
      let q : seen_at y b' out' ≡ listed_as k (pure B.triples w s) (out_of out listed) =
      C.1 ∙ ap₂ (λ (v : List ℕ) (z : Store). listed_as k (Triples 0 1 B.tree v z) (out_of out listed)) e f ∙ ap (λ (x : Outcome (List Triple)). listed_as k x (out_of out listed)) B.again in
      record { same = ap (λ (x : Seen). x.words) q; store = ap (λ (x : Seen). x.store) q; puts = ap (λ (x : Seen). x.out) q }

-- the triples of the steps below k are written
pub record WrittenTo (text : List ℕ) (b : Builder) (out : List ℕ) (predicates count listed : ℕ) (b' : Builder) (out' : List ℕ) (written k : ℕ) : Type 0 where
  pub later : Later b b'
  pub same : b'.words.now ≡ b.words.now
  pub store : b'.store ≡ b.store
  pub two : 2 ≤ count
  pub older : count ≤ b.store.count
  pub most : k ≤ 33
  pub built : Built text b.words.now predicates count b.store
  pub many : listed ≡ length built.triples
  pub fits : 3 * listed ≤ length out
  pub is : out_of out' written ≡ put_all (passes step_of 0 k built.triples) (out_of out 0)

pub none_written : {text : List ℕ} {b : Builder} {out : List ℕ} {predicates count listed : ℕ} → MayList text b out predicates count listed → WrittenTo text b out predicates count listed b out 0 0
none_written {b = b} M = record { later = later_refl b; same = refl; store = refl; two = M.two; older = M.older; most = omega arith; built = M.built; many = M.many; fits = M.fits; is = refl }

module _ {text : List ℕ} {b : Builder} {out : List ℕ} {predicates count listed : ℕ} {b' : Builder} {out' : List ℕ} {written k : ℕ} (W : WrittenTo text b out predicates count listed b' out' written k) where
  pub may-walk : {j : ℕ} → MayWalk (listing j predicates count) b' written
  may-walk {j} = record { two = W.two; older = omega (arith, W.older, ap (λ (s : Store). s.count) W.store); counts = tt }

  -- the text is read again
  pub walk-reads : {j : ℕ} {b'' : Builder} {out'' : List ℕ} {y : Result Walk Fault} → Walked (listing j predicates count) text b' out' written b'' out'' y → IsOk y
  walk-reads {j} Y = reads-again W.built W.same Y

  -- and the triples of step k are written then
  pub step-written : {b'' : Builder} {out'' : List ℕ} {x : Result Walk Fault} {y : Walk} → k < 33 → Walked (listing k predicates count) text b' out' written b'' out'' x → x ≡ Ok y → WrittenTo text b out predicates count listed b'' out'' y.listed (k + 1)
  step-written {b''} {out''} {x} {y} h X e =
      let Y = subst (λ (x : Result Walk Fault). Walked (listing k predicates count) text b' out' written b'' out'' x) e X in
      let P = put-again W.built W.same W.store Y in
      record {
        later = later_trans W.later Y.later;
        same = P.same;
        store = P.store;
        two = W.two;
        older = W.older;
        most = omega (arith, h);
        built = W.built;
        many = W.many;
        fits = W.fits;
        is =
            P.puts ∙ ap (put_all (only step_of k W.built.triples)) W.is
            ∙ sym (put_all-append (passes step_of 0 k W.built.triples) (only step_of k W.built.triples) (out_of out 0))
            ∙ ap (λ (ts : List Triple). put_all ts (out_of out 0)) (sym (passes-next step_of k W.built.triples));
      }

  over : out_of out' written ≡ out_of (listed_over (passes step_of 0 k W.built.triples) out) (length (passes step_of 0 k W.built.triples))
  over = W.is ∙ put_all-over (passes step_of 0 k W.built.triples) out (before-fits W.built.triples k (length out) W.built.steps W.most (omega (arith, W.many, W.fits)))

  -- where step 33 is reached, or as many are written as there are
  pub all_listed : (k < 33 → written < listed → ⊥) → ListedAs text b out predicates count b' out'
  all_listed ended =
      let n = ap (λ (o : Out). o.listed) over in
      let all = by_count (ltb k 33) refl (omega (arith, W.many, n)) in
      record { later = W.later; same = W.same; store = W.store; built = W.built; words = ap (λ (o : Out). o.words) over ∙ ap (λ (xs : List Triple). listed_over xs out) all }
    where
      by_count : (b : Bool) → ltb k 33 ≡ b → ((written < listed → ⊥) → length W.built.triples ≤ length (passes step_of 0 k W.built.triples)) → passes step_of 0 k W.built.triples ≡ in_order W.built.triples
      by_count true e l = all-written W.built.triples k W.built.steps W.most (l (ended (ltb→lt k 33 (subst T (sym e) tt))))
      by_count false e l = let q : k ≡ 33 = omega (arith, W.most, ltb-false k 33 e) in ap (λ (j : ℕ). passes step_of 0 j W.built.triples) q ∙ all-passes W.built.triples W.built.steps
