-- The answer words list what the text lists, and the accesses are made as they list them.
use mathlib.Core.Path.{◌≡◌, refl, sym, ap, subst, ◌∙◌}
use mathlib.Core.Bool.{Bool, true, false, cond, true≢false, false≢true}
use mathlib.Core.List.{List, [], ◌∷◌, ◌++◌}
use Prim.Native.Nat.{ℕ, zero, suc, ◌*◌, ◌^◌, ◌<◌, ◌≤◌}
use native.Mathlib.Omega.{arith}
use lib.Dec.{leb}
use lib.ListN.{length, length-append}
use Rattle.formulas.specs.Language.{Tree, predicate, next, both, when, grouped, Listed, listed, placed, by_step, ordered}
use Rattle.conditions.specs.Assignment.{bit_at}
use Rattle.model.specs.Formula.{Triple, Triples}
use Rattle.model.specs.Step.{State, conditions, Call, node_call, Given, triples, Answer, refused, done, is_refused, triples_of, refusal, Finish, closed, finish_node, finish, turned_down_by, begin, step, run}
use Rattle.model.specs.Frames.{StaysValid}
use Rattle.model.specs.Meanings.{IsListed, AreListed}
use Rattle.model.proofs.Demand2.{conditions-stand}
use Rattle.model.proofs.FinishProgram.{of-program}
use Rattle.model.proofs.FormulaLaws.{are-listed}
use Rattle.model.proofs.FrameLaws.{stays-valid}
use Rattle.formula_calls.specs.Call.{Making, in_order, listed_over, accesses_by, make, FormulaResult, Found, read_formula, answer_by, after_building, finish_formula, formula_step}
use Rattle.formula_calls.specs.Claims.{tried, calls_found, tried_after, calls_of, ReadAs, HasListed, FormulaLists, MadeAsListed, FormulaMakes}
use Rattle.formula_calls.proofs.FoundLaws.{Finds, by-memory, by-fault, by-short, by-tree, finds}
use Rattle.formula_calls.proofs.MakeLaws.{make-leaves}
use Rattle.formula_calls.proofs.RowLaws.{read_as, as_many}
use Rattle.formula_calls.proofs.StandLaws.{memory-valid, run-listed}
use Rattle.formula_calls.proofs.TripleLaws.{triples-made}
use Rattle.formula_calls.proofs.WordLaws.{stands_in}

-- triples are what is listed in the order of the steps too
-- a tree lists one predicate or more
lists-some : (k : ℕ) (bs : List ℕ) (t : Tree) → 1 ≤ length (listed k bs t)
lists-some k bs (predicate n) = omega arith
lists-some k bs (next t) = lists-some (suc k) bs t
lists-some k bs (both t u) = let a = length-append (listed k bs t) (listed k bs u) in let b = lists-some k bs t in omega (arith, a, b)
lists-some k bs (when b t) = lists-some k (bs ++ (b ∷ [])) t
lists-some k bs (grouped t) = lists-some k bs t

module _ (φ : ℕ → Bool) (w w' : List ℕ) where
  placed-listed : (t : Triple) (l : Listed) (ts : List Triple) (ls : List Listed) → IsListed φ w w' t l → AreListed φ w w' ts ls → AreListed φ w w' (placed (λ (t : Triple). t.step) t ts) (placed (λ (l : Listed). l.step) l ls)
  placed-listed t l [] [] I L = (I, tt)
  placed-listed t l [] (m ∷ ls) I L = absurd L
  placed-listed t l (u ∷ ts) [] I L = absurd L
  placed-listed t l (u ∷ ts) (m ∷ ls) I L =
      go (leb t.step u.step) (leb l.step m.step) (ap (λ (i : ℕ). leb i u.step) I.same_step ∙ ap (λ (i : ℕ). leb l.step i) L.0.same_step) (placed-listed t l ts ls I L.1)
    where
      go : (b c : Bool) → b ≡ c → AreListed φ w w' (placed (λ (t : Triple). t.step) t ts) (placed (λ (l : Listed). l.step) l ls)
          → AreListed φ w w' (cond b (t ∷ u ∷ ts) (u ∷ placed (λ (t : Triple). t.step) t ts)) (cond c (l ∷ m ∷ ls) (m ∷ placed (λ (l : Listed). l.step) l ls))
      go true true e P = (I, L)
      go true false e P = absurd (true≢false e)
      go false true e P = absurd (false≢true e)
      go false false e P = (L.0, P)

  ordered-listed : (ts : List Triple) (ls : List Listed) → AreListed φ w w' ts ls → AreListed φ w w' (in_order ts) (by_step (λ (l : Listed). l.step) ls)
  ordered-listed [] [] L = tt
  ordered-listed [] (l ∷ ls) L = absurd L
  ordered-listed (t ∷ ts) [] L = absurd L
  ordered-listed (t ∷ ts) (l ∷ ls) L = placed-listed t l (in_order ts) (by_step (λ (l : Listed). l.step) ls) L.0 (ordered-listed ts ls L.1)

  listed-length : (ts : List Triple) (ls : List Listed) → AreListed φ w w' ts ls → length ts ≡ length ls
  listed-length [] [] L = refl
  listed-length [] (l ∷ ls) L = absurd L
  listed-length (t ∷ ts) [] L = absurd L
  listed-length (t ∷ ts) (l ∷ ls) L = ap suc (listed-length ts ls L.1)

-- the conditions of a formula answer triples
conditions-given : (s : State) (t : Tree) (g : Given) → (step (node_call (conditions t)) s).answer ≡ done g → g ≡ triples (triples_of g)
unfolding step finish_node closed
conditions-given s t g e = go (refusal (node_call (conditions t)) s) e
  where
    same : (ts : List Triple) → done (triples ts) ≡ done g → g ≡ triples (triples_of g)
    same ts q = let z : triples ts ≡ g = cc in rw (← z)

    go : (k : ℕ) → (turned_down_by k s (closed s (finish (node_call (conditions t)) s))).answer ≡ done g → g ≡ triples (triples_of g)
    go zero = of-program (λ (z : Finish). (closed s z).answer ≡ done g → g ≡ triples (triples_of g)) (Triples 0 1 t s.words (begin s.rec)) _ (λ f q. absurd (true≢false (ap is_refused q))) (λ f. same (Triples 0 1 t s.words (begin s.rec)).answer)
    go (suc k) = λ q. absurd (true≢false (ap is_refused q))

module _ (k : Making) (text table out : List ℕ) (s : State) (n : ℕ) where
  made-many : (j l m : ℕ) → HasListed (answer_by j l m) n → l ≡ n
  made-many zero l m h = h
  made-many (suc j) l m h = h

  -- of a result and the calls that it stands for
  record Lists (x : FormulaResult) (cs : List Call) : Type 0 where
    tree : Tree
    listing : List Triple
    read : ReadAs text table s tree
    many : n ≡ length (ordered tree)
    fits : 3 * n ≤ length out
    words : x.words ≡ listed_over listing out
    lists : length listing ≡ length (ordered tree)
    means : (a : ℕ) → a < 2 ^ 64 → AreListed (bit_at a) s.words x.after.words listing (ordered tree)
    accesses : List Call
    are : cs ≡ node_call (conditions tree) ∷ accesses
    made : MadeAsListed k s.rec table x.words 0 accesses

  found-lists : (f : Found) → Finds text table out s f → HasListed (finish_formula k table out s f).answer n → Lists (finish_formula k table out s f) (calls_found k table s f)
  unfolding StaysValid
  found-lists f (by-memory j F) h = absurd h
  found-lists f (by-fault j p x A F e) h = absurd h
  found-lists f (by-short t A e l) h = absurd h
  found-lists f (by-tree t A e l) h = built (step c s).answer refl h
    where
      c : Call
      c = node_call (conditions t)

      u : State
      u = (step c s).after

      built : (x : Answer) → (step c s).answer ≡ x → HasListed (after_building k s.rec table out x u).answer n → Lists (after_building k s.rec table out x u) (c ∷ tried_after k s.rec table x u)
      built (refused j) z h = absurd h
      built (done g) z h =
          let ts = in_order (triples_of g) in
          let cs = accesses_by k s.rec table ts in
          let L = conditions-stand s t (triples_of g) (z ∙ ap done (conditions-given s t g z)) in
          let M = run-listed s.words (tried cs u) u (stays-valid c s (memory-valid s A)) (listed 0 [] t) (triples_of g) L in
          let v = run (tried cs u) u in
          let D : (a : ℕ) → AreListed (bit_at a) s.words v.words ts (ordered t) = λ a. ordered-listed (bit_at a) s.words v.words (triples_of g) (listed 0 [] t) (are-listed (bit_at a) s.words v.words (begin v.rec) refl (listed 0 [] t) (triples_of g) M) in
          let q : length ts ≡ length (ordered t) = listed-length (bit_at 0) s.words v.words ts (ordered t) (D 0) in
          let m : length ts ≡ n = made-many (make cs u).row (length ts) (make cs u).many h in
          record {
            tree = t;
            listing = ts;
            read = read_as text table s t e;
            many = sym m ∙ q;
            fits = omega (arith, as_many t);
            words = refl;
            lists = q;
            means = λ a small. subst (λ (v : State). AreListed (bit_at a) s.words v.words ts (ordered t)) (sym (make-leaves cs u)) (D a);
            accesses = tried cs u;
            are = refl;
            made = triples-made table s A.0.n_least k out t (triples_of g) s.words u.words (begin u.rec) u (read_as text table s t e).named L (omega (arith, l, q, as_many t));
          }

pub formula-lists : FormulaLists
unfolding FormulaLists formula_step
formula-lists k text table out s n h =
    let L = found-lists k text table out s n (read_formula text table out s) (finds text table out s) h in
    record { tree = L.tree; triples = L.listing; read = L.read; many = L.many; some = (let a = as_many L.tree in let b = lists-some 0 [] L.tree in omega (arith, L.many, a, b)); fits = L.fits; words = stands_in L.listing out (finish_formula k table out s (read_formula text table out s)).words (omega (arith, L.fits, L.many, L.lists)) L.words; means = L.means }

pub formula_makes : FormulaMakes
unfolding FormulaMakes formula_step calls_of
formula_makes k text table out s n h =
    let L = found-lists k text table out s n (read_formula text table out s) (finds text table out s) h in
    record { tree = L.tree; read = L.read; accesses = L.accesses; are = L.are; made = L.made }
