-- A formula before its accesses: what each walk and each test comes to.
use Rattle.std.proofs.Common.{◌≡◌, ℕ, suc, ◌+◌, ◌*◌, ◌-◌, ◌/◌, ◌<◌, ◌≤◌, Bool, true, false, cond, List, [], ◌∷◌, length, get_or, drop, Result as RustResult, Ok, Err, IsOk, refl, sym, ap, ap₂, subst, subst₂, ◌∙◌, arith, length-drop, ne_eqb}
use native.Mathlib.Nat.{suc-mul}
use borrow.Author.Tests.{le-leb, lt-leb}
use Rattle.refusals.specs.declared.Refusal.{Refusal}
use Rattle.refusals.specs.declared.Refusal.TheVariants.{StoreFull}
use Rattle.refusals.specs.Refusal.{number}
use Rattle.formulas.specs.Language.{Tree, predicate, listed, only, Below}
use Rattle.formulas.specs.Reading.{Limits, Verdict, fine, wrong, judge_text}
use Rattle.formulas.specs.Claims.{numbers, Decided, is_read, is-refused}
use Rattle.formulas.proofs.ClaimLaws.{reads}
use Rattle.formulas.proofs.OrderLaws.{by_step-length}
use Rattle.conditions.specs.Stores.{Standard, Extends}
use Rattle.conditions.specs.Build.{Store, Outcome, pure}
use Rattle.conditions.specs.Contract.{Sound}
use Rattle.conditions.specs.declared.builder.Builder.{Builder}
use Rattle.conditions.proofs.Promises.{extends_refl, builds_clear}
use Rattle.model.specs.Record.{with_count}
use Rattle.model.specs.Formula.{Triple, Triples}
use Rattle.model.specs.Step.{conditions, node_call, triples, refused, done, Result, begin, step, finish_node, closed}
use Rattle.model.specs.Frames.{Valid, StaysValid}
use Rattle.model.specs.Table.{Names, EachArrow}
use Rattle.model.proofs.CallFactLaws.{call-told}
use Rattle.semantics.proofs.PairLaws.{T→eq}
use Rattle.model.proofs.FrameLaws.{stays-valid}
use Rattle.model.proofs.FormulaLaws.{each_arrow, formula-builds}
use Rattle.model.proofs.AgainFormulaLaws.{LaterThan, triples-again}
use Rattle.formula_calls.specs.Call.{Making, asserting, predicate_words, predicates_in, limits_of, in_order, listed_over, refused_by, faulty, by_verdict, refused_itself, make_listed, after_building, finish_formula}
use Rattle.formula_calls.specs.Call as calls
use Rattle.formula_calls.specs.Claims.{FormulaRows}
use Rattle.formula_calls.proofs.FoundLaws.{memory-told, named-arrows, conditions-facts}
use Rattle.formula_calls.proofs.RowLaws.{formula_rows}
use Rattle.formula_calls.proofs.WordLaws.{words_long}
use Rattle.model.specs.declared.Fields.{Fields}
use Rattle.rows.specs.Contract.{state_of, Cleared}
use Rattle.rows.proofs.CallLaws.{node_acted, nine_acts, done_acts, left_by, not_full, valid_rows}
use Rattle.tokens.specs.declared.Fault.{Fault}
use Rattle.formula_walk.specs.declared.Pass.TheVariants.{Count}
use Rattle.formula_walk.specs.declared.Plan.{Plan}
use Rattle.formula_walk.specs.declared.Walk.{Walk}
use Rattle.formula_walk.specs.Contract.{out_of, put_all, Seen, listed_as, predicates_of, limits, seen_at, outermost, begun, Came, MayWalk, Walked}
use Rattle.formula_walk.proofs.WalkLaws.{limits-same}
use Rattle.making.specs.Contract.{triples_from}
use Rattle.preparing.specs.Contract.{step_of, Built, MayList, ListedAs, Prepares, comes_to, ListedIn}
use Rattle.preparing.proofs.PassLaws.{listing, came-ok}
use Rattle.preparing.proofs.TripleLaws.{Each, each_in-order, Good, triples_good, good-below, triples-many, listed-many, words-triples, each_at}

-- the predicates of the table
abbrev pub known : Fields → List ℕ → ℕ
known r predicates = predicates_in r predicates

-- the plan of the walk that counts
abbrev pub counting : ℕ → ℕ → Plan
counting predicates count = record { pass = Count; predicates = predicates; count = count }

-- a walk that no row stopped has counted
pub record Counted (text : List ℕ) (b : Builder) (out : List ℕ) (l : Limits) (b' : Builder) (out' : List ℕ) (x : Walk) : Type 0 where
  pub tree : Tree
  pub is : judge_text l text ≡ fine tree []
  pub same : b'.words.now ≡ b.words.now
  pub same_out : out' ≡ out
  pub same_store : b'.store ≡ b.store
  pub many : x.listed ≡ predicates_of tree

-- the tree of a verdict, and what is left
abbrev left_of : Verdict → List ℕ
left_of (fine t r) = r
left_of (wrong k x) = []

abbrev is_fine : Verdict → Type 0
is_fine (fine t r) = Unit {0}
is_fine (wrong k x) = ⊥

read_whole : (l : Limits) (text : List ℕ) (t : Tree) (r : List ℕ) → judge_text l text ≡ fine t r → judge_text l text ≡ fine t []
read_whole l text t r e = go ((reads l).decided text)
  where
    go : Decided l text → judge_text l text ≡ fine t []
    go (is_read u f) = e ∙ ap (fine t) (ap left_of (sym e ∙ f))
    go (is-refused k x f) = absurd (subst is_fine (sym e ∙ f) tt)

module _ {text : List ℕ} {b : Builder} {out : List ℕ} {b' : Builder} {out' : List ℕ} {predicates count : ℕ} where
  -- one that a row stopped has touched nothing
  pub counted-stopped : {f : Fault} → Walked (counting predicates count) text b out 0 b' out' (Err f) → (judge_text (limits (counting predicates count) b.words.now) text ≡ wrong (number f.refusal) (drop f.at text)) × (b'.words.now ≡ b.words.now) × (out' ≡ out)
  counted-stopped {f} W = go (judge_text (limits (counting predicates count) b.words.now) text) W.came
    where
      go : (v : Verdict) → Came (counting predicates count) outermost text b out (begun 0) v b' out' (Err f) → (v ≡ wrong (number f.refusal) (drop f.at text)) × (b'.words.now ≡ b.words.now) × (out' ≡ out)
      go (fine t r) C = absurd C
      go (wrong k y) C = (ap₂ wrong (sym C.0) (sym C.1), C.2.0, C.2.1)

  pub counted : {x : Walk} → Walked (counting predicates count) text b out 0 b' out' (Ok x) → Counted text b out (limits (counting predicates count) b.words.now) b' out' x
  counted {x} W = go (judge_text (limits (counting predicates count) b.words.now) text) refl W.came
    where
      go : (v : Verdict) → judge_text (limits (counting predicates count) b.words.now) text ≡ v → Came (counting predicates count) outermost text b out (begun 0) v b' out' (Ok x) → Counted text b out (limits (counting predicates count) b.words.now) b' out' x
      go (fine t r) e C =
          record {
            tree = t;
            is = read_whole (limits (counting predicates count) b.words.now) text t r e;
            same = ap (λ (y : Seen). y.words) C.1;
            same_out = ap (λ (y : Seen). y.out.words) C.1;
            same_store = ap (λ (y : Seen). y.store) C.1;
            many = ap (λ (y : Seen). y.out.listed) C.1 ∙ (let e : 0 + predicates_of t ≡ predicates_of t = omega arith in e);
          }
      go (wrong k y) e C = absurd C

-- What the call comes to: at a fault of the text
module _ (k : Making) (r : Fields) (w l text predicates out : List ℕ) where
  pub comes-faulty : (row at : ℕ) → at ≤ length text → judge_text (limits_of (state_of r w l) predicates) text ≡ wrong row (drop at text) → comes_to k r w l text predicates out ≡ refused_itself (faulty row at) (state_of r w l) out
  comes-faulty row at h e =
      let p : length text - length (drop at text) ≡ at = omega (arith, h, length-drop at text) in
      ap (λ (v : Verdict). finish_formula k predicates out (state_of r w l) (by_verdict text out v)) e ∙ ap (λ (p : ℕ). refused_itself (faulty row p) (state_of r w l) out) p

  -- where the answer is too short
  pub comes-short : (t : Tree) → judge_text (limits_of (state_of r w l) predicates) text ≡ fine t [] → length out / 3 < predicates_of t → comes_to k r w l text predicates out ≡ refused_itself (refused_by 13) (state_of r w l) out
  comes-short t e h =
      let m = listed-many 0 [] t in
      ap (λ (v : Verdict). finish_formula k predicates out (state_of r w l) (by_verdict text out v)) e
      ∙ ap (λ (b : Bool). finish_formula k predicates out (state_of r w l) (cond b (calls.reads t) (calls.turns_down (refused_by 13)))) (lt-leb (3 * length (listed 0 [] t)) (length out) (omega (arith, m, h)))

  -- and else after its conditions
  pub comes_on : (t : Tree) → judge_text (limits_of (state_of r w l) predicates) text ≡ fine t [] → predicates_of t ≤ length out / 3
      → comes_to k r w l text predicates out ≡ after_building k r predicates out (step (node_call (conditions t)) (state_of r w l)).answer (step (node_call (conditions t)) (state_of r w l)).after
  comes_on t e h =
      let m = listed-many 0 [] t in
      ap (λ (v : Verdict). finish_formula k predicates out (state_of r w l) (by_verdict text out v)) e
      ∙ ap (λ (b : Bool). finish_formula k predicates out (state_of r w l) (cond b (calls.reads t) (calls.turns_down (refused_by 13)))) (le-leb (3 * length (listed 0 [] t)) (length out) (omega (arith, m, h)))

-- the triples of a formula that is built are one list
abbrev tree_of : Verdict → Tree
tree_of (fine t r) = t
tree_of (wrong k x) = predicate 0

one-built : {text w : List ℕ} {predicates count : ℕ} {s : Store} (A B : Built text w predicates count s) → A.triples ≡ B.triples
one-built {text} {w} {predicates} {count} {s} A B =
    ap (λ (x : Outcome (List Triple)). x.answer) (sym A.again ∙ ap (λ (t : Tree). Triples 0 1 t w s) (ap tree_of (sym A.read ∙ B.read)) ∙ B.again)

-- it is built in a store of the same words
abbrev built_here : {text w v : List ℕ} {predicates count : ℕ} {s u : Store} → v ≡ w → u ≡ s → Built text w predicates count s → Built text v predicates count u
built_here {text} {w} {v} {predicates} {count} {s} {u} e f B =
    record {
      tree = B.tree;
      rest = B.rest;
      read = ap (λ (v : List ℕ). judge_text (limits (counting predicates count) v) text) e ∙ B.read;
      triples = B.triples;
      again = ap₂ (λ (v : List ℕ) (u : Store). Triples 0 1 B.tree v u) e f ∙ B.again ∙ ap₂ (λ (v : List ℕ) (u : Store). pure B.triples v u) (sym e) (sym f);
      steps = B.steps;
    }

-- a predicate that is good stands in the table
in_table : (r : Fields) (w predicates : List ℕ) (p : ℕ) → 1 ≤ r.sizes.n → (limits_of (state_of r w []) predicates).predicates p ≡ true → p * predicate_words r + predicate_words r ≤ length predicates
unfolding FormulaRows
in_table r w predicates p n g =
    let z : (p + 1) * predicate_words r ≤ length predicates = (((formula_rows asserting [] predicates [] (state_of r w [])).0.predicates p n).0 g).0 in
    let e : p + 1 ≡ suc p = omega arith in
    let m = ap (λ (k : ℕ). k * predicate_words r) e ∙ suc-mul p (predicate_words r) in
    omega (arith, z, m)

-- no triple is of a step that is past all of them
only_none : (n : ℕ) (xs : List Triple) → Below step_of n xs → only step_of n xs ≡ []
only_none n [] B = refl
only_none n (x ∷ xs) B = ap (λ (b : Bool). cond b (x ∷ only step_of n xs) (only step_of n xs)) (ne_eqb x.step n (λ e. omega (arith, e, B.0))) ∙ only_none n xs B.1

-- the walk that builds the conditions left this store
pub record BuiltBy (r : Fields) (w out : List ℕ) (t : Tree) (b : Builder) (out₁ : List ℕ) (y : Walk) : Type 0 where
  pub extends : Extends w r.count b.words.now b.store.count
  pub seen : seen_at y b out₁ ≡ listed_as 33 (Triples 0 1 t w (begin r)) (out_of out 0)

-- The conditions: a text that is read, and the walk that builds them
module _ (r : Fields) (text w predicates out : List ℕ) (S : Standard w r.count) (t : Tree) (R : judge_text (limits (counting (known r predicates) r.count) w) text ≡ fine t []) where
  abbrev pub program : Outcome (List Triple)
  program = Triples 0 1 t w (begin r)

  named : numbers (limits (counting (known r predicates) r.count) w) t ≡ true
  named = T→eq (numbers (limits (counting (known r predicates) r.count) w) t) (((reads (limits (counting (known r predicates) r.count) w)).exactly text t).0 R).1

  pub each_good : Each (Good (limits (counting (known r predicates) r.count) w) 32) program.answer
  each_good = triples_good (limits (counting (known r predicates) r.count) w) 32 0 1 t w (begin r) named (omega (arith, (((reads (limits (counting (known r predicates) r.count) w)).exactly text t).0 R).2))

  steps-below : Below step_of 33 program.answer
  steps-below = good-below (limits (counting (known r predicates) r.count) w) 32 program.answer each_good

  arrows : EachArrow (Names r w) t
  arrows = named-arrows predicates (state_of r w []) t named

  conditions_act : (l : List ℕ) → Valid (state_of r w l) → step (node_call (conditions t)) (state_of r w l) ≡ closed (state_of r w l) (finish_node (conditions t) (state_of r w l))
  conditions_act l K =
      node_acted (conditions t) (state_of r w l)
      (sym ((call-told (node_call (conditions t)) (state_of r w l)).all (conditions-facts text predicates (state_of r w l) t ((memory-told (state_of r w l)).none (valid_rows (state_of r w l) K [])) R)))

  module _ {b : Builder} {out₁ : List ℕ} {y : Walk} (W : BuiltBy r w out t b out₁ y) where
    built_is : ◌≡◌ {A = Outcome (List Triple)} (record { words = b.words.now; store = b.store; answer = program.answer }) program
    built_is = ap (λ (x : Seen). record { words = x.words; store = x.store; answer = program.answer }) W.seen

    -- this walk writes nothing
    pub built_out : out₁ ≡ out
    built_out = ap (λ (x : Seen). x.out.words) W.seen ∙ ap (λ (ts : List Triple). (put_all ts (out_of out 0)).words) (only_none 33 program.answer steps-below)

    -- the store is full
    module _ {w₂ : List ℕ} {k : Refusal} (o : Cleared b.words.now r.count b.store.full StoreFull w₂ (Err k)) (l : List ℕ) (K : Valid (state_of r w l)) where
      conditions-full : step (node_call (conditions t)) (state_of r w l) ≡ record { answer = refused (number k); after = state_of r w₂ l }
      unfolding finish_node
      conditions-full = conditions_act l K ∙ nine_acts (state_of r w l) program _ built_is (builds_clear (formula-builds r w S t arrows)) o

      -- 9 of the conditions
      pub comes-nine : (m : Making) → predicates_of t ≤ length out / 3 → comes_to m r w l text predicates out ≡ refused_itself (refused_by (number k)) (state_of r w₂ l) out
      comes-nine m h = comes_on m r w l text predicates out t R h ∙ ap (λ (x : Result). after_building m r predicates out x.answer x.after) conditions-full

    -- it is not
    module _ {w₂ : List ℕ} {u : Unit {0}} (o : Cleared b.words.now r.count b.store.full StoreFull w₂ (Ok u)) where
      -- built again, they build nothing
      later : b.store.full ≡ false → LaterThan program b.words.now b.store
      later f = record { standard = b.sound.standard; extends = subst (λ (x : Outcome (List Triple)). Extends x.words x.store.count b.words.now b.store.count) built_is (extends_refl b.words.now b.store.count); free = f }

      formula-built : Built text w₂ (known r predicates) r.count b.store
      formula-built =
          let L = left_by o in
          let f : program.store.full ≡ false = ap (λ (x : Outcome (List Triple)). x.store.full) (sym built_is) ∙ L.1 in
          let A = each_arrow {Q = λ b. b < r.count} (λ b N. N.below) t arrows in
          record {
            tree = t;
            rest = [];
            read = ap (λ (v : List ℕ). judge_text (limits (counting (known r predicates) r.count) v) text) L.0 ∙ ap (λ (x : Limits). judge_text x text) (limits-same (counting (known r predicates) r.count) w b.words.now r.count b.store.count (omega arith) W.extends) ∙ R;
            triples = program.answer;
            again = subst (λ (v : List ℕ). Triples 0 1 t v b.store ≡ pure program.answer v b.store) (sym L.0) (triples-again 0 1 t w (begin r) S (omega (arith, S.two)) A f b.words.now b.store (later L.1));
            steps = steps-below;
          }

      conditions-built : (l : List ℕ) → Valid (state_of r w l) → step (node_call (conditions t)) (state_of r w l) ≡ record { answer = done (triples program.answer); after = state_of (with_count r b.store.count) w₂ l }
      unfolding finish_node closed
      conditions-built l K = conditions_act l K ∙ done_acts (state_of r w l) program _ built_is o

      comes-listed : (l : List ℕ) → Valid (state_of r w l) → (k : Making) → predicates_of t ≤ length out / 3 → comes_to k r w l text predicates out ≡ make_listed k r predicates out (in_order program.answer) (state_of (with_count r b.store.count) w₂ l)
      comes-listed l K k h = comes_on k r w l text predicates out t R h ∙ ap (λ (x : Result). after_building k r predicates out x.answer x.after) (conditions-built l K)

      -- in a builder of the words that are left
      module _ {c : Builder} (e : c.words.now ≡ w₂) (f : c.store ≡ b.store) where
        pub may-list : (listed : ℕ) → listed ≡ predicates_of t → listed ≤ length out / 3 → MayList text c out₁ (known r predicates) r.count listed
        unfolding formula-built
        may-list listed m h =
            let B = formula-built in
            let older : r.count ≤ b.store.count = W.extends.more in
            record {
              two = S.two;
              older = omega (arith, older, ap (λ (s : Store). s.count) f);
              built = built_here e f B;
              many = m ∙ sym (triples-many 0 1 t w (begin r));
              fits = let z = ap (length {A = ℕ}) built_out in omega (arith, h, z);
            }

        -- on any list, all is written
        pub listed_in : {d : Builder} {out₃ : List ℕ} (listed : ℕ) → listed ≡ predicates_of t → listed ≤ length out / 3 → ListedAs text c out₁ (known r predicates) r.count d out₃ → (l : List ℕ) → Valid (state_of r w l)
            → ListedIn r w l text predicates out d.words.now d.table.now out₃ b.store.count listed
        unfolding formula-built StaysValid
        listed_in {d} {out₃} listed m h L l K =
            let ts = program.answer in
            let os = in_order ts in
            let q = one-built L.built (built_here e f formula-built) in
            let ws : out₃ ≡ listed_over os out = L.words ∙ ap₂ (λ (us : List Triple) (o : List ℕ). listed_over (in_order us) o) q built_out in
            let n : listed ≡ length os = m ∙ sym (triples-many 0 1 t w (begin r)) ∙ sym (by_step-length step_of ts) in
            let from : triples_from out₃ 0 listed ≡ os = ap₂ (λ (o : List ℕ) (k : ℕ). triples_from o 0 k) ws n ∙ words-triples os (drop (3 * length os) out) in
            let M = (memory-told (state_of r w l)).none (valid_rows (state_of r w l) K []) in
            let same : d.words.now ≡ w₂ = L.same ∙ e in
            let built = conditions-built l K in
            let valid = subst Valid (ap (λ (x : Result). x.after) built) (stays-valid (node_call (conditions t)) (state_of r w l) K) in
            let sound = not_full b.store (left_by o).1 (subst (λ (s : Store). Sound d.words.now d.table.now s) (L.store ∙ f) d.sound) in
            let long : length out₃ ≡ length out = ap (length {A = ℕ}) ws ∙ words_long os out (omega (arith, n, h)) in
            let each = subst (Each (Good (limits (counting (known r predicates) r.count) w) 32)) (sym from) (each_in-order (Good (limits (counting (known r predicates) r.count) w) 32) ts each_good) in
            record {
              comes = λ k. comes-listed l K k (omega (arith, m, h)) ∙ ap₂ (λ (us : List Triple) (v : List ℕ). make_listed k r predicates out us (state_of (with_count r b.store.count) v l)) (sym from) (sym same);
              words = ws ∙ ap (λ (us : List Triple). listed_over us out) (sym from);
              may =
                  record {
                    ready = record { valid = subst (λ (v : List ℕ). Valid (state_of (with_count r b.store.count) v l)) (sym same) valid; sound = sound };
                    named = λ i j.
                        record {
                          few = M.0.n-most;
                          wide = M.0.w-most;
                          within = omega (arith, j, h, long);
                          fits = in_table r w predicates (get_or out₃ (3 * i + 2) 0) M.0.n_least (each_at (Good (limits (counting (known r predicates) r.count) w) 32) out₃ listed i each j).0;
                        };
                  };
            }

-- `prepare`, from its first walk to its end
module _ {r : Fields} {text : List ℕ} {b₀ b₁ : Builder} {t out out₀ : List ℕ} (predicates : List ℕ) (P : Prepares r b₀.words.now t) (s : b₀.store ≡ begin r) where
  pub prepared-faulty : {f : Fault} → Walked (counting (known r predicates) r.count) text b₀ out 0 b₁ out₀ (Err f) → {v : List ℕ} → v ≡ b₁.words.now → (k : Making) (l : List ℕ) → Valid (state_of r b₀.words.now l) → comes_to k r b₀.words.now l text predicates out ≡ refused_itself (faulty (number f.refusal) f.at) (state_of r v l) out₀
  prepared-faulty {f} X e k l K =
      let C = counted-stopped X in
      comes-faulty k r b₀.words.now l text predicates out (number f.refusal) f.at X.within C.0 ∙ ap₂ (λ (v o : List ℕ). refused_itself (faulty (number f.refusal) f.at) (state_of r v l) o) (sym (e ∙ C.1)) (sym C.2)

  module _ {x : Walk} (X : Walked (counting (known r predicates) r.count) text b₀ out 0 b₁ out₀ (Ok x)) where
    read : Counted text b₀ out (limits (counting (known r predicates) r.count) b₀.words.now) b₁ out₀ x
    read = counted X

    long : length out₀ ≡ length out
    long = ap (length {A = ℕ}) read.same_out

    pub prepared-short : length out₀ / 3 < x.listed → {v : List ℕ} → v ≡ b₁.words.now → (k : Making) (l : List ℕ) → Valid (state_of r b₀.words.now l) → comes_to k r b₀.words.now l text predicates out ≡ refused_itself (refused_by 13) (state_of r v l) out₀
    prepared-short h e k l K =
        let m = read.many in
        comes-short k r b₀.words.now l text predicates out read.tree read.is (omega (arith, h, m, long)) ∙ ap₂ (λ (v o : List ℕ). refused_itself (refused_by 13) (state_of r v l) o) (sym (e ∙ read.same)) (sym read.same_out)

    pub may_build : MayWalk (listing 33 (known r predicates) r.count) b₁ 0
    may_build = record { two = P.standard.two; older = omega (arith, ap (λ (s : Store). s.count) (read.same_store ∙ s)); counts = tt }

    -- the text is read again
    pub builds-read : {b₂ : Builder} {out₁ : List ℕ} {y : RustResult Walk Fault} → Walked (listing 33 (known r predicates) r.count) text b₁ out₀ 0 b₂ out₁ y → IsOk y
    builds-read {b₂} {out₁} {y} Y =
        came-ok (listing 33 (known r predicates) r.count) text b₁ out₀ 0 b₂ out₁ y (judge_text (limits (counting (known r predicates) r.count) b₁.words.now) text)
        (ap (λ (v : List ℕ). judge_text (limits (counting (known r predicates) r.count) v) text) read.same ∙ read.is) Y.came

    module _ (h : x.listed ≤ length out₀ / 3) {b₂ : Builder} {out₁ : List ℕ} {z : RustResult Walk Fault} {y : Walk} (Y : Walked (listing 33 (known r predicates) r.count) text b₁ out₀ 0 b₂ out₁ z) (ok : z ≡ Ok y) where
      built : BuiltBy r b₀.words.now out read.tree b₂ out₁ y
      built =
          let W = subst (λ (z : RustResult Walk Fault). Walked (listing 33 (known r predicates) r.count) text b₁ out₀ 0 b₂ out₁ z) ok Y in
          let e = ap (λ (v : List ℕ). judge_text (limits (counting (known r predicates) r.count) v) text) read.same ∙ read.is in
          let C = subst (λ (v : Verdict). Came (listing 33 (known r predicates) r.count) outermost text b₁ out₀ (begun 0) v b₂ out₁ (Ok y)) e W.came in
          let u = read.same_store ∙ s in
          record {
            extends = subst₂ (λ (v : List ℕ) (u : Store). Extends v u.count b₂.words.now b₂.store.count) read.same u Y.extends;
            seen = C.1 ∙ ap₂ (λ (v : List ℕ) (u : Store). listed_as 33 (Triples 0 1 read.tree v u) (out_of out₀ 0)) read.same u ∙ ap (λ (o : List ℕ). listed_as 33 (Triples 0 1 read.tree b₀.words.now (begin r)) (out_of o 0)) read.same_out;
          }

      fits : predicates_of read.tree ≤ length out / 3
      fits = let m = read.many in omega (arith, h, m, long)

      pub may_clear : r.count * 3 ≤ length b₂.words.now
      may_clear = omega (arith, built.extends.more, b₂.sound.standard.room)

      pub prepared-nine : {w₂ : List ℕ} {k : Refusal} → Cleared b₂.words.now r.count b₂.store.full StoreFull w₂ (Err k) → (m : Making) (l : List ℕ) → Valid (state_of r b₀.words.now l) → comes_to m r b₀.words.now l text predicates out ≡ refused_itself (refused_by (number k)) (state_of r w₂ l) out₁
      prepared-nine {w₂} {k} o m l K =
          comes-nine r text b₀.words.now predicates out P.standard read.tree read.is built o l K m fits
          ∙ ap (λ (v : List ℕ). refused_itself (refused_by (number k)) (state_of r w₂ l) v) (sym (built_out r text b₀.words.now predicates out P.standard read.tree read.is built))

      module _ {w₂ : List ℕ} {u : Unit {0}} (o : Cleared b₂.words.now r.count b₂.store.full StoreFull w₂ (Ok u)) {c : Builder} (e : c.words.now ≡ w₂) (f : c.store ≡ b₂.store) where
        pub prepared-list : MayList text c out₁ (known r predicates) r.count x.listed
        prepared-list = may-list r text b₀.words.now predicates out P.standard read.tree read.is built o e f x.listed read.many (omega (arith, h, long))

        pub prepared-listed : {d : Builder} {out₃ : List ℕ} → ListedAs text c out₁ (known r predicates) r.count d out₃ → {v m : List ℕ} → v ≡ d.words.now → m ≡ d.table.now → (l : List ℕ) → Valid (state_of r b₀.words.now l)
            → ListedIn r b₀.words.now l text predicates out v m out₃ b₂.store.count x.listed
        prepared-listed {d} {out₃} L p q l K =
            subst₂ (λ (v m : List ℕ). ListedIn r b₀.words.now l text predicates out v m out₃ b₂.store.count x.listed) (sym p) (sym q)
            (listed_in r text b₀.words.now predicates out P.standard read.tree read.is built o e f x.listed read.many (omega (arith, h, long)) L l K)
