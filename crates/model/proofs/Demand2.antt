-- Demand 2: what each answer and condition means, under every 64-bit assignment.
use mathlib.Core.Path.{◌≡◌, refl, sym, ap, ◌∙◌}
use mathlib.Core.Logic.{◌↔◌}
use mathlib.Core.Bool.{Bool, true, false, cond, ◌&&◌, not, true≢false, false≢true}
use mathlib.Core.List.{List, []}
use Prim.Native.Nat.{ℕ, zero, suc, ◌^◌, ◌<◌}
use native.Mathlib.Omega.{arith}
use lib.Dec.{T, eqb}
use borrow.Author.Tests.{eqb-false}
use Rattle.nodes.proofs.BoolLaws.{split, iff-same}
use Rattle.conditions.specs.Build.{Store, Outcome}
use Rattle.conditions.specs.Make.{Variable}
use Rattle.conditions.specs.Ite.{Ite}
use Rattle.conditions.specs.Value.{value}
use Rattle.conditions.specs.Assignment.{bit_at}
use Rattle.conditions.specs.Meaning.{Builds}
use Rattle.conditions.proofs.Promises.{ite-builds, variable-builds}
use Rattle.formulas.specs.Language.{Tree, listed}
use Rattle.semantics.specs.Pairs.{Pair, admit}
use Rattle.model.specs.Record.{Record}
use Rattle.model.specs.Access.{Marks, AssertBuilt}
use Rattle.model.specs.Formula.{Triple, Triples}
use Rattle.model.specs.Step.{State, write, read, assert, check, evaluate, variable, ite, conditions, Call, access, node_call, place, idle, filled, entered, kept, accepted, valued, node, triples, done, is_refused, Result, refusal, Finish, full, gives, closed, unless_full, begin, grown, with_entry, with_assert_condition, assert_first, entry_built, enter, is_idle, finish_access, finish_node, finish, turned_down_by, step, write_built}
use Rattle.semantics.specs.Published.{answer, assert_holds, check_holds, keeps, control}
use Rattle.model.specs.Claims.{pair_at}
use Rattle.model.specs.Meanings.{entry_values, address_argument, word_argument, Enters, Demand2, port_value}
use Rattle.model.specs.Table.{MemoryFacts, ReadFacts}
use Rattle.semantics.proofs.PairLaws.{T→eq, eq→T}
use Rattle.model.proofs.MeansLaws.{Means, up, near_self}
use Rattle.model.proofs.AccessLaws.{AssertBuiltMean}
use Rattle.model.proofs.TerminalLaws.{somewhere_false}
use Rattle.model.proofs.TerminalIdle.{idle_off}
use Rattle.model.proofs.FinishLaws.{of-write, of-assert}
use Rattle.model.proofs.FormulaLaws.{StandListed, formula-builds, are-listed}
use Rattle.model.proofs.CallFactLaws.{write-facts, read-facts, check-facts, assert-facts, variable-facts, ite-facts, formula-facts}
use Rattle.model.proofs.StepLaws.{is_left_out, Holds, Follows, free-store, pair_is, assert-builds, enter-builds, PortsMean, port_is}
use Rattle.model.proofs.StepFollows.{step_follows}
use Rattle.model.proofs.EntryLaws.{held, holds_values, holds-enters, holds-stays}
use Rattle.model.proofs.ProgramLaws.{port_halves}
use lib.ListN.{length}

-- a call that is not refused meets no row, and is what it comes to
pub acts : (c : Call) (s : State) → is_refused (step c s).answer ≡ false → (refusal c s ≡ 0) × (step c s ≡ closed s (finish c s))
unfolding step
acts c s q = go (refusal c s) refl q
  where
    go : (n : ℕ) → refusal c s ≡ n → is_refused (turned_down_by n s (closed s (finish c s))).answer ≡ false → (refusal c s ≡ 0) × (turned_down_by (refusal c s) s (closed s (finish c s)) ≡ closed s (finish c s))
    go zero e q = (e, rw e)
    go (suc n) e q = absurd (true≢false q)

-- nor does its program need a node past capacity
free : {A : Type 0} (s : State) (y : Outcome A) (k : A → List ℕ → ℕ → Finish) (x : Result) → x ≡ closed s (unless_full y k) → is_refused x.answer ≡ false
    → (y.store.full ≡ false) × (x ≡ closed s (k y.answer y.words y.store.count))
unfolding unless_full closed
free s y k x e q = split y.store.full (λ t. absurd (true≢false (rw (e, t) at q))) (λ t. (t, rw t at e))

-- such a write is idle, or entered by its Write
module _ (s : State) (c a d : List ℕ) (n : is_refused (step (access (write c a d)) s).answer ≡ false) where
  abbrev built : Outcome Marks
  built = write_built c a s

  pub idle_or-entered : {C : Type 0} → (is_idle c ≡ true → step (access (write c a d)) s ≡ record { answer = done idle; after = s } → C)
      → (is_idle c ≡ false → step (access (write c a d)) s ≡ record { answer = done (place s.rec.entries); after = with_entry (grown s built.words built.store.count) built.answer a d } → C)
      → C
  unfolding finish_access closed
  idle_or-entered {C} f g =
      of-write (λ (z : Finish). step (access (write c a d)) s ≡ closed s z → C) c a d s f (λ i x e. absurd (true≢false (rw e at n))) (λ i x r. g i) (λ i x r e. absurd (true≢false (rw e at n)))
      (acts (access (write c a d)) s n).1

-- such an assert
module _ (s : State) (b : ℕ) (a d : List ℕ) (n : is_refused (step (access (assert b a d)) s).answer ≡ false) where
  abbrev x : Outcome AssertBuilt
  x = assert_first b a d s

  -- its Write, where it is entered
  abbrev y : Outcome Marks
  y = entry_built s b a x.answer x.words x.store.count

  asserts : (x.store.full ≡ false) × (step (access (assert b a d)) s ≡ closed s (enter s b a d x.answer x.words x.store.count))
  unfolding finish_access
  asserts = free s x (enter s b a d) _ (acts (access (assert b a d)) s n).1 n

  -- it is kept, or entered by its Write
  pub kept_or-entered : {C : Type 0} → (step (access (assert b a d)) s ≡ record { answer = done kept; after = with_assert_condition (grown s x.words x.store.count) x.answer.condition } → C)
      → (eqb x.answer.keep 1 ≡ false → y.store.full ≡ false
      → step (access (assert b a d)) s ≡ record { answer = done entered; after = with_entry (with_assert_condition (grown s y.words y.store.count) x.answer.condition) y.answer a d } → C)
      → C
  unfolding closed
  kept_or-entered {C} f g =
      of-assert (λ (z : Finish). step (access (assert b a d)) s ≡ closed s z → C) b a d s (λ x e. absurd (true≢false (rw e at n))) (λ x k. f) (λ x k r e. absurd (true≢false (rw e at n))) (λ x k r y e. absurd (true≢false (rw e at n)))
      (λ x k r y. g k y) (acts (access (assert b a d)) s n).1

-- two pairs that admit the same are one
same-admit : (p q : Pair) → ((b : Bool) → T (admit p b) ↔ T (admit q b)) → p ≡ q
same-admit p q f = pair_is p q (one (f true)) (one (f false))
  where
    one : {x y : Bool} → T x ↔ T y → x ≡ y
    one {x} {y} f = iff-same x y (λ e. T→eq y (f.0 (eq→T e))) (λ e. T→eq x (f.1 (eq→T e)))

-- under one assignment
module _ (a : ℕ) (small : a < 2 ^ 64) (s : State) where
  abbrev φ : ℕ → Bool
  φ = bit_at a

  abbrev r : Record
  r = s.rec

  values-held : MemoryFacts s → Holds φ s (held φ s)
  values-held M = holds_values φ s M

  write-enters : (c x d : List ℕ) (k : ℕ) → (step (access (write c x d)) s).answer ≡ done (place k) → (k ≡ r.entries) × Enters φ s (step (access (write c x d)) s).after (pair_at φ s.words c 0) x d
  write-enters c x d k q =
      let n : is_refused (step (access (write c x d)) s).answer ≡ false = ap is_refused q in
      let F = step_follows a small s (held φ s) (values-held (write-facts s c x d (acts (access (write c x d)) s n).0).memory) (access (write c x d)) in
      let e : k ≡ r.entries
      = idle_or-entered s c x d n (λ i z. absurd (true≢false (ap is_left_out (rw z at q))))
      (λ i z. let y : done (place k) ≡ done (place r.entries) = sym q ∙ ap (λ (z : Result). z.answer) z in cc) in
      (e, holds-enters φ s _ (pair_at φ s.words c 0) x d F.sizes (rw q at F.holds))

  write-idles : (c x d : List ℕ) → (step (access (write c x d)) s).answer ≡ done idle → ((pair_at φ s.words c 0).h ≡ false) × (entry_values φ (step (access (write c x d)) s).after ≡ entry_values φ s)
  write-idles c x d q =
      idle_or-entered s c x d (ap is_refused q) (λ i e. (idle_off c s.words φ i, ap (λ (z : Result). entry_values φ z.after) e)) (λ i e. absurd (false≢true (ap is_left_out (rw e at q))))

  -- a read that fills words
  module _ (p : ℕ) (e x out ws : List ℕ) (q : (step (access (read p e x out)) s).answer ≡ done (filled ws)) where
    abbrev after : State
    after = (step (access (read p e x out)) s).after

    abbrev word : ℕ → Pair
    word = answer r.sizes (entry_values φ s) (port_value φ s p) (pair_at φ s.words e 0) (address_argument φ s x)

    read_named : ReadFacts s p e x out
    read_named = read-facts s p e x out (acts (access (read p e x out)) s (ap is_refused q)).0

    read_follows : Follows φ s (held φ s) (access (read p e x out)) (step (access (read p e x out)) s)
    read_follows = step_follows a small s (held φ s) (values-held read_named.memory) (access (read p e x out))

    ports-named : PortsMean φ s (port_value φ s)
    ports-named = record { words = λ n l. port_halves φ s n l read_named.memory.standard read_named.ports }

    read-fills : (i : ℕ) → i < r.sizes.w → pair_at φ after.words ws i ≡ word i
    read-fills i l = same-admit _ _ (λ b. rw q at (read_follows.bits ports-named i l b))

    read_held : length s.ports ≡ 128 → (n i : ℕ) → n < 4 → i < r.sizes.w → port_value φ after n i ≡ cond (eqb n p) word (port_value φ s n) i
    read_held long n i l m =
        let P : PortsMean φ after _ = rw q at (read_follows.ports long ports-named) in
        port_is P n i l (rw read_follows.sizes m)

    read_stays : entry_values φ after ≡ entry_values φ s
    read_stays = holds-stays φ s _ _ _ read_follows.sizes (rw q at read_follows.holds)

  check-stays : (b : ℕ) (x d : List ℕ) → (step (access (check b x d)) s).answer ≡ done accepted → entry_values φ (step (access (check b x d)) s).after ≡ entry_values φ s
  check-stays b x d q =
      let F = step_follows a small s (held φ s) (values-held (check-facts s b x d (acts (access (check b x d)) s (ap is_refused q)).0).memory) (access (check b x d)) in
      holds-stays φ s _ _ _ F.sizes (rw q at F.holds)

  check-condition : (b : ℕ) (x d : List ℕ) → (step (access (check b x d)) s).answer ≡ done accepted
      → value (step (access (check b x d)) s).after.words φ (step (access (check b x d)) s).after.rec.checked
      ≡ (value s.words φ r.checked && check_holds r.sizes (entry_values φ s) (value s.words φ b) (address_argument φ s x) (word_argument φ s d))
  check-condition b x d q =
      let F = step_follows a small s (held φ s) (values-held (check-facts s b x d (acts (access (check b x d)) s (ap is_refused q)).0).memory) (access (check b x d)) in
      let H : Holds φ _ _ = rw q at F.holds in
      H.checked.is refl φ (near_self φ)

  -- an assert that is not refused
  module _ (b : ℕ) (x d : List ℕ) (n : is_refused (step (access (assert b x d)) s).answer ≡ false) where
    abbrev keeping : Bool
    keeping = keeps r.sizes (entry_values φ s) (value s.words φ b) (address_argument φ s x) (word_argument φ s d)

    abbrev condition : Bool
    condition = value s.words φ r.asserted && assert_holds r.sizes (entry_values φ s) (value s.words φ b) (address_argument φ s x) (word_argument φ s d)

    no_row : refusal (access (assert b x d)) s ≡ 0
    no_row = (acts (access (assert b x d)) s n).0

    assert-holds : Holds φ s (held φ s)
    assert-holds = values-held (assert-facts s b x d no_row).compared.memory

    assert_follows : Follows φ s (held φ s) (access (assert b x d)) (step (access (assert b x d)) s)
    assert_follows = step_follows a small s (held φ s) assert-holds (access (assert b x d))

    assert-means : Builds s.words (begin r) (AssertBuiltMean φ condition (not (value s.words φ b)) keeping) (assert_first b x d s)
    assert-means = assert-builds a small s (held φ s) assert-holds b x d no_row

    assert-condition : value (step (access (assert b x d)) s).after.words φ (step (access (assert b x d)) s).after.rec.asserted ≡ condition
    assert-condition =
        let y = assert_first b x d s in
        let f = (asserts s b x d n).0 in
        let M = assert-means.post.condition in
        let N = free-store (λ (z : Store). Means φ 8 (λ τ. condition) y.words z y.answer.condition) y.store f M in
        kept_or-entered s b x d n (λ e. rw e (M.is f φ (near_self φ)))
        (λ t g e. rw e ((up assert-means.standard (enter-builds a small s (held φ s) assert-holds b x d no_row f) N).is g φ (near_self φ)))

  -- a call that answers the node of its program
  node-value : (c : Call) (x : Outcome ℕ) (μ : Bool) → finish c s ≡ unless_full x (λ n w k. gives (node n) (grown s w k)) → (n : ℕ) → (step c s).answer ≡ done (node n)
      → (x.store.full ≡ false → value x.words φ x.answer ≡ μ) → value (step c s).after.words φ n ≡ μ
  unfolding closed
  node-value c x μ e n q f =
      let B = free s x _ _ ((acts c s (ap is_refused q)).1 ∙ ap (closed s) e) (ap is_refused q) in
      let z : done (node n) ≡ done (node x.answer) = sym q ∙ ap (λ (y : Result). y.answer) B.1 in
      let same : n ≡ x.answer = cc in
      rw (B.1, same) (f B.0)

  variable-node : (v n : ℕ) → (step (node_call (variable v)) s).answer ≡ done (node n) → value (step (node_call (variable v)) s).after.words φ n ≡ φ v
  unfolding finish_access finish_node closed
  variable-node v n q =
      let F = variable-facts s v (acts (node_call (variable v)) s (ap is_refused q)).0 in
      let X = variable-builds {s = begin r} {v = v} F.standard (omega (arith, F.named.1)) in
      node-value (node_call (variable v)) (Variable v s.words (begin r)) (φ v) refl n q (λ f. X.post.is f φ)

  ite-node : (f g h n : ℕ) → (step (node_call (ite f g h)) s).answer ≡ done (node n) → value (step (node_call (ite f g h)) s).after.words φ n ≡ cond (value s.words φ f) (value s.words φ g) (value s.words φ h)
  unfolding finish_access finish_node closed
  ite-node f g h n q =
      let F = ite-facts s f g h (acts (node_call (ite f g h)) s (ap is_refused q)).0 in
      let X = ite-builds F.standard F.named.0 F.named.1 F.named.2 in
      node-value (node_call (ite f g h)) (Ite f g h s.words (begin r)) _ refl n q (λ z. X.post.is z φ)

-- the conditions of a formula, in the state that they leave
pub conditions-stand : (s : State) (t : Tree) (ts : List Triple) → (step (node_call (conditions t)) s).answer ≡ done (triples ts)
    → let u = (step (node_call (conditions t)) s).after in
    StandListed s.words (listed 0 [] t) u.words (begin u.rec) ts
unfolding finish_node closed
conditions-stand s t ts q =
    let n : is_refused (step (node_call (conditions t)) s).answer ≡ false = ap is_refused q in
    let A = acts (node_call (conditions t)) s n in
    let F = formula-facts s t A.0 in
    let X = formula-builds s.rec s.words F.standard t F.named in
    let x = Triples 0 1 t s.words (begin s.rec) in
    let B = free s x _ _ A.1 n in
    let z : done (triples ts) ≡ done (triples x.answer) = sym q ∙ ap (λ (y : Result). y.answer) B.1 in
    let same : ts ≡ x.answer = cc in
    rw (B.1, same) (free-store (λ (u : Store). StandListed s.words (listed 0 [] t) x.words u x.answer) x.store B.0 X.post)

evaluates : (s : State) (f a : ℕ) (v : Bool) → (step (node_call (evaluate f a)) s).answer ≡ done (valued v) → v ≡ value s.words (bit_at a) f
unfolding finish_access finish_node closed
evaluates s f a v q =
    let e : done (valued v) ≡ done (valued (value s.words (bit_at a) f)) = sym q ∙ ap (λ (y : Result). y.answer) (acts (node_call (evaluate f a)) s (ap is_refused q)).1 in
    cc

pub demand2 : Demand2
unfolding Demand2
demand2 s a small =
    record {
      write-enters = write-enters a small s;
      write-idles = write-idles a small s;
      read-fills = read-fills a small s;
      read_held = read_held a small s;
      assert-condition = assert-condition a small s;
      assert-kept = λ b x d q. T→eq _ ((rw q at (assert_follows a small s b x d (ap is_refused q)).left_out) refl);
      read_stays = read_stays a small s;
      kept-stays = λ b x d q.
          let F = assert_follows a small s b x d (ap is_refused q) in
          holds-stays (bit_at a) s _ _ _ F.sizes (rw q at F.holds);
      check-stays = check-stays a small s;
      assert-enters = λ b x d q.
          let F = assert_follows a small s b x d (ap is_refused q) in
          holds-enters (bit_at a) s _ (control (value s.words (bit_at a) b)) x d F.sizes (rw q at F.holds);
      check-condition = check-condition a small s;
      evaluates = evaluates s;
      variable-node = variable-node a small s;
      ite-node = ite-node a small s;
      conditions-listed = λ t ts q. are-listed (bit_at a) s.words _ _ refl (listed 0 [] t) ts (conditions-stand s t ts q);
    }

-- an assert that no row refuses, and whose first program does not overflow, is not kept only where some assignment does not keep it
pub needs_where : (s : State) (b : ℕ) (a d : List ℕ) → refusal (access (assert b a d)) s ≡ 0 → (assert_first b a d s).store.full ≡ false → eqb (assert_first b a d s).answer.keep 1 ≡ false
    → (k : ℕ) × (k < 2 ^ 64) × (keeps s.rec.sizes (entry_values (bit_at k) s) (value s.words (bit_at k) b) (address_argument (bit_at k) s a) (word_argument (bit_at k) s d) ≡ false)
needs_where s b a d e f t =
    let M = (assert-facts s b a d e).compared.memory in
    let X = assert-builds 0 (omega arith) s (held (bit_at 0) s) (holds_values (bit_at 0) s M) b a d e in
    let m = somewhere_false X.standard (assert_first b a d s).answer.keep X.post.keep.below (eqb-false _ _ t) in
    let φ = bit_at m.0 in
    let K = assert-builds m.0 m.1 s (held φ s) (holds_values φ s M) b a d e in
    (m.0, m.1, sym (K.post.keep.is f φ (near_self φ)) ∙ m.2)

-- so one that is entered
pub entered_where : (s : State) (b : ℕ) (a d : List ℕ) → (step (access (assert b a d)) s).answer ≡ done entered
    → (k : ℕ) × (k < 2 ^ 64) × (keeps s.rec.sizes (entry_values (bit_at k) s) (value s.words (bit_at k) b) (address_argument (bit_at k) s a) (word_argument (bit_at k) s d) ≡ false)
entered_where s b a d q =
    let n : is_refused (step (access (assert b a d)) s).answer ≡ false = ap is_refused q in
    needs_where s b a d (acts (access (assert b a d)) s n).0 (asserts s b a d n).0 (kept_or-entered s b a d n (λ e. absurd (true≢false (ap is_left_out (rw e at q)))) (λ t f e. t))
