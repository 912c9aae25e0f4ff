-- What a call leaves, refused or not: the statements of `Frames`.
use mathlib.Core.Path.{◌≡◌, refl, sym, ap, subst, ◌∙◌}
use mathlib.Core.Bool.{Bool, true, false, cond, not, ◌&&◌, ◌||◌, true≢false, or-false}
use mathlib.Core.List.{List, [], ◌∷◌}
use Prim.Native.Nat.{ℕ, zero, suc, ◌+◌, ◌*◌, ◌<◌, ◌≤◌}
use native.Mathlib.Omega.{arith}
use lib.Dec.{leb}
use lib.ListN.{length, get_or, length-replicate, get_or-replicate}
use borrow.Author.Tests.{leb-true, not-true}
use Rattle.nodes.proofs.BoolLaws.{and_both}
use Rattle.conditions.specs.Stores.{Standard, with_terminals, Agree, Extends, clear_of}
use Rattle.conditions.specs.Build.{Store, Outcome}
use Rattle.conditions.specs.Value.{value}
use Rattle.conditions.specs.User.{is_user}
use Rattle.conditions.specs.Meaning.{Meaning, Builds}
use Rattle.conditions.proofs.Promises.{from_1, extends_refl, extends_trans, standard_is, is-standard, terminals-standard, clear-standard, clear-below, ite-builds, variable-builds, is_user_lem}
use Rattle.semantics.specs.declared.Sizes.{Sizes}
use Rattle.model.specs.Record.{list_capacity, held_word, fresh_ports}
use Rattle.model.specs.Access.{Write, Read, Check}
use Rattle.model.specs.Rows.{Row, first_row, users, row1, write_rows, read_rows, assert_rows, check_rows, evaluate_rows, variable_rows, ite_rows, formula_rows, ports_row}
use Rattle.model.specs.Step.{State, with_words, write, read, assert, check, evaluate, variable, ite, conditions, Call, access, node_call, upkeep, Given, idle, filled, entered, kept, accepted, node, triples, refused, done, is_refused, Filling, fills, fills_none, filling, Result, refusal, turned_down, Finish, full, short, gives, closed, unless_full, begin, grown, with_entry, with_assert_condition, assert_first, finish_access, finish_node, finish, turned_down_by, step, run, fresh, fresh_rows, fresh_unless, fresh_record, with_held, is_upkeep, Answer, answer_words, filled_over}
use Rattle.model.specs.Claims.{pairs}
use Rattle.model.specs.Frames.{clears, words_after, RefusalLeaves, RefusalNumber, Extended, SuccessLeaves, Valid, StaysValid, NoRow123, FreshLeaves, FreshValid, FreshNoRow123, numbers, PortsLeft, PortsValid, PortsStayValid, fresh_state, held_by, sees_ports, SameSizes, SizesStay}
use Rattle.model.proofs.MeansLaws.{Means, user-means}
use Rattle.model.proofs.AccessLaws.{write-means}
use Rattle.model.proofs.FormulaLaws.{formula-builds}
use Rattle.model.proofs.FactLaws.{row1-tells, names, users_tell, space-room, fresh-told}
use Rattle.model.proofs.CallFactLaws.{write-facts, read-facts, check-facts, assert-facts, variable-facts, ite-facts, formula-facts}
use Rattle.model.proofs.FinishProgram.{of-program}
use Rattle.model.proofs.FinishLaws.{of-write, of-assert}
use Rattle.model.proofs.RowLaws.{length_pairs, names_halves}
use Rattle.model.proofs.ProgramLaws.{read-program, check-program, assert-program}
use Rattle.model.proofs.ValidLaws.{User, user-stays, user-grows, with_conditions, users_stay, conditions-valid, conditions_extended, entry_extended, no-entries, entry-valid, ports-users, users-ports, latched-valid}

-- p holds of the number of each row that refuses
abbrev among : (ℕ → Bool) → List Row → Bool
among p [] = true
among p (t ∷ ts) = (p t.0 || t.1) && among p ts

row_number : (p : ℕ → Bool) (ts : List Row) → among p ts ≡ true → (k : ℕ) → first_row ts ≡ suc k → p (suc k) ≡ true
row_number p [] q k e = absurd (omega arith)
row_number p (t ∷ ts) q k e = let z = and_both (p t.0 || t.1) (among p ts) q in go t.1 t.0 e z.0 (row_number p ts z.1 k)
  where
    go : (b : Bool) (n : ℕ) → cond b (first_row ts) n ≡ suc k → (p n || b) ≡ true → (first_row ts ≡ suc k → p (suc k) ≡ true) → p (suc k) ≡ true
    go true n e h f = f e
    go false n e h f = ap p (sym e) ∙ sym (or-false (p n)) ∙ h

-- a row's number is one of the table's, and its refusal does not clear
abbrev pub plain : ℕ → Bool
plain k = numbers k && not (clears k)

pub rows-plain : (c : Call) (s : State) (k : ℕ) → refusal c s ≡ suc k → plain (suc k) ≡ true
rows-plain (access (write c a d)) s = row_number plain (write_rows s.rec s.words s.list c a d) refl
rows-plain (access (read p e a out)) s = row_number plain (read_rows s.rec s.words s.list s.ports p e a out) refl
rows-plain (access (assert b a d)) s = row_number plain (assert_rows s.rec s.words s.list b a d) refl
rows-plain (access (check b a d)) s = row_number plain (check_rows s.rec s.words s.list b a d) refl
rows-plain (node_call (evaluate f φ)) s = row_number plain (evaluate_rows s.rec s.words f) refl
rows-plain (node_call (variable v)) s = row_number plain (variable_rows s.rec s.words v) refl
rows-plain (node_call (ite f g h)) s = row_number plain (ite_rows s.rec s.words f g h) refl
rows-plain (node_call (conditions t)) s = row_number plain (formula_rows s.rec s.words t) refl
rows-plain (upkeep c) s = absurd c

-- and in a valid state it is 4 or more
rows_late : (c : Call) (s : State) → Valid s → PortsValid s → (k : ℕ) → refusal c s ≡ suc k → leb 4 (suc k) ≡ true
rows_late (access (write c a d)) s H P = row_number (leb 4) (write_rows s.rec s.words s.list c a d) (rw (H.one, H.two, H.three))
rows_late (access (read p e a out)) s H P = row_number (leb 4) (read_rows s.rec s.words s.list s.ports p e a out) (rw (H.one, H.two, H.three, P.three))
rows_late (access (assert b a d)) s H P = row_number (leb 4) (assert_rows s.rec s.words s.list b a d) (rw (H.one, H.two, H.three))
rows_late (access (check b a d)) s H P = row_number (leb 4) (check_rows s.rec s.words s.list b a d) (rw (H.one, H.two, H.three))
rows_late (node_call (evaluate f φ)) s H P = row_number (leb 4) (evaluate_rows s.rec s.words f) (rw (H.one, H.two))
rows_late (node_call (variable v)) s H P = row_number (leb 4) (variable_rows s.rec s.words v) (rw (H.one, H.two))
rows_late (node_call (ite f g h)) s H P = row_number (leb 4) (ite_rows s.rec s.words f g h) (rw (H.one, H.two))
rows_late (node_call (conditions t)) s H P = row_number (leb 4) (formula_rows s.rec s.words t) (rw (H.one, H.two))
rows_late (upkeep c) s H P = absurd c

-- what a refusal leaves
abbrev left : State → ℕ → State
left s k = with_words s (words_after (clears k) s)

record Refuses (s t : State) (k : ℕ) : Type 0 where
  leaves : t ≡ left s k
  number : numbers k ≡ true
  late : Valid s → PortsValid s → 4 ≤ k

-- the ports after a call
abbrev ports_after : Call → Answer → List ℕ → List ℕ
ports_after (access (write c a d)) x ps = ps
ports_after (access (read p e a out)) x ps = held_by (filling x) p ps
ports_after (access (assert b a d)) x ps = ps
ports_after (access (check b a d)) x ps = ps
ports_after (node_call c) x ps = ps
ports_after (upkeep c) x ps = absurd c

-- what holds of a call's answer and of the state that it leaves
record Leaves (c : Call) (s : State) (x : Result) : Type 0 where
  refuses : (k : ℕ) → x.answer ≡ refused k → Refuses s x.after k
  extended : is_refused x.answer ≡ false → Extended s x.after
  valid : Valid s → Valid x.after
  ports : x.after.ports ≡ ports_after c x.answer s.ports
  ports-valid : Valid s → PortsValid s → PortsValid x.after

-- any assignment would do: a node that means something is below the count and on no index variable
abbrev σ : ℕ → Bool
σ v = false

means_user : {w : List ℕ} {s : Store} {n : ℕ} {μ : Meaning} → Means σ 8 μ w s n → is_user w s.count n ≡ true
means_user {w} {s} {n} N = is_user_lem w s.count n N.below N.from

-- a refused call leaves the ports
refused-ports : (c : Call) (k : ℕ) (ps : List ℕ) → ps ≡ ports_after c (refused k) ps
refused-ports (access (write c a d)) k ps = refl
refused-ports (access (read p e a out)) k ps = refl
refused-ports (access (assert b a d)) k ps = refl
refused-ports (access (check b a d)) k ps = refl
refused-ports (node_call c) k ps = refl
refused-ports (upkeep c) k ps = absurd c

-- the ports in a store in which every node that 5 accepted is still accepted
ports_stay : (s : State) (w : List ℕ) (c v u : ℕ) → ((n : ℕ) → User s n → is_user w c n ≡ true) → PortsValid s → PortsValid (with_conditions s w c v u)
ports_stay s w c v u stays P = users-ports (with_conditions s w c v u) P.long (λ p l i m. stays _ (ports-users s P p l i m))

module _ (c : Call) (s : State) where
  left-valid : (b : Bool) → Valid s → Valid (with_words s (words_after b s))
  left-valid true H =
      let E : Agree s.words (clear_of s.words s.rec.count) s.rec.count = record { at = clear-below s.words s.rec.count } in
      let stays = user-stays s.rec.count E (omega arith) in
      conditions-valid s (clear_of s.words s.rec.count) s.rec.count s.rec.asserted s.rec.checked stays (clear-standard (standard_is s.words s.rec.count H.two)) (stays s.rec.asserted) (stays s.rec.checked) H
  left-valid false H = H

  left-ports : (b : Bool) → PortsValid s → PortsValid (with_words s (words_after b s))
  left-ports true P =
      let E : Agree s.words (clear_of s.words s.rec.count) s.rec.count = record { at = clear-below s.words s.rec.count } in
      ports_stay s (clear_of s.words s.rec.count) s.rec.count s.rec.asserted s.rec.checked (user-stays s.rec.count E (omega arith)) P
  left-ports false P = P

  refused-leaves : (k : ℕ) → numbers k ≡ true → (Valid s → PortsValid s → 4 ≤ k) → Leaves c s (record { answer = refused k; after = left s k })
  refused-leaves k m f =
      record {
        refuses = λ j e. let z : k ≡ j = cc in rw (← z) (record { leaves = refl; number = m; late = f });
        extended = λ e. absurd (true≢false e);
        valid = left-valid (clears k);
        ports = refused-ports c k s.ports;
        ports-valid = λ H P. left-ports (clears k) P;
      }

  turned-leaves : (k : ℕ) → refusal c s ≡ suc k → Leaves c s (turned_down (suc k) s)
  turned-leaves k e =
      let p = and_both _ _ (rows-plain c s k e) in
      let z : clears (suc k) ≡ false = not-true _ p.1 in
      rw z at (refused-leaves (suc k) p.0 (λ H P. leb-true _ _ (rows_late c s H P k e)))

  -- 9, where the program needs a node past capacity, and 8, where an entry is needed
  full-leaves : (t : Store) → Leaves c s (closed s (full t))
  unfolding closed
  full-leaves t = refused-leaves 9 refl (λ H P. omega arith)

  short-leaves : Leaves c s (closed s short)
  unfolding closed
  short-leaves = refused-leaves 8 refl (λ H P. omega arith)

  nine-leaves : {A : Type 0} (x : Outcome A) (k : A → List ℕ → ℕ → Finish) → (x.store.full ≡ false → Leaves c s (closed s (k x.answer x.words x.store.count))) → Leaves c s (closed s (unless_full x k))
  nine-leaves x k f = of-program (λ (z : Finish). Leaves c s (closed s z)) x k (λ e. full-leaves x.store) f

  done-leaves : (g : Given) (t : State) → Extended s t → (Valid s → Valid t) → t.ports ≡ ports_after c (done g) s.ports → (Valid s → PortsValid s → PortsValid t) → Leaves c s (closed s (gives g t))
  unfolding closed
  done-leaves g t E H p P = record { refuses = λ k e. absurd (true≢false (sym (ap is_refused e))); extended = λ e. E; valid = H; ports = p; ports-valid = P }

  module _ (g : Given) (still : s.ports ≡ ports_after c (done g) s.ports) (w : List ℕ) (n : ℕ) (E : Extends s.words s.rec.count w n) (S : Standard w n) where
    conditions_leave : (v u : ℕ) → (User s s.rec.asserted → is_user w n v ≡ true) → (User s s.rec.checked → is_user w n u ≡ true) → Leaves c s (closed s (gives g (with_conditions s w n v u)))
    conditions_leave v u A C = done-leaves g (with_conditions s w n v u) (conditions_extended s w n v u E) (conditions-valid s w n v u (user-grows E) S A C) still (λ H P. ports_stay s w n v u (user-grows E) P)

    -- one entry more, and what its Write built
    entry-leaves : (v : ℕ) → (User s s.rec.asserted → is_user w n v ≡ true) → (h l : ℕ) → is_user w n h ≡ true → is_user w n l ≡ true → (a d : List ℕ) → length a ≡ 2 * s.rec.sizes.n → length d ≡ 2 * s.rec.sizes.w
        → users s.rec s.words a ≡ true → users s.rec s.words d ≡ true → s.rec.entries < list_capacity s.rec s.list
        → let x = Write s.rec.sizes.n h l a w (record { count = n; full = false }) in
        Leaves c s (closed s (gives g (with_entry (with_assert_condition (grown s x.words x.store.count) v) x.answer a d)))
    unfolding list_capacity ports_row
    entry-leaves v A h l uh ul a d na wd ua ud room =
        let r = (with_assert_condition (grown s w n) v).rec in
        let X = write-means s.rec.sizes.n h l a (record { h = value w σ h; l = value w σ l }) (pairs σ w a s.rec.sizes.n) [] (length_pairs σ w a 0 s.rec.sizes.n) w (begin r) S (user-means {s = begin r} S uh) (user-means {s = begin r} S ul)
        (names_halves σ r w S a s.rec.sizes.n ((users_tell r w a (2 * s.rec.sizes.n) na).is (users_stay s w n v s.rec.checked (user-grows E) a ua))) in
        let x = Write s.rec.sizes.n h l a w (begin r) in
        let F = extends_trans E X.extends in
        let m = x.store.count in
        let u = s.rec.checked in
        done-leaves _ _ (entry_extended s x.words m v u F x.answer a d na wd room)
        (λ H. entry-valid (with_assert_condition (grown s x.words m) v) x.answer a d na wd room (means_user X.post.hard) (means_user X.post.soft) (users_stay s x.words m v u (user-grows F) a ua) (users_stay s x.words m v u (user-grows F) d ud)
        (conditions-valid s x.words m v u (user-grows F) X.standard (λ z. user-grows X.extends v (A z)) (user-grows F u) H))
        still (λ H P. let Q = ports_stay s x.words m v u (user-grows F) P in record { three = Q.three; long = Q.long })

  -- a program that leaves nothing but its nodes and its answer
  grown-leaves : {A : Type 0} {P : List ℕ → Store → A → Type 0} {x : Outcome A} → Builds s.words (begin s.rec) P x → (k : A → Given) → ((a : A) → s.ports ≡ ports_after c (done (k a)) s.ports) → Leaves c s (closed s (unless_full x (λ a w n. gives (k a) (grown s w n))))
  grown-leaves {x = x} X k still =
      nine-leaves x (λ a w n. gives (k a) (grown s w n))
      (λ e. conditions_leave (k x.answer) (still x.answer) x.words x.store.count X.extends X.standard s.rec.asserted s.rec.checked (user-grows X.extends s.rec.asserted) (user-grows X.extends s.rec.checked))

  -- what answers, and leaves the state as it was
  same-leaves : (g : Given) → s.ports ≡ ports_after c (done g) s.ports → Leaves c s (closed s (gives g s))
  same-leaves g still =
      done-leaves g s (conditions_extended s s.words s.rec.count s.rec.asserted s.rec.checked (extends_refl s.words s.rec.count)) (λ H. H) still (λ H P. P)

-- a call that no row refuses
finish-leaves : (c : Call) (s : State) → refusal c s ≡ 0 → Leaves c s (closed s (finish c s))
unfolding finish_access finish_node
finish-leaves (access (write c a d)) s e =
    let F = write-facts s c a d e in
    let r = s.rec in
    of-write (λ (z : Finish). Leaves (access (write c a d)) s (closed s z)) c a d s (λ i. same-leaves (access (write c a d)) s idle refl) (λ i f. full-leaves (access (write c a d)) s _)
    (λ i f room. entry-leaves (access (write c a d)) s _ refl s.words r.count (extends_refl s.words r.count) F.memory.standard r.asserted (λ u. u)
    (get_or c 0 0) (get_or c 1 0) ((names r s.words _).so (F.enable.names 0 (omega arith))) ((names r s.words _).so (F.enable.names 1 (omega arith))) a d F.address.long F.word.long
    ((users_tell r s.words a (2 * r.sizes.n) F.address.long).so F.address.names) ((users_tell r s.words d (2 * r.sizes.w) F.word.long).so F.word.names) (space-room r s.words s.list room))
    (λ i f room. short-leaves (access (write c a d)) s)
finish-leaves (access (read p en a out)) s e =
    let F = read-facts s p en a out e in
    let X = read-program σ s p en a out F in
    let r = s.rec in
    let c = access (read p en a out) in
    let x = Read r s.list (held_word r s.ports p) (get_or en 0 0) (get_or en 1 0) a s.words (begin r) in
    let G = conditions_extended s x.words x.store.count r.asserted r.checked X.extends in
    nine-leaves c s x _
    (λ f. done-leaves c s (filled x.answer) (with_held (grown s x.words x.store.count) p x.answer) (record { same = record { sizes = G.same.sizes; len = G.same.len }; nodes = G.nodes; more = G.more; old = G.old; past = G.past })
    (λ H.
    let C = conditions-valid s x.words x.store.count r.asserted r.checked (user-grows X.extends) X.standard (user-grows X.extends r.asserted) (user-grows X.extends r.checked) H in
    record { one = C.one; two = C.two; three = C.three }) refl
    (λ H P. latched-valid (grown s x.words x.store.count) p x.answer F.memory.range.w-most F.port X.post.size (λ i m. means_user (X.post.halves.half i m))
    (ports_stay s x.words x.store.count r.asserted r.checked (user-grows X.extends) P)))
finish-leaves (access (assert b a d)) s e =
    let K = (assert-facts s b a d e).compared in
    let r = s.rec in
    let X = assert-program σ s b a d K in
    let x = assert_first b a d s in
    let n = x.store.count in
    let v = x.answer.condition in
    let c = access (assert b a d) in
    of-assert (λ (z : Finish). Leaves c s (closed s z)) b a d s (λ f. full-leaves c s _)
    (λ f k. conditions_leave c s kept refl x.words n X.extends X.standard v r.checked (λ u. means_user X.post.condition) (user-grows X.extends r.checked))
    (λ f k room. short-leaves c s) (λ f k room g. full-leaves c s _)
    (λ f k room g. entry-leaves c s entered refl x.words n X.extends X.standard v (λ u. means_user X.post.condition) b x.answer.not_b (user-grows X.extends b ((names r s.words b).so K.control)) (means_user X.post.not_b)
    a d K.address.long K.word.long ((users_tell r s.words a (2 * r.sizes.n) K.address.long).so K.address.names) ((users_tell r s.words d (2 * r.sizes.w) K.word.long).so K.word.names) (space-room r s.words s.list room))
finish-leaves (access (check b a d)) s e =
    let X = check-program σ s b a d (check-facts s b a d e) in
    let r = s.rec in
    let x = Check r s.list b a d s.words (begin r) in
    nine-leaves (access (check b a d)) s x _
    (λ f. conditions_leave (access (check b a d)) s accepted refl x.words x.store.count X.extends X.standard r.asserted x.answer (user-grows X.extends r.asserted) (λ u. means_user X.post))
finish-leaves (node_call (evaluate f φ)) s e = same-leaves (node_call (evaluate f φ)) s _ refl
finish-leaves (node_call (variable v)) s e =
    let F = variable-facts s v e in
    grown-leaves (node_call (variable v)) s (variable-builds {s = begin s.rec} {v = v} F.standard (omega (arith, F.named.1))) node (λ a. refl)
finish-leaves (node_call (ite f g h)) s e =
    let F = ite-facts s f g h e in
    grown-leaves (node_call (ite f g h)) s (ite-builds F.standard F.named.0 F.named.1 F.named.2) node (λ a. refl)
finish-leaves (node_call (conditions t)) s e =
    let F = formula-facts s t e in
    grown-leaves (node_call (conditions t)) s (formula-builds s.rec s.words F.standard t F.named) triples (λ a. refl)
finish-leaves (upkeep c) s e = absurd c

step-leaves : (c : Call) (s : State) → Leaves c s (step c s)
unfolding step
step-leaves c s = go (refusal c s) refl
  where
    go : (k : ℕ) → refusal c s ≡ k → Leaves c s (turned_down_by k s (closed s (finish c s)))
    go zero e = finish-leaves c s e
    go (suc k) e = turned-leaves c s k e

pub refusal-leaves : RefusalLeaves
unfolding RefusalLeaves
refusal-leaves c s k e = ((step-leaves c s).refuses k e).leaves

pub refusal-number : RefusalNumber
unfolding RefusalNumber
refusal-number c s k e = ((step-leaves c s).refuses k e).number

unseen-ports : (c : Call) → sees_ports c ≡ false → (x : Answer) (ps : List ℕ) → ports_after c x ps ≡ ps
unseen-ports (access (write c a d)) e x ps = refl
unseen-ports (access (read p n a out)) e x ps = absurd (true≢false e)
unseen-ports (access (assert b a d)) e x ps = refl
unseen-ports (access (check b a d)) e x ps = refl
unseen-ports (node_call c) e x ps = refl
unseen-ports (upkeep c) e x ps = absurd c

pub ports-left : PortsLeft
ports-left = record { unseen = λ c s e. (step-leaves c s).ports ∙ unseen-ports c e (step c s).answer s.ports; by_read = λ p n a out s. (step-leaves (access (read p n a out)) s).ports }

pub ports_stay-valid : PortsStayValid
unfolding PortsStayValid
ports_stay-valid c s = (step-leaves c s).ports-valid

pub success-leaves : SuccessLeaves
unfolding SuccessLeaves
success-leaves c s u = (step-leaves c s).extended

pub sizes_stay : SizesStay
unfolding SizesStay
sizes_stay c s = go (step c s).answer refl
  where
    go : (x : Answer) → (step c s).answer ≡ x → SameSizes s (step c s).after
    go (refused k) e = subst (SameSizes s) (sym ((step-leaves c s).refuses k e).leaves) (record { sizes = refl; len = refl })
    go (done g) e = ((step-leaves c s).extended (ap is_refused e)).same

-- no call is upkeep yet
pub no-upkeep : (c : Call) → is_upkeep c ≡ false
no-upkeep (access c) = refl
no-upkeep (node_call c) = refl
no-upkeep (upkeep c) = absurd c

pub stays-valid : StaysValid
unfolding StaysValid
stays-valid c s = (step-leaves c s).valid

pub no_row_123 : NoRow123
unfolding NoRow123 run
no_row_123 [] c s k H P e = ((step-leaves c s).refuses k e).late H P
no_row_123 (d ∷ cs) c s k H P e = no_row_123 cs c (step d s).after k ((step-leaves d s).valid H) ((step-leaves d s).ports-valid H P) e

pub fresh-leaves : FreshLeaves
unfolding FreshLeaves fresh
fresh-leaves given z ws ps = (refusing (fresh_rows z ws), taking (fresh_rows z ws))
  where
    refusing : (j k : ℕ) → (fresh_unless j given (fresh_record z) ws ps).answer ≡ suc k → fresh_unless j given (fresh_record z) ws ps ≡ record { answer = suc k; rec = given; words = ws; ports = ps }
    refusing zero k e = absurd (omega arith)
    refusing (suc j) k e = ap (λ (i : ℕ). fresh_unless i given (fresh_record z) ws ps) e

    taking : (j : ℕ) → (fresh_unless j given (fresh_record z) ws ps).answer ≡ 0 → fresh_unless j given (fresh_record z) ws ps ≡ record { answer = 0; rec = fresh_record z; words = with_terminals ws; ports = fresh_ports }
    taking zero e = refl
    taking (suc j) e = absurd (omega arith)

-- what Fresh leaves where rows 1 and 2 accept: no entries, node 1 for both conditions, and node 1 in every port word
abbrev begun : Sizes → List ℕ → List ℕ → State
begun z ws l = record { rec = fresh_record z; words = with_terminals ws; list = l; ports = fresh_ports }

begun-valid : (z : Sizes) (ws l : List ℕ) → row1 (fresh_record z) ws ≡ true → z.w ≤ 16 → 6 ≤ length ws → Valid (begun z ws l) × PortsValid (begun z ws l)
unfolding row1
begun-valid z ws l one wide room =
    let S = terminals-standard ws room in
    let u = is_user_lem (with_terminals ws) 2 1 (omega arith) (from_1 8 S (omega arith)) in (
      record { one = one; two = is-standard (with_terminals ws) 2 S; three = no-entries (fresh_record z) (with_terminals ws) l refl u u },
      users-ports (begun z ws l) (length-replicate {A = ℕ} 128 1) (λ p a i b. rw (get_or-replicate {A = ℕ} 128 (p * 32 + i) 1 0 (omega (arith, a, b, wide))) u),
    )

pub fresh-valid : FreshValid
unfolding FreshValid fresh
fresh-valid given z ws ps l e = go (fresh_rows z ws) refl e
  where
    after : ℕ → State
    after k = let x = fresh_unless k given (fresh_record z) ws ps in record { rec = x.rec; words = x.words; list = l; ports = x.ports }

    go : (k : ℕ) → fresh_rows z ws ≡ k → (fresh_unless k given (fresh_record z) ws ps).answer ≡ 0 → Valid (after k) × PortsValid (after k)
    go zero q e =
        let (range, rest) = (fresh-told z ws).none q in
        begun-valid z ws l ((row1-tells (fresh_record z) ws).so range) range.w-most rest.0
    go (suc k) q e = absurd (omega arith)

pub fresh_no_row_123 : FreshNoRow123
unfolding FreshNoRow123 FreshValid NoRow123
fresh_no_row_123 given z ws ps l e cs c k = let F = fresh-valid given z ws ps l e in no_row_123 cs c (fresh_state given z ws ps l) k F.0 F.1

-- the words of a filled read, of n words
abbrev WordBelow : Filling → ℕ → ℕ → Type 0
WordBelow (fills r) n c = (length r ≡ n) × ((i : ℕ) → i < length r → get_or r i 0 < c)
WordBelow fills_none n c = Unit {0}

module _ (p : ℕ) (e a out : List ℕ) (s : State) where
  abbrev Below : Result → Type 0
  Below x = WordBelow (filling x.answer) (2 * s.rec.sizes.w) x.after.rec.count

  read_acts : refusal (access (read p e a out)) s ≡ 0 → Below (closed s (finish (access (read p e a out)) s))
  unfolding finish_access unless_full closed
  read_acts z =
      let R = s.rec in
      let w = s.words in
      let X = read-program σ s p e a out (read-facts s p e a out z) in
      let x = Read R s.list (held_word R s.ports p) (get_or e 0 0) (get_or e 1 0) a w (begin R) in
      go x x.store.full X.post.size (λ i h. (X.post.halves.half i (omega (arith, X.post.size))).below)
    where
      go : (x : Outcome (List ℕ)) (f : Bool) → length x.answer ≡ 2 * s.rec.sizes.w → ((i : ℕ) → i < length x.answer → get_or x.answer i 0 < x.store.count)
          → Below (closed s (cond f (full x.store) (gives (filled x.answer) (with_held (grown s x.words x.store.count) p x.answer))))
      go x true p q = tt
      go x false p q = (p, q)

  read_below : Below (step (access (read p e a out)) s)
  unfolding step
  read_below = go (refusal (access (read p e a out)) s) refl
    where
      go : (k : ℕ) → refusal (access (read p e a out)) s ≡ k → Below (turned_down_by k s (closed s (finish (access (read p e a out)) s)))
      go zero z = read_acts z
      go (suc k) z = tt

  pub filled-below : {r : List ℕ} {t : State} → step (access (read p e a out)) s ≡ record { answer = done (filled r); after = t } → (length r ≡ 2 * s.rec.sizes.w) × ((i : ℕ) → i < length r → get_or r i 0 < t.rec.count)
  filled-below f = subst Below f read_below

  -- its answer words are as many as it was lent
  pub read-long : length (answer_words (step (access (read p e a out)) s).answer out) ≡ length out
  unfolding step
  read-long = go (refusal (access (read p e a out)) s) refl
    where
      filled-long : (f : Filling) (n c : ℕ) → WordBelow f n c → length out ≡ n → length (filled_over f out) ≡ length out
      filled-long (fills r) n c W l = W.0 ∙ sym l
      filled-long fills_none n c W l = refl

      go : (k : ℕ) → refusal (access (read p e a out)) s ≡ k → length (answer_words (turned_down_by k s (closed s (finish (access (read p e a out)) s))).answer out) ≡ length out
      go zero z = filled-long (filling (closed s (finish (access (read p e a out)) s)).answer) _ (closed s (finish (access (read p e a out)) s)).after.rec.count (read_acts z) (read-facts s p e a out z).answer-long
      go (suc k) z = refl
