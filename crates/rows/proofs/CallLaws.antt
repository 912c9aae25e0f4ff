-- A call by its row: refused by a number, or what it does; and what it answers of a full store, and of one that is not.
use Rattle.std.proofs.Common.{◌≡◌, Bool, true, false, cond, ◌&&◌, List, [], ◌∷◌, ◌++◌, ℕ, zero, suc, ◌+◌, ◌*◌, ◌<◌, ◌≤◌, eqb, length, get_or, drop, Ok, Err, refl, sym, ap, subst, ◌∙◌, arith}
use Rattle.std.proofs.Common as Rust
use Rattle.std.proofs.lemmas.Bool.{true≢false}
use borrow.Author.Tests.{eq-eqb}
use Rattle.refusals.specs.declared.Refusal.{Refusal}
use Rattle.refusals.specs.declared.Refusal.TheVariants.{Lengths, ListFull, StoreFull}
use Rattle.refusals.specs.declared.Refusal.TheVariants as row
use Rattle.refusals.specs.Refusal.{number, row_of}
use Rattle.refusals.proofs.RefusalLaws.{number-suc, number-above}
use Rattle.std.specs.Option.{ok_or}
use Rattle.conditions.specs.Stores.{Diagrams, Reads}
use Rattle.nodes.proofs.BoolLaws.{both_and}
use Rattle.nodes.proofs.SearchLaws.{every_is, every-step, every_end}
use Rattle.conditions.specs.Stores.{Standard, clear_of}
use Rattle.conditions.specs.User.{is_user}
use Rattle.conditions.specs.Build.{Store, Outcome}
use Rattle.conditions.specs.Contract.{Sound}
use Rattle.conditions.proofs.Promises.{standard_is, user_is}
use Rattle.model.specs.Record as model
use Rattle.model.specs.Rows.{Row, first_row, users, legal_pairs, row1, row2, row3, memory_rows, check_rows}
use Rattle.model.specs.Step.{State, with_words, Access, NodeCall, Call, access, node_call, refused, refusal, Finish, full, short, closed, unless_full, finish_access, finish_node, finish, step}
use Rattle.model.specs.Chain.{Answered, AnswersNode}
use Rattle.model.specs.Frames.{Valid}
use Rattle.model.specs.Table.{Slice, MemoryFacts}
use Rattle.model.proofs.FactLaws.{row1-tells}
use Rattle.model.proofs.CallFactLaws.{check-facts}
use Rattle.building.specs.Contract.{Nodes, Looks}
use Rattle.rows.specs.Contract.{state_of, Answers, AnswersOn, argument_rows, cleared_where, Cleared, Over}

-- a call by its row
step-turned : (c : Call) (s : State) (k : Refusal) → number k ≡ refusal c s → Answered c s s (refused (number k))
unfolding step
step-turned c s k e = let h = number-suc k in rw (← e, h.1)

step_acted : (c : Call) (s : State) → 0 ≡ refusal c s → step c s ≡ closed s (finish c s)
unfolding step
step_acted c s e = rw (← e)

module _ (c : Access) (s : State) where
  pub turned : (k : Refusal) → number k ≡ refusal (access c) s → Answers c s s (refused (number k))
  turned k e = step-turned (access c) s k e

  pub turned_on : (k : Refusal) → number k ≡ refusal (access c) s → {table : List ℕ} → AnswersOn c s s (refused (number k)) table
  turned_on k e = record { is = turned k e; sound = λ q. absurd (true≢false q) }

  pub acted : 0 ≡ refusal (access c) s → step (access c) s ≡ closed s (finish_access c s)
  acted e = step_acted (access c) s e

module _ (c : NodeCall) (s : State) where
  pub node-turned : (k : Refusal) → number k ≡ refusal (node_call c) s → AnswersNode c s s (refused (number k))
  node-turned k e = step-turned (node_call c) s k e

  pub node_acted : 0 ≡ refusal (node_call c) s → step (node_call c) s ≡ closed s (finish_node c s)
  node_acted e = step_acted (node_call c) s e

-- what `clear_where` leaves: the words, and whether and by what it refuses
abbrev Kept : Type 0
Kept = List ℕ × Rust.Result (Unit {0}) Refusal

abbrev refuses : Kept → Bool
refuses (w, Ok u) = false
refuses (w, Err k) = true

abbrev refused_by : Kept → Refusal
refused_by (w, Ok u) = StoreFull
refused_by (w, Err k) = k

module _ {w w' : List ℕ} {c : ℕ} {b : Bool} {by : Refusal} where
  pub cleared_by : {k : Refusal} → Cleared w c b by w' (Err k) → (w' ≡ clear_of w c) × (b ≡ true) × (k ≡ by)
  cleared_by {k} o = go b o.is
    where
      go : (b : Bool) → ◌≡◌ {A = Kept} (w', Err k) (cleared_where w c b by) → (w' ≡ clear_of w c) × (b ≡ true) × (k ≡ by)
      go true o = (ap (λ (z : Kept). z.0) o, refl, ap refused_by o)
      go false o = absurd (true≢false (ap refuses o))

  pub left_by : {u : Unit {0}} → Cleared w c b by w' (Ok u) → (w' ≡ w) × (b ≡ false)
  left_by {u} o = go b o.is
    where
      go : (b : Bool) → ◌≡◌ {A = Kept} (w', Ok u) (cleared_where w c b by) → (w' ≡ w) × (b ≡ false)
      go true o = absurd (true≢false (sym (ap refuses o)))
      go false o = (ap (λ (z : Kept). z.0) o, refl)

-- what a call answers of the program x, which left the words w and the store u, and of which `clear_where` then made the words w'
module _ {A : Type 0} (s : State) (x : Outcome A) (f : A → List ℕ → ℕ → Finish) {w : List ℕ} {u : Store} {a : A} (is : ◌≡◌ {A = Outcome A} (record { words = w; store = u; answer = a }) x) where
  acts_by : {b : Bool} → u.full ≡ b → unless_full x f ≡ cond b (full u) (f a w u.count)
  unfolding unless_full
  acts_by e = ap (λ (y : Outcome A). cond y.store.full (full y.store) (f y.answer y.words y.store.count)) (sym is) ∙ ap (λ (b : Bool). cond b (full u) (f a w u.count)) e

  -- u is full
  pub nine_acts : clear_of x.words s.rec.count ≡ clear_of s.words s.rec.count → {w' : List ℕ} {k : Refusal} → Cleared w s.rec.count u.full StoreFull w' (Err k) → closed s (unless_full x f) ≡ record { answer = refused (number k); after = with_words s w' }
  unfolding closed
  nine_acts cl {w'} {k} o =
      let g = cleared_by o in
      let h : w' ≡ clear_of s.words s.rec.count = g.0 ∙ ap (λ (y : Outcome A). clear_of y.words s.rec.count) is ∙ cl in
      ap (closed s) (acts_by g.1) ∙ ap (λ (l : List ℕ). record { answer = refused 9; after = with_words s l }) (sym h) ∙ ap (λ (k : Refusal). record { answer = refused (number k); after = with_words s w' }) (sym g.2)

  -- it is not
  pub done_acts : {w' : List ℕ} {k : Refusal} {e : Unit {0}} → Cleared w s.rec.count u.full k w' (Ok e) → closed s (unless_full x f) ≡ closed s (f a w' u.count)
  done_acts o = let g = left_by o in ap (closed s) (acts_by g.1) ∙ ap (λ (l : List ℕ). closed s (f a l u.count)) (sym g.0)

  -- then a second `clear_where` made w'' of these words, and what follows has no space
  pub eight_acts : clear_of x.words s.rec.count ≡ clear_of s.words s.rec.count → {w' : List ℕ} {h : Refusal} {e : Unit {0}} → Cleared w s.rec.count u.full h w' (Ok e)
      → {w'' : List ℕ} {b : Bool} {k : Refusal} → Cleared w' s.rec.count b ListFull w'' (Err k) → f a w' u.count ≡ short → closed s (unless_full x f) ≡ record { answer = refused (number k); after = with_words s w'' }
  unfolding closed
  eight_acts cl o {w''} q z =
      let g = cleared_by q in
      let h : w'' ≡ clear_of s.words s.rec.count = g.0 ∙ ap (λ (l : List ℕ). clear_of l s.rec.count) (left_by o).0 ∙ ap (λ (y : Outcome A). clear_of y.words s.rec.count) is ∙ cl in
      done_acts o ∙ ap (closed s) z ∙ ap (λ (l : List ℕ). record { answer = refused 8; after = with_words s l }) (sym h) ∙ ap (λ (k : Refusal). record { answer = refused (number k); after = with_words s w'' }) (sym g.2)

pub not_full : {w m : List ℕ} (u : Store) → u.full ≡ false → Sound w m u → Sound w m (record { count = u.count; full = false })
not_full {w} {m} u f S = subst (λ (b : Bool). Sound w m (record { count = u.count; full = b })) f S

pub over-sound : {w w' m : List ℕ} (c : ℕ) (u : Store) {k : Refusal} {e : Unit {0}} → Cleared w c u.full k w' (Ok e) → Sound w m u → Sound w' m (record { count = u.count; full = false })
over-sound {w} {w'} {m} c u o S = let g = left_by o in subst (λ (l : List ℕ). Sound l m (record { count = u.count; full = false })) (sym g.0) (not_full u g.1 S)

pub in-range_few : (r : model.Record) (w : List ℕ) → row1 r w ≡ true → (r.sizes.n ≤ 8) × (r.sizes.w ≤ 16)
in-range_few r w e = let R = (row1-tells r w).is e in (R.n-most, R.w-most)

-- a valid memory
module _ (s : State) (K : Valid s) where
  pub valid_few : (s.rec.sizes.n ≤ 8) × (s.rec.sizes.w ≤ 16)
  valid_few = in-range_few s.rec s.words K.one

  pub valid-standard : Standard s.words s.rec.count
  valid-standard = standard_is s.words s.rec.count K.two

  -- its rows are those from 4 on
  pub valid_rows : (ts : List Row) → first_row (memory_rows s.rec s.words s.list ts) ≡ first_row ts
  valid_rows ts = rw (K.one, K.two, K.three)

-- of rows that do not refuse, the first holds, and those after it do not refuse
passes : (n : ℕ) (t : Bool) (ts : List Row) → first_row ((suc n, t) ∷ ts) ≡ 0 → (t ≡ true) × (first_row ts ≡ 0)
passes n true ts e = (refl, e)
passes n false ts e = absurd (omega arith)

-- rows 1 and 2, before any others
pub store-holds : (r : model.Record) (w : List ℕ) → 0 ≡ first_row ((1, row1 r w) ∷ (2, row2 r w) ∷ []) → (row1 r w ≡ true) × (row2 r w ≡ true)
store-holds r w e =
    let one = passes 0 (row1 r w) ((2, row2 r w) ∷ []) (sym e) in
    (one.0, (passes 1 (row2 r w) [] one.1).0)

-- row 2, by what reads the words
pub store_read : (r : model.Record) (w : List ℕ) → row1 r w ≡ true → (o : Rust.Option Diagrams) → Reads w r.count o
    → (row_of (ok_or o row.Store) ≡ first_row ((1, row1 r w) ∷ (2, row2 r w) ∷ [])) × Over w r.count (ok_or o row.Store)
store_read r w e (Rust.Some d) q = (rw (e, q.0), (q.1, q.2))
store_read r w e Rust.None q = (rw (e, q), tt)

pub memory-valid : (s : State) → 0 ≡ first_row (memory_rows s.rec s.words s.list []) → Valid s
memory-valid s e =
    let ts = memory_rows s.rec s.words s.list [] in
    let one = passes 0 (row1 s.rec s.words) (drop 1 ts) (sym e) in
    let two = passes 1 (row2 s.rec s.words) (drop 2 ts) one.1 in
    let three = passes 2 (row3 s.rec s.words s.list) [] two.1 in
    record { one = one.0; two = two.0; three = three.0 }

-- the first of some rows refuses, whatever rows follow
pub first-refuses : (us ts : List Row) (k : Refusal) → number k ≡ first_row us → number k ≡ first_row (us ++ ts)
first-refuses [] ts k e = absurd (omega (arith, number-above k))
first-refuses (u ∷ us) ts k e = go u.1 e (first-refuses us ts k)
  where
    go : (b : Bool) → number k ≡ cond b (first_row us) u.0 → (number k ≡ first_row us → number k ≡ first_row (us ++ ts)) → number k ≡ cond b (first_row (us ++ ts)) u.0
    go true e f = f e
    go false e f = e

-- users are nodes
pub users-nodes : (r : model.Record) (w ws : List ℕ) → users r w ws ≡ true → (i : ℕ) → i < length ws → get_or ws i 0 < r.count
users-nodes r w ws e i h = (user_is w r.count (get_or ws i 0) (every_is (λ (j : ℕ). is_user w r.count (get_or ws j 0)) (length ws) 0 e i (omega arith) (omega arith))).0

-- an access that rows 1 to 3 refuse, and one that row 4 refuses
module _ (c : Access) (s : State) (ts : List Row) (is : refusal (access c) s ≡ first_row (memory_rows s.rec s.words s.list ts)) where
  pub memory-turned : (k : Refusal) → number k ≡ first_row (memory_rows s.rec s.words s.list []) → Answers c s s (refused (number k))
  memory-turned k e = turned c s k (first-refuses (memory_rows s.rec s.words s.list []) ts k e ∙ sym is)

pub lengths-turned : (c : Access) (s : State) (t : Bool) (ts : List Row) → refusal (access c) s ≡ first_row (memory_rows s.rec s.words s.list ((4, t) ∷ ts)) → Valid s → t ≡ false → Answers c s s (refused 4)
lengths-turned c s t ts is K e = turned c s Lengths (sym (is ∙ valid_rows s K ((4, t) ∷ ts) ∙ first))
  where
    first : first_row ((4, t) ∷ ts) ≡ 4
    first = rw e

-- a row whose test holds
pub row-passes : {t : Bool} (k : ℕ) (ts : List Row) → t ≡ true → first_row ((k, t) ∷ ts) ≡ first_row ts
row-passes k ts e = rw e

-- rows 5 and 6 of other words, with the same tests
pub same_rows : {p q x y : Bool} → p ≡ q → x ≡ y → first_row ((5, p) ∷ (6, x) ∷ []) ≡ first_row ((5, q) ∷ (6, y) ∷ [])
same_rows e f = rw (e, f)

-- one word, and no pair
pub users_one : (r : model.Record) (w : List ℕ) (b : ℕ) → users r w (b ∷ []) ≡ is_user w r.count b
users_one r w b =
    let p : ℕ → Bool = λ i. is_user w r.count (get_or (b ∷ []) i 0) in
    every-step p 1 0 (omega arith) ∙ ap (λ (x : Bool). cond (is_user w r.count b) x false) (every_end p 1 0 (omega arith)) ∙ whole (is_user w r.count b)
  where
    whole : (x : Bool) → cond x true false ≡ x
    whole true = refl
    whole false = refl

pub no-users : (r : model.Record) (w : List ℕ) → users r w [] ≡ true
no-users r w = every_end (λ i. is_user w r.count (get_or [] i 0)) 0 0 (omega arith)

pub no_pairs : (r : model.Record) (w ws : List ℕ) → legal_pairs r w ws 0 ≡ true
no_pairs r w ws = every_end _ 0 0 (omega arith)

-- of a valid memory a check has the rows of its arguments, b being one word of control and no pair
pub check_row_is : (s : State) → Valid s → (b : ℕ) (a d : List ℕ) → length a ≡ model.address_words s.rec → length d ≡ model.cell_words s.rec
    → first_row (check_rows s.rec s.words s.list b a d) ≡ first_row (argument_rows s.rec s.words (b ∷ []) 0 a d s.rec.sizes.w)
check_row_is s K b a d la ld =
    let r = s.rec in
    let w = s.words in
    let ts = check_rows r w s.list b a d in
    valid_rows s K (drop 3 ts)
    ∙ row-passes 4 (drop 4 ts) (both_and (eq-eqb (length a) (model.address_words r) la) (eq-eqb (length d) (model.cell_words r) ld))
    ∙ same_rows (ap (λ (x : Bool). x && users r w a && users r w d) (sym (users_one r w b))) (ap (λ (x : Bool). x && legal_pairs r w a r.sizes.n && legal_pairs r w d r.sizes.w) (sym (no_pairs r w (b ∷ []))))

-- the words of a slice are nodes
pub slice-nodes : {s : State} {ws : List ℕ} {k : ℕ} → Slice s ws k → Nodes s.rec.count ws
slice-nodes F = record { at = λ i h. (F.names i (omega (arith, F.long))).below }

-- a look at a list that row 3 accepts
pub facts-look : (r : model.Record) (w l a : List ℕ) → MemoryFacts (state_of r w l) → Slice (state_of r w l) a r.sizes.n → Looks r.sizes r.entries r.count l a
facts-look r w l a M F =
    record {
      few = M.range.n-most;
      wide = M.range.w-most;
      many = M.listed.most;
      room = M.listed.within;
      entries = λ i h. (M.listed.words i h).below;
      pairs = F.long;
      nodes = slice-nodes F;
    }

-- what the rows of a check leave, which are an assert's up to 6
pub record Compared (r : model.Record) (l : List ℕ) (b : ℕ) (a d : List ℕ) : Type 0 where
  pub wide : r.sizes.w ≤ 16
  pub looks : Looks r.sizes r.entries r.count l a
  pub word : Nodes r.count d
  pub control : b < r.count

pub compared : (r : model.Record) (w l : List ℕ) (b : ℕ) (a d : List ℕ) → 0 ≡ first_row (check_rows r w l b a d) → Compared r l b a d
compared r w l b a d e =
    let F = check-facts (state_of r w l) b a d (sym e) in
    record { wide = F.memory.range.w-most; looks = facts-look r w l a F.memory F.address; word = slice-nodes F.word; control = F.control.below }
