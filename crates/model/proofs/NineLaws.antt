-- 9 is met at capacity, and just where a call would leave more nodes than that: every access is a program that makes the store full there alone, and in longer words does the same up to there.
use mathlib.Core.Path.{◌≡◌, refl, sym, ap, subst, ◌∙◌}
use mathlib.Core.Bool.{Bool, true, false, cond, false≢true, true≢false}
use mathlib.Core.Logic.{◌⊎◌, inl, inr}
use mathlib.Core.List.{List}
use Prim.Native.Nat.{ℕ, zero, suc, ◌/◌, ◌<◌, ◌≤◌, min}
use native.Mathlib.Omega.{arith}
use lib.Dec.{eqb}
use lib.ListN.{get_or}
use Rattle.nodes.proofs.BoolLaws.{split}
use Rattle.conditions.specs.Stores.{Standard, capacity_of}
use Rattle.conditions.specs.Assignment.{bit_at}
use Rattle.conditions.specs.Build.{Store, Outcome, Build}
use Rattle.conditions.specs.Meaning.{Within, longer, Fills}
use Rattle.conditions.proofs.Promises.{standard-within, variable-fills, ite-fills, value-longer}
use Rattle.model.specs.Record.{held_word}
use Rattle.model.specs.Access.{Write, AssertBuilt, Assert}
use Rattle.model.specs.Rows.{space_for}
use Rattle.model.specs.Step.{State, write, read, assert, check, evaluate, variable, ite, conditions, Call, access, node_call, upkeep, Given, valued, is_refused, refused, refusal, Finish, full, short, gives, closed, unless_full, begin, grown, with_entry, with_check_condition, assert_first, enter, is_idle, finish_write, finish_access, finish_node, finish, turned_down_by, step, with_held}
use Rattle.model.specs.Frames.{late_row, NineAtCapacity}
use Rattle.model.specs.Table.{with_more, InMore, NineOf, NineExactly}
use Rattle.model.proofs.CallFactLaws.{call-standard, call-told}
use Rattle.model.proofs.FinishProgram.{of-program}
use Rattle.model.proofs.FinishLaws.{of-write, of-assert}
use Rattle.model.proofs.FrameLaws.{plain, rows-plain}
use Rattle.model.proofs.StayLaws.{nine-full}
use Rattle.model.proofs.FormulaLaws.{triples_fill}
use Rattle.model.proofs.EntryFills.{write-fills}
use Rattle.model.proofs.AccessFills.{read-fills, check-fills, assert-fills}

module _ (s : State) (S : Standard s.words s.rec.count) where
  abbrev capacity : ℕ
  capacity = capacity_of s.words

  from : {A : Type 0} {m : Build A} → Fills m → Within capacity (m s.words (begin s.rec)).words (m s.words (begin s.rec)).store
  from F = F.within capacity s.words (begin s.rec) (standard-within S)

  -- what a call comes to is full at capacity alone, and leaves no more nodes than that
  abbrev Met : Finish → Type 0
  Met (full t) = t.count ≡ capacity
  Met short = Unit {0}
  Met (gives g t) = t.rec.count ≤ capacity

  -- a program alone
  alone_met : {A : Type 0} {m : Build A} (F : Fills m) (g : A → Given) (t : A → List ℕ → ℕ → State) → ((a : A) (w : List ℕ) (c : ℕ) → (t a w c).rec.count ≡ c) → Met (unless_full (m s.words (begin s.rec)) (λ a w c. gives (g a) (t a w c)))
  alone_met F g t h = of-program Met _ _ (from F).at-capacity (λ e. rw (h _ _ _) (from F).most)

  finish_met : (c : Call) → Met (finish c s)
  unfolding finish_access finish_node
  finish_met (access (write c a d)) =
      let X = from (write-fills s.rec.sizes.n (get_or c 0 0) (get_or c 1 0) a) in
      of-write Met c a d s (λ i. (standard-within S).most) (λ i f. X.at-capacity f) (λ i f r. X.most) (λ i f r. tt)
  finish_met (access (read p e a out)) = alone_met (read-fills s.rec s.list (held_word s.rec s.ports p) (get_or e 0 0) (get_or e 1 0) a) _ _ (λ a w c. refl)
  finish_met (access (check b a d)) = alone_met (check-fills s.rec s.list b a d) _ _ (λ a w c. refl)
  finish_met (access (assert b a d)) =
      let x = assert_first b a d s in
      let X = from (assert-fills s.rec s.list b a d) in
      let Y = (write-fills s.rec.sizes.n b x.answer.not_b a).within capacity x.words (record { count = x.store.count; full = false }) (record { capacity = X.capacity; most = X.most; at-capacity = λ e. absurd (false≢true e) }) in
      of-assert Met b a d s X.at-capacity (λ f k. X.most) (λ f k r. tt) (λ f k r g. Y.at-capacity g) (λ f k r g. Y.most)
  finish_met (node_call (evaluate f a)) = (standard-within S).most
  finish_met (node_call (variable v)) = alone_met (variable-fills v) _ _ (λ a w c. refl)
  finish_met (node_call (ite f g h)) = alone_met (ite-fills f g h) _ _ (λ a w c. refl)
  finish_met (node_call (conditions t)) = alone_met (triples_fill 0 1 t) _ _ (λ a w c. refl)
  finish_met (upkeep c) = absurd c

  at-nine : (x : Finish) → Met x → late_row x ≡ 9 → (t : Store) × (x ≡ full t) × (t.count ≡ capacity)
  at-nine (full t) m e = (t, refl, m)
  at-nine short m e = absurd (omega arith)
  at-nine (gives g t) m e = absurd (omega arith)

pub nine_at-capacity : NineAtCapacity
unfolding NineAtCapacity step
nine_at-capacity c s = go (refusal c s) refl
  where
    go : (k : ℕ) → refusal c s ≡ k → (turned_down_by k s (closed s (finish c s))).answer ≡ refused 9 → (t : Store) × (finish c s ≡ full t) × (t.count ≡ capacity_of s.words)
    go zero r e = let S = call-standard c s r in at-nine s S (finish c s) (finish_met s S c) (nine-full s (finish c s) e)
    go (suc k) r e =
        let z : suc k ≡ 9 = cc in
        let p : plain 9 ≡ true = rw z at (rows-plain c s k r) in
        absurd (false≢true p)

-- the same call with k more node words lent
module _ (k : ℕ) (s : State) where
  abbrev more : State
  more = with_more k s

  -- what it comes to there, where it is full with the words of s alone: nothing that is given, or more nodes than their capacity
  abbrev Past : Finish → Type 0
  Past (full t) = Unit {0}
  Past short = Unit {0}
  Past (gives g t) = capacity_of s.words < t.rec.count

  -- what it comes to with the words of s alone, and there
  abbrev Beside : Finish → Finish → Type 0
  Beside (full t) y = Past y
  Beside short y = y ≡ short
  Beside (gives g t) y = y ≡ gives g (with_more k t)

  module _ {A : Type 0} {m : Build A} (F : Fills m) (w : List ℕ) (b : Store) (same : capacity_of w ≡ capacity_of s.words) (p q : A → List ℕ → ℕ → Finish) where
    past-beside : ((a : A) (w : List ℕ) (c : ℕ) → capacity_of s.words < c → Past (q a w c)) → ((m w b).store.full ≡ true) → Past (unless_full (m (longer k w) b) q)
    unfolding unless_full
    past-beside late f = go (m (longer k w) b).store.full refl
      where
        y : Outcome A
        y = m (longer k w) b

        on : y.store.full ≡ false → (y.store.full ≡ true) ⊎ (capacity_of w < y.store.count) → Past (q y.answer y.words y.store.count)
        on e (inl g) = absurd (true≢false (sym g ∙ e))
        on e (inr h) = late _ _ _ (omega (arith, h, same))

        go : (g : Bool) → y.store.full ≡ g → Past (cond g (full y.store) (q y.answer y.words y.store.count))
        go true e = tt
        go false e = on e ((F.alongside k w b).past f)

    program-beside : ((a : A) (w : List ℕ) (c : ℕ) → capacity_of s.words < c → Past (q a w c))
        → ((m w b).store.full ≡ false → Beside (p (m w b).answer (m w b).words (m w b).store.count) (q (m w b).answer (longer k (m w b).words) (m w b).store.count))
        → Beside (unless_full (m w b) p) (unless_full (m (longer k w) b) q)
    unfolding unless_full
    program-beside late on = go (m w b).store.full refl
      where
        x : Outcome A
        x = m w b

        go : (f : Bool) → x.store.full ≡ f → Beside (unless_full x p) (unless_full (m (longer k w) b) q)
        go true e = rw e (past-beside late e)
        go false e = rw ((F.alongside k w b).fits e, e) (on e)

  past-gives : {A : Type 0} (y : Outcome A) (g : A → Given) (q : A → List ℕ → ℕ → State) → ((a : A) (w : List ℕ) (c : ℕ) → (q a w c).rec.count ≡ c) → capacity_of s.words < y.store.count → Past (unless_full y (λ a w c. gives (g a) (q a w c)))
  unfolding unless_full
  past-gives y g q h l = split y.store.full (λ f. rw f tt) (λ f. rw (f, h y.answer y.words y.store.count) l)

  -- a program alone, after which a call leaves t of the state, the answer and what was built
  alone-beside : {A : Type 0} {m : Build A} → Fills m → (g : A → Given) (t : State → A → List ℕ → ℕ → State) → ((a : A) (w : List ℕ) (c : ℕ) → t more a (longer k w) c ≡ with_more k (t s a w c)) → ((a : A) (w : List ℕ) (c : ℕ) → (t more a w c).rec.count ≡ c)
      → Beside (unless_full (m s.words (begin s.rec)) (λ a w c. gives (g a) (t s a w c))) (unless_full (m (longer k s.words) (begin s.rec)) (λ a w c. gives (g a) (t more a w c)))
  alone-beside {m = m} F g t e h =
      let x = m s.words (begin s.rec) in
      program-beside F s.words (begin s.rec) refl _ _ (λ a w c l. rw (h a w c) l) (λ f. ap (λ (t : State). gives (g x.answer) t) (e x.answer x.words x.store.count))

  assert-beside : (b : ℕ) (a d : List ℕ) → Beside (finish (access (assert b a d)) s) (finish (access (assert b a d)) more)
  unfolding finish_access enter
  assert-beside b a d =
      program-beside F s.words (begin s.rec) refl _ _ late on
    where
      F : Fills (Assert s.rec s.list b a d)
      F = assert-fills s.rec s.list b a d

      x : Outcome AssertBuilt
      x = assert_first b a d s

      W : (q : AssertBuilt) → Fills (Write s.rec.sizes.n b q.not_b a)
      W q = write-fills s.rec.sizes.n b q.not_b a

      late : (q : AssertBuilt) (w : List ℕ) (c : ℕ) → capacity_of s.words < c → Past (enter more b a d q w c)
      late q w c l =
          split (eqb q.keep 1) (λ t. rw t l)
          (λ t. split (space_for s.rec s.words 1 s.list)
          (λ r. rw (t, r) (past-gives (Write s.rec.sizes.n b q.not_b a w (record { count = c; full = false })) _ _ (λ a w c. refl) (omega (arith, l, (W q).grows w (record { count = c; full = false })))))
          (λ r. rw (t, r) tt))

      on : x.store.full ≡ false → Beside (enter s b a d x.answer x.words x.store.count) (enter more b a d x.answer (longer k x.words) x.store.count)
      on f =
          split (eqb x.answer.keep 1) (λ t. rw t refl)
          (λ t. split (space_for s.rec s.words 1 s.list)
          (λ r. rw (t, r) (program-beside (W x.answer) x.words (record { count = x.store.count; full = false }) (ap (λ n. min (n / 3) 16384) (F.long s.words (begin s.rec))) _ _ (λ a w c l. l) (λ e. refl)))
          (λ r. rw (t, r) refl))

  finish-beside : (c : Call) → Beside (finish c s) (finish c more)
  unfolding finish_access finish_write finish_node
  finish-beside (access (write c a d)) =
      let F = write-fills s.rec.sizes.n (get_or c 0 0) (get_or c 1 0) a in
      split (is_idle c) (λ i. rw i refl)
      (λ i. split (space_for s.rec s.words 1 s.list)
      (λ r. rw (i, r) (alone-beside F _ (λ s m w c. with_entry (grown s w c) m a d) (λ a w c. refl) (λ a w c. refl)))
      (λ r. rw (i, r) (program-beside F s.words (begin s.rec) refl _ _ (λ a w c l. tt) (λ e. refl))))
  finish-beside (access (read p e a out)) = alone-beside (read-fills s.rec s.list (held_word s.rec s.ports p) (get_or e 0 0) (get_or e 1 0) a) _ (λ s r w c. with_held (grown s w c) p r) (λ a w c. refl) (λ a w c. refl)
  finish-beside (access (check b a d)) = alone-beside (check-fills s.rec s.list b a d) _ (λ s v w c. with_check_condition (grown s w c) v) (λ a w c. refl) (λ a w c. refl)
  finish-beside (access (assert b a d)) = assert-beside b a d
  finish-beside (node_call (evaluate f a)) = ap (λ (v : Bool). gives (valued v) more) (value-longer k s.words (bit_at a) f)
  finish-beside (node_call (variable v)) = alone-beside (variable-fills v) _ (λ s n w c. grown s w c) (λ a w c. refl) (λ a w c. refl)
  finish-beside (node_call (ite f g h)) = alone-beside (ite-fills f g h) _ (λ s n w c. grown s w c) (λ a w c. refl) (λ a w c. refl)
  finish-beside (node_call (conditions t)) = alone-beside (triples_fill 0 1 t) _ (λ s ts w c. grown s w c) (λ a w c. refl) (λ a w c. refl)
  finish-beside (upkeep c) = absurd c

  -- what it answers and leaves, here and there
  record ClosedBeside (x y : Finish) : Type 0 where
    fits : (closed more y).after.rec.count ≤ capacity_of s.words → closed more y ≡ record { answer = (closed s x).answer; after = with_more k (closed s x).after }
    nine : capacity_of s.words < (closed more y).after.rec.count → (closed s x).answer ≡ refused 9

  past-given : (y : Finish) → Past y → is_refused (closed more y).answer ≡ false → capacity_of s.words < (closed more y).after.rec.count
  unfolding closed
  past-given (full t) h a = absurd (true≢false a)
  past-given short h a = absurd (true≢false a)
  past-given (gives g t) h a = h

  module _ (S : Standard s.words s.rec.count) where
    closed-beside : (x y : Finish) → Met s S x → Beside x y → is_refused (closed more y).answer ≡ false → ClosedBeside x y
    unfolding closed
    closed-beside (full t) y m h a = let l = past-given y h a in record { fits = λ f. absurd (omega (arith, l, f)); nine = λ f. refl }
    closed-beside short y m h a = absurd (true≢false (subst (λ (z : Finish). is_refused (closed more z).answer ≡ false) h a))
    closed-beside (gives g t) y m h a = subst (ClosedBeside (gives g t)) (sym h) (record { fits = λ f. refl; nine = λ f. absurd (omega (arith, m, f)) })

nine_of : (c : Call) → NineOf c
unfolding step
nine_of c s k A = go (refusal c (with_more k s)) refl
  where
    z : refusal c s ≡ 0
    z = (call-told c s).all A

    S : Standard s.words s.rec.count
    S = call-standard c s z

    go : (r : ℕ) → refusal c (with_more k s) ≡ r → is_refused (step c (with_more k s)).answer ≡ false → InMore c s k
    go zero r a =
        let B = closed-beside k s S (finish c s) (finish c (with_more k s)) (finish_met s S c) (finish-beside k s c) (rw r at a) in
        record { fits = rw (r, z) B.fits; nine = rw (r, z) B.nine }
    go (suc j) r a = absurd (true≢false (rw r at a))

pub nine-exactly : NineExactly
nine-exactly = record { accesses = λ c. nine_of (access c); node-calls = λ c. nine_of (node_call c) }
