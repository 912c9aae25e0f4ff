-- The entry count: a call adds an entry where its access adds one under some assignment, and so a list of calls from a fresh memory has as many as its accesses.
use mathlib.Core.Path.{◌≡◌, refl, sym, ap, ◌∙◌, subst}
use mathlib.Core.Bool.{Bool, true, false, ◌&&◌, ◌||◌, cond, true≢false, false≢true}
use mathlib.Core.List.{List, [], ◌∷◌}
use Prim.Native.Nat.{ℕ, zero, suc, ◌+◌, ◌^◌, ◌<◌}
use native.Mathlib.Omega.{arith}
use lib.ListN.{get_or}
use Rattle.nodes.proofs.BoolLaws.{split, and_both, both_and}
use Rattle.conditions.specs.Value.{value}
use Rattle.conditions.specs.Assignment.{bit_at}
use Rattle.semantics.specs.declared.Sizes.{Sizes}
use Rattle.semantics.specs.Sizes.{cell_bits}
use Rattle.semantics.specs.Pairs.{Pair, at, admit}
use Rattle.semantics.specs.Published.{Entry, look, inside, keeps}
use Rattle.semantics.specs.Array.{Event, writes, reads, asserts, checks, nothing}
use Rattle.semantics.specs.Held.{entries_after}
use Rattle.semantics.specs.Count.{adds_at, most_entries, accesses_by_hand}
use Rattle.semantics.proofs.CountLaws.{kept-none, adds_as}
use Rattle.semantics.proofs.KeepsLaws.{not-kept-adds}
use Rattle.model.specs.Count.{under_some, SomeExactly, adds_some, how_many, new_entries, entry_count_from, AddsExactly, EntryExactly, KeptExactly, of_variable8, CountedByHand}
use Rattle.model.specs.Step.{State, write, read, assert, check, evaluate, variable, ite, conditions, Call, access, node_call, upkeep, is_kind, Answer, refused, entered, kept, done, is_refused, Result, Finish, closed, finish_access, finish_node, finish, step, run}
use Rattle.model.specs.Claims.{argument, event, Fed, fed}
use Rattle.model.specs.Frames.{RefusalLeaves}
use Rattle.model.specs.Meanings.{entry_values, address_argument, word_argument, Demand2}
use Rattle.semantics.proofs.KeptLaws.{SameCells}
use Rattle.model.proofs.StepLaws.{is_left_out, pair_is}
use Rattle.model.proofs.TerminalIdle.{idle_off}
use Rattle.model.proofs.FinishProgram.{of-program}
use Rattle.model.proofs.CallFactLaws.{write-facts}
use Rattle.model.proofs.FrameLaws.{refusal-leaves}
use Rattle.model.proofs.Demand2.{acts, idle_or-entered, kept_or-entered, demand2, entered_where}
use Rattle.model.proofs.IdleLaws.{not-idle_may}
use Rattle.model.proofs.SomeLaws.{some-exactly}
use Rattle.model.proofs.SomeUses.{some-none, some_as, some_of_8}
use Rattle.model.proofs.AgreeLaws.{Agrees, agrees_values, agrees-next}

-- a refused call adds none, and has as many entries as before
pub refused-number : (x : Answer) → is_refused x ≡ true → (k : ℕ) × (x ≡ refused k)
refused-number (refused k) e = (k, refl)
refused-number (done g) e = absurd (false≢true e)

-- a number is that of the entries with what a call adds to them
module _ (f : (ℕ → Bool) → Bool) where
  none_new : (t k : ℕ) → ((a : ℕ) → a < 2 ^ 64 → f (bit_at a) ≡ false) → t ≡ k → t ≡ k + (cond (under_some f) 1 0 + 0)
  none_new t k none e = rw (some-none f none) (omega (arith, e))

  one_new : (t k a : ℕ) → a < 2 ^ 64 → f (bit_at a) ≡ true → t ≡ k + 1 → t ≡ k + (cond (under_some f) 1 0 + 0)
  unfolding SomeExactly
  one_new t k a small is e = rw ((some-exactly f).1 (a, small, is)) (omega (arith, e))

refused-exact : (c : Call) (s : State) → is_refused (step c s).answer ≡ true → AddsExactly c s
unfolding RefusalLeaves
refused-exact c s r =
    let k = refused-number (step c s).answer r in
    none_new _ _ _ (λ a small. rw k.1) (ap (λ (t : State). t.rec.entries) (refusal-leaves c s k.0 k.1))

write-exact : (c a d : List ℕ) (s : State) → is_refused (step (access (write c a d)) s).answer ≡ false → AddsExactly (access (write c a d)) s
write-exact c a d s n =
    let F = write-facts s c a d (acts (access (write c a d)) s n).0 in
    idle_or-entered s c a d n (λ i e. none_new _ _ _ (λ k small. rw e (idle_off c s.words (bit_at k) i)) (ap (λ (x : Result). x.after.rec.entries) e))
    (λ i e. let m = not-idle_may F i in one_new _ _ _ m.0 m.1 (rw e m.2) (ap (λ (x : Result). x.after.rec.entries) e))

-- an accepted assert
module _ (b : ℕ) (a d : List ℕ) (s : State) where
  abbrev adds_under : ℕ → Bool
  adds_under k = adds_at s.rec.sizes (entry_values (bit_at k) s) (argument (bit_at k) s (assert b a d)) 0

  -- is kept, and under no assignment adds an entry; or is entered, and under some it does
  abbrev Kept : Type 0
  Kept = ((step (access (assert b a d)) s).answer ≡ done kept) × ((step (access (assert b a d)) s).after.rec.entries ≡ s.rec.entries) × ((k : ℕ) → k < 2 ^ 64 → adds_under k ≡ false)

  abbrev Entered : Type 0
  Entered = ((step (access (assert b a d)) s).answer ≡ done entered) × ((step (access (assert b a d)) s).after.rec.entries ≡ s.rec.entries + 1) × ((k : ℕ) × (k < 2 ^ 64) × (adds_under k ≡ true))

  keeps_or-adds : is_refused (step (access (assert b a d)) s).answer ≡ false → {C : Type 0} → (Kept → C) → (Entered → C) → C
  unfolding Demand2
  keeps_or-adds n f g =
      kept_or-entered s b a d n
      (λ e. let q = ap (λ (x : Result). x.answer) e in f (q, ap (λ (x : Result). x.after.rec.entries) e, λ k small. kept-none s.rec.sizes (entry_values (bit_at k) s) (value s.words (bit_at k) b) (address_argument (bit_at k) s a) (word_argument (bit_at k) s d) ((demand2 s k small).assert-kept b a d q)))
      (λ t f e.
      let q = ap (λ (x : Result). x.answer) e in
      let m = entered_where s b a d q in
      g (q, ap (λ (x : Result). x.after.rec.entries) e, (m.0, m.1, not-kept-adds s.rec.sizes (entry_values (bit_at m.0) s) (value s.words (bit_at m.0) b) (address_argument (bit_at m.0) s a) (word_argument (bit_at m.0) s d) m.2)))

  assert-exact : is_refused (step (access (assert b a d)) s).answer ≡ false → AddsExactly (access (assert b a d)) s
  assert-exact n = keeps_or-adds n (λ K. none_new _ _ _ (λ k small. rw K.0 (K.2 k small)) K.1) (λ E. entered-exact E.0 E.1 E.2.0 E.2.1 E.2.2)
    where
      entered-exact : (step (access (assert b a d)) s).answer ≡ done entered → (step (access (assert b a d)) s).after.rec.entries ≡ s.rec.entries + 1 → (k : ℕ) → k < 2 ^ 64 → adds_under k ≡ true → AddsExactly (access (assert b a d)) s
      entered-exact e m k small t = one_new _ _ _ k small (rw e t) m

pub kept-exactly : KeptExactly
unfolding KeptExactly
kept-exactly b a d s n =
    keeps_or-adds b a d s n
    (λ K. record { enters = (λ q. absurd (true≢false (ap is_left_out (sym K.0 ∙ q))), λ m. absurd (true≢false (sym (both_and m.2.0 m.2.1) ∙ K.2 m.0 m.1))); keeps = (λ q k small D. true≢false (sym (both_and D.0 D.1) ∙ K.2 k small), λ f. K.0) })
    (λ E. let D = and_both _ _ E.2.2 in record { enters = (λ q. (E.2.0, E.2.1, D), λ m. E.0); keeps = (λ q. absurd (false≢true (ap is_left_out (sym E.0 ∙ q))), λ f. absurd (f E.2.0 E.2.1 D)) })

-- a call that is no write and no assert adds none, and has as many entries as before
others-none : (c : Call) → is_kind 1 c ≡ false → is_kind 3 c ≡ false → (z : Sizes) (es : List Entry) (φ : ℕ → Bool) (s : State) (x : Answer) → adds_at z es (event φ s c x) 0 ≡ false
others-none (access (write c a d)) p q z es φ s x = absurd (true≢false p)
others-none (access (read p e a out)) _ q z es φ s (refused k) = refl
others-none (access (read p e a out)) _ q z es φ s (done g) = refl
others-none (access (assert b a d)) p q z es φ s x = absurd (true≢false q)
others-none (access (check b a d)) p q z es φ s (refused k) = refl
others-none (access (check b a d)) p q z es φ s (done g) = refl
others-none (node_call c) p q z es φ s (refused k) = refl
others-none (node_call c) p q z es φ s (done g) = refl
others-none (upkeep c) p q z es φ s x = absurd c

abbrev Stays : State → Finish → Type 0
Stays s x = (closed s x).after.rec.entries ≡ s.rec.entries

finish-stays : (c : Call) → is_kind 1 c ≡ false → is_kind 3 c ≡ false → (s : State) → Stays s (finish c s)
unfolding finish_access finish_node closed
finish-stays (access (write c a d)) p q s = absurd (true≢false p)
finish-stays (access (read p e a out)) _ q s = of-program (Stays s) _ _ (λ f. refl) (λ f. refl)
finish-stays (access (assert b a d)) p q s = absurd (true≢false q)
finish-stays (access (check b a d)) p q s = of-program (Stays s) _ _ (λ f. refl) (λ f. refl)
finish-stays (node_call (evaluate f a)) p q s = refl
finish-stays (node_call (variable v)) p q s = of-program (Stays s) _ _ (λ f. refl) (λ f. refl)
finish-stays (node_call (ite f g h)) p q s = of-program (Stays s) _ _ (λ f. refl) (λ f. refl)
finish-stays (node_call (conditions t)) p q s = of-program (Stays s) _ _ (λ f. refl) (λ f. refl)
finish-stays (upkeep c) p q s = absurd c

others-exact : (c : Call) (s : State) → is_kind 1 c ≡ false → is_kind 3 c ≡ false → is_refused (step c s).answer ≡ false → AddsExactly c s
others-exact c s p q n =
    none_new _ _ _ (λ a small. others-none c p q s.rec.sizes (entry_values (bit_at a) s) (bit_at a) s (step c s).answer) (ap (λ (x : Result). x.after.rec.entries) (acts c s n).1 ∙ finish-stays c p q s)

pub entry-exactly : EntryExactly
unfolding EntryExactly
entry-exactly c s = split (is_refused (step c s).answer) (refused-exact c s) (go c)
  where
    go : (c : Call) → is_refused (step c s).answer ≡ false → AddsExactly c s
    go (access (write c a d)) n = write-exact c a d s n
    go (access (read p e a out)) n = others-exact (access (read p e a out)) s refl refl n
    go (access (assert b a d)) n = assert-exact b a d s n
    go (access (check b a d)) n = others-exact (access (check b a d)) s refl refl n
    go (node_call c) n = others-exact (node_call c) s refl refl n
    go (upkeep c) n = absurd c

-- what a call adds to lists that say the same of each location
many_as : (m : ℕ) (f g : ℕ → Bool) → ((k : ℕ) → f k ≡ g k) → how_many m f ≡ how_many m g
many_as zero f g e = refl
many_as (suc m) f g e = rw (e 0, many_as m (λ k. f (suc k)) (λ k. g (suc k)) (λ k. e (suc k)))

pub new_as : (y z : Sizes) (f g : (ℕ → Bool) → List Entry) (e : Fed) → y ≡ z → ((a : ℕ) → a < 2 ^ 64 → SameCells (cell_bits z) (f (bit_at a)) (g (bit_at a))) → new_entries y f e ≡ new_entries z g e
new_as y z f g e same S =
    ap (λ (x : Sizes). new_entries x f e) same
    ∙ many_as most_entries (adds_some z f e) (adds_some z g e)
    (λ k. some_as (λ φ. adds_at z (f φ) (e φ) k) (λ φ. adds_at z (g φ) (e φ) k) (λ a small. ap (λ (l : List Bool). get_or l k false) (adds_as z (f (bit_at a)) (g (bit_at a)) (S a small) (e (bit_at a)))))

-- so of a list of calls, from a state that agrees with a published list under every assignment
pub count-from : (z : Sizes) (cs : List Call) (s : State) (list : (ℕ → Bool) → List Entry) → s.rec.sizes ≡ z → ((a : ℕ) → a < 2 ^ 64 → Agrees (bit_at a) z s (list (bit_at a)))
    → (run cs s).rec.entries ≡ s.rec.entries + entry_count_from z list (fed s cs)
unfolding run EntryExactly
count-from z [] s list ez A = omega arith
count-from z (c ∷ cs) s list ez A =
    let E = entry-exactly c s in
    let same = new_as s.rec.sizes z (λ φ. entry_values φ s) list (λ φ. event φ s c (step c s).answer) ez (λ a small. agrees_values (A a small)) in
    let N = agrees-next z 0 (omega arith) c s (list (bit_at 0)) (A 0 (omega arith)) in
    let R = count-from z cs (step c s).after (λ φ. entries_after (list φ) (event φ s c (step c s).answer)) N.sizes_are (λ a small. agrees-next z a small c s (list (bit_at a)) (A a small)) in
    omega (arith, E, same, R)

-- a count of accesses that turn on variable 8 alone: those that add an entry under one of its values
by_hand : Sizes → (Bool → List Entry) → List (Bool → Event) → ℕ
by_hand z list [] = 0
by_hand z list (e ∷ es) = how_many most_entries (λ k. adds_at z (list false) (e false) k || adds_at z (list true) (e true) k) + by_hand z (λ b. entries_after (list b) (e b)) es

by_hand_lem : (z : Sizes) (list : Bool → List Entry) (es : List (Bool → Event)) → entry_count_from z (λ φ. list (φ 8)) (of_variable8 es) ≡ by_hand z list es
unfolding by_hand
by_hand_lem z list [] = refl
by_hand_lem z list (e ∷ es) =
    let here = many_as most_entries (adds_some z (λ φ. list (φ 8)) (λ φ. e (φ 8))) (λ k. adds_at z (list false) (e false) k || adds_at z (list true) (e true) k) (λ k. some_of_8 (λ b. adds_at z (list b) (e b) k)) in
    let rest = by_hand_lem z (λ b. entries_after (list b) (e b)) es in
    ap (λ (m : ℕ). m + entry_count_from z (λ φ. entries_after (list (φ 8)) (e (φ 8))) (of_variable8 es)) here
    ∙ ap (λ (m : ℕ). how_many most_entries (λ k. adds_at z (list false) (e false) k || adds_at z (list true) (e true) k) + m) rest

pub counted_by_hand : CountedByHand
unfolding CountedByHand by_hand
counted_by_hand = by_hand_lem (record { n = 1; w = 1 }) (λ b. []) accesses_by_hand
