-- Under one assignment, over the whole list: the claim in two halves, each from one half of the invariant.
-- A run's words are admitted, whatever the addresses; and what is admitted some run has, where no unit above 1 has an X in its address.
use mathlib.Core.Path.{◌≡◌, refl, sym, subst}
use mathlib.Core.Logic.{◌↔◌}
use mathlib.Core.Bool.{Bool, true, false}
use mathlib.Core.List.{List, [], ◌∷◌}
use Prim.Native.Nat.{ℕ, zero, suc, ◌^◌, ◌<◌, ◌≤◌}
use lib.Dec.{T}
use lib.ListN.{length}
use Rattle.semantics.specs.Pairs.{Pair, X, admit, at}
use Rattle.semantics.specs.Published.{cell, look, inside}
use Rattle.semantics.specs.Array.{Memory, Returns, Allowed}
use Rattle.semantics.specs.Held.{Held, holds_nothing}
use Rattle.semantics.specs.Claims.{Told}
use Rattle.semantics.proofs.PairLaws.{and_left, and_right, and_both}
use Rattle.semantics.proofs.RunLaws.{check-within, check_reach}
use Rattle.units.specs.Parts.{Shape, sizes, wide, answer_unit}
use Rattle.units.specs.Array.{Event, writes, reads, asserts, checks, nothing, Choice, Choices, memory_after, observes, observes_from, last_from, Start, Run, Settled, NoX, NoUnitX}
use Rattle.units.specs.Held.{held_after, held_after_all, NowMay, RunMay, Accepted, AllAccepted}
use Rattle.units.specs.Claims.{AdmitsRuns, OnlyRuns, AsRuns, published, UnitsAsRuns, IsOne, AllOne, OnesExactly}
use Rattle.units.proofs.ExactLaws.{HeldAdmits, HeldReaches, admitted_along, reached_along, bare, none, cells-admitted, cells_reached, with-ports, idle-admitted, idle_reached, start-admitted, start_reached, some_choice}
use Rattle.units.proofs.StepLaws.{answer-within, answer_reach, step-admitted, step_reached}

-- any memory can go on through accepted calls
some_choices : (g : Shape) (es : List Event) → AllAccepted g es → Choices es
some_choices g [] q = tt
some_choices g (e ∷ es) q = (some_choice g e q.0, some_choices g es q.1)

-- Admitted: under every assignment
module _ (g : Shape) where
  abbrev next : (I : Type 0) → (I → Memory) → (e : Event) → I × Choice e → Memory
  next I mem e r = memory_after g e r.1 (mem r.0)

  -- the memories after the list
  last-admitted : (es : List Event) (s : Held) (I : Type 0) (mem : I → Memory) → HeldAdmits g s I mem → AllAccepted g es → HeldAdmits g (held_after_all g s es) (I × Choices es) (λ r. last_from g es (mem r.0) r.1)
  last-admitted [] s I mem A q = idle-admitted g (cell s.entries) s.ports I (Unit {0}) mem A
  last-admitted (e ∷ es) s I mem A q =
      let t = held_after_all g (held_after g s e) es in
      admitted_along g (cell t.entries) t.ports ((I × Choice e) × Choices es) (I × Choices (e ∷ es))
      (λ r. last_from g es (memory_after g e r.0.1 (mem r.0.0)) r.1) (λ r. last_from g (e ∷ es) (mem r.0) r.1)
      (λ r. ((r.0, r.1.0), r.1.1)) (λ r. refl)
      (last-admitted es (held_after g s e) (I × Choice e) (next I mem e) (step-admitted g s I mem A e q.0) q.1)

  -- the bits of a read
  now-within : (s : Held) (I : Type 0) (mem : I → Memory) → HeldAdmits g s I mem → (e : Event) → Accepted g e → (i : ℕ) → i < wide g → (b : Bool)
      (r : I) (k : Choice e) → Returns (observes g e k (mem r)) i b → NowMay g s e i b
  now-within s I mem A (writes c a ds) q i h b r k t = t
  now-within s I mem A (reads p u e a) q i h b r k t =
      subst (λ (z : Bool). T (admit (answer_unit g s.entries (s.ports p) u e a i) z)) t ((answer-within g s.entries s.ports I mem u a p e A q.1.1).within (r, k) i h)
  now-within s I mem A (asserts c a d) q i h b r k t = t
  now-within s I mem A (checks true a d) q i h b r k t = t
  now-within s I mem A (checks false a d) q i h b r k t = t
  now-within s I mem A nothing q i h b r k t = t

  bits-within : (es : List Event) (s : Held) (I : Type 0) (mem : I → Memory) → HeldAdmits g s I mem → AllAccepted g es → (j i : ℕ) → i < wide g → (b : Bool)
      (r : I) (ks : Choices es) → Returns (observes_from g es (mem r) ks j) i b → RunMay g s es j i b
  bits-within [] s I mem A q j i h b r ks t = t
  bits-within (e ∷ es) s I mem A q zero i h b r ks t = now-within s I mem A e q.0 i h b r ks.0 t
  bits-within (e ∷ es) s I mem A q (suc j) i h b r ks t =
      bits-within es (held_after g s e) (I × Choice e) (next I mem e) (step-admitted g s I mem A e q.0) q.1 j i h b (r, ks.0) ks.1 t

  -- a check condition that holds
  now_allowed : (s : Held) (I : Type 0) (mem : I → Memory) → HeldAdmits g s I mem → (e : Event) → Accepted g e →
      T (held_after g s e).condition → T s.condition × ((r : I) (k : Choice e) → Allowed (observes g e k (mem r)))
  now_allowed s I mem A (writes c a ds) q t = (t, λ r k. tt)
  now_allowed s I mem A (reads p u e a) q t = (t, λ r k. tt)
  now_allowed s I mem A (asserts b a d) q t = (t, λ r k. tt)
  now_allowed s I mem A (checks true a d) q t = (
    and_left s.condition (inside g.w (look g.n s.entries a) (at d)) t,
    λ r x. check-within (sizes g) (with-ports s X) I (λ v. bare g.w (mem v)) (cells-admitted g (cell s.entries) s.ports I mem A) a d q.0.1 q.1.1 (and_right s.condition (inside g.w (look g.n s.entries a) (at d)) t) r x,
  )
  now_allowed s I mem A (checks false a d) q t = (and_left s.condition true t, λ r k. tt)
  now_allowed s I mem A nothing q t = (t, λ r k. tt)

  all_allowed : (I : Type 0) (mem : I → Memory) (e : Event) (es : List Event) →
      ((r : I) (k : Choice e) → Allowed (observes g e k (mem r))) →
      ((r : (I × Choice e) × Choices es) (j : ℕ) → Allowed (observes_from g es (memory_after g e r.0.1 (mem r.0.0)) r.1 j)) →
      (r : I × Choices (e ∷ es)) (j : ℕ) → Allowed (observes_from g (e ∷ es) (mem r.0) r.1 j)
  all_allowed I mem e es f h r zero = f r.0 r.1.0
  all_allowed I mem e es f h r (suc j) = h ((r.0, r.1.0), r.1.1) j

  allowed_at : (es : List Event) (s : Held) (I : Type 0) (mem : I → Memory) → HeldAdmits g s I mem → AllAccepted g es →
      T (held_after_all g s es).condition → T s.condition × ((r : I × Choices es) (j : ℕ) → Allowed (observes_from g es (mem r.0) r.1 j))
  allowed_at [] s I mem A q t = (t, λ r j. tt)
  allowed_at (e ∷ es) s I mem A q t =
      let u = allowed_at es (held_after g s e) (I × Choice e) (next I mem e) (step-admitted g s I mem A e q.0) q.1 t in
      let v = now_allowed s I mem A e q.0 u.0 in
      (v.0, all_allowed I mem e es v.1 u.1)

-- Reached: where no unit above 1 has an X in its address. Of call j it is asked up to that call alone
abbrev pub NoXTo : ℕ → List Event → Type 0
NoXTo j [] = Unit {0}
NoXTo zero (e ∷ es) = NoX e
NoXTo (suc j) (e ∷ es) = NoX e × NoXTo j es

pub no_x_to : (es : List Event) → NoUnitX es → (j : ℕ) → NoXTo j es
no_x_to [] x j = tt
no_x_to (e ∷ es) x zero = x.0
no_x_to (e ∷ es) x (suc j) = (x.0, no_x_to es x.1 j)

module _ (g : Shape) (fits : g.m ≤ 2 ^ g.n) where
  last_reached : (es : List Event) (s : Held) (I : Type 0) (mem : I → Memory) → HeldReaches g s I mem → AllAccepted g es → NoUnitX es → HeldReaches g (held_after_all g s es) (I × Choices es) (λ r. last_from g es (mem r.0) r.1)
  last_reached [] s I mem R q x = idle_reached g (cell s.entries) s.ports I (Unit {0}) mem tt R
  last_reached (e ∷ es) s I mem R q x =
      let t = held_after_all g (held_after g s e) es in
      reached_along g (cell t.entries) t.ports ((I × Choice e) × Choices es) (I × Choices (e ∷ es))
      (λ r. last_from g es (memory_after g e r.0.1 (mem r.0.0)) r.1) (λ r. last_from g (e ∷ es) (mem r.0) r.1)
      (λ r. (r.0.0, (r.0.1, r.1))) (λ r. refl)
      (last_reached es (held_after g s e) (I × Choice e) (next g I mem e) (step_reached g s I mem fits R e q.0 x.0) q.1 x.1)

  now_reach : (s : Held) (I : Type 0) (mem : I → Memory) → HeldReaches g s I mem → (e : Event) → Accepted g e → NoX e → (i : ℕ) → i < wide g → (b : Bool) →
      NowMay g s e i b → (r : I) × (k : Choice e) × Returns (observes g e k (mem r)) i b
  now_reach s I mem R (writes c a ds) q x i h b t = absurd t
  now_reach s I mem R (reads p u e a) q x i h b t = let r = (answer_reach g s.entries s.ports I mem u a p e R q.0 q.1.0 x).reach i h b t in (r.0.0, r.0.1, r.1)
  now_reach s I mem R (asserts c a d) q x i h b t = absurd t
  now_reach s I mem R (checks c a d) q x i h b t = absurd t
  now_reach s I mem R nothing q x i h b t = absurd t

  bits_reach : (es : List Event) (s : Held) (I : Type 0) (mem : I → Memory) → HeldReaches g s I mem → AllAccepted g es → (j i : ℕ) → NoXTo j es → i < wide g → (b : Bool) →
      RunMay g s es j i b → (r : I × Choices es) × Returns (observes_from g es (mem r.0) r.1 j) i b
  bits_reach [] s I mem R q j i x h b t = absurd t
  bits_reach (e ∷ es) s I mem R q zero i x h b t = let r = now_reach s I mem R e q.0 x i h b t in ((r.0, (r.1, some_choices g es q.1)), r.2)
  bits_reach (e ∷ es) s I mem R q (suc j) i x h b t =
      let r = bits_reach es (held_after g s e) (I × Choice e) (next g I mem e) (step_reached g s I mem fits R e q.0 x.0) q.1 j i x.1 h b t in
      ((r.0.0.0, (r.0.0.1, r.0.1)), r.1)

  now-condition : (s : Held) (I : Type 0) (mem : I → Memory) → HeldReaches g s I mem → (e : Event) → Accepted g e →
      T s.condition → ((r : I) (k : Choice e) → Allowed (observes g e k (mem r))) → T (held_after g s e).condition
  now-condition s I mem R (writes c a ds) q t f = t
  now-condition s I mem R (reads p u e a) q t f = t
  now-condition s I mem R (asserts b a d) q t f = t
  now-condition s I mem R (checks true a d) q t f = and_both s.condition (inside g.w (look g.n s.entries a) (at d)) t (check_reach (sizes g) (with-ports s none) I mem (cells_reached g (cell s.entries) s.ports I mem R) a d q.1.1 f)
  now-condition s I mem R (checks false a d) q t f = and_both s.condition true t tt
  now-condition s I mem R nothing q t f = t

  condition_at : (es : List Event) (s : Held) (I : Type 0) (mem : I → Memory) → HeldReaches g s I mem → AllAccepted g es → NoUnitX es →
      T s.condition → ((r : I × Choices es) (j : ℕ) → Allowed (observes_from g es (mem r.0) r.1 j)) → T (held_after_all g s es).condition
  condition_at [] s I mem R q x t f = t
  condition_at (e ∷ es) s I mem R q x t f =
      condition_at es (held_after g s e) (I × Choice e) (next g I mem e) (step_reached g s I mem fits R e q.0 x.0) q.1 x.1
      (now-condition s I mem R e q.0 t (λ r k. f (r, (k, some_choices g es q.1)) zero))
      (λ r j. f (r.0.0, (r.0.1, r.1)) (suc j))

-- From no entries, over the whole list
module _ (g : Shape) (es : List Event) (q : AllAccepted g es) where
  pub runs-admitted : AdmitsRuns g es (published g es)
  runs-admitted = record {
    bits = λ j i h b r. bits-within g es holds_nothing (Start g) (λ m. m.0) (start-admitted g) q j i h b r.0.0 r.0.1 r.1;
    holds = λ p i l h b r. subst (λ (v : Bool). T (admit ((held_after_all g holds_nothing es).ports p i) v)) r.1 (((last-admitted g es holds_nothing (Start g) (λ m. m.0) (start-admitted g) q).ports p).within r.0 i h);
    checking = λ t. (allowed_at g es holds_nothing (Start g) (λ m. m.0) (start-admitted g) q t).1;
  }

  -- a read's bits are exact where no unit above 1 had an X so far, whatever comes later
  pub bits_so_far : g.m ≤ 2 ^ g.n → (j i : ℕ) → NoXTo j es → i < wide g → (b : Bool) → RunMay g holds_nothing es j i b → (r : Run g es) × Returns (observes_from g es r.0.0 r.1 j) i b
  bits_so_far fits j i x h b t = bits_reach g fits es holds_nothing (Start g) (λ m. m.0) (start_reached g) q j i x h b t

  pub runs-exact : g.m ≤ 2 ^ g.n → NoUnitX es → OnlyRuns g es (published g es)
  runs-exact fits x = record {
    bits = λ j i h b t. bits_so_far fits j i (no_x_to es x j) h b t;
    holds = λ p i l h b t. ((last_reached g fits es holds_nothing (Start g) (λ m. m.0) (start_reached g) q x).ports p).reach i h b t;
    checking = λ f. condition_at g fits es holds_nothing (Start g) (λ m. m.0) (start_reached g) q x tt f;
  }

pub units_as-runs : UnitsAsRuns
unfolding UnitsAsRuns
units_as-runs g fits es q = record { admitted = runs-admitted g es q; exact = runs-exact g es q fits }

-- units of 1 have no X that the half `exact` asks about
one-settled : (unit : ℕ) (a : List Pair) → unit ≡ 1 → Settled unit a
one-settled unit a e = subst (λ (u : ℕ). Settled u a) (sym e) tt

one_no_x : (e : Event) → IsOne e → NoX e
one_no_x (writes c a ds) o = one-settled (length ds) a o
one_no_x (reads p u e a) o = one-settled u a o
one_no_x (asserts b a d) o = tt
one_no_x (checks b a d) o = tt
one_no_x nothing o = tt

pub ones_no_x : (es : List Event) → AllOne es → NoUnitX es
ones_no_x [] o = tt
ones_no_x (e ∷ es) o = (one_no_x e o.0, ones_no_x es o.1)

pub ones-exactly : OnesExactly
unfolding OnesExactly
ones-exactly g fits es q o = runs-exact g es q fits (ones_no_x es o)

-- two that tell the same: the claim goes along
pub record SameTold (g : Shape) (t u : Told) : Type 0 where
  pub bits : (j i : ℕ) → i < wide g → (b : Bool) → t.may j i b ↔ u.may j i b
  pub holds : (p i : ℕ) → p < 4 → i < wide g → (b : Bool) → t.held p i b ↔ u.held p i b
  pub checking : t.checked ↔ u.checked

pub told_along : (g : Shape) (es : List Event) (t u : Told) → SameTold g t u → AsRuns g es t → AsRuns g es u
told_along g es t u S C = record {
  admitted = record {
    bits = λ j i h b r. (S.bits j i h b).0 (C.admitted.bits j i h b r);
    holds = λ p i l h b r. (S.holds p i l h b).0 (C.admitted.holds p i l h b r);
    checking = λ c. C.admitted.checking (S.checking.1 c);
  };
  exact = λ x. record {
    bits = λ j i h b m. (C.exact x).bits j i h b ((S.bits j i h b).1 m);
    holds = λ p i l h b m. (C.exact x).holds p i l h b ((S.holds p i l h b).1 m);
    checking = λ f. S.checking.0 ((C.exact x).checking f);
  };
}
