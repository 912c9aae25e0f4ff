-- Under one assignment, over the whole list: what the published run's reads admit and its check condition says is what the plain runs give.
-- Each half of it from one half of the invariant: a run's words are admitted, and what is admitted some run has.
use mathlib.Core.Path.{◌≡◌, refl, sym, ap, ◌∙◌, subst}
use mathlib.Core.Logic.{◌↔◌}
use mathlib.Core.Bool.{Bool, true, false, ◌&&◌, ◌||◌, not}
use mathlib.Core.List.{List, [], ◌∷◌}
use Prim.Native.Nat.{ℕ, zero, suc, ◌<◌}
use native.Mathlib.Omega.{arith}
use lib.Dec.{T}
use lib.ListN.{length}
use Rattle.semantics.specs.declared.Sizes.{Sizes}
use Rattle.semantics.specs.Sizes.{cell_bits, data_bits}
use Rattle.semantics.specs.Pairs.{Pair, admit, admits, at, bit}
use Rattle.semantics.specs.Published.{Entry, cell, look, answer, inside}
use Rattle.semantics.specs.Array.{Event, writes, reads, asserts, checks, nothing, Memory, Bits, Choice, Choices, memory_after, observes, observes_from, last_from, Returns, Allowed, Start, Run}
use Rattle.semantics.specs.Held.{Held, holds_nothing, held_after, held_after_all, NowMay, RunMay, Accepted, AllAccepted}
use Rattle.semantics.specs.Claims.{Told, AdmitsRuns, OnlyRuns, ExactlyAsRuns, EventsAsRuns}
use Rattle.semantics.proofs.PairLaws.{and_left, and_right, and_both, admits_at, admits_all, inside_to, inside-from}
use Rattle.semantics.proofs.ExactLaws.{Admitted, Reached, HeldAdmits, HeldReaches, admitted_along, reached_along, idle-admitted, idle_reached, start-admitted, start_reached, look-within, look_reach, answer-within, answer_reach, some_choice}
use Rattle.semantics.proofs.StepLaws.{step-admitted, step_reached}

-- any memory can go on through accepted calls
some_choices : (z : Sizes) (es : List Event) → AllAccepted z es → Choices es
some_choices z [] q = tt
some_choices z (e ∷ es) q = (some_choice z e q.0, some_choices z es q.1)

module _ (z : Sizes) where
  -- the memories after the list
  pub last-admitted : (es : List Event) (s : Held) (I : Type 0) (mem : I → Memory) → HeldAdmits z s I mem → AllAccepted z es → HeldAdmits z (held_after_all z s es) (I × Choices es) (λ r. last_from es (mem r.0) r.1)
  last-admitted [] s I mem A q = idle-admitted z (cell s.entries) s.ports I (Unit {0}) mem A
  last-admitted (e ∷ es) s I mem A q =
      let t = held_after_all z (held_after z s e) es in
      admitted_along z (cell t.entries) t.ports ((I × Choice e) × Choices es) (I × Choices (e ∷ es))
      (λ r. last_from es (memory_after e r.0.1 (mem r.0.0)) r.1) (λ r. last_from (e ∷ es) (mem r.0) r.1)
      (λ r. ((r.0, r.1.0), r.1.1)) (λ r. refl)
      (last-admitted es (held_after z s e) (I × Choice e) (λ r. memory_after e r.1 (mem r.0)) (step-admitted z s I mem A e q.0) q.1)

  pub last_reached : (es : List Event) (s : Held) (I : Type 0) (mem : I → Memory) → HeldReaches z s I mem → AllAccepted z es → HeldReaches z (held_after_all z s es) (I × Choices es) (λ r. last_from es (mem r.0) r.1)
  last_reached [] s I mem R q = idle_reached z (cell s.entries) s.ports I (Unit {0}) mem tt R
  last_reached (e ∷ es) s I mem R q =
      let t = held_after_all z (held_after z s e) es in
      reached_along z (cell t.entries) t.ports ((I × Choice e) × Choices es) (I × Choices (e ∷ es))
      (λ r. last_from es (memory_after e r.0.1 (mem r.0.0)) r.1) (λ r. last_from (e ∷ es) (mem r.0) r.1)
      (λ r. (r.0.0, (r.0.1, r.1))) (λ r. refl)
      (last_reached es (held_after z s e) (I × Choice e) (λ r. memory_after e r.1 (mem r.0)) (step_reached z s I mem R e q.0) q.1)

  -- the bits of a read
  now-within : (s : Held) (I : Type 0) (mem : I → Memory) → HeldAdmits z s I mem → (e : Event) → Accepted z e → (i : ℕ) → i < data_bits z → (b : Bool)
      (r : I) (k : Choice e) → Returns (observes e k (mem r)) i b → NowMay z s e i b
  now-within s I mem A (writes c a d) q i h b r k t = t
  now-within s I mem A (reads p e a) q i h b r k t = subst (λ (v : Bool). T (admit (answer z s.entries (s.ports p) e a i) v)) t ((answer-within z s.entries s.ports I mem a p e A q.1.1).within (r, k) i h)
  now-within s I mem A (asserts c a d) q i h b r k t = t
  now-within s I mem A (checks true a d) q i h b r k t = t
  now-within s I mem A (checks false a d) q i h b r k t = t
  now-within s I mem A nothing q i h b r k t = t

  now_reach : (s : Held) (I : Type 0) (mem : I → Memory) → HeldReaches z s I mem → (e : Event) → Accepted z e → (i : ℕ) → i < data_bits z → (b : Bool) →
      NowMay z s e i b → (r : I) × (k : Choice e) × Returns (observes e k (mem r)) i b
  now_reach s I mem R (writes c a d) q i h b t = absurd t
  now_reach s I mem R (reads p e a) q i h b t = let r = (answer_reach z s.entries s.ports I mem a p e R q.0 q.1.0).reach i h b t in (r.0.0, r.0.1, r.1)
  now_reach s I mem R (asserts c a d) q i h b t = absurd t
  now_reach s I mem R (checks c a d) q i h b t = absurd t
  now_reach s I mem R nothing q i h b t = absurd t

  pub bits-within : (es : List Event) (s : Held) (I : Type 0) (mem : I → Memory) → HeldAdmits z s I mem → AllAccepted z es → (j i : ℕ) → i < data_bits z → (b : Bool)
      (r : I) (ks : Choices es) → Returns (observes_from es (mem r) ks j) i b → RunMay z s es j i b
  bits-within [] s I mem A q j i h b r ks t = t
  bits-within (e ∷ es) s I mem A q zero i h b r ks t = now-within s I mem A e q.0 i h b r ks.0 t
  bits-within (e ∷ es) s I mem A q (suc j) i h b r ks t =
      bits-within es (held_after z s e) (I × Choice e) (λ v. memory_after e v.1 (mem v.0)) (step-admitted z s I mem A e q.0) q.1 j i h b (r, ks.0) ks.1 t

  pub bits_reach : (es : List Event) (s : Held) (I : Type 0) (mem : I → Memory) → HeldReaches z s I mem → AllAccepted z es → (j i : ℕ) → i < data_bits z → (b : Bool) →
      RunMay z s es j i b → (r : I × Choices es) × Returns (observes_from es (mem r.0) r.1 j) i b
  bits_reach [] s I mem R q j i h b t = absurd t
  bits_reach (e ∷ es) s I mem R q zero i h b t = let r = now_reach s I mem R e q.0 i h b t in ((r.0, (r.1, some_choices z es q.1)), r.2)
  bits_reach (e ∷ es) s I mem R q (suc j) i h b t =
      let r = bits_reach es (held_after z s e) (I × Choice e) (λ v. memory_after e v.1 (mem v.0)) (step_reached z s I mem R e q.0) q.1 j i h b t in
      ((r.0.0.0, (r.0.0.1, r.0.1)), r.1)

  -- the check condition
  pub check-within : (s : Held) (I : Type 0) (mem : I → Memory) → HeldAdmits z s I mem → (a d : List Pair) → length a ≡ z.n → length d ≡ cell_bits z →
      T (inside (cell_bits z) (look z.n s.entries a) (at d)) → (r : I) (x : Bits a) → T (admits d ((mem r).cells x.0))
  check-within s I mem A a d na wd t r x =
      admits_all d ((mem r).cells x.0) ((A.cells x.0).sized r ∙ sym wd)
      (λ i h.
      let k : i < cell_bits z = omega arith in
      inside_to (cell_bits z) (look z.n s.entries a) (at d) t i k (bit ((mem r).cells x.0) i) (look-within z s.entries s.ports I mem a A na r x i k))

  pub check_reach : (s : Held) (I : Type 0) (mem : I → Memory) → HeldReaches z s I mem → (a d : List Pair) → length d ≡ cell_bits z →
      ((r : I) (x : Bits a) → T (admits d ((mem r).cells x.0))) → T (inside (cell_bits z) (look z.n s.entries a) (at d))
  check_reach s I mem R a d wd f =
      inside-from (cell_bits z) (look z.n s.entries a) (at d)
      (λ i h b t.
      let r = look_reach z s.entries s.ports I mem a R i h b t in
      subst (λ (c : Bool). T (admit (at d i) c)) r.2 (admits_at d ((mem r.0).cells r.1.0) (f r.0 r.1) i (omega arith)))

  now_allowed : (s : Held) (I : Type 0) (mem : I → Memory) → HeldAdmits z s I mem → (e : Event) → Accepted z e →
      T (held_after z s e).condition → T s.condition × ((r : I) (k : Choice e) → Allowed (observes e k (mem r)))
  now_allowed s I mem A (writes c a d) q t = (t, λ r k. tt)
  now_allowed s I mem A (reads p e a) q t = (t, λ r k. tt)
  now_allowed s I mem A (asserts b a d) q t = (t, λ r k. tt)
  now_allowed s I mem A (checks true a d) q t = (
    and_left s.condition (inside (cell_bits z) (look z.n s.entries a) (at d)) t,
    λ r x. check-within s I mem A a d q.0.1 q.1.1 (and_right s.condition (inside (cell_bits z) (look z.n s.entries a) (at d)) t) r x,
  )
  now_allowed s I mem A (checks false a d) q t = (and_left s.condition true t, λ r k. tt)
  now_allowed s I mem A nothing q t = (t, λ r k. tt)

  now-condition : (s : Held) (I : Type 0) (mem : I → Memory) → HeldReaches z s I mem → (e : Event) → Accepted z e →
      T s.condition → ((r : I) (k : Choice e) → Allowed (observes e k (mem r))) → T (held_after z s e).condition
  now-condition s I mem R (writes c a d) q t f = t
  now-condition s I mem R (reads p e a) q t f = t
  now-condition s I mem R (asserts b a d) q t f = t
  now-condition s I mem R (checks true a d) q t f = and_both s.condition (inside (cell_bits z) (look z.n s.entries a) (at d)) t (check_reach s I mem R a d q.1.1 f)
  now-condition s I mem R (checks false a d) q t f = and_both s.condition true t tt
  now-condition s I mem R nothing q t f = t

  all_allowed : (I : Type 0) (mem : I → Memory) (e : Event) (es : List Event) →
      ((r : I) (k : Choice e) → Allowed (observes e k (mem r))) →
      ((r : (I × Choice e) × Choices es) (j : ℕ) → Allowed (observes_from es (memory_after e r.0.1 (mem r.0.0)) r.1 j)) →
      (r : I × Choices (e ∷ es)) (j : ℕ) → Allowed (observes_from (e ∷ es) (mem r.0) r.1 j)
  all_allowed I mem e es f g r zero = f r.0 r.1.0
  all_allowed I mem e es f g r (suc j) = g ((r.0, r.1.0), r.1.1) j

  pub allowed_at : (es : List Event) (s : Held) (I : Type 0) (mem : I → Memory) → HeldAdmits z s I mem → AllAccepted z es →
      T (held_after_all z s es).condition → T s.condition × ((r : I × Choices es) (j : ℕ) → Allowed (observes_from es (mem r.0) r.1 j))
  allowed_at [] s I mem A q t = (t, λ r j. tt)
  allowed_at (e ∷ es) s I mem A q t =
      let u = allowed_at es (held_after z s e) (I × Choice e) (λ r. memory_after e r.1 (mem r.0)) (step-admitted z s I mem A e q.0) q.1 t in
      let v = now_allowed s I mem A e q.0 u.0 in
      (v.0, all_allowed I mem e es v.1 u.1)

  pub condition_at : (es : List Event) (s : Held) (I : Type 0) (mem : I → Memory) → HeldReaches z s I mem → AllAccepted z es →
      T s.condition → ((r : I × Choices es) (j : ℕ) → Allowed (observes_from es (mem r.0) r.1 j)) → T (held_after_all z s es).condition
  condition_at [] s I mem R q t f = t
  condition_at (e ∷ es) s I mem R q t f =
      condition_at es (held_after z s e) (I × Choice e) (λ r. memory_after e r.1 (mem r.0)) (step_reached z s I mem R e q.0) q.1
      (now-condition s I mem R e q.0 t (λ r k. f (r, (k, some_choices z es q.1)) zero))
      (λ r j. f (r.0.0, (r.0.1, r.1)) (suc j))

-- from no entries, over the whole list
pub events_as-runs : EventsAsRuns
unfolding EventsAsRuns
events_as-runs z es q = record {
  admitted = record {
    bits = λ j i h b r. bits-within z es holds_nothing (Start z) (λ r. r.0) (start-admitted z) q j i h b r.0.0 r.0.1 r.1;
    holds = λ p i l h b r. subst (λ (v : Bool). T (admit ((held_after_all z holds_nothing es).ports p i) v)) r.1 (((last-admitted z es holds_nothing (Start z) (λ r. r.0) (start-admitted z) q).ports p).within r.0 i h);
    checking = λ t. (allowed_at z es holds_nothing (Start z) (λ r. r.0) (start-admitted z) q t).1;
  };
  exact = record {
    bits = λ j i h b t. bits_reach z es holds_nothing (Start z) (λ r. r.0) (start_reached z) q j i h b t;
    holds = λ p i l h b t. ((last_reached z es holds_nothing (Start z) (λ r. r.0) (start_reached z) q).ports p).reach i h b t;
    checking = λ f. condition_at z es holds_nothing (Start z) (λ r. r.0) (start_reached z) q tt f;
  };
}

-- two that tell the same
pub record SameTold (z : Sizes) (t u : Told) : Type 0 where
  pub bits : (j i : ℕ) → i < data_bits z → (b : Bool) → t.may j i b ↔ u.may j i b
  pub holds : (p i : ℕ) → p < 4 → i < data_bits z → (b : Bool) → t.held p i b ↔ u.held p i b
  pub checking : t.checked ↔ u.checked

pub told_along : (z : Sizes) (es : List Event) (t u : Told) → SameTold z t u → ExactlyAsRuns z es t → ExactlyAsRuns z es u
told_along z es t u S X = record {
  admitted = record {
    bits = λ j i h b r. (S.bits j i h b).0 (X.admitted.bits j i h b r);
    holds = λ p i l h b r. (S.holds p i l h b).0 (X.admitted.holds p i l h b r);
    checking = λ c. X.admitted.checking (S.checking.1 c);
  };
  exact = record {
    bits = λ j i h b m. X.exact.bits j i h b ((S.bits j i h b).1 m);
    holds = λ p i l h b m. X.exact.holds p i l h b ((S.holds p i l h b).1 m);
    checking = λ f. S.checking.0 (X.exact.checking f);
  };
}
