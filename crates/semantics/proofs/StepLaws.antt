-- One step of a run, at any call: both halves of what may stand at each bit go on through it.
use mathlib.Core.Path.{◌≡◌, refl}
use mathlib.Core.Bool.{Bool, true, false, cond}
use mathlib.Core.List.{List, [], ◌∷◌, ◌++◌}
use Prim.Native.Nat.{ℕ}
use lib.Dec.{T, eqb}
use lib.ListN.{length}
use Rattle.semantics.specs.declared.Sizes.{Sizes}
use Rattle.semantics.specs.Sizes.{data_bits}
use Rattle.semantics.specs.Pairs.{Pair, legal, admit, legals}
use Rattle.semantics.specs.Published.{Entry, entry, cell, answer, control}
use Rattle.semantics.specs.Array.{Event, writes, reads, asserts, checks, nothing, Memory, Bits, Choice, returns, memory_after}
use Rattle.semantics.specs.Held.{Held, held_after, Accepted}
use Rattle.semantics.proofs.PairLaws.{choose, chooses}
use Rattle.semantics.proofs.ExactLaws.{Admits, Reaches, Admitted, Reached, HeldAdmits, HeldReaches, admitted_along, reached_along, idle-admitted, idle_reached, answer-within, answer_reach, write-admitted, write_reached, some_choice}

-- A read, whose port holds what it returns
module _ (z : Sizes) (es : List Entry) (ports : ℕ → ℕ → Pair) (I : Type 0) (mem : I → Memory) (a : List Pair) (p : ℕ) (e : Pair) where
  abbrev held : ℕ → ℕ → Pair
  held q = cond (eqb q p) (answer z es (ports p) e a) (ports q)

  pub read-admitted : Admitted z (cell es) ports I mem → length a ≡ z.n → Admitted z (cell es) held (I × Choice (reads p e a)) (λ r. memory_after (reads p e a) r.1 (mem r.0))
  read-admitted A na = record {
    cells = λ x. record { sized = λ r. (A.cells x).sized r.0; within = λ r i h. (A.cells x).within r.0 i h };
    ports = λ q. go q (eqb q p);
  }
    where
      go : (q : ℕ) (t : Bool) → Admits (data_bits z) (cond t (answer z es (ports p) e a) (ports q)) (I × Choice (reads p e a)) (λ r. cond t (returns p r.1.0.0 r.1.1.0 (mem r.0)) ((mem r.0).ports q))
      go q true = answer-within z es ports I mem a p e A na
      go q false = record { sized = λ r. (A.ports q).sized r.0; within = λ r i h. (A.ports q).within r.0 i h }

  pub read_reached : Reached z (cell es) ports I mem → T (legal e) → T (legals a) → Reached z (cell es) held (I × Choice (reads p e a)) (λ r. memory_after (reads p e a) r.1 (mem r.0))
  read_reached R le la = record {
    some = (R.some, k);
    cells = λ x. record { reach = λ i h b t. let r = (R.cells x).reach i h b t in ((r.0, k), r.1) };
    ports = λ q. go q (eqb q p);
  }
    where
      k : Choice (reads p e a)
      k = (choose e le, chooses a la)

      go : (q : ℕ) (t : Bool) → Reaches (data_bits z) (cond t (answer z es (ports p) e a) (ports q)) (I × Choice (reads p e a)) (λ r. cond t (returns p r.1.0.0 r.1.1.0 (mem r.0)) ((mem r.0).ports q))
      go q true = answer_reach z es ports I mem a p e R le la
      go q false = record { reach = λ i h b t. let r = (R.ports q).reach i h b t in ((r.0, k), r.1) }

-- Any call
control-legal : (b : Bool) → T (legal (control b))
control-legal true = tt
control-legal false = tt

-- an assert is the write whose enable is b
module _ (a d : List Pair) where
  as-write : (b : Bool) → Bits a × Bits d → Choice (asserts b a d) → Choice (writes (control b) a d)
  as-write true o k = ((true, tt), k.0, k.1)
  as-write false o k = ((false, tt), o.0, o.1)

  as-write-same : (b : Bool) (o : Bits a × Bits d) (k : Choice (asserts b a d)) (m : Memory) → memory_after (writes (control b) a d) (as-write b o k) m ≡ memory_after (asserts b a d) k m
  unfolding as-write
  as-write-same true o k m = refl
  as-write-same false o k m = refl

  as-assert : (b : Bool) → Choice (writes (control b) a d) → Choice (asserts b a d)
  as-assert true k = (k.1, k.2)
  as-assert false k = tt

  as-assert-same : (b on : Bool) (t : T (admit (control b) on)) (x : Bits a) (v : Bits d) (m : Memory) →
      memory_after (asserts b a d) (as-assert b ((on, t), x, v)) m ≡ memory_after (writes (control b) a d) ((on, t), x, v) m
  unfolding as-assert
  as-assert-same true true t x v m = refl
  as-assert-same false false t x v m = refl
  as-assert-same true false t x v m = absurd t
  as-assert-same false true t x v m = absurd t

module _ (z : Sizes) (s : Held) (I : Type 0) (mem : I → Memory) where
  pub step-admitted : HeldAdmits z s I mem → (e : Event) → Accepted z e → HeldAdmits z (held_after z s e) (I × Choice e) (λ r. memory_after e r.1 (mem r.0))
  step-admitted A (writes c a d) q = write-admitted z s.entries s.ports I mem c a d q.0 q.2.1 A
  step-admitted A (reads p e a) q = read-admitted z s.entries s.ports I mem a p e A q.1.1
  step-admitted A (asserts b a d) q =
      let c : Pair = control b in
      let o : Bits a × Bits d = (chooses a q.0.0, chooses d q.1.0) in
      admitted_along z (cell (s.entries ++ (entry c a d ∷ []))) s.ports (I × Choice (writes c a d)) (I × Choice (asserts b a d))
      (λ r. memory_after (writes c a d) r.1 (mem r.0)) (λ r. memory_after (asserts b a d) r.1 (mem r.0))
      (λ r. (r.0, as-write a d b o r.1))
      (λ r. as-write-same a d b o r.1 (mem r.0))
      (write-admitted z s.entries s.ports I mem c a d (control-legal b) q.1.1 A)
  step-admitted A (checks b a d) q = idle-admitted z (cell s.entries) s.ports I (Choice (checks b a d)) mem A
  step-admitted A nothing q = idle-admitted z (cell s.entries) s.ports I (Unit {0}) mem A

  pub step_reached : HeldReaches z s I mem → (e : Event) → Accepted z e → HeldReaches z (held_after z s e) (I × Choice e) (λ r. memory_after e r.1 (mem r.0))
  step_reached R (writes c a d) q = write_reached z s.entries s.ports I mem c a d q.0 q.2.1 R q.1.0 q.2.0
  step_reached R (reads p e a) q = read_reached z s.entries s.ports I mem a p e R q.0 q.1.0
  step_reached R (asserts b a d) q =
      let c : Pair = control b in
      reached_along z (cell (s.entries ++ (entry c a d ∷ []))) s.ports (I × Choice (writes c a d)) (I × Choice (asserts b a d))
      (λ r. memory_after (writes c a d) r.1 (mem r.0)) (λ r. memory_after (asserts b a d) r.1 (mem r.0))
      (λ r. (r.0, as-assert a d b r.1))
      (λ r. as-assert-same a d b r.1.0.0 r.1.0.1 r.1.1 r.1.2 (mem r.0))
      (write_reached z s.entries s.ports I mem c a d (control-legal b) q.1.1 R q.0.0 q.1.0)
  step_reached R (checks b a d) q = idle_reached z (cell s.entries) s.ports I (Choice (checks b a d)) mem (some_choice z (checks b a d) q) R
  step_reached R nothing q = idle_reached z (cell s.entries) s.ports I (Unit {0}) mem tt R
