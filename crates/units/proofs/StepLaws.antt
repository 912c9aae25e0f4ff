-- One step of a run with units, at any call: both halves of what may stand at each bit go on through it.
use mathlib.Core.Path.{◌≡◌, refl, sym, subst}
use mathlib.Core.Bool.{Bool, true, false, ◌||◌, cond}
use mathlib.Core.List.{List}
use Prim.Native.Nat.{ℕ, ◌^◌, ◌<◌, ◌≤◌}
use native.Mathlib.Omega.{arith}
use lib.Dec.{T, eqb}
use lib.ListN.{length}
use Rattle.semantics.specs.Pairs.{Pair, X, legal, admit, legals, bit}
use Rattle.semantics.specs.Published.{Entry, cell, holding}
use Rattle.semantics.specs.Array.{Memory, Bits}
use Rattle.semantics.specs.Array as Cell
use Rattle.semantics.specs.Held.{Held}
use Rattle.semantics.proofs.PairLaws.{choose, chooses}
use Rattle.semantics.proofs.ExactLaws.{Admits, Reaches, union_left, union_right, union_either}
use Rattle.semantics.proofs.StepLaws as S
use Rattle.units.specs.Parts.{Shape, sizes, wide, look_unit, answer_unit}
use Rattle.units.specs.Array.{Event, writes, reads, asserts, checks, nothing, Choice, find_unit, finds, returns, memory_after, Settled, NoX}
use Rattle.units.specs.Held.{held_after, Accepted}
use Rattle.units.proofs.ExactLaws.{Admitted, Reached, HeldAdmits, HeldReaches, bare, none, cells-admitted, cells_reached, with-ports, idle-admitted, idle_reached, word_of-length, look-within, look_reach, write-admitted, write_reached, some_choice}

-- What a read of a unit returns: its parts where it is enabled, its port's word where it is not
module _ (g : Shape) (es : List Entry) (ports : ℕ → ℕ → Pair) (I : Type 0) (mem : I → Memory) (unit : ℕ) (a : List Pair) (p : ℕ) (e : Pair) where
  abbrev got : I × Choice (reads p unit e a) → List Bool
  got r = returns g p unit r.1.0.0 r.1.1.0 (mem r.0)

  pub answer-within : Admitted g (cell es) ports I mem → length a ≡ g.n → Admits (wide g) (answer_unit g es (ports p) unit e a) (I × Choice (reads p unit e a)) got
  answer-within A na = record { sized = λ r. sized r.0 r.1.0.0 r.1.1.0; within = λ r i h. go r.0 r.1.1 i h e.h e.l r.1.0.0 r.1.0.1 }
    where
      sized : (r : I) (on : Bool) (x : List Bool) → length (returns g p unit on x (mem r)) ≡ wide g
      sized r true x = word_of-length (wide g) (find_unit g unit x (mem r))
      sized r false x = (A.ports p).sized r

      go : (r : I) (x : Bits a) (i : ℕ) → i < wide g → (eh el on : Bool) → T (admit (record { h = eh; l = el }) on) →
          T (admit (holding (record { h = eh; l = el }) (look_unit g es unit a i) (ports p i)) (bit (returns g p unit on x.0 (mem r)) i))
      go r x i h true false true t = look-within g es ports I mem unit a A na r x i h
      go r x i h true false false t = absurd t
      go r x i h true true true t = union_left (look_unit g es unit a i) (ports p i) (bit (finds g unit x.0 (mem r)) i) (look-within g es ports I mem unit a A na r x i h)
      go r x i h true true false t = union_right (look_unit g es unit a i) (ports p i) (bit ((mem r).ports p) i) ((A.ports p).within r i h)
      go r x i h false el true t = absurd t
      go r x i h false el false t = (A.ports p).within r i h

  pub answer_reach : Reached g (cell es) ports I mem → T (legal e) → T (legals a) → Settled unit a → Reaches (wide g) (answer_unit g es (ports p) unit e a) (I × Choice (reads p unit e a)) got
  answer_reach R le la s = record { reach = λ i h b t. go i h b e.h refl e.l refl le t }
    where
      enabled : (i : ℕ) → i < wide g → (b : Bool) → T e.h → T (admit (look_unit g es unit a i) b) → (r : I × Choice (reads p unit e a)) × (bit (got r) i ≡ b)
      enabled i h b on t = let q = look_reach g es ports I mem unit a R la s i h b t in ((q.0, ((true, on), q.1)), q.2)

      disabled : (i : ℕ) → i < wide g → (b : Bool) → T e.l → T (admit (ports p i) b) → (r : I × Choice (reads p unit e a)) × (bit (got r) i ≡ b)
      disabled i h b off t = let q = (R.ports p).reach i h b t in ((q.0, ((false, off), chooses a la)), q.1)

      go : (i : ℕ) → i < wide g → (b : Bool) → (eh : Bool) → e.h ≡ eh → (el : Bool) → e.l ≡ el → T (eh || el) →
          T (admit (holding (record { h = eh; l = el }) (look_unit g es unit a i) (ports p i)) b) → (r : I × Choice (reads p unit e a)) × (bit (got r) i ≡ b)
      go i h b true y false z l t = enabled i h b (subst T (sym y) tt) t
      go i h b true y true z l t = union_either (look_unit g es unit a i) (ports p i) b t (enabled i h b (subst T (sym y) tt)) (disabled i h b (subst T (sym z) tt))
      go i h b false y true z l t = disabled i h b (subst T (sym z) tt) t
      go i h b false y false z l t = absurd l

  -- and its port holds it
  abbrev held : ℕ → ℕ → Pair
  held q = cond (eqb q p) (answer_unit g es (ports p) unit e a) (ports q)

  read-admitted : Admitted g (cell es) ports I mem → length a ≡ g.n → Admitted g (cell es) held (I × Choice (reads p unit e a)) (λ r. memory_after g (reads p unit e a) r.1 (mem r.0))
  read-admitted A na = record {
    cells = λ x. record { sized = λ r. (A.cells x).sized r.0; within = λ r i h. (A.cells x).within r.0 i h };
    ports = λ q. go q (eqb q p);
  }
    where
      go : (q : ℕ) (t : Bool) → Admits (wide g) (cond t (answer_unit g es (ports p) unit e a) (ports q)) (I × Choice (reads p unit e a)) (λ r. cond t (got r) ((mem r.0).ports q))
      go q true = answer-within A na
      go q false = record { sized = λ r. (A.ports q).sized r.0; within = λ r i h. (A.ports q).within r.0 i h }

  read_reached : Reached g (cell es) ports I mem → T (legal e) → T (legals a) → Settled unit a
      → Reached g (cell es) held (I × Choice (reads p unit e a)) (λ r. memory_after g (reads p unit e a) r.1 (mem r.0))
  read_reached R le la s = record {
    some = (R.some, k);
    cells = λ x. record { reach = λ i h b t. let r = (R.cells x).reach i h b t in ((r.0, k), r.1) };
    ports = λ q. go q (eqb q p);
  }
    where
      k : Choice (reads p unit e a)
      k = (choose e le, chooses a la)

      go : (q : ℕ) (t : Bool) → Reaches (wide g) (cond t (answer_unit g es (ports p) unit e a) (ports q)) (I × Choice (reads p unit e a)) (λ r. cond t (got r) ((mem r.0).ports q))
      go q true = answer_reach R le la s
      go q false = record { reach = λ i h b t. let r = (R.ports q).reach i h b t in ((r.0, k), r.1) }

-- Any call
module _ (g : Shape) (s : Held) (I : Type 0) (mem : I → Memory) where
  -- an assert
  assert-admitted : HeldAdmits g s I mem → (b : Bool) (a d : List Pair) → Accepted g (asserts b a d) → HeldAdmits g (held_after g s (asserts b a d)) (I × Choice (asserts b a d)) (λ r. memory_after g (asserts b a d) r.1 (mem r.0))
  assert-admitted A true a d q = record {
    cells = λ x. (S.step-admitted (sizes g) (with-ports s X) I (λ r. bare g.w (mem r)) (cells-admitted g (cell s.entries) s.ports I mem A) (Cell.asserts true a d) q).cells x;
    ports = λ p. (idle-admitted g (cell s.entries) s.ports I (Choice (asserts true a d)) mem A).ports p;
  }
  assert-admitted A false a d q = record {
    cells = λ x. (S.step-admitted (sizes g) (with-ports s X) I (λ r. bare g.w (mem r)) (cells-admitted g (cell s.entries) s.ports I mem A) (Cell.asserts false a d) q).cells x;
    ports = λ p. (idle-admitted g (cell s.entries) s.ports I (Choice (asserts false a d)) mem A).ports p;
  }

  assert_reached : HeldReaches g s I mem → (b : Bool) (a d : List Pair) → Accepted g (asserts b a d) → HeldReaches g (held_after g s (asserts b a d)) (I × Choice (asserts b a d)) (λ r. memory_after g (asserts b a d) r.1 (mem r.0))
  assert_reached R true a d q = record {
    some = (R.some, some_choice g (asserts true a d) q);
    cells = λ x. (S.step_reached (sizes g) (with-ports s none) I mem (cells_reached g (cell s.entries) s.ports I mem R) (Cell.asserts true a d) q).cells x;
    ports = λ p. (idle_reached g (cell s.entries) s.ports I (Choice (asserts true a d)) mem (some_choice g (asserts true a d) q) R).ports p;
  }
  assert_reached R false a d q = record {
    some = (R.some, some_choice g (asserts false a d) q);
    cells = λ x. (S.step_reached (sizes g) (with-ports s none) I mem (cells_reached g (cell s.entries) s.ports I mem R) (Cell.asserts false a d) q).cells x;
    ports = λ p. (idle_reached g (cell s.entries) s.ports I (Choice (asserts false a d)) mem (some_choice g (asserts false a d) q) R).ports p;
  }

  -- at every call, whatever its address
  pub step-admitted : HeldAdmits g s I mem → (e : Event) → Accepted g e → HeldAdmits g (held_after g s e) (I × Choice e) (λ r. memory_after g e r.1 (mem r.0))
  step-admitted A (writes c a ds) q = write-admitted g s.entries s.ports I mem c a ds q.0 q.1.0 q.2 A
  step-admitted A (reads p u e a) q = read-admitted g s.entries s.ports I mem u a p e A q.1.1
  step-admitted A (asserts b a d) q = assert-admitted A b a d q
  step-admitted A (checks b a d) q = idle-admitted g (cell s.entries) s.ports I (Choice (checks b a d)) mem A
  step-admitted A nothing q = idle-admitted g (cell s.entries) s.ports I (Unit {0}) mem A

  -- and where it is no unit above 1 with an X in its address
  pub step_reached : g.m ≤ 2 ^ g.n → HeldReaches g s I mem → (e : Event) → Accepted g e → NoX e → HeldReaches g (held_after g s e) (I × Choice e) (λ r. memory_after g e r.1 (mem r.0))
  step_reached fits R (writes c a ds) q x =
      let l : length ds ≤ 2 ^ length a = rw q.1.1 (omega (arith, q.3.1)) in
      write_reached g s.entries s.ports I mem c a q.0 q.1.0 R ds q.2 q.3.0 l x
  step_reached fits R (reads p u e a) q x = read_reached g s.entries s.ports I mem u a p e R q.0 q.1.0 x
  step_reached fits R (asserts b a d) q x = assert_reached R b a d q
  step_reached fits R (checks b a d) q x = idle_reached g (cell s.entries) s.ports I (Choice (checks b a d)) mem (some_choice g (checks b a d) q) R
  step_reached fits R nothing q x = idle_reached g (cell s.entries) s.ports I (Unit {0}) mem tt R
