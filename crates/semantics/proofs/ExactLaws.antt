-- One call: what may stand at each bit of each location stays exactly what the plain runs so far can have there.
-- In two halves that do not need each other: what a run has is admitted (Admitted), and what is admitted some run has (Reached).
use mathlib.Core.Path.{◌≡◌, refl, sym, ap, ◌∙◌, subst}
use mathlib.Core.Bool.{Bool, true, false, ◌&&◌, ◌||◌, not, cond}
use mathlib.Core.List.{List, [], ◌∷◌, ◌++◌}
use Prim.Native.Nat.{ℕ, ◌<◌}
use native.Mathlib.Omega.{arith}
use lib.Dec.{T}
use lib.ListN.{length, replicate, length-replicate, get_or-replicate}
use Rattle.semantics.specs.declared.Sizes.{Sizes}
use Rattle.semantics.specs.Sizes.{cell_bits, data_bits}
use Rattle.semantics.specs.Pairs.{Pair, X, legal, admit, admits, legals, unique, at, bit, anything}
use Rattle.semantics.specs.Published.{Entry, entry, union, cell, look, holding, answer}
use Rattle.semantics.specs.Array.{Event, writes, reads, asserts, checks, nothing, Memory, same, put, Bit, Bits, Where, Choice, returns, memory_after, Start}
use Rattle.semantics.specs.Held.{Held, Accepted}
use Rattle.semantics.proofs.PairLaws.{and_left, and_right, and_both, or_left, or_right, either, same_refl, same_eq, admits-length, admits_at, choose, chooses, choose_at, anything-word, one_place, elsewhere, look_to, look-from, scan_snoc, over_is}

-- of runs and the word that each has: words have w bits, each bit is admitted
pub record Admits (w : ℕ) (p : ℕ → Pair) (I : Type 0) (v : I → List Bool) : Type 0 where
  pub sized : (r : I) → length (v r) ≡ w
  pub within : (r : I) (i : ℕ) → i < w → T (admit (p i) (bit (v r) i))

-- each bit that is admitted is some run's
pub record Reaches (w : ℕ) (p : ℕ → Pair) (I : Type 0) (v : I → List Bool) : Type 0 where
  pub reach : (i : ℕ) → i < w → (b : Bool) → T (admit (p i) b) → (r : I) × (bit (v r) i ≡ b)

-- the same of memories, at each location and in each port; f and g say what may stand there
pub record Admitted (z : Sizes) (f : List Bool → ℕ → Pair) (g : ℕ → ℕ → Pair) (I : Type 0) (mem : I → Memory) : Type 0 where
  pub cells : (x : List Bool) → Admits (cell_bits z) (f x) I (λ r. (mem r).cells x)
  pub ports : (p : ℕ) → Admits (data_bits z) (g p) I (λ r. (mem r).ports p)

pub record Reached (z : Sizes) (f : List Bool → ℕ → Pair) (g : ℕ → ℕ → Pair) (I : Type 0) (mem : I → Memory) : Type 0 where
  pub some : I
  pub cells : (x : List Bool) → Reaches (cell_bits z) (f x) I (λ r. (mem r).cells x)
  pub ports : (p : ℕ) → Reaches (data_bits z) (g p) I (λ r. (mem r).ports p)

-- other runs with the same memories
module _ (z : Sizes) (f : List Bool → ℕ → Pair) (g : ℕ → ℕ → Pair) (I J : Type 0) (mem : I → Memory) (nem : J → Memory) where
  pub admitted_along : (h : J → I) → ((r : J) → mem (h r) ≡ nem r) → Admitted z f g I mem → Admitted z f g J nem
  admitted_along h e A = record {
    cells = λ x. record {
      sized = λ r. subst (λ (m : Memory). length (m.cells x) ≡ cell_bits z) (e r) ((A.cells x).sized (h r));
      within = λ r i l. subst (λ (m : Memory). T (admit (f x i) (bit (m.cells x) i))) (e r) ((A.cells x).within (h r) i l);
    };
    ports = λ p. record {
      sized = λ r. subst (λ (m : Memory). length (m.ports p) ≡ data_bits z) (e r) ((A.ports p).sized (h r));
      within = λ r i l. subst (λ (m : Memory). T (admit (g p i) (bit (m.ports p) i))) (e r) ((A.ports p).within (h r) i l);
    };
  }

  pub reached_along : (h : I → J) → ((r : I) → nem (h r) ≡ mem r) → Reached z f g I mem → Reached z f g J nem
  reached_along h e R = record {
    some = h R.some;
    cells = λ x. record { reach = λ i l b t. let p = (R.cells x).reach i l b t in (h p.0, ap (λ (m : Memory). bit (m.cells x) i) (e p.0) ∙ p.1) };
    ports = λ q. record { reach = λ i l b t. let p = (R.ports q).reach i l b t in (h p.0, ap (λ (m : Memory). bit (m.ports q) i) (e p.0) ∙ p.1) };
  }

-- at first: any content, and any words in the ports
pub X-admits : (b : Bool) → T (admit X b)
X-admits true = tt
X-admits false = tt

pub length-anything : (w : ℕ) (v : List Bool) → T (admits (anything w) v) → length v ≡ w
length-anything w v t = admits-length (anything w) v t ∙ length-replicate w X

all : (z : Sizes) → Bool → Start z
all z b = (record { cells = λ x. replicate (cell_bits z) b; ports = λ p. replicate (data_bits z) b }, λ x. anything-word (cell_bits z) b, λ p. anything-word (data_bits z) b)

pub start-admitted : (z : Sizes) → Admitted z (cell []) (λ p i. X) (Start z) (λ r. r.0)
start-admitted z = record {
  cells = λ x. record { sized = λ r. length-anything (cell_bits z) (r.0.cells x) (r.1 x); within = λ r i h. X-admits (bit (r.0.cells x) i) };
  ports = λ p. record { sized = λ r. length-anything (data_bits z) (r.0.ports p) (r.2 p); within = λ r i h. X-admits (bit (r.0.ports p) i) };
}

pub start_reached : (z : Sizes) → Reached z (cell []) (λ p i. X) (Start z) (λ r. r.0)
unfolding all
start_reached z = record {
  some = all z true;
  cells = λ x. record { reach = λ i h b t. (all z b, get_or-replicate (cell_bits z) i b false h) };
  ports = λ p. record { reach = λ i h b t. (all z b, get_or-replicate (data_bits z) i b false h) };
}

-- What a read returns: the look where it is enabled, its port's word where it is not
pub union_left : (r p : Pair) (b : Bool) → T (admit r b) → T (admit (union r p) b)
union_left r p true t = or_left r.h p.h t
union_left r p false t = or_left r.l p.l t

pub union_right : (r p : Pair) (b : Bool) → T (admit p b) → T (admit (union r p) b)
union_right r p true t = or_right r.h p.h t
union_right r p false t = or_right r.l p.l t

pub union_either : {C : Type 0} (r p : Pair) (b : Bool) → T (admit (union r p) b) → (T (admit r b) → C) → (T (admit p b) → C) → C
union_either r p true t f g = either r.h p.h t f g
union_either r p false t f g = either r.l p.l t f g

module _ (z : Sizes) (es : List Entry) (ports : ℕ → ℕ → Pair) (I : Type 0) (mem : I → Memory) (a : List Pair) where
  -- a look: the word at some address that the pairs admit
  pub look-within : Admitted z (cell es) ports I mem → length a ≡ z.n → (r : I) (x : Bits a) (i : ℕ) → i < z.w → T (admit (look z.n es a i) (bit ((mem r).cells x.0) i))
  look-within A na r x i h = look-from z.n es a na x i (bit ((mem r).cells x.0) i) ((A.cells x.0).within r i h)

  pub look_reach : Reached z (cell es) ports I mem → (i : ℕ) → i < z.w → (b : Bool) → T (admit (look z.n es a i) b) → (r : I) × (x : Bits a) × (bit ((mem r).cells x.0) i ≡ b)
  look_reach R i h b t =
      let x = look_to z.n es a i b t in
      let r = (R.cells x.0.0).reach i h b x.1 in
      (r.0, x.0, r.1)

  module _ (p : ℕ) (e : Pair) where
    abbrev got : I × Choice (reads p e a) → List Bool
    got r = returns p r.1.0.0 r.1.1.0 (mem r.0)

    pub answer-within : Admitted z (cell es) ports I mem → length a ≡ z.n → Admits (data_bits z) (answer z es (ports p) e a) (I × Choice (reads p e a)) got
    answer-within A na = record { sized = λ r. sized r.0 r.1.0.0 r.1.1.0; within = λ r i h. go r.0 r.1.1 i h e.h e.l r.1.0.0 r.1.0.1 }
      where
        sized : (r : I) (on : Bool) (x : List Bool) → length (returns p on x (mem r)) ≡ data_bits z
        sized r true x = (A.cells x).sized r
        sized r false x = (A.ports p).sized r

        go : (r : I) (x : Bits a) (i : ℕ) → i < z.w → (eh el on : Bool) → T (admit (record { h = eh; l = el }) on) →
            T (admit (holding (record { h = eh; l = el }) (look z.n es a i) (ports p i)) (bit (returns p on x.0 (mem r)) i))
        go r x i h true false true t = look-within A na r x i h
        go r x i h true false false t = absurd t
        go r x i h true true true t = union_left (look z.n es a i) (ports p i) (bit ((mem r).cells x.0) i) (look-within A na r x i h)
        go r x i h true true false t = union_right (look z.n es a i) (ports p i) (bit ((mem r).ports p) i) ((A.ports p).within r i h)
        go r x i h false el true t = absurd t
        go r x i h false el false t = (A.ports p).within r i h

    pub answer_reach : Reached z (cell es) ports I mem → T (legal e) → T (legals a) → Reaches (data_bits z) (answer z es (ports p) e a) (I × Choice (reads p e a)) got
    answer_reach R le la = record { reach = λ i h b t. go i h b e.h refl e.l refl le t }
      where
        enabled : (i : ℕ) → i < z.w → (b : Bool) → T e.h → T (admit (look z.n es a i) b) → (r : I × Choice (reads p e a)) × (bit (got r) i ≡ b)
        enabled i h b on t = let q = look_reach R i h b t in ((q.0, ((true, on), q.1)), q.2)

        disabled : (i : ℕ) → i < z.w → (b : Bool) → T e.l → T (admit (ports p i) b) → (r : I × Choice (reads p e a)) × (bit (got r) i ≡ b)
        disabled i h b off t = let q = (R.ports p).reach i h b t in ((q.0, ((false, off), chooses a la)), q.1)

        go : (i : ℕ) → i < z.w → (b : Bool) → (eh : Bool) → e.h ≡ eh → (el : Bool) → e.l ≡ el → T (eh || el) →
            T (admit (holding (record { h = eh; l = el }) (look z.n es a i) (ports p i)) b) → (r : I × Choice (reads p e a)) × (bit (got r) i ≡ b)
        go i h b true y false v l t = enabled i h b (subst T (sym y) tt) t
        go i h b true y true v l t = union_either (look z.n es a i) (ports p i) b t (enabled i h b (subst T (sym y) tt)) (disabled i h b (subst T (sym v) tt))
        go i h b false y true v l t = disabled i h b (subst T (sym v) tt) t
        go i h b false y false v l t = absurd l

-- A write
not-both : (m u : Bool) → (T m → T u → ⊥) → T (not m || not u)
not-both false u f = tt
not-both true false f = tt
not-both true true f = f tt tt

missed : (a : List Pair) (x y : List Bool) → T (admits a y) → same x y ≡ false → T (not (admits a x) || not (unique a))
missed a x y t e = not-both (admits a x) (unique a) (λ s u. subst T e (one_place a u x y s t))

-- it may land on x, or may pass it by
lands : Pair → List Pair → List Pair → List Bool → ℕ → Bool → Bool
lands c a d x i b = admits a x && c.h && admit (at d i) b

passes : Pair → List Pair → List Bool → Bool
passes c a x = not (admits a x) || not (unique a) || c.l

cell-write : (es : List Entry) (c : Pair) → T (legal c) → (a d : List Pair) (x : List Bool) (i : ℕ) (b : Bool) →
    admit (cell (es ++ (entry c a d ∷ [])) x i) b ≡ (lands c a d x i b || passes c a x && admit (cell es x i) b)
unfolding lands passes
cell-write es c t a d x i b = ap (λ (p : Pair). admit p b) (scan_snoc es (entry c a d) x i X) ∙ over_is c t a d x i (cell es x i) b

module _ (z : Sizes) (es : List Entry) (ports : ℕ → ℕ → Pair) (I : Type 0) (mem : I → Memory) (c : Pair) (a d : List Pair) (lc : T (legal c)) (wd : length d ≡ cell_bits z) where
  -- what location x has after it
  has : List Bool → I → Bool → List Bool → List Bool → List Bool
  has x r on y v = (cond on (put (mem r) y v) (mem r)).cells x

  write-within : Admitted z (cell es) ports I mem → (x : List Bool) (r : I) (on : Bit c) (y : Bits a) (v : Bits d) (i : ℕ) → i < cell_bits z →
      T (lands c a d x i (bit (has x r on.0 y.0 v.0) i) || passes c a x && admit (cell es x i) (bit (has x r on.0 y.0 v.0) i))
  unfolding has lands passes
  write-within A x r on y v i h = go on.0 on.1
    where
      goal : List Bool → Bool
      goal u = lands c a d x i (bit u i) || passes c a x && admit (cell es x i) (bit u i)

      old : T (passes c a x) → T (goal ((mem r).cells x))
      old t = or_right (lands c a d x i (bit ((mem r).cells x) i)) (passes c a x && admit (cell es x i) (bit ((mem r).cells x) i))
          (and_both (passes c a x) (admit (cell es x i) (bit ((mem r).cells x) i)) t ((A.cells x).within r i h))

      hit : T c.h → (t : Bool) → same x y.0 ≡ t → T (goal (cond t v.0 ((mem r).cells x)))
      hit p true e = or_left (lands c a d x i (bit v.0 i)) (passes c a x && admit (cell es x i) (bit v.0 i))
          (and_both (admits a x && c.h) (admit (at d i) (bit v.0 i))
          (and_both (admits a x) c.h (subst (λ (z : List Bool). T (admits a z)) (sym (same_eq x y.0 (subst T (sym e) tt))) y.1) p)
          (admits_at d v.0 v.1 i (omega arith)))
      hit p false e = old (or_left (not (admits a x) || not (unique a)) c.l (missed a x y.0 y.1 e))

      go : (on : Bool) → T (admit c on) → T (goal (has x r on y.0 v.0))
      go false p = old (or_right (not (admits a x) || not (unique a)) c.l p)
      go true p = hit p (same x y.0) refl

  write_sized : Admitted z (cell es) ports I mem → (x : List Bool) (r : I) (on : Bool) (y : List Bool) (v : Bits d) → length (has x r on y v.0) ≡ cell_bits z
  unfolding has
  write_sized A x r false y v = (A.cells x).sized r
  write_sized A x r true y v = go (same x y)
    where
      go : (t : Bool) → length (cond t v.0 ((mem r).cells x)) ≡ cell_bits z
      go true = admits-length d v.0 v.1 ∙ wd
      go false = (A.cells x).sized r

  pub write-admitted : Admitted z (cell es) ports I mem → Admitted z (cell (es ++ (entry c a d ∷ []))) ports (I × Choice (writes c a d)) (λ r. memory_after (writes c a d) r.1 (mem r.0))
  unfolding has
  write-admitted A = record {
    cells = λ x. record {
      sized = λ r. write_sized A x r.0 r.1.0.0 r.1.1.0 r.1.2;
      within = λ r i h. subst T (sym (cell-write es c lc a d x i (bit (has x r.0 r.1.0.0 r.1.1.0 r.1.2.0) i)))
          (write-within A x r.0 r.1.0 r.1.1 r.1.2 i h);
    };
    ports = λ p. record {
      sized = λ r. sized p r.0 r.1.0.0 r.1.1.0 r.1.2.0;
      within = λ r i h. within p r.0 r.1.0.0 r.1.1.0 r.1.2.0 i h;
    };
  }
    where
      sized : (p : ℕ) (r : I) (on : Bool) (y v : List Bool) → length ((cond on (put (mem r) y v) (mem r)).ports p) ≡ data_bits z
      sized p r true y v = (A.ports p).sized r
      sized p r false y v = (A.ports p).sized r

      within : (p : ℕ) (r : I) (on : Bool) (y v : List Bool) (i : ℕ) → i < data_bits z → T (admit (ports p i) (bit ((cond on (put (mem r) y v) (mem r)).ports p) i))
      within p r true y v i h = (A.ports p).within r i h
      within p r false y v i h = (A.ports p).within r i h

  module _ (R : Reached z (cell es) ports I mem) (la : T (legals a)) (ld : T (legals d)) where
    write_reach : (x : List Bool) (i : ℕ) → i < cell_bits z → (b : Bool) → T (lands c a d x i b || passes c a x && admit (cell es x i) b) →
        (r : I) × (k : Choice (writes c a d)) × (bit (has x r k.0.0 k.1.0 k.2.0) i ≡ b)
    unfolding has lands passes
    write_reach x i h b t = either (lands c a d x i b) (passes c a x && admit (cell es x i) b) t new old
      where
        new : T (lands c a d x i b) → (r : I) × (k : Choice (writes c a d)) × (bit (has x r k.0.0 k.1.0 k.2.0) i ≡ b)
        new t =
            let v = choose_at d ld i (omega arith) b (and_right (admits a x && c.h) (admit (at d i) b) t) in
            let p = and_left (admits a x && c.h) (admit (at d i) b) t in
            (R.some, ((true, and_right (admits a x) c.h p), (x, and_left (admits a x) c.h p), v.0), rw same_refl v.1)

        old : T (passes c a x && admit (cell es x i) b) → (r : I) × (k : Choice (writes c a d)) × (bit (has x r k.0.0 k.1.0 k.2.0) i ≡ b)
        old t = either (not (admits a x) || not (unique a)) c.l (and_left (passes c a x) (admit (cell es x i) b) t) beside off
          where
            q : (r : I) × (bit ((mem r).cells x) i ≡ b)
            q = (R.cells x).reach i h b (and_right (passes c a x) (admit (cell es x i) b) t)

            off : T c.l → (r : I) × (k : Choice (writes c a d)) × (bit (has x r k.0.0 k.1.0 k.2.0) i ≡ b)
            off p = (q.0, ((false, p), chooses a la, chooses d ld), q.1)

            beside : T (not (admits a x) || not (unique a)) → (r : I) × (k : Choice (writes c a d)) × (bit (has x r k.0.0 k.1.0 k.2.0) i ≡ b)
            beside p =
                let y = elsewhere a la x p in
                let k = choose c lc in
                (q.0, (k, y.0, chooses d ld), go y.0.0 y.1 k.0)
              where
                go : (y : List Bool) → same x y ≡ false → (on : Bool) → bit (has x q.0 on y (chooses d ld).0) i ≡ b
                go y e true = rw e q.1
                go y e false = q.1

    pub write_reached : Reached z (cell (es ++ (entry c a d ∷ []))) ports (I × Choice (writes c a d)) (λ r. memory_after (writes c a d) r.1 (mem r.0))
    unfolding has
    write_reached = record {
      some = (R.some, (choose c lc, chooses a la, chooses d ld));
      cells = λ x. record { reach = λ i h b t. let q = write_reach x i h b (subst T (cell-write es c lc a d x i b) t) in ((q.0, q.1), q.2) };
      ports = λ p. record { reach = λ i h b t. let q = (R.ports p).reach i h b t in ((q.0, (choose c lc, chooses a la, chooses d ld)), port p q.0 i b (choose c lc).0 q.1) };
    }
      where
        port : (p : ℕ) (r : I) (i : ℕ) (b on : Bool) → bit ((mem r).ports p) i ≡ b → bit ((cond on (put (mem r) (chooses a la).0 (chooses d ld).0) (mem r)).ports p) i ≡ b
        port p r i b true e = e
        port p r i b false e = e

-- Any call
pub where_choice : {A : Type 0} (b : Bool) → A → Where b A
where_choice true x = x
where_choice false x = tt

-- an accepted call has a choice, whatever the memory
pub some_choice : (z : Sizes) (e : Event) → Accepted z e → Choice e
some_choice z (writes c a d) q = (choose c q.0, chooses a q.1.0, chooses d q.2.0)
some_choice z (reads p e a) q = (choose e q.0, chooses a q.1.0)
some_choice z (asserts b a d) q = where_choice b (chooses a q.0.0, chooses d q.1.0)
some_choice z (checks b a d) q = where_choice b (chooses a q.0.0)
some_choice z nothing q = tt

-- a call that stores and latches nothing
module _ (z : Sizes) (f : List Bool → ℕ → Pair) (g : ℕ → ℕ → Pair) (I K : Type 0) (mem : I → Memory) where
  pub idle-admitted : Admitted z f g I mem → Admitted z f g (I × K) (λ r. mem r.0)
  idle-admitted A = admitted_along z f g I (I × K) mem (λ r. mem r.0) (λ r. r.0) (λ r. refl) A

  pub idle_reached : K → Reached z f g I mem → Reached z f g (I × K) (λ r. mem r.0)
  idle_reached k R = reached_along z f g I (I × K) mem (λ r. mem r.0) (λ r. (r, k)) (λ r. refl) R

-- what a published run admits of memories, and what they reach of it
abbrev pub HeldAdmits : Sizes → Held → (I : Type 0) → (I → Memory) → Type 0
HeldAdmits z s I mem = Admitted z (cell s.entries) s.ports I mem

abbrev pub HeldReaches : Sizes → Held → (I : Type 0) → (I → Memory) → Type 0
HeldReaches z s I mem = Reached z (cell s.entries) s.ports I mem
