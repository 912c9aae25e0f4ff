-- Lists in which a unit's address has an X, or a unit more parts than there are cells: what they tell is not what their plain runs give.
use mathlib.Core.Path.{◌≡◌, refl, sym, ap, ◌∙◌}
use mathlib.Core.Bool.{Bool, true, false, cond, true≢false}
use mathlib.Core.List.{List, [], ◌∷◌}
use Prim.Native.Nat.{ℕ, zero, suc}
use native.Mathlib.Omega.{arith}
use lib.Dec.{T}
use Rattle.semantics.specs.Pairs.{X, only, admit, admits, bit}
use Rattle.semantics.specs.Array.{Memory, Bits, Allowed}
use Rattle.semantics.specs.Rulings.{one, nought}
use Rattle.units.specs.Parts.{Order, little, big, part_of}
use Rattle.units.specs.Array.{writes, Words, Run, stores, returns, observed}
use Rattle.units.specs.Held.{Accepted}
use Rattle.units.specs.Claims.{OnlyRuns, published}
use Rattle.units.specs.ByHand.{four_cells, two_cells, ones}
use Rattle.units.specs.Elsewhere.{write_then_read, write_then_check, read_at_x, too_many, four_parts, write_over_itself, NotExactElsewhere}
use Rattle.units.proofs.PartLaws.{part_of_one}
use Rattle.units.proofs.ByHandLaws.{one_word, both-written}

zero_word : (x : Bits (nought ∷ [])) → x.0 ≡ false ∷ []
zero_word (false ∷ [], t) = refl
zero_word ([], t) = absurd t
zero_word (true ∷ v, t) = absurd t
zero_word (false ∷ b ∷ v, t) = absurd t

on_one : (b : Bool) → T (admit one b) → b ≡ true
on_one true t = refl
on_one false t = absurd t

-- what the read, and a check of cell 0, find after the write
module _ (o : Order) (on : Bool) (t : T (admit one on)) (x : Bits (X ∷ [])) (vs : Words ones) (y : Bits (nought ∷ [])) (m : Memory) where
  after : Memory
  after = cond on (stores o x.0 ones vs m) m

  finds_one : after.cells y.0 ≡ true ∷ []
  unfolding after
  finds_one = rw (on_one on t, zero_word y) (both-written o x vs m false)

  returns_one : (en : Bool) → T (admit one en) → bit (returns (two_cells o) 0 1 en y.0 after) 0 ≡ true
  returns_one true s = ap (λ (z : List Bool). bit (after.cells z) 0) (part_of_one o y.0) ∙ ap (λ (v : List Bool). bit v 0) finds_one
  returns_one false s = absurd s

  allowed_one : T (admits (one ∷ []) (after.cells y.0))
  allowed_one = rw finds_one tt

not-exact-after-X : (o : Order) → OnlyRuns (two_cells o) write_then_read (published (two_cells o) write_then_read) → ⊥
unfolding after
not-exact-after-X o E = go (may o)
  where
    may : (o : Order) → (published (two_cells o) write_then_read).may 1 0 false
    may little = tt
    may big = tt

    go : (published (two_cells o) write_then_read).may 1 0 false → ⊥
    go t =
        let r = E.bits 1 0 (omega arith) false t in
        let k = r.0.1 in
        let e = returns_one o k.0.0.0 k.0.0.1 k.0.1 k.0.2 k.1.0.1 r.0.0.0 k.1.0.0.0 k.1.0.0.1 in
        true≢false (sym e ∙ r.1)

-- and a check of cell 0 is allowed in every run
every_run_allowed : (o : Order) (r : Run (two_cells o) write_then_check) (j : ℕ) → Allowed (observed (two_cells o) write_then_check r j)
unfolding after
every_run_allowed o r zero = tt
every_run_allowed o r (suc zero) = let k = r.1 in allowed_one o k.0.0.0 k.0.0.1 k.0.1 k.0.2 k.1.0 r.0.0
every_run_allowed o r (suc (suc j)) = tt

check_not-exact-after-X : (o : Order) → OnlyRuns (two_cells o) write_then_check (published (two_cells o) write_then_check) → ⊥
check_not-exact-after-X little E = E.checking (every_run_allowed little)
check_not-exact-after-X big E = E.checking (every_run_allowed big)

-- the one location of a known address of two bits
two-bits : (a b : Bool) (x : Bits (only a ∷ only b ∷ [])) → x.0 ≡ a ∷ b ∷ []
two-bits a b ([], t) = absurd t
two-bits true b (true ∷ [], t) = absurd t
two-bits true b (false ∷ x, t) = absurd t
two-bits false b (true ∷ x, t) = absurd t
two-bits false b (false ∷ [], t) = absurd t
two-bits true true (true ∷ true ∷ [], t) = refl
two-bits true true (true ∷ true ∷ c ∷ x, t) = absurd t
two-bits true true (true ∷ false ∷ x, t) = absurd t
two-bits true false (true ∷ true ∷ x, t) = absurd t
two-bits true false (true ∷ false ∷ [], t) = refl
two-bits true false (true ∷ false ∷ c ∷ x, t) = absurd t
two-bits false true (false ∷ true ∷ [], t) = refl
two-bits false true (false ∷ true ∷ c ∷ x, t) = absurd t
two-bits false true (false ∷ false ∷ x, t) = absurd t
two-bits false false (false ∷ true ∷ x, t) = absurd t
two-bits false false (false ∷ false ∷ [], t) = refl
two-bits false false (false ∷ false ∷ c ∷ x, t) = absurd t

module _ (on en : Bool) (s : T (admit one on)) (t : T (admit one en)) (x : Bits (one ∷ nought ∷ [])) (y : Bits (nought ∷ one ∷ [])) (u v : Bits (one ∷ [])) (m : Memory) where
  two_written : Memory
  two_written = cond en (stores little y.0 ((one ∷ []) ∷ []) (v, tt) (cond on (stores little x.0 ((one ∷ []) ∷ []) (u, tt) m) m)) (cond on (stores little x.0 ((one ∷ []) ∷ []) (u, tt) m) m)

  second_is_one : (z : Bits (X ∷ nought ∷ [])) → bit (two_written.cells (part_of little 2 z.0 2)) 0 ≡ true
  unfolding two_written
  second_is_one (true ∷ false ∷ [], q) = rw (on_one on s, on_one en t, two-bits true false x, two-bits false true y) (ap (λ (w : List Bool). bit w 0) (one_word v))
  second_is_one (false ∷ false ∷ [], q) = rw (on_one on s, on_one en t, two-bits true false x, two-bits false true y) (ap (λ (w : List Bool). bit w 0) (one_word u))
  second_is_one ([], q) = absurd q
  second_is_one (true ∷ [], q) = absurd q
  second_is_one (false ∷ [], q) = absurd q
  second_is_one (true ∷ true ∷ z, q) = absurd q
  second_is_one (false ∷ true ∷ z, q) = absurd q
  second_is_one (true ∷ false ∷ c ∷ z, q) = absurd q
  second_is_one (false ∷ false ∷ c ∷ z, q) = absurd q

  reads_one : (z : Bits (X ∷ nought ∷ [])) (do' : Bool) → T (admit one do') → bit (returns (four_cells little) 0 2 do' z.0 two_written) 1 ≡ true
  reads_one z true q = second_is_one z
  reads_one z false q = absurd q

not-exact_at-X : OnlyRuns (four_cells little) read_at_x (published (four_cells little) read_at_x) → ⊥
unfolding two_written
not-exact_at-X E =
    let r = E.bits 2 1 (omega arith) false tt in
    let k = r.0.1 in
    let e = reads_one k.0.0.0 k.1.0.0.0 k.0.0.1 k.1.0.0.1 k.0.1 k.1.0.1 k.0.2.0 k.1.0.2.0 r.0.0.0 k.1.1.0.1 k.1.1.0.0.0 k.1.1.0.0.1 in
    true≢false (sym e ∙ r.1)

-- what cell 0 has after the write of 0 there, and after that of four parts
nought-written : (on : Bool) → T (admit one on) → (x v : Bits (nought ∷ [])) (m : Memory) → (cond on (stores little x.0 ((nought ∷ []) ∷ []) (v, tt) m) m).cells (false ∷ []) ≡ false ∷ []
nought-written true t x v m = rw (zero_word x) (zero_word v)
nought-written false t x v m = absurd t

third-written : (on : Bool) (x : Bits (nought ∷ [])) (vs : Words four_parts) (m : Memory) → m.cells (false ∷ []) ≡ false ∷ [] → (cond on (stores little x.0 four_parts vs m) m).cells (false ∷ []) ≡ false ∷ []
third-written true x vs m e = rw (zero_word x) (zero_word vs.1.1.0)
third-written false x vs m e = e

reads-nought : (on : Bool) → T (admit one on) → (x : Bits (nought ∷ [])) (m : Memory) → m.cells (false ∷ []) ≡ false ∷ [] → bit (returns too_many 0 1 on x.0 m) 0 ≡ false
reads-nought true t x m e = rw (zero_word x, e)
reads-nought false t x m e = absurd t

not-exact-over_itself : OnlyRuns too_many write_over_itself (published too_many write_over_itself) → ⊥
not-exact-over_itself E =
    let r = E.bits 2 0 (omega arith) true tt in
    let k = r.0.1 in
    let first = k.0 in
    let second = k.1.0 in
    let third = k.1.1.0 in
    let m = r.0.0.0 in
    let m1 = cond first.0.0 (stores little first.1.0 ((nought ∷ []) ∷ []) first.2 m) m in
    let e1 = nought-written first.0.0 first.0.1 first.1 first.2.0 m in
    let m2 = cond second.0.0 (stores little second.1.0 four_parts second.2 m1) m1 in
    let e2 = third-written second.0.0 second.1 second.2 m1 e1 in
    true≢false (sym r.1 ∙ reads-nought third.0.0 third.0.1 third.1 m2 e2)

pub not-exact_elsewhere : NotExactElsewhere
not-exact_elsewhere = record {
  after_x = λ o. record { accepted = (both-accepted o, ((tt, (tt, refl), omega arith, (omega arith, omega arith)), tt)); not = not-exact-after-X o };
  check_after_x = λ o. record { accepted = (both-accepted o, (((tt, refl), (tt, refl)), tt)); not = check_not-exact-after-X o };
  at_x = record {
    accepted = (
      (tt, (tt, refl), ((tt, refl), tt), (omega arith, omega arith)),
      ((tt, (tt, refl), ((tt, refl), tt), (omega arith, omega arith)), ((tt, (tt, refl), omega arith, (omega arith, omega arith)), tt)),
    );
    not = not-exact_at-X;
  };
  many_parts = record {
    accepted = (
      (tt, (tt, refl), ((tt, refl), tt), (omega arith, omega arith)),
      ((tt, (tt, refl), ((tt, refl), ((tt, refl), ((tt, refl), ((tt, refl), tt)))), (omega arith, omega arith)), ((tt, (tt, refl), omega arith, (omega arith, omega arith)), tt)),
    );
    not = not-exact-over_itself;
  };
}
  where
    both-accepted : (o : Order) → Accepted (two_cells o) (writes one (X ∷ []) ones)
    both-accepted o = (tt, (tt, refl), ((tt, refl), ((tt, refl), tt)), (omega arith, omega arith))
