-- The published meaning, under one assignment: the source's write (document 000, Fig. 2), first read (Fig. 3), assert (Fig. 6) and check (Fig. 7) over Bools, with 01's enables and the ports of 02.
use Rattle.std.specs.Prelude.{Bool, true, false, ◌&&◌, ◌||◌, not, cond, List, [], ◌∷◌, ◌++◌, ℕ, zero, suc}
use Rattle.semantics.specs.declared.Sizes.{Sizes}
use Rattle.semantics.specs.Sizes.{cell_bits}
use Rattle.semantics.specs.Pairs.{Pair, X, only, admits, unique, at}

-- an entry's h, s, address and data
pub record Entry : Type 0 where
  pub hard : Bool
  pub soft : Bool
  pub address : List Pair
  pub word : List Pair

-- "hard = And(c.h, Not c.l)": the control is certainly 1
abbrev pub certain : Pair → Bool
certain c = c.h && not c.l

-- the element that Fig. 2 inserts: "h = And(hard,u). s = Or(And(c.h,c.l), And(hard, Not u))."
abbrev pub entry : Pair → List Pair → List Pair → Entry
entry c a d = record {
  hard = certain c && unique a;
  soft = c.h && c.l || certain c && not (unique a);
  address = a;
  word = d;
}

-- Fig. 3's approximate union of an element's data and the data so far
abbrev pub union : Pair → Pair → Pair
union e r = record { h = e.h || r.h; l = e.l || r.l }

-- and its choice, at one location x of those that the address admits (`look` goes through them): "Ite(hm, e, Ite(sm, Or(e,r), r))", both halves
abbrev pub over : Entry → List Bool → ℕ → Pair → Pair
over e x i r =
    let m = admits e.address x in
    cond (m && e.hard) (at e.word i) (cond (m && e.soft) (union (at e.word i) r) r)

-- bit i of location x: "The word r starts all (1,1). For each entry, oldest first"
abbrev pub scan : List Entry → List Bool → ℕ → Pair → Pair
scan [] x i r = r
scan (e ∷ es) x i r = scan es x i (over e x i r)

abbrev pub cell : List Entry → List Bool → ℕ → Pair
cell es x i = scan es x i X

-- "Any": some location of n bits
abbrev pub anywhere : ℕ → (List Bool → Bool) → Bool
anywhere zero f = f []
anywhere (suc n) f = anywhere n (λ x. f (false ∷ x)) || anywhere n (λ x. f (true ∷ x))

-- "Then each half becomes Any(And(in, r))."
abbrev pub look : ℕ → List Entry → List Pair → ℕ → Pair
look n es a i = record {
  h = anywhere n (λ x. admits a x && (cell es x i).h);
  l = anywhere n (λ x. admits a x && (cell es x i).l);
}

-- a bit of a read, of its enable, the look's bit and the one that its port holds: "Enable 1 gives the look, enable 0 the port's last word, X the bitwise union of both."
abbrev pub holding : Pair → Pair → Pair → Pair
holding e r p = cond (certain e) r (cond e.h (union r p) p)

abbrev pub answer : Sizes → List Entry → (ℕ → Pair) → Pair → List Pair → ℕ → Pair
answer z es held e a i = holding e (look z.n es a i) (held i)

-- "C = 1, and for each bit C = And(C, Or(Not r.h, d.h)), then with l": every bit of the first is inside the second's
abbrev pub inside : ℕ → (ℕ → Pair) → (ℕ → Pair) → Bool
inside zero r d = true
inside (suc k) r d = (not (r zero).h || (d zero).h) && (not (r zero).l || (d zero).l) && inside k (λ i. r (suc i)) (λ i. d (suc i))

-- what an assert (Fig. 6) and a check (Fig. 7) add to their condition: "Or(Not b, A)", "Or(Not b, C)"
abbrev pub assert_holds : Sizes → List Entry → Bool → List Pair → List Pair → Bool
assert_holds z es b a d = not b || inside (cell_bits z) (at d) (look z.n es a)

abbrev pub check_holds : Sizes → List Entry → Bool → List Pair → List Pair → Bool
check_holds z es b a d = not b || inside (cell_bits z) (look z.n es a) (at d)

-- "if Or(Not b, And(A,C)) is 1 the assert is kept"
abbrev pub keeps : Sizes → List Entry → Bool → List Pair → List Pair → Bool
keeps z es b a d = not b || inside (cell_bits z) (at d) (look z.n es a) && inside (cell_bits z) (look z.n es a) (at d)

-- "Write((b, Not b),a,d)": an assert's control pair
abbrev pub control : Bool → Pair
control b = only b
