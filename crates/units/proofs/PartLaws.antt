-- Where the parts of a unit lie: at a known address in distinct cells; the marks that they share are each part's own; a unit of one part is the address itself.
use mathlib.Core.Path.{◌≡◌, refl, sym, ap, ◌∙◌, subst}
use mathlib.Core.Bool.{Bool, true, false}
use mathlib.Core.List.{List, [], ◌∷◌}
use Prim.Native.Nat.{ℕ, ◌+◌, ◌-◌, ◌%◌, ◌^◌, ◌<◌, ◌≤◌}
use native.Mathlib.Nat.{mod-eq_of_lt}
use native.Mathlib.Omega.{arith}
use lib.Dec.{T}
use lib.ListN.{length}
use Rattle.semantics.specs.Pairs.{Pair, admits, legals, unique}
use Rattle.semantics.specs.Published.{entry}
use Rattle.semantics.specs.Array.{same}
use Rattle.semantics.proofs.PairLaws.{same_eq, admits-length}
use Rattle.units.specs.Sum.{bits_of, number, plus}
use Rattle.units.specs.Parts.{Order, little, big, offset, part_of, part_pairs, part_entry, unit_entries}
use Rattle.units.proofs.SumLaws.{bits_of-length, bits_of-number, plus-adds, plus_cancel, sum-sound, sum-known, sum-unique, sum_zero, plus_zero}

offset-small : (o : Order) (unit j : ℕ) → 1 ≤ j → j ≤ unit → offset o unit j < unit
offset-small little unit j h k = omega arith
offset-small big unit j h k = omega arith

offset_cancel : (o : Order) (unit i j : ℕ) → 1 ≤ i → i ≤ unit → 1 ≤ j → j ≤ unit → offset o unit i ≡ offset o unit j → i ≡ j
offset_cancel little unit i j a b c d e = omega arith
offset_cancel big unit i j a b c d e = omega arith

-- distinct parts of a unit lie at distinct locations
pub part_cancel : (o : Order) (unit : ℕ) (x : List Bool) → unit ≤ 2 ^ length x → (i j : ℕ) → 1 ≤ i → i ≤ unit → 1 ≤ j → j ≤ unit →
    part_of o unit x i ≡ part_of o unit x j → i ≡ j
part_cancel o unit x u i j a b c d e =
    let p = offset o unit i in
    let q = offset o unit j in
    let r : number (bits_of (length x) p) ≡ number (bits_of (length x) q)
    = plus_cancel (bits_of (length x) p) (bits_of (length x) q) x (bits_of-length (length x) p) (bits_of-length (length x) q) e in
    offset_cancel o unit i j a b c d
    (sym (fits p (omega (arith, offset-small o unit i a b))) ∙ r ∙ fits q (omega (arith, offset-small o unit j c d)))
  where
    fits : (k : ℕ) → k < 2 ^ length x → number (bits_of (length x) k) ≡ k
    fits k l = bits_of-number (length x) k ∙ mod-eq_of_lt l

pub parts_distinct : (o : Order) (unit : ℕ) (x : List Bool) → unit ≤ 2 ^ length x → (i j : ℕ) → 1 ≤ i → i ≤ unit → 1 ≤ j → j ≤ unit → (i ≡ j → ⊥) →
    same (part_of o unit x i) (part_of o unit x j) ≡ false
parts_distinct o unit x u i j a b c d f = go (same (part_of o unit x i) (part_of o unit x j)) refl
  where
    go : (t : Bool) → same (part_of o unit x i) (part_of o unit x j) ≡ t → t ≡ false
    go false e = refl
    go true e = absurd (f (part_cancel o unit x u i j a b c d (same_eq (part_of o unit x i) (part_of o unit x j) (subst T (sym e) tt))))

-- where they lie, as numbers: "part j .. at address+j-1, .. address+unit-j, wrapping at 2^n"
pub little-number : (unit : ℕ) (x : List Bool) (j : ℕ) → number (part_of little unit x j) ≡ (number x + (j - 1)) % 2 ^ length x
little-number unit x j = plus-adds (length x) (j - 1) x refl

pub big-number : (unit : ℕ) (x : List Bool) (j : ℕ) → number (part_of big unit x j) ≡ (number x + (unit - j)) % 2 ^ length x
big-number unit x j = plus-adds (length x) (unit - j) x refl

-- the parts of an address: legal, unique where it is, sound, and one location each where it is known
pub part_sound : (o : Order) (unit : ℕ) (a : List Pair) (y : List Bool) → T (admits a y) → (j : ℕ) → T (admits (part_pairs o unit a j) (part_of o unit y j))
part_sound o unit a y t j =
    subst (λ (n : ℕ). T (admits (part_pairs o unit a j) (plus (bits_of n (offset o unit j)) y))) (sym (admits-length a y t))
    (sum-sound (bits_of (length a) (offset o unit j)) a y t)

pub part-known : (o : Order) (unit : ℕ) (a : List Pair) → T (legals a) → T (unique a) → (y : List Bool) → T (admits a y) → (j : ℕ) (x : List Bool) →
    admits (part_pairs o unit a j) x ≡ same x (part_of o unit y j)
part-known o unit a la u y t j x =
    sum-known (bits_of (length a) (offset o unit j)) a la u y t x
    ∙ ap (λ (n : ℕ). same x (plus (bits_of n (offset o unit j)) y)) (sym (admits-length a y t))

-- the marks that the parts share are those that each part's own address would give
pub shared-marks : (o : Order) (unit : ℕ) (c : Pair) (a d : List Pair) → T (legals a) → (j : ℕ) →
    part_entry c a (part_pairs o unit a j) d ≡ entry c (part_pairs o unit a j) d
shared-marks o unit c a d la j = rw (sum-unique (bits_of (length a) (offset o unit j)) a la)

-- A unit of one cell is the write of one cell, at any address
offset_one : (o : Order) → offset o 1 1 ≡ 0
offset_one little = refl
offset_one big = refl

pub pairs_one : (o : Order) (a : List Pair) → T (legals a) → part_pairs o 1 a 1 ≡ a
pairs_one o a t = rw (offset_one o) (sum_zero a t)

pub unit_of_one : (o : Order) (c : Pair) (a d : List Pair) → T (legals a) → unit_entries o c a (d ∷ []) ≡ entry c a d ∷ []
unit_of_one o c a d t = rw (offset_one o, sum_zero a t)

pub part_of_one : (o : Order) (x : List Bool) → part_of o 1 x 1 ≡ x
part_of_one o x = rw (offset_one o) (plus_zero x)
