-- Ternary addition: legal, sound and exact bit by bit, unique where the address is, and at a known address addition modulo 2^n.
use mathlib.Core.Path.{◌≡◌, refl, sym, ap, ◌∙◌, subst}
use mathlib.Core.Bool.{Bool, true, false, ◌&&◌, ◌||◌, not, cond, beq}
use mathlib.Core.List.{List, [], ◌∷◌}
use Prim.Native.Nat.{ℕ, zero, suc, ◌+◌, ◌*◌, ◌/◌, ◌%◌, ◌^◌, ◌<◌}
use native.Mathlib.Nat.{le_of_suc-le-suc, not-suc-le-zero, pow-succ', mod-eq_of_lt, add-mod_right, add-mod-mod, pow-suc, zero-lt-suc}
use native.Mathlib.Omega.{arith}
use borrow.Author.Tests.{eqb-true, eqb-false}
use lib.Arith.{mod-mul}
use lib.Pow.{pow_pos}
use lib.Dec.{T, eqb}
use lib.ListN.{length}
use Rattle.semantics.specs.Pairs.{Pair, only, legal, admit, admits, legals, known, unique, at, bit}
use Rattle.semantics.specs.Array.{same, Bit, Bits}
use Rattle.semantics.proofs.PairLaws.{and_left, and_right, and_both, or_left, or_right, either, T→eq, eq→T, beq_refl, beq_eq, same_refl, same_eq, admits-length, admits_at, choose, chooses, one_place, bool_same, imp_elim}
use Rattle.units.specs.Sum.{first, rest, bits_of, number, digit, carried, plus_from, plus, digit_pair, carried_pair, sum_from, sum, Gives, EachBit, KnownSum, UniqueSum}

-- a fact of Bools, tried on all of them
abbrev every : (Bool → Bool) → Bool
every f = f true && f false

abbrev some : (Bool → Bool) → Bool
some f = f true || f false

every_at : (f : Bool → Bool) → T (every f) → (b : Bool) → T (f b)
every_at f t true = and_left (f true) (f false) t
every_at f t false = and_right (f true) (f false) t

some_at : (f : Bool → Bool) → T (some f) → (b : Bool) × T (f b)
some_at f t = either (f true) (f false) t (λ s. (true, s)) (λ s. (false, s))

some-from : (f : Bool → Bool) (b : Bool) → T (f b) → T (some f)
some-from f true t = or_left (f true) (f false) t
some-from f false t = or_right (f true) (f false) t

abbrev implies : Bool → Bool → Bool
implies a b = not a || b

abbrev every_pair : (Pair → Bool) → Bool
every_pair f = every (λ h. every (λ l. f (record { h = h; l = l })))

pair_at : (f : Pair → Bool) → T (every_pair f) → (p : Pair) → T (f p)
pair_at f t p = every_at (λ l. f (record { h = p.h; l = l })) (every_at (λ h. every (λ l. f (record { h = h; l = l }))) t p.h) p.l

-- a fact of one bit of a sum, of the constant's bit, the address's pair and the carry
abbrev every_bit : (Bool → Pair → Pair → Bool) → Bool
every_bit f = every (λ k. every_pair (λ a. every_pair (λ c. f k a c)))

bit_at : (f : Bool → Pair → Pair → Bool) → T (every_bit f) → (k : Bool) (a c : Pair) → T (f k a c)
bit_at f t k a c =
    pair_at (λ p. f k a p) (pair_at (λ p. every_pair (λ q. f k p q)) (every_at (λ b. every_pair (λ p. every_pair (λ q. f b p q))) t k) a) c

-- that a pair admits exactly what a function gives of the bits that two legal pairs admit
abbrev reached : (Bool → Bool → Bool) → Pair → Pair → Bool → Bool
reached f a c b = some (λ x. some (λ d. admit a x && admit c d && beq (f x d) b))

abbrev exactly : (Bool → Bool → Bool) → Pair → Pair → Pair → Bool
exactly f a c p = implies (legal a) (implies (legal c) (every (λ b. beq (admit p b) (reached f a c b))))

digits-exact : (k : Bool) (a c : Pair) → T (exactly (digit k) a c (digit_pair k a c))
digits-exact = bit_at (λ k a c. exactly (digit k) a c (digit_pair k a c)) tt

carries-exact : (k : Bool) (a c : Pair) → T (exactly (carried k) a c (carried_pair k a c))
carries-exact = bit_at (λ k a c. exactly (carried k) a c (carried_pair k a c)) tt

-- and that a digit is known exactly where the address is, and a carry where it is, from a known carry
abbrev as_known : Bool → Pair → Pair → Bool
as_known k a c = implies (legal a) (implies (legal c) (implies (known c) (beq (known (digit_pair k a c)) (known a) && implies (known a) (known (carried_pair k a c)))))

bits-known : (k : Bool) (a c : Pair) → T (as_known k a c)
bits-known = bit_at as_known tt

-- The same facts, as they are used
admit-legal : (p : Pair) (b : Bool) → T (admit p b) → T (legal p)
admit-legal p true t = or_left p.h p.l t
admit-legal p false t = or_right p.h p.l t

module _ (f : Bool → Bool → Bool) (a c : Pair) where
  reached_to : (b : Bool) → T (reached f a c b) → (x : Bit a) × (d : Bit c) × (f x.0 d.0 ≡ b)
  reached_to b e =
      let p = some_at (λ x. some (λ d. admit a x && admit c d && beq (f x d) b)) e in
      let q = some_at (λ d. admit a p.0 && admit c d && beq (f p.0 d) b) p.1 in
      let u = and_left (admit a p.0 && admit c q.0) (beq (f p.0 q.0) b) q.1 in (
        (p.0, and_left (admit a p.0) (admit c q.0) u),
        (q.0, and_right (admit a p.0) (admit c q.0) u),
        beq_eq (f p.0 q.0) b (T→eq (beq (f p.0 q.0) b) (and_right (admit a p.0 && admit c q.0) (beq (f p.0 q.0) b) q.1)),
      )

  reached-from : (x : Bit a) (d : Bit c) → T (reached f a c (f x.0 d.0))
  reached-from x d =
      let b = f x.0 d.0 in
      some-from (λ y. some (λ e. admit a y && admit c e && beq (f y e) b)) x.0
      (some-from (λ e. admit a x.0 && admit c e && beq (f x.0 e) b) d.0
      (and_both (admit a x.0 && admit c d.0) (beq b b) (and_both (admit a x.0) (admit c d.0) x.1 d.1) (eq→T (beq_refl b))))

  exactly-gives : (p : Pair) → T (exactly f a c p) → T (legal a) → T (legal c) → Gives f a c p
  exactly-gives p t la lc b =
      let all = every (λ v. beq (admit p v) (reached f a c v)) in
      let u : T all = imp_elim (legal c) all (imp_elim (legal a) (implies (legal c) all) t la) lc in
      let e : admit p b ≡ reached f a c b = beq_eq (admit p b) (reached f a c b) (T→eq (beq (admit p b) (reached f a c b)) (every_at (λ v. beq (admit p v) (reached f a c v)) u b)) in
      (λ s. reached_to b (subst T e s), λ r. subst T (sym e) (subst (λ (v : Bool). T (reached f a c v)) r.2 (reached-from r.0 r.1)))

  gives-legal : (p : Pair) → Gives f a c p → T (legal a) → T (legal c) → T (legal p)
  gives-legal p G la lc =
      let x = choose a la in
      let d = choose c lc in
      admit-legal p (f x.0 d.0) ((G (f x.0 d.0)).1 (x, d, refl))

module _ (k : Bool) (a c : Pair) where
  digit-gives : T (legal a) → T (legal c) → Gives (digit k) a c (digit_pair k a c)
  digit-gives = exactly-gives (digit k) a c (digit_pair k a c) (digits-exact k a c)

  carry-gives : T (legal a) → T (legal c) → Gives (carried k) a c (carried_pair k a c)
  carry-gives = exactly-gives (carried k) a c (carried_pair k a c) (carries-exact k a c)

  digit-legal : T (legal a) → T (legal c) → T (legal (digit_pair k a c))
  digit-legal la lc = gives-legal (digit k) a c (digit_pair k a c) (digit-gives la lc) la lc

  carried-legal : T (legal a) → T (legal c) → T (legal (carried_pair k a c))
  carried-legal la lc = gives-legal (carried k) a c (carried_pair k a c) (carry-gives la lc) la lc

  digit-sound : (x d : Bool) → T (admit a x) → T (admit c d) → T (admit (digit_pair k a c) (digit k x d))
  digit-sound x d p q = (digit-gives (admit-legal a x p) (admit-legal c d q) (digit k x d)).1 ((x, p), (d, q), refl)

  carried-sound : (x d : Bool) → T (admit a x) → T (admit c d) → T (admit (carried_pair k a c) (carried k x d))
  carried-sound x d p q = (carry-gives (admit-legal a x p) (admit-legal c d q) (carried k x d)).1 ((x, p), (d, q), refl)

  abbrev keep : Bool
  keep = beq (known (digit_pair k a c)) (known a) && implies (known a) (known (carried_pair k a c))

  two-known : T (legal a) → T (legal c) → T (known c) → T keep
  two-known la lc kc =
      imp_elim (known c) keep (imp_elim (legal c) (implies (known c) keep) (imp_elim (legal a) (implies (legal c) (implies (known c) keep)) (bits-known k a c) la) lc) kc

  digit-known : T (legal a) → T (legal c) → T (known c) → known (digit_pair k a c) ≡ known a
  digit-known la lc kc =
      let same_known = beq (known (digit_pair k a c)) (known a) in
      beq_eq (known (digit_pair k a c)) (known a) (T→eq same_known (and_left same_known (implies (known a) (known (carried_pair k a c))) (two-known la lc kc)))

  carried-known : T (legal a) → T (legal c) → T (known c) → T (known a) → T (known (carried_pair k a c))
  carried-known la lc kc ka =
      imp_elim (known a) (known (carried_pair k a c)) (and_right (beq (known (digit_pair k a c)) (known a)) (implies (known a) (known (carried_pair k a c))) (two-known la lc kc)) ka

-- as many bits as the address
pub sum_from-length : (c : Pair) (ks : List Bool) (a : List Pair) → length (sum_from c ks a) ≡ length a
sum_from-length c ks [] = refl
sum_from-length c ks (p ∷ a) = ap suc (sum_from-length (carried_pair (first ks) p c) (rest ks) a)

pub plus_from-length : (c : Bool) (ks x : List Bool) → length (plus_from c ks x) ≡ length x
plus_from-length c ks [] = refl
plus_from-length c ks (b ∷ x) = ap suc (plus_from-length (carried (first ks) b c) (rest ks) x)

-- the sum of a legal address is legal
sum_from-legal : (c : Pair) (ks : List Bool) (a : List Pair) → T (legal c) → T (legals a) → T (legals (sum_from c ks a))
sum_from-legal c ks [] lc la = tt
sum_from-legal c ks (p ∷ a) lc la =
    let lp = and_left (legal p) (legals a) la in
    and_both (legal (digit_pair (first ks) p c)) (legals (sum_from (carried_pair (first ks) p c) (rest ks) a))
    (digit-legal (first ks) p c lp lc)
    (sum_from-legal (carried_pair (first ks) p c) (rest ks) a (carried-legal (first ks) p c lp lc) (and_right (legal p) (legals a) la))

pub sum-legal : (ks : List Bool) (a : List Pair) → T (legals a) → T (legals (sum ks a))
sum-legal ks a la = sum_from-legal (only false) ks a tt la

-- and unique exactly where the address is
where_so : (a b c : Bool) → (T a → b ≡ c) → (a && b) ≡ (a && c)
where_so true b c f = f tt
where_so false b c f = refl

sum_from-unique : (c : Pair) (ks : List Bool) (a : List Pair) → T (legal c) → T (known c) → T (legals a) → unique (sum_from c ks a) ≡ unique a
sum_from-unique c ks [] lc kc la = refl
sum_from-unique c ks (p ∷ a) lc kc la =
    let lp = and_left (legal p) (legals a) la in
    let t = carried_pair (first ks) p c in
    ap (λ (b : Bool). b && unique (sum_from t (rest ks) a)) (digit-known (first ks) p c lp lc kc) ∙
    where_so (known p) (unique (sum_from t (rest ks) a)) (unique a)
    (λ kp. sum_from-unique t (rest ks) a (carried-legal (first ks) p c lp lc) (carried-known (first ks) p c lp lc kc kp) (and_right (legal p) (legals a) la))

pub sum-unique : (ks : List Bool) (a : List Pair) → T (legals a) → unique (sum ks a) ≡ unique a
sum-unique ks a la = sum_from-unique (only false) ks a tt tt la

-- sound: what the address admits, plus the constant, the sum admits
sum_from-sound : (c : Pair) (d : Bool) → T (admit c d) → (ks : List Bool) (a : List Pair) (x : List Bool) → T (admits a x) →
    T (admits (sum_from c ks a) (plus_from d ks x))
sum_from-sound c d p ks [] [] t = tt
sum_from-sound c d p ks [] (b ∷ x) t = absurd t
sum_from-sound c d p ks (q ∷ a) [] t = absurd t
sum_from-sound c d p ks (q ∷ a) (b ∷ x) t =
    let u = and_left (admit q b) (admits a x) t in
    and_both (admit (digit_pair (first ks) q c) (digit (first ks) b d)) (admits (sum_from (carried_pair (first ks) q c) (rest ks) a) (plus_from (carried (first ks) b d) (rest ks) x))
    (digit-sound (first ks) q c b d u p)
    (sum_from-sound (carried_pair (first ks) q c) (carried (first ks) b d) (carried-sound (first ks) q c b d u p) (rest ks) a x (and_right (admit q b) (admits a x) t))

pub sum-sound : (ks : List Bool) (a : List Pair) (x : List Bool) → T (admits a x) → T (admits (sum ks a) (plus ks x))
sum-sound ks a x t = sum_from-sound (only false) false tt ks a x t

-- exact, bit by bit: what bit i of the sum admits is bit i of some admitted address plus the constant
sum_from-exact : (c : Pair) → T (legal c) → (ks : List Bool) (a : List Pair) → T (legals a) → (i : ℕ) → i < length a → (b : Bool) →
    T (admit (at (sum_from c ks a) i) b) → (d : Bit c) × (x : Bits a) × (bit (plus_from d.0 ks x.0) i ≡ b)
sum_from-exact c lc ks [] la i h b t = absurd (not-suc-le-zero h)
sum_from-exact c lc ks (p ∷ a) la zero h b t =
    let q = (digit-gives (first ks) p c (and_left (legal p) (legals a) la) lc b).0 t in
    let r = chooses a (and_right (legal p) (legals a) la) in
    (q.1, (q.0.0 ∷ r.0, and_both (admit p q.0.0) (admits a r.0) q.0.1 r.1), q.2)
sum_from-exact c lc ks (p ∷ a) la (suc i) h b t =
    let lp = and_left (legal p) (legals a) la in
    let r = sum_from-exact (carried_pair (first ks) p c) (carried-legal (first ks) p c lp lc) (rest ks) a (and_right (legal p) (legals a) la) i (le_of_suc-le-suc h) b t in
    let q = (carry-gives (first ks) p c lp lc r.0.0).0 r.0.1 in (
      q.1,
      (q.0.0 ∷ r.1.0, and_both (admit p q.0.0) (admits a r.1.0) q.0.1 r.1.1),
      ap (λ (e : Bool). bit (plus_from e (rest ks) r.1.0) i) q.2 ∙ r.2,
    )

pub zero_bit : (d : Bool) → T (admit (only false) d) → d ≡ false
zero_bit false t = refl
zero_bit true t = absurd t

pub sum-exact : (ks : List Bool) (a : List Pair) → T (legals a) → (i : ℕ) → i < length a → (b : Bool) →
    T (admit (at (sum ks a) i) b) → (x : Bits a) × (bit (plus ks x.0) i ≡ b)
sum-exact ks a la i h b t =
    let r = sum_from-exact (only false) tt ks a la i h b t in
    (r.1, ap (λ (e : Bool). bit (plus_from e ks r.1.0) i) (sym (zero_bit r.0.0 r.0.1)) ∙ r.2)

-- a known address: the sum admits the address plus the constant and nothing else
pub sum-known : (ks : List Bool) (a : List Pair) → T (legals a) → T (unique a) → (x : List Bool) → T (admits a x) →
    (z : List Bool) → admits (sum ks a) z ≡ same z (plus ks x)
sum-known ks a la u x t z =
    bool_same (admits (sum ks a) z) (same z (plus ks x))
    (λ s. one_place (sum ks a) (subst T (sym (sum-unique ks a la)) u) z (plus ks x) s (sum-sound ks a x t))
    (λ s. subst (λ (y : List Bool). T (admits (sum ks a) y)) (sym (same_eq z (plus ks x) s)) (sum-sound ks a x t))

-- addition of lists of bits is addition of numbers, modulo 2^n
out : Bool → List Bool → List Bool → Bool
out c ks [] = c
out c ks (b ∷ x) = out (carried (first ks) b c) (rest ks) x

number_fits : (x : List Bool) → number x < 2 ^ length x
number_fits [] = omega arith
number_fits (b ∷ x) = rw (pow-succ' 2 (length x)) (go b (number_fits x))
  where
    go : (b : Bool) → number x < 2 ^ length x → cond b 1 0 + 2 * number x < 2 * 2 ^ length x
    go true h = omega arith
    go false h = omega arith

one-digit : (k b c : Bool) → cond (digit k b c) 1 0 + 2 * cond (carried k b c) 1 0 ≡ cond b 1 0 + cond k 1 0 + cond c 1 0
one-digit true true true = refl
one-digit true true false = refl
one-digit true false true = refl
one-digit true false false = refl
one-digit false true true = refl
one-digit false true false = refl
one-digit false false true = refl
one-digit false false false = refl

doubled : (o : Bool) (m : ℕ) → cond o (2 * m) 0 ≡ 2 * cond o m 0
doubled true m = refl
doubled false m = refl

plus_from-number : (c : Bool) (ks x : List Bool) → length ks ≡ length x →
    number (plus_from c ks x) + cond (out c ks x) (2 ^ length x) 0 ≡ number x + number ks + cond c 1 0
unfolding out
plus_from-number true [] [] e = refl
plus_from-number false [] [] e = refl
plus_from-number c [] (b ∷ x) e = absurd (omega arith)
plus_from-number c (k ∷ ks) [] e = absurd (omega arith)
plus_from-number c (k ∷ ks) (b ∷ x) e =
    let ih = plus_from-number (carried k b c) ks x (omega arith) in
    rw (pow-succ' 2 (length x), doubled (out (carried k b c) ks x) (2 ^ length x)) (omega (arith, ih, one-digit k b c))

pub plus-number : (ks x : List Bool) → length ks ≡ length x → number (plus ks x) ≡ (number x + number ks) % 2 ^ length x
plus-number ks x e = go (out false ks x) (plus_from-number false ks x e)
  where
    small : number (plus ks x) < 2 ^ length x
    small = subst (λ (n : ℕ). number (plus ks x) < 2 ^ n) (plus_from-length false ks x) (number_fits (plus ks x))

    go : (o : Bool) → number (plus ks x) + cond o (2 ^ length x) 0 ≡ number x + number ks + 0 → number (plus ks x) ≡ (number x + number ks) % 2 ^ length x
    go true q =
        let r : number x + number ks ≡ number (plus ks x) + 2 ^ length x = omega arith in
        rw r (sym (add-mod_right (number (plus ks x)) (2 ^ length x) ∙ mod-eq_of_lt small))
    go false q =
        let r : number x + number ks ≡ number (plus ks x) = omega arith in
        rw r (sym (mod-eq_of_lt small))

pub bits_of-length : (n j : ℕ) → length (bits_of n j) ≡ n
bits_of-length zero j = refl
bits_of-length (suc n) j = ap suc (bits_of-length n (j / 2))

lowest : (j : ℕ) → cond (eqb (j % 2) 1) 1 0 ≡ j % 2
lowest j = go (eqb (j % 2) 1) refl
  where
    go : (b : Bool) → eqb (j % 2) 1 ≡ b → cond b 1 0 ≡ j % 2
    go true e = sym (eqb-true (j % 2) 1 e)
    go false e = omega (arith, eqb-false (j % 2) 1 e)

pub bits_of-number : (n j : ℕ) → number (bits_of n j) ≡ j % 2 ^ n
bits_of-number zero j = omega arith
bits_of-number (suc n) j = rw (lowest j, bits_of-number n (j / 2)) (rest_of (mod-mul j (pow_pos n) (zero-lt-suc 1)) ∙ sym (ap (λ (x : ℕ). j % x) (pow-suc 2 n)))
  where
    rest_of : j % (2 ^ n * 2) ≡ (j / 2 % 2 ^ n) * 2 + j % 2 → j % 2 + 2 * (j / 2 % 2 ^ n) ≡ j % (2 ^ n * 2)
    rest_of e = omega arith

-- so the address and the constant are added as numbers
pub plus-adds : (n k : ℕ) (x : List Bool) → length x ≡ n → number (plus (bits_of n k) x) ≡ (number x + k) % 2 ^ n
plus-adds n k x e =
    plus-number (bits_of n k) x (bits_of-length n k ∙ sym e)
    ∙ ap (λ (l : ℕ). (number x + number (bits_of n k)) % 2 ^ l) e
    ∙ ap (λ (l : ℕ). (number x + l) % 2 ^ n) (bits_of-number n k)
    ∙ add-mod-mod (number x) k (2 ^ n)

-- bits that stand for the same number are the same
number_same : (x y : List Bool) → length x ≡ length y → number x ≡ number y → x ≡ y
number_same [] [] l e = refl
number_same [] (b ∷ y) l e = absurd (omega arith)
number_same (a ∷ x) [] l e = absurd (omega arith)
number_same (true ∷ x) (true ∷ y) l e = ap {B = List Bool} (λ z. true ∷ z) (number_same x y (omega arith) (omega arith))
number_same (false ∷ x) (false ∷ y) l e = ap {B = List Bool} (λ z. false ∷ z) (number_same x y (omega arith) (omega arith))
number_same (true ∷ x) (false ∷ y) l e = absurd (omega arith)
number_same (false ∷ x) (true ∷ y) l e = absurd (omega arith)

-- what the constants are, the sums tell
pub plus_cancel : (ks ls x : List Bool) → length ks ≡ length x → length ls ≡ length x → plus ks x ≡ plus ls x → number ks ≡ number ls
plus_cancel ks ls x ek el e =
    go (out false ks x) (out false ls x) (plus_from-number false ks x ek) (plus_from-number false ls x el) (ap number e)
    (subst (λ (n : ℕ). number ks < 2 ^ n) ek (number_fits ks)) (subst (λ (n : ℕ). number ls < 2 ^ n) el (number_fits ls))
  where
    go : (o p : Bool) → number (plus ks x) + cond o (2 ^ length x) 0 ≡ number x + number ks + 0 → number (plus ls x) + cond p (2 ^ length x) 0 ≡ number x + number ls + 0 →
        number (plus ks x) ≡ number (plus ls x) → number ks < 2 ^ length x → number ls < 2 ^ length x → number ks ≡ number ls
    go true true q r h a b = omega arith
    go true false q r h a b = omega arith
    go false true q r h a b = omega arith
    go false false q r h a b = omega arith

add_zero : (p : Pair) → T (legal p) → digit_pair false p (only false) ≡ p
add_zero p t = go p.h p.l t
  where
    go : (h l : Bool) → T (h || l) → digit_pair false (record { h = h; l = l }) (only false) ≡ record { h = h; l = l }
    go true true t = refl
    go true false t = refl
    go false true t = refl
    go false false t = absurd t

no_carry : (p : Pair) → carried_pair false p (only false) ≡ (only false)
no_carry p = go p.h p.l
  where
    go : (h l : Bool) → carried_pair false (record { h = h; l = l }) (only false) ≡ (only false)
    go true true = refl
    go true false = refl
    go false true = refl
    go false false = refl

pub sum_zero : (a : List Pair) → T (legals a) → sum (bits_of (length a) 0) a ≡ a
sum_zero [] t = refl
sum_zero (p ∷ a) t =
    rw (add_zero p (and_left (legal p) (legals a) t), no_carry p) (ap {B = List Pair} (λ z. p ∷ z) (sum_zero a (and_right (legal p) (legals a) t)))

pub plus_zero : (x : List Bool) → plus (bits_of (length x) 0) x ≡ x
plus_zero [] = refl
plus_zero (true ∷ x) = ap {B = List Bool} (λ z. true ∷ z) (plus_zero x)
plus_zero (false ∷ x) = ap {B = List Bool} (λ z. false ∷ z) (plus_zero x)

-- The promise
pub each_bit : EachBit
each_bit = record {
  digits = digit-gives;
  carries = carry-gives;
  bits = λ ks a la i h b. (
    sum-exact ks a la i h b,
    λ r. subst (λ (v : Bool). T (admit (at (sum ks a) i) v)) r.1 (admits_at (sum ks a) (plus ks r.0.0) (sum-sound ks a r.0.0 r.0.1) i (rw (sum_from-length (only false) ks a) h)),
  );
}

pub known-sum : KnownSum
unfolding KnownSum
known-sum k a la u x y = (to, from)
  where
    z : List Bool
    z = plus (bits_of (length a) k) x.0

    sized : length x.0 ≡ length a
    sized = admits-length a x.0 x.1

    is : admits (sum (bits_of (length a) k) a) y ≡ same y z
    is = sum-known (bits_of (length a) k) a la u x.0 x.1 y

    long : length z ≡ length a
    long = plus_from-length false (bits_of (length a) k) x.0 ∙ sized

    told : number z ≡ (number x.0 + k) % 2 ^ length a
    told = plus-adds (length a) k x.0 sized

    to : T (admits (sum (bits_of (length a) k) a) y) → (length y ≡ length a) × (number y ≡ (number x.0 + k) % 2 ^ length a)
    to t = let e = same_eq y z (subst T is t) in (ap length e ∙ long, ap number e ∙ told)

    from : (length y ≡ length a) × (number y ≡ (number x.0 + k) % 2 ^ length a) → T (admits (sum (bits_of (length a) k) a) y)
    from q = let e = number_same y z (q.0 ∙ sym long) (q.1 ∙ sym told) in subst T (sym is) (rw e (eq→T (same_refl z)))

pub unique-sum : UniqueSum
unfolding UniqueSum
unique-sum = sum-unique
