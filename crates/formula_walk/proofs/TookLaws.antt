-- A token that was taken: its number is good, it may be opened, and less of the text is left.
use mathlib.Core.Path.{◌≡◌, refl, sym, ap, ◌∙◌}
use mathlib.Core.Bool.{Bool, true, false, cond}
use mathlib.Core.List.{List, [], ◌∷◌}
use Prim.Native.Nat.{ℕ, zero, suc, ◌<◌, ◌≤◌}
use native.Mathlib.Omega.{arith}
use lib.Dec.{eqb}
use lib.ListN.{length, get_or, drop, length-drop}
use lib.Seq.{drop-cons}
use Rattle.formulas.specs.Language.{digit, joined}
use Rattle.formulas.specs.Reading.{spaces, byte, digits, numbered}
use Rattle.formulas.proofs.CompleteLaws.{spaces-length}
use Rattle.std.proofs.Common.{Ok, Err}
use Rattle.refusals.specs.Refusal.{number}
use Rattle.tokens.specs.declared.Token.{Token}
use Rattle.tokens.specs.declared.Fault.{Fault}
use Rattle.tokens.specs.Contract.{starts, Took, took, stops, TookAt, number_token, opens, opener_token, arrow_token, then_took, when_token}
use Rattle.tokens.proofs.TokenLaws.{starts_in, starts_here}

-- the token at a place, in the reader's terms
pub took_is : {text : List ℕ} {t : Token} {x : Took} → TookAt text (Ok t) x → x ≡ took t.number (drop t.at text)
took_is T = sym T.is

pub stops_is : {text : List ℕ} {f : Fault} {x : Took} → TookAt text (Err f) x → x ≡ stops (number f.refusal) (drop f.at text)
stops_is T = sym T.is

-- the byte here
pub byte_is : (text : List ℕ) (at c : ℕ) → starts c (drop at text) ≡ true → (get_or text at 0 ≡ c) × (drop at text ≡ c ∷ drop (suc at) text)
byte_is text at c e =
    let h = starts_here text at c e in
    let k = drop-cons text at 0 (starts_in text at c e) in
    (ap (λ (s : List ℕ). get_or s 0 0) (sym k ∙ h), h)

-- What holds of all that a test may give, with less of the text, holds of what it gives.
byte_all : {A : Type 0} (P : A → Type 0) (c : ℕ) (s : List ℕ) {f : List ℕ → A} {a : A} → ((x : List ℕ) → length x ≤ length s → P (f x)) → P a → P (byte c s f a)
byte_all P c [] F e = e
byte_all P c (x ∷ s) {f} {a} F e = go (eqb x c)
  where
    go : (t : Bool) → P (cond t (f s) a)
    go true = F s (omega arith)
    go false = e

digits_all : {A : Type 0} (P : A → Type 0) (a : ℕ) (s : List ℕ) {f : ℕ → List ℕ → A} → ((n : ℕ) (y : List ℕ) → length y ≤ length s → P (f n y)) → P (digits a s f)
digits_all P a [] F = F a [] (omega arith)
digits_all P a (d ∷ s) {f} F = go (digit d) (digits_all P (joined a d) s (λ n y h. F n y (omega (arith, h))))
  where
    go : (t : Bool) → P (digits (joined a d) s f) → P (cond t (digits (joined a d) s f) (f a (d ∷ s)))
    go true p = p
    go false p = F a (d ∷ s) (omega arith)

numbered_all : {A : Type 0} (P : A → Type 0) (s : List ℕ) {f : ℕ → List ℕ → A} {a : A} → ((n : ℕ) (y : List ℕ) → length y ≤ length s → P (f n y)) → P a → P (numbered s f a)
numbered_all P [] F e = e
numbered_all P (d ∷ s) {f} {a} F e = go (digit d)
  where
    go : (t : Bool) → P (cond t (digits (joined 0 d) s f) a)
    go true = digits_all P (joined 0 d) s (λ n y h. F n y (omega (arith, h)))
    go false = e

-- what holds of a token, if it was taken
abbrev pub Taken : (ℕ → List ℕ → Type 0) → Took → Type 0
Taken P (took n r) = P n r
Taken P (stops k r) = Unit {0}

-- "`m` number"
pub number-taken : (good : ℕ → Bool) (c : ℕ) (s : List ℕ) → Taken (λ n r. (good n ≡ true) × (length r ≤ length s)) (number_token good c s)
number-taken good c s = numbered_all (Taken (λ n r. (good n ≡ true) × (length r ≤ length s))) s (λ n y h. go n y h (good n) refl) tt
  where
    go : (n : ℕ) (y : List ℕ) → length y ≤ length s → (b : Bool) → good n ≡ b → Taken (λ n r. (good n ≡ true) × (length r ≤ length s)) (cond b (took n (spaces y)) (stops 15 (c ∷ s)))
    go n y h true e = (e, omega (arith, h, spaces-length y))
    go n y h false e = tt

-- "`N`", "`(`"
pub opener-taken : (d c : ℕ) (s : List ℕ) → Taken (λ n r. (0 < d) × (length r ≤ length s)) (opener_token d c s)
opener-taken zero c s = tt
opener-taken (suc d) c s = (omega arith, spaces-length s)

arrow-taken : (d m : ℕ) (s : List ℕ) → Taken (λ n r. (n ≡ m) × (0 < d) × (length r ≤ length s)) (arrow_token d m s)
arrow-taken d m s = byte_all P 45 s (λ x h. byte_all P 62 x (λ y k. go d y (omega (arith, h, k))) tt) tt
  where
    P : Took → Type 0
    P = Taken (λ n r. (n ≡ m) × (0 < d) × (length r ≤ length s))

    go : (e : ℕ) (y : List ℕ) → length y ≤ length s → Taken (λ n r. (n ≡ m) × (0 < e) × (length r ≤ length s)) (opens e (45 ∷ 62 ∷ y) (took m (spaces y)))
    go zero y h = tt
    go (suc e) y h = (refl, omega arith, omega (arith, h, spaces-length y))

-- "`b` number `->`"
pub when-taken : (good : ℕ → Bool) (d c : ℕ) (s : List ℕ) → Taken (λ n r. (good n ≡ true) × (0 < d) × (length r ≤ length s)) (when_token good d c s)
when-taken good d c s = go (number_token good c s) (number-taken good c s)
  where
    then : (m : ℕ) (r : List ℕ) → good m ≡ true → length r ≤ length s → (x : Took) → Taken (λ n y. (n ≡ m) × (0 < d) × (length y ≤ length r)) x → Taken (λ n r. (good n ≡ true) × (0 < d) × (length r ≤ length s)) x
    then m r e h (took n y) p = (ap good p.0 ∙ e, p.1, omega (arith, h, p.2))
    then m r e h (stops k y) p = tt

    go : (x : Took) → Taken (λ n r. (good n ≡ true) × (length r ≤ length s)) x → Taken (λ n r. (good n ≡ true) × (0 < d) × (length r ≤ length s)) (then_took x (arrow_token d))
    go (took m r) p = then m r p.0 p.1 (arrow_token d m r) (arrow-taken d m r)
    go (stops k r) p = tt

-- less of the text is left: the place is behind
pub later-place : (text : List ℕ) (at r : ℕ) → at < length text → r ≤ length text → length (drop r text) ≤ length (drop (suc at) text) → at < r
later-place text at r h k l = omega (arith, length-drop r text, length-drop (suc at) text, l)
