-- Halves of a word of pairs, "h before l", and what a look makes of them.
use mathlib.Core.Path.{◌≡◌, refl, sym, ap, ◌∙◌}
use mathlib.Core.Bool.{Bool, true, false, ◌&&◌, ◌||◌, not, cond}
use mathlib.Core.List.{List, [], ◌∷◌, ◌++◌}
use Prim.Native.Nat.{ℕ, zero, suc, ◌+◌, ◌*◌, ◌≤◌, ◌<◌}
use native.Mathlib.Omega.{arith}
use lib.ListN.{length, get_or, take}
use lib.Seq.{take-suc}
use Rattle.semantics.specs.Pairs.{Pair, X, admit, admits, known, unique, at}
use Rattle.semantics.specs.Published.{Entry, union, over, scan, cell, anywhere, look, holding, inside}
use Rattle.semantics.proofs.PairLaws.{anywhere-same}
use Rattle.model.proofs.MeansLaws.{placed, place, any_place}

-- half h of a word: h of bit h / 2, or l
abbrev pub half_of : ℕ → (ℕ → Pair) → Bool
half_of zero f = (f zero).h
half_of (suc zero) f = (f zero).l
half_of (suc (suc h)) f = half_of h (λ i. f (suc i))

pub half_even : (i : ℕ) (f : ℕ → Pair) → half_of (2 * i) f ≡ (f i).h
half_even zero f = refl
half_even (suc i) f = let e : 2 * suc i ≡ suc (suc (2 * i)) = omega arith in ap (λ (h : ℕ). half_of h f) e ∙ half_even i (λ k. f (suc k))

pub half_odd : (i : ℕ) (f : ℕ → Pair) → half_of (2 * i + 1) f ≡ (f i).l
half_odd zero f = refl
half_odd (suc i) f = let e : 2 * suc i + 1 ≡ suc (suc (2 * i + 1)) = omega arith in ap (λ (h : ℕ). half_of h f) e ∙ half_odd i (λ k. f (suc k))

pub half-same : (h : ℕ) (f g : ℕ → Pair) → ((i : ℕ) → f i ≡ g i) → half_of h f ≡ half_of h g
half-same zero f g e = ap (λ (p : Pair). p.h) (e zero)
half-same (suc zero) f g e = ap (λ (p : Pair). p.l) (e zero)
half-same (suc (suc h)) f g e = half-same h (λ i. f (suc i)) (λ i. g (suc i)) (λ i. e (suc i))

half-union : (h : ℕ) (f g : ℕ → Pair) → (half_of h f || half_of h g) ≡ half_of h (λ i. union (f i) (g i))
half-union zero f g = refl
half-union (suc zero) f g = refl
half-union (suc (suc h)) f g = half-union h (λ i. f (suc i)) (λ i. g (suc i))

pub half-X : (h : ℕ) → half_of h (λ i. X) ≡ true
half-X zero = refl
half-X (suc zero) = refl
half-X (suc (suc h)) = half-X h

pub half_over : (a b : Bool) (h : ℕ) (e r : ℕ → Pair) →
    cond a (half_of h e) (cond b (half_of h e || half_of h r) (half_of h r)) ≡ half_of h (λ i. cond a (e i) (cond b (union (e i) (r i)) (r i)))
half_over true b h e r = refl
half_over false true h e r = half-union h e r
half_over false false h e r = refl

-- S = And(e.h, e.l), then t = Ite(S, r, e.h), then Ite(t, r, p)
abbrev held_half : Pair → Bool → Bool → Bool
held_half e r p = cond (cond (e.h && e.l) r e.h) r p

hold-built : (e r p : Pair) → holding e r p ≡ record { h = held_half e r.h p.h; l = held_half e r.l p.l }
hold-built e r p = go e.h e.l r.h r.l
  where
    go : (eh el rh rl : Bool) → holding (record { h = eh; l = el }) (record { h = rh; l = rl }) p
        ≡ record { h = held_half (record { h = eh; l = el }) rh p.h; l = held_half (record { h = eh; l = el }) rl p.l }
    go false el rh rl = refl
    go true false rh rl = refl
    go true true false false = refl
    go true true false true = refl
    go true true true false = refl
    go true true true true = refl

pub half-hold : (e : Pair) (h : ℕ) (r p : ℕ → Pair) → cond (cond (e.h && e.l) (half_of h r) e.h) (half_of h r) (half_of h p) ≡ half_of h (λ i. holding e (r i) (p i))
half-hold e zero r p = sym (ap (λ (x : Pair). x.h) (hold-built e (r zero) (p zero)))
half-hold e (suc zero) r p = sym (ap (λ (x : Pair). x.l) (hold-built e (r zero) (p zero)))
half-hold e (suc (suc h)) r p = half-hold e h (λ i. r (suc i)) (λ i. p (suc i))

-- the scan as it is built: the query's own condition stands in each match
abbrev pub over_in : Bool → Entry → List Bool → ℕ → Pair → Pair
over_in inn e x i r =
    let m = inn && admits e.address x in
    cond (m && e.hard) (at e.word i) (cond (m && e.soft) (union (at e.word i) r) r)

abbrev pub scan_in : Bool → List Entry → List Bool → ℕ → Pair → Pair
scan_in inn [] x i r = r
scan_in inn (e ∷ es) x i r = scan_in inn es x i (over_in inn e x i r)

pub scan_in_snoc : (inn : Bool) (es : List Entry) (e : Entry) (x : List Bool) (i : ℕ) (r : Pair) → scan_in inn (es ++ (e ∷ [])) x i r ≡ over_in inn e x i (scan_in inn es x i r)
scan_in_snoc inn [] e x i r = refl
scan_in_snoc inn (o ∷ es) e x i r = scan_in_snoc inn es e x i (over_in inn o x i r)

scan_in_true : (es : List Entry) (x : List Bool) (i : ℕ) (r : Pair) → scan_in true es x i r ≡ scan es x i r
scan_in_true [] x i r = refl
scan_in_true (e ∷ es) x i r = scan_in_true es x i (over_in true e x i r)

in-scan : (h : ℕ) (b : Bool) (es : List Entry) (x : List Bool) → (b && half_of h (λ i. scan_in b es x i X)) ≡ (b && half_of h (λ i. cell es x i))
in-scan h true es x = half-same h (λ i. scan_in true es x i X) (λ i. cell es x i) (λ i. scan_in_true es x i X)
in-scan h false es x = refl

half-look : (n : ℕ) (a : List Pair) (c : List Bool → ℕ → Pair) (h : ℕ) →
    anywhere n (λ y. admits a y && half_of h (c y)) ≡ half_of h (λ i. record { h = anywhere n (λ y. admits a y && (c y i).h); l = anywhere n (λ y. admits a y && (c y i).l) })
half-look n a c zero = refl
half-look n a c (suc zero) = refl
half-look n a c (suc (suc h)) = half-look n a (λ y i. c y (suc i)) h

-- what is built for one half of a look is that half of the look
pub look_is : (n : ℕ) → n ≤ 8 → (es : List Entry) (a : List Pair) (h : ℕ) (τ : ℕ → Bool) →
    anywhere 8 (λ x. admits a (place n (placed x τ)) && half_of h (λ i. scan_in (admits a (place n (placed x τ))) es (place n (placed x τ)) i X)) ≡ half_of h (λ i. look n es a i)
look_is n l es a h τ =
    anywhere-same 8 _ (λ x. admits a (place n (placed x τ)) && half_of h (λ i. cell es (place n (placed x τ)) i))
    (λ x e. in-scan h (admits a (place n (placed x τ))) es (place n (placed x τ)))
    ∙ any_place n l τ (λ y. admits a y && half_of h (λ i. cell es y i))
    ∙ half-look n a (λ y i. cell es y i) h

-- the tests of a list of pairs, one more at its end
and-nested : (a b c : Bool) → (a && (b && c)) ≡ (a && b && c)
and-nested true b c = refl
and-nested false b c = refl

and_true' : (a : Bool) → a ≡ (a && true)
and_true' true = refl
and_true' false = refl

unique_snoc : (ps : List Pair) (p : Pair) → unique (ps ++ (p ∷ [])) ≡ (unique ps && known p)
unique_snoc [] p = sym (and_true' (known p))
unique_snoc (q ∷ ps) p = ap (λ (b : Bool). known q && b) (unique_snoc ps p) ∙ and-nested (known q) (unique ps) (known p)

pub unique-more : (ps : List Pair) (i : ℕ) → i < length ps → unique (take (suc i) ps) ≡ (unique (take i ps) && known (at ps i))
unique-more ps i h = ap unique (take-suc ps i X h) ∙ unique_snoc (take i ps) (at ps i)

admits_snoc : (ps : List Pair) (p : Pair) (x : List Bool) (b : Bool) → length ps ≡ length x → admits (ps ++ (p ∷ [])) (x ++ (b ∷ [])) ≡ (admits ps x && admit p b)
admits_snoc [] p [] b e = sym (and_true' (admit p b))
admits_snoc [] p (c ∷ x) b e = absurd (omega arith)
admits_snoc (q ∷ ps) p [] b e = absurd (omega arith)
admits_snoc (q ∷ ps) p (c ∷ x) b e = ap (λ (t : Bool). admit q c && t) (admits_snoc ps p x b (omega arith)) ∙ and-nested (admit q c) (admits ps x) (admit p b)

pub admits-more : (ps : List Pair) (i : ℕ) (x : List Bool) (b : Bool) → i < length ps → length (take i ps) ≡ length x → admits (take (suc i) ps) (x ++ (b ∷ [])) ≡ (admits (take i ps) x && admit (at ps i) b)
admits-more ps i x b h e = ap (λ (l : List Pair). admits l (x ++ (b ∷ []))) (take-suc ps i X h) ∙ admits_snoc (take i ps) (at ps i) x b e

-- inside for each half, one more at its end
abbrev pub inside_halves : ℕ → (ℕ → Pair) → (ℕ → Pair) → Bool
inside_halves zero r d = true
inside_halves (suc k) r d = inside_halves k r d && (not (half_of k r) || half_of k d)

halves-first : (k : ℕ) (r d : ℕ → Pair) →
    inside_halves (suc (suc k)) r d ≡ ((not (r zero).h || (d zero).h) && (not (r zero).l || (d zero).l) && inside_halves k (λ i. r (suc i)) (λ i. d (suc i)))
halves-first zero r d = and_true' ((not (r zero).h || (d zero).h) && (not (r zero).l || (d zero).l))
halves-first (suc k) r d =
    ap (λ (b : Bool). b && (not (half_of k (λ i. r (suc i))) || half_of k (λ i. d (suc i)))) (halves-first k r d)
    ∙ sym (and-nested ((not (r zero).h || (d zero).h) && (not (r zero).l || (d zero).l)) (inside_halves k (λ i. r (suc i)) (λ i. d (suc i))) (not (half_of k (λ i. r (suc i))) || half_of k (λ i. d (suc i))))

pub inside_halves_lem : (w : ℕ) (r d : ℕ → Pair) → inside_halves (2 * w) r d ≡ inside w r d
inside_halves_lem zero r d = refl
inside_halves_lem (suc w) r d =
    let e : 2 * suc w ≡ suc (suc (2 * w)) = omega arith in
    ap (λ (k : ℕ). inside_halves k r d) e ∙ halves-first (2 * w) r d
    ∙ ap (λ (b : Bool). (not (r zero).h || (d zero).h) && (not (r zero).l || (d zero).l) && b) (inside_halves_lem w (λ i. r (suc i)) (λ i. d (suc i)))
