-- Bits, addresses and words that are sharper admit less, and where they had no X they stay.
use mathlib.Core.Path.{◌≡◌, refl, sym, subst}
use mathlib.Core.Bool.{Bool, true, false, ◌||◌}
use mathlib.Core.List.{List, [], ◌∷◌}
use Prim.Native.Nat.{ℕ, zero, suc}
use lib.Dec.{T}
use Rattle.semantics.specs.Pairs.{Pair, legal, known, admit, admits, unique, at}
use Rattle.semantics.proofs.PairLaws.{and_left, and_right, and_both}
use Rattle.semantics.proofs.ExactLaws.{X-admits}
use Rattle.sharper.specs.Sharper.{Sharper, alike, settled, AllSharper}
use Rattle.sharper.specs.Narrower.{Narrower, SharperIsNarrower}

pub sharper_narrower : {p q : Pair} → Sharper p q → Narrower p q
sharper_narrower alike b t = t
sharper_narrower (settled c) b t = X-admits b

narrower-sharper : (h l h' l' : Bool) → T (h' || l') → (T h' → T h) → (T l' → T l) → Sharper (record { h = h; l = l }) (record { h = h'; l = l' })
narrower-sharper true true true true t f g = alike
narrower-sharper true true true false t f g = settled true
narrower-sharper true true false true t f g = settled false
narrower-sharper h l false false t f g = absurd t
narrower-sharper true false true false t f g = alike
narrower-sharper false true false true t f g = alike
narrower-sharper h false false true t f g = absurd (g tt)
narrower-sharper h false true true t f g = absurd (g tt)
narrower-sharper false l true false t f g = absurd (f tt)
narrower-sharper false true true true t f g = absurd (f tt)

pub sharper_is_narrower : SharperIsNarrower
unfolding SharperIsNarrower
sharper_is_narrower p q t = (λ s. sharper_narrower s, λ f. narrower-sharper p.h p.l q.h q.l t (f true) (f false))

-- an address and a word
pub sharper_at : (ps qs : List Pair) → AllSharper ps qs → (i : ℕ) → Narrower (at ps i) (at qs i)
sharper_at [] [] f i b t = t
sharper_at [] (q ∷ qs) f i b t = absurd f
sharper_at (p ∷ ps) [] f i b t = absurd f
sharper_at (p ∷ ps) (q ∷ qs) f zero b t = sharper_narrower f.0 b t
sharper_at (p ∷ ps) (q ∷ qs) f (suc i) b t = sharper_at ps qs f.1 i b t

pub sharper-admits : (ps qs : List Pair) → AllSharper ps qs → (x : List Bool) → T (admits qs x) → T (admits ps x)
sharper-admits [] [] f x t = t
sharper-admits [] (q ∷ qs) f x t = absurd f
sharper-admits (p ∷ ps) [] f x t = absurd f
sharper-admits (p ∷ ps) (q ∷ qs) f [] t = t
sharper-admits (p ∷ ps) (q ∷ qs) f (b ∷ x) t =
    and_both (admit p b) (admits ps x) (sharper_narrower f.0 b (and_left (admit q b) (admits qs x) t)) (sharper-admits ps qs f.1 x (and_right (admit q b) (admits qs x) t))

-- a bit that is no X stays, and so does an address with no X
known-stays : {p q : Pair} → Sharper p q → T (known p) → q ≡ p
known-stays alike u = refl
known-stays (settled b) u = absurd u

pub unique-stays : (a a' : List Pair) → AllSharper a a' → T (unique a) → T (unique a')
unique-stays [] [] f u = tt
unique-stays [] (q ∷ qs) f u = absurd f
unique-stays (p ∷ ps) [] f u = absurd f
unique-stays (p ∷ ps) (q ∷ qs) f u =
    and_both (known q) (unique qs) (subst (λ (r : Pair). T (known r)) (sym (known-stays f.0 (and_left (known p) (unique ps) u))) (and_left (known p) (unique ps) u)) (unique-stays ps qs f.1 (and_right (known p) (unique ps) u))

pub place-stays : (a a' : List Pair) → AllSharper a a' → (x : List Bool) → T (admits a x) → T (unique a) → T (admits a' x)
place-stays [] [] f x s u = s
place-stays [] (q ∷ qs) f x s u = absurd f
place-stays (p ∷ ps) [] f x s u = absurd f
place-stays (p ∷ ps) (q ∷ qs) f [] s u = s
place-stays (p ∷ ps) (q ∷ qs) f (b ∷ x) s u =
    and_both (admit q b) (admits qs x)
    (subst (λ (r : Pair). T (admit r b)) (sym (known-stays f.0 (and_left (known p) (unique ps) u))) (and_left (admit p b) (admits ps x) s))
    (place-stays ps qs f.1 x (and_right (admit p b) (admits ps x) s) (and_right (known p) (unique ps) u))

-- what is legal sharpened was legal
pub legal-before : {p q : Pair} → Sharper p q → T (legal q) → T (legal p)
legal-before alike t = t
legal-before (settled b) t = tt
