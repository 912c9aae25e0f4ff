-- The published meaning, pair by pair: an entry over what a location held, looks, answers over what a port held, checks.
use mathlib.Core.Path.{◌≡◌, refl, sym, ap, subst}
use mathlib.Core.Bool.{Bool, true, false, ◌&&◌, ◌||◌, not, true≢false}
use mathlib.Core.List.{List}
use Prim.Native.Nat.{ℕ, ◌<◌}
use lib.Dec.{T}
use lib.ListN.{length}
use Rattle.semantics.specs.declared.Sizes.{Sizes}
use Rattle.semantics.specs.Sizes.{cell_bits, data_bits}
use Rattle.semantics.specs.Pairs.{Pair, legal, admit, admits, unique, at}
use Rattle.semantics.specs.Published.{Entry, entry, over, look, holding, answer, check_holds}
use Rattle.semantics.proofs.PairLaws.{and_left, and_right, and_both, or_left, or_right, either, look_to, look-from, inside_to, inside-from, over_is}
use Rattle.semantics.proofs.KeptLaws.{over_off}
use Rattle.sharper.specs.Sharper.{Sharper, alike, settled, AllSharper}
use Rattle.sharper.specs.Narrower.{Narrower, NarrowerCells, PublishedNarrower}
use Rattle.sharper.proofs.PairLaws.{sharper_narrower, sharper_at, sharper-admits, unique-stays, place-stays, legal-before}

-- What a location may hold after a write: its data where it may be made there, and what was there where it may pass it by (`over-is`)
abbrev hits : Pair → List Pair → List Bool → Bool
hits c a x = admits a x && c.h

abbrev passes : Pair → List Pair → List Bool → Bool
passes c a x = not (admits a x) || not (unique a) || c.l

abbrev Holds : Pair → List Pair → List Pair → List Bool → ℕ → Pair → Bool → Type 0
Holds c a d x i r b = T (hits c a x && admit (at d i) b || passes c a x && admit r b)

passes-before : (A U L A' U' L' : Bool) → (T A → T U → T A') → (T U → T U') → (T L' → T L) → T (not A' || not U' || L') → T (not A || not U || L)
passes-before false U L A' U' L' f g h t = tt
passes-before true false L A' U' L' f g h t = tt
passes-before true true L true true L' f g h t = h t
passes-before true true L false U' L' f g h t = absurd (f tt tt)
passes-before true true L true false L' f g h t = absurd (g tt)

-- the pair that is neither
abbrev neither : Pair
neither = record { h = false; l = false }

-- it was so before
neither-before : {c : Pair} → Sharper c neither → neither ≡ c
neither-before {c} f = go c neither refl f
  where
    go : (c q : Pair) → q ≡ neither → Sharper c q → neither ≡ c
    go c q e alike = sym e
    go c q e (settled true) = absurd (true≢false (ap (λ (p : Pair). p.h) e))
    go c q e (settled false) = absurd (true≢false (ap (λ (p : Pair). p.l) e))

module _ (c c' : Pair) (a a' d d' : List Pair) (fc : Sharper c c') (fa : AllSharper a a') (fd : AllSharper d d') where
  holds-before : (x : List Bool) (i : ℕ) (r r' : Pair) → Narrower r r' → (b : Bool) → Holds c' a' d' x i r' b → Holds c a d x i r b
  holds-before x i r r' fr b t = either (hits c' a' x && admit (at d' i) b) (passes c' a' x && admit r' b) t
      (λ s.
      let z = and_left (hits c' a' x) (admit (at d' i) b) s in
      or_left (hits c a x && admit (at d i) b) (passes c a x && admit r b)
      (and_both (hits c a x) (admit (at d i) b)
      (and_both (admits a x) c.h (sharper-admits a a' fa x (and_left (admits a' x) c'.h z)) (sharper_narrower fc true (and_right (admits a' x) c'.h z)))
      (sharper_at d d' fd i b (and_right (hits c' a' x) (admit (at d' i) b) s))))
      (λ s.
      or_right (hits c a x && admit (at d i) b) (passes c a x && admit r b)
      (and_both (passes c a x) (admit r b)
      (passes-before (admits a x) (unique a) c.l (admits a' x) (unique a') c'.l
      (place-stays a a' fa x) (unique-stays a a' fa) (sharper_narrower fc false) (and_left (passes c' a' x) (admit r' b) s))
      (fr b (and_right (passes c' a' x) (admit r' b) s))))

  legal_narrower : T (legal c') → (x : List Bool) (i : ℕ) (r r' : Pair) → Narrower r r' → Narrower (over (entry c a d) x i r) (over (entry c' a' d') x i r')
  legal_narrower lc x i r r' fr b t =
      subst T (sym (over_is c (legal-before fc lc) a d x i r b))
      (holds-before x i r r' fr b (subst T (over_is c' lc a' d' x i r' b) t))

-- an entry whose control is neither leaves what was there
neither_narrower : (a a' d d' : List Pair) (x : List Bool) (i : ℕ) (r r' : Pair) → Narrower r r' → Narrower (over (entry neither a d) x i r) (over (entry neither a' d') x i r')
neither_narrower a a' d d' x i r r' fr b t =
    subst (λ (p : Pair). T (admit p b)) (sym (over_off (admits a x) (unique a) (at d i) r))
    (fr b (subst (λ (p : Pair). T (admit p b)) (over_off (admits a' x) (unique a') (at d' i) r') t))

pub entry_narrower : (c c' : Pair) (a a' d d' : List Pair) → Sharper c c' → AllSharper a a' → AllSharper d d' → (x : List Bool) (i : ℕ) (r r' : Pair) → Narrower r r' → Narrower (over (entry c a d) x i r) (over (entry c' a' d') x i r')
entry_narrower c c' a a' d d' fc fa fd = go c'.h c'.l fc
  where
    go : (h l : Bool) → Sharper c (record { h = h; l = l }) → (x : List Bool) (i : ℕ) (r r' : Pair) → Narrower r r' → Narrower (over (entry c a d) x i r) (over (entry (record { h = h; l = l }) a' d') x i r')
    go true l f = legal_narrower c (record { h = true; l = l }) a a' d d' f fa fd tt
    go false true f = legal_narrower c (record { h = false; l = true }) a a' d d' f fa fd tt
    go false false f = subst (λ (q : Pair). (x : List Bool) (i : ℕ) (r r' : Pair) → Narrower r r' → Narrower (over (entry q a d) x i r) (over (entry neither a' d') x i r')) (neither-before f) (neither_narrower a a' d d')

pub look_narrower : (n w : ℕ) (es fs : List Entry) → NarrowerCells w es fs → (a a' : List Pair) → AllSharper a a' → length a ≡ n → (i : ℕ) → i < w → Narrower (look n es a i) (look n fs a' i)
look_narrower n w es fs f a a' fa na i h b t =
    let x = look_to n fs a' i b t in
    look-from n es a na (x.0.0, sharper-admits a a' fa x.0.0 x.0.1) i b (f x.0.0 i h b x.1)

-- A bit of a read: of an X enable it is of the look or of the port, and it stays one of them where the enable is settled
union_narrower : (h l h' l' k m k' m' : Bool) → (T h' → T h) → (T l' → T l) → (T k' → T k) → (T m' → T m) → (b : Bool)
    → T (admit (record { h = h' || k'; l = l' || m' }) b) → T (admit (record { h = h || k; l = l || m }) b)
union_narrower h l h' l' k m k' m' f g f' g' true t = either h' k' t (λ s. or_left h k (f s)) (λ s. or_right h k (f' s))
union_narrower h l h' l' k m k' m' f g f' g' false t = either l' m' t (λ s. or_left l m (g s)) (λ s. or_right l m (g' s))

union_left : (r p : Pair) (b : Bool) → T (admit r b) → T (admit (record { h = r.h || p.h; l = r.l || p.l }) b)
union_left r p true t = or_left r.h p.h t
union_left r p false t = or_left r.l p.l t

union_right : (r p : Pair) (b : Bool) → T (admit p b) → T (admit (record { h = r.h || p.h; l = r.l || p.l }) b)
union_right r p true t = or_right r.h p.h t
union_right r p false t = or_right r.l p.l t

pub holding_narrower : {e e' : Pair} → Sharper e e' → (r r' p p' : Pair) → Narrower r r' → Narrower p p' → Narrower (holding e r p) (holding e' r' p')
holding_narrower {e} alike r r' p p' fr fp b t = go e.h e.l t
  where
    go : (h l : Bool) → T (admit (holding (record { h = h; l = l }) r' p') b) → T (admit (holding (record { h = h; l = l }) r p) b)
    go true true t = union_narrower r.h r.l r'.h r'.l p.h p.l p'.h p'.l (fr true) (fr false) (fp true) (fp false) b t
    go true false t = fr b t
    go false l t = fp b t
holding_narrower (settled true) r r' p p' fr fp b t = union_left r p b (fr b t)
holding_narrower (settled false) r r' p p' fr fp b t = union_right r p b (fp b t)

pub answer_narrower : (z : Sizes) (es fs : List Entry) → NarrowerCells (cell_bits z) es fs → (p p' : ℕ → Pair) → ((i : ℕ) → i < data_bits z → Narrower (p i) (p' i))
    → (e e' : Pair) (a a' : List Pair) → Sharper e e' → AllSharper a a' → length a ≡ z.n → (i : ℕ) → i < data_bits z → Narrower (answer z es p e a i) (answer z fs p' e' a' i)
answer_narrower z es fs f p p' fp e e' a a' fe fa na i h = holding_narrower fe (look z.n es a i) (look z.n fs a' i) (p i) (p' i) (look_narrower z.n (cell_bits z) es fs f a a' fa na i h) (fp i h)

-- a word inside the check's data stays inside it
pub check_narrower : (z : Sizes) (es fs : List Entry) → NarrowerCells (cell_bits z) es fs → (b : Bool) (a a' d : List Pair) → AllSharper a a' → length a ≡ z.n → T (check_holds z es b a d) → T (check_holds z fs b a' d)
check_narrower z es fs f false a a' d fa na t = tt
check_narrower z es fs f true a a' d fa na t =
    inside-from (cell_bits z) (look z.n fs a') (at d) (λ i h b s. inside_to (cell_bits z) (look z.n es a) (at d) t i h b (look_narrower z.n (cell_bits z) es fs f a a' fa na i h b s))

pub published_narrower : PublishedNarrower
published_narrower =
    record {
      entries = entry_narrower;
      looks = look_narrower;
      answers = answer_narrower;
      checks = check_narrower;
    }
