-- What building a formula's conditions leaves and what they mean, and that it needs a node past capacity where its Ands do.
use mathlib.Core.Path.{◌≡◌, refl}
use mathlib.Core.Bool.{Bool, true, false, ◌&&◌}
use mathlib.Core.List.{List, [], ◌∷◌, ◌++◌}
use Prim.Native.Nat.{ℕ, suc}
use native.Mathlib.Omega.{arith}
use Rattle.formulas.specs.Language.{Tree, predicate, next, both, when, grouped, Listed, listed}
use Rattle.conditions.specs.Stores.{Standard}
use Rattle.conditions.specs.Build as build
use Rattle.conditions.specs.Build.{Store, Outcome, pure}
use Rattle.conditions.specs.Ite.{And}
use Rattle.conditions.specs.Value.{value}
use Rattle.conditions.specs.Meaning.{Stands, Builds, Fills}
use Rattle.conditions.proofs.Promises.{pure-builds, next-builds, keep, stands_same, stands_1, and-builds, pure-fills, next-fills, ite-fills}
use Rattle.model.specs.Record.{Record}
use Rattle.model.specs.Formula.{Triple, Triples}
use Rattle.model.specs.Step.{begin}
use Rattle.model.specs.Meanings.{all_hold, AreListed}
use Rattle.model.specs.Table.{Names, EachArrow}

-- what holds of each node before an arrow, by what held
pub each_arrow : {P Q : ℕ → Type 0} → ((b : ℕ) → P b → Q b) → (t : Tree) → EachArrow P t → EachArrow Q t
each_arrow f (predicate n) A = tt
each_arrow f (next t) A = each_arrow f t A
each_arrow f (both t u) A = (each_arrow f t A.0, each_arrow f u A.1)
each_arrow f (when b t) A = (f b A.0, each_arrow f t A.1)
each_arrow f (grouped t) A = each_arrow f t A

-- a triple is what is listed, and its condition, on no index variable, stands for the And of the enclosing nodes by their values in the words v
pub record StandsListed (v w : List ℕ) (s : Store) (t : Triple) (l : Listed) : Type 0 where
  pub same_step : t.step ≡ l.step
  pub condition : Stands 8 (λ φ. all_hold φ v l.nodes) w s t.condition
  pub same-named : t.named ≡ l.named

abbrev pub StandListed : List ℕ → List Listed → List ℕ → Store → List Triple → Type 0
StandListed v [] w s [] = Unit {0}
StandListed v [] w s (t ∷ ts) = ⊥
StandListed v (l ∷ ls) w s [] = ⊥
StandListed v (l ∷ ls) w s (t ∷ ts) = StandsListed v w s t l × StandListed v ls w s ts

listed-append : (v w : List ℕ) (s : Store) (ls ms : List Listed) (ts us : List Triple) → StandListed v ls w s ts → StandListed v ms w s us → StandListed v (ls ++ ms) w s (ts ++ us)
listed-append v w s [] ms [] us L M = M
listed-append v w s [] ms (t ∷ ts) us L M = absurd L
listed-append v w s (l ∷ ls) ms [] us L M = absurd L
listed-append v w s (l ∷ ls) ms (t ∷ ts) us L M = (L.0, listed-append v w s ls ms ts us L.1 M)

-- triples stay what they are in a store that grows
listed-keep : {A : Type 0} {w : List ℕ} {s : Store} {P : List ℕ → Store → A → Type 0} {x : Outcome A} (v : List ℕ) → Builds w s P x → Standard w s.count
    → (ls : List Listed) (ts : List Triple) → StandListed v ls w s ts → StandListed v ls x.words x.store ts
listed-keep v X S [] [] L = tt
listed-keep v X S [] (t ∷ ts) L = absurd L
listed-keep v X S (l ∷ ls) [] L = absurd L
listed-keep v X S (l ∷ ls) (t ∷ ts) L = (record { same_step = L.0.same_step; condition = keep X S L.0.condition; same-named = L.0.same-named }, listed-keep v X S ls ts L.1)

-- so they are what is listed, under each assignment
pub are-listed : (φ : ℕ → Bool) (v w : List ℕ) (s : Store) → s.full ≡ false → (ls : List Listed) (ts : List Triple) → StandListed v ls w s ts → AreListed φ v w ts ls
are-listed φ v w s f [] [] L = tt
are-listed φ v w s f [] (t ∷ ts) L = absurd L
are-listed φ v w s f (l ∷ ls) [] L = absurd L
are-listed φ v w s f (l ∷ ls) (t ∷ ts) L = (record { same_step = L.0.same_step; condition = L.0.condition.is f φ; same-named = L.0.same-named }, are-listed φ v w s f ls ts L.1)

-- one node more
all-hold-more : (φ : ℕ → Bool) (v bs : List ℕ) (b : ℕ) → (all_hold φ v bs && value v φ b) ≡ all_hold φ v (bs ++ (b ∷ []))
all-hold-more φ v [] b = one (value v φ b)
  where
    one : (x : Bool) → x ≡ (x && true)
    one true = refl
    one false = refl
all-hold-more φ v (a ∷ bs) b = from (value v φ a) (all-hold-more φ v bs b)
  where
    from : (x : Bool) → (all_hold φ v bs && value v φ b) ≡ all_hold φ v (bs ++ (b ∷ [])) → ((x && all_hold φ v bs) && value v φ b) ≡ (x && all_hold φ v (bs ++ (b ∷ [])))
    from true e = e
    from false e = refl

pub triples_build : (v : List ℕ) (k c : ℕ) (bs : List ℕ) (t : Tree) (w : List ℕ) (s : Store) → Standard w s.count → Stands 8 (λ φ. all_hold φ v bs) w s c → EachArrow (λ b. Stands 8 (λ φ. value v φ b) w s b) t
    → Builds w s (StandListed v (listed k bs t)) (Triples k c t w s)
unfolding Triples
triples_build v k c bs (predicate n) w s S C A = pure-builds S (record { same_step = refl; condition = C; same-named = refl }, tt)
triples_build v k c bs (next t) w s S C A = triples_build v (suc k) c bs t w s S C A
triples_build v k c bs (both t u) w s S C A =
    let x = Triples k c t w s in
    let X = triples_build v k c bs t w s S C A.0 in
    let y = Triples k c u x.words x.store in
    let Y = triples_build v k c bs u x.words x.store X.standard (keep X S C) (each_arrow (λ b. keep X S) u A.1) in
    next-builds X (λ xs w s. build.next (Triples k c u w s) (λ ys. pure (xs ++ ys)))
    (next-builds Y (λ ys. pure (x.answer ++ ys))
    (pure-builds Y.standard (listed-append v y.words y.store (listed k bs t) (listed k bs u) x.answer y.answer (listed-keep v Y X.standard (listed k bs t) x.answer X.post) Y.post)))
triples_build v k c bs (when b t) w s S C A =
    let x = And c b w s in
    let X = and-builds S C A.0 in
    next-builds X (λ d. Triples k d t)
    (triples_build v k x.answer (bs ++ (b ∷ [])) t x.words x.store X.standard (stands_same X.post (λ f φ. all-hold-more φ v bs b)) (each_arrow (λ a. keep X S) t A.1))
triples_build v k c bs (grouped t) w s S C A = triples_build v k c bs t w s S C A

-- of a formula whose nodes are accepted by row 5
pub formula-builds : (r : Record) (w : List ℕ) → Standard w r.count → (t : Tree) → EachArrow (Names r w) t → Builds w (begin r) (StandListed w (listed 0 [] t)) (Triples 0 1 t w (begin r))
formula-builds r w S t A = triples_build w 0 1 [] t w (begin r) S (stands_1 8 S (omega arith)) A

pub triples_fill : (k c : ℕ) (t : Tree) → Fills (Triples k c t)
unfolding Triples
triples_fill k c (predicate n) = pure-fills _
triples_fill k c (next t) = triples_fill (suc k) c t
triples_fill k c (both t u) = next-fills (triples_fill k c t) (λ xs. next-fills (triples_fill k c u) (λ ys. pure-fills _))
triples_fill k c (when b t) = next-fills (ite-fills c b 0) (λ d. triples_fill k d t)
triples_fill k c (grouped t) = triples_fill k c t
