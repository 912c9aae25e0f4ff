-- What steps mean near one assignment: wherever the user variables are as in σ, whatever the index variables are.
use mathlib.Core.Path.{◌≡◌, refl, sym, ap, ◌∙◌, fun_ext}
use mathlib.Core.Bool.{Bool, true, false, cond, not, ◌&&◌, ◌||◌}
use mathlib.Core.List.{List, [], ◌∷◌, ◌++◌}
use Prim.Native.Nat.{ℕ, zero, suc, ◌+◌, ◌<◌, ◌≤◌}
use native.Mathlib.Omega.{arith}
use native.Mathlib.Decide.{dec_lt}
use lib.Dec.{T}
use lib.ListN.{length, get_or, take, get_or-eq_default}
use Rattle.nodes.proofs.BoolLaws.{iff-same}
use Rattle.conditions.specs.Stores.{Standard}
use Rattle.conditions.specs.Build.{Store, Outcome, Build, pure, next}
use Rattle.conditions.specs.Make.{Variable}
use Rattle.conditions.specs.Ite.{Ite, Not, And, Or}
use Rattle.conditions.specs.Any.{Any}
use Rattle.conditions.specs.Value.{value}
use Rattle.conditions.specs.Assignment.{some}
use Rattle.conditions.specs.Meaning.{Meaning, From, Stands, Builds}
use Rattle.conditions.specs.User.{is_user}
use Rattle.conditions.proofs.Promises.{from_less, from_1, builds_weaker, was_free, keep, stands-value, stands_1, ite-builds, not-builds, and-builds, or-builds, any-builds, variable-builds, some_has, some_all, user_stands, stands_turns, value_1}
use Rattle.semantics.specs.Published.{anywhere}
use Rattle.semantics.proofs.PairLaws.{or_left, or_right, eq→T, T→eq, anywhere-from, anywhere_sized, anywhere-same}

-- τ is σ but for the index variables
pub record Near (σ τ : ℕ → Bool) : Type 0 where
  pub user : (v : ℕ) → 8 ≤ v → τ v ≡ σ v

pub near_self : (σ : ℕ → Bool) → Near σ σ
near_self σ = record { user = λ v h. refl }

-- node n is on a variable from u up and means μ near σ; where the store is full it need not mean it
pub record Means (σ : ℕ → Bool) (u : ℕ) (μ : Meaning) (w : List ℕ) (s : Store) (n : ℕ) : Type 0 where
  pub below : n < s.count
  pub from : From u w n
  pub is : s.full ≡ false → (τ : ℕ → Bool) → Near σ τ → value w τ n ≡ μ τ

module _ {σ : ℕ → Bool} where
  -- the same meaning, said otherwise
  pub means_as : {w : List ℕ} {s : Store} {u n : ℕ} {μ ν : Meaning} → Means σ u μ w s n → ((τ : ℕ → Bool) → μ τ ≡ ν τ) → Means σ u ν w s n
  means_as N e = record { below = N.below; from = N.from; is = λ f τ h. N.is f τ h ∙ e τ }

  -- a node on variables from u up is on variables from any lesser one up
  pub means-from : {w : List ℕ} {s : Store} {u u' n : ℕ} {μ : Meaning} → u' ≤ u → Means σ u μ w s n → Means σ u' μ w s n
  means-from {w} {n = n} h N = record { below = N.below; from = from_less w n h N.from; is = N.is }

  -- a node keeps its meaning
  pub up : {A : Type 0} {w : List ℕ} {s : Store} {P : List ℕ → Store → A → Type 0} {x : Outcome A} {u n : ℕ} {μ : Meaning} → Standard w s.count → Builds w s P x → Means σ u μ w s n → Means σ u μ x.words x.store n
  up {w = w} {s = s} {u = u} {n = n} S X N =
      let K = keep X S (stands-value w s u n N.below N.from) in
      record { below = K.below; from = K.from; is = λ e τ h. K.is e τ ∙ N.is (was_free X e) τ h }

  -- a user node means its value under σ
  pub user-means : {w : List ℕ} {s : Store} {n : ℕ} → Standard w s.count → is_user w s.count n ≡ true → Means σ 8 (λ τ. value w σ n) w s n
  user-means {w} {s} {n} S e =
      let U = user_stands {s = s} e in
      record { below = U.below; from = U.from; is = λ f τ h. stands_turns S U f τ σ (λ v k. h.user v k) }

  pub one-means : {w : List ℕ} {s : Store} (u : ℕ) → u ≤ 64 → Standard w s.count → Means σ u (λ τ. true) w s 1
  one-means {w} {s} u l S = record { below = omega (arith, S.two); from = from_1 u S l; is = λ f τ h. value_1 w τ }

  module _ {w : List ℕ} {s : Store} {u : ℕ} (S : Standard w s.count) where
    pub ite-means : {f g h : ℕ} {p q r : Meaning} → Means σ u p w s f → Means σ u q w s g → Means σ u r w s h → Builds w s (Means σ u (λ τ. cond (p τ) (q τ) (r τ))) (Ite f g h w s)
    ite-means {f} {g} {h} F G H =
        let X = ite-builds S (stands-value w s u f F.below F.from) (stands-value w s u g G.below G.from) (stands-value w s u h H.below H.from) in
        builds_weaker X (λ N. record { below = N.below; from = N.from; is = λ e τ k. let z = was_free X e in N.is e τ ∙ (rw (F.is z τ k, G.is z τ k, H.is z τ k)) })

    pub not-means : {f : ℕ} {p : Meaning} → Means σ u p w s f → Builds w s (Means σ u (λ τ. not (p τ))) (Not f w s)
    not-means {f} F =
        let X = not-builds S (stands-value w s u f F.below F.from) in
        builds_weaker X (λ N. record { below = N.below; from = N.from; is = λ e τ k. N.is e τ ∙ (rw (F.is (was_free X e) τ k)) })

    pub and-means : {f g : ℕ} {p q : Meaning} → Means σ u p w s f → Means σ u q w s g → Builds w s (Means σ u (λ τ. p τ && q τ)) (And f g w s)
    and-means {f} {g} F G =
        let X = and-builds S (stands-value w s u f F.below F.from) (stands-value w s u g G.below G.from) in
        builds_weaker X (λ N. record { below = N.below; from = N.from; is = λ e τ k. let z = was_free X e in N.is e τ ∙ (rw (F.is z τ k, G.is z τ k)) })

    pub or-means : {f g : ℕ} {p q : Meaning} → Means σ u p w s f → Means σ u q w s g → Builds w s (Means σ u (λ τ. p τ || q τ)) (Or f g w s)
    or-means {f} {g} F G =
        let X = or-builds S (stands-value w s u f F.below F.from) (stands-value w s u g G.below G.from) in
        builds_weaker X (λ N. record { below = N.below; from = N.from; is = λ e τ k. let z = was_free X e in N.is e τ ∙ (rw (F.is z τ k, G.is z τ k)) })

  pub variable-means : {w : List ℕ} {s : Store} {v : ℕ} → Standard w s.count → v < 64 → Builds w s (Means σ v (λ τ. τ v)) (Variable v w s)
  variable-means S small = builds_weaker (variable-builds S small) (λ N. record { below = N.below; from = N.from; is = λ e τ k. N.is e τ })

-- τ with the index variables from 0 up set to the bits of x
abbrev pub placed : List Bool → (ℕ → Bool) → ℕ → Bool
placed x τ v = get_or x v (τ v)

-- the location that τ's index variables name, n bits of it
abbrev pub place : ℕ → (ℕ → Bool) → List Bool
place zero τ = []
place (suc n) τ = place n τ ++ (τ n ∷ [])

pub length-place : (n : ℕ) (τ : ℕ → Bool) → length (place n τ) ≡ n
length-place zero τ = refl
length-place (suc n) τ = snoc (place n τ) (τ n) ∙ ap suc (length-place n τ)
  where
    snoc : (l : List Bool) (b : Bool) → length (l ++ (b ∷ [])) ≡ suc (length l)
    snoc [] b = refl
    snoc (c ∷ l) b = ap suc (snoc l b)

snoc_at : (l : List Bool) (b d : Bool) (v : ℕ) → v ≡ length l → get_or (l ++ (b ∷ [])) v d ≡ b
snoc_at [] b d v e = rw e
snoc_at (c ∷ l) b d zero e = absurd (omega arith)
snoc_at (c ∷ l) b d (suc v) e = snoc_at l b d v (omega arith)

snoc-below : (l : List Bool) (b d : Bool) (v : ℕ) → v < length l → get_or (l ++ (b ∷ [])) v d ≡ get_or l v d
snoc-below [] b d v h = absurd (omega arith)
snoc-below (c ∷ l) b d zero h = refl
snoc-below (c ∷ l) b d (suc v) h = snoc-below l b d v (omega arith)

place_at : (n : ℕ) (τ : ℕ → Bool) (v : ℕ) (d : Bool) → v < n → get_or (place n τ) v d ≡ τ v
place_at zero τ v d h = absurd (omega arith)
place_at (suc n) τ v d h = go (dec_lt v n) (place_at n τ v d)
  where
    go : Dec (v < n) → (v < n → get_or (place n τ) v d ≡ τ v) → get_or (place (suc n) τ) v d ≡ τ v
    go (yes p) ih = snoc-below (place n τ) (τ n) d v (omega (arith, length-place n τ)) ∙ ih p
    go (no q) ih = let e : v ≡ n = omega arith in snoc_at (place n τ) (τ n) d v (e ∙ sym (length-place n τ)) ∙ ap τ (sym e)

-- an assignment near σ is a location's, and a location's is near
placed-place : (σ τ : ℕ → Bool) → Near σ τ → (n : ℕ) → 8 ≤ n → placed (place n τ) σ ≡ τ
placed-place σ τ h n l = fun_ext (λ v. go v (dec_lt v n))
  where
    go : (v : ℕ) → Dec (v < n) → get_or (place n τ) v (σ v) ≡ τ v
    go v (yes p) = place_at n τ v (σ v) p
    go v (no q) = get_or-eq_default (place n τ) (σ v) (omega (arith, length-place n τ)) ∙ sym (h.user v (omega arith))

placed_user : (x : List Bool) (τ : ℕ → Bool) → length x ≤ 8 → (v : ℕ) → 8 ≤ v → placed x τ v ≡ τ v
placed_user x τ l v h = get_or-eq_default x (τ v) (omega arith)

-- the location of a placed assignment
take_at_0 : (n : ℕ) (x : List Bool) (τ : ℕ → Bool) → n ≤ length x → place n (placed x τ) ≡ take n x
take_at_0 zero x τ h = refl
take_at_0 (suc n) x τ h = ap (λ (l : List Bool). l ++ (get_or x n (τ n) ∷ [])) (take_at_0 n x τ (omega arith)) ∙ sym (last n x (τ n) h)
  where
    last : (n : ℕ) (x : List Bool) (d : Bool) → suc n ≤ length x → take (suc n) x ≡ take n x ++ (get_or x n d ∷ [])
    last n [] d h = absurd (omega arith)
    last zero (b ∷ x) d h = refl
    last (suc n) (b ∷ x) d h = ap {B = List Bool} (λ l. b ∷ l) (last n x d (omega arith))

-- some location, with its number of bits
-- a search over k bits of what turns on n of them
anywhere-take : (k n : ℕ) → n ≤ k → (F : List Bool → Bool) → anywhere k (λ x. F (take n x)) ≡ anywhere n F
anywhere-take zero zero h F = refl
anywhere-take zero (suc n) h F = absurd (omega arith)
anywhere-take (suc k) zero h F =
    let e = anywhere-take k zero (omega arith) F in
    rw e (self (F []))
  where
    self : (b : Bool) → (b || b) ≡ b
    self true = refl
    self false = refl
anywhere-take (suc k) (suc n) h F = rw (anywhere-take k n (omega arith) (λ x. F (false ∷ x)), anywhere-take k n (omega arith) (λ x. F (true ∷ x)))

-- Any of what turns on the location of n bits is somewhere of those
pub any_place : (n : ℕ) → n ≤ 8 → (τ : ℕ → Bool) (F : List Bool → Bool) → anywhere 8 (λ x. F (place n (placed x τ))) ≡ anywhere n F
any_place n h τ F = anywhere-same 8 (λ x. F (place n (placed x τ))) (λ x. F (take n x)) (λ x l. ap F (take_at_0 n x τ (omega arith))) ∙ anywhere-take 8 n h F

some-anywhere : (m : Meaning) (τ : ℕ → Bool) → some 8 m τ ≡ anywhere 8 (λ x. m (placed x τ))
some-anywhere m τ =
    iff-same (some 8 m τ) (anywhere 8 (λ x. m (placed x τ)))
    (λ t.
    let h = some_has 8 m τ t in
    let e : placed (place 8 h.0) τ ≡ h.0 = placed-place τ h.0 (record { user = h.1 }) 8 (omega arith) in
    T→eq (anywhere 8 (λ x. m (placed x τ))) (anywhere-from 8 (λ x. m (placed x τ)) (place 8 h.0) (length-place 8 h.0) (eq→T (ap m e ∙ h.2))))
    (λ t.
    let r = anywhere_sized 8 (λ x. m (placed x τ)) (eq→T t) in
    some_all 8 m τ (placed r.0 τ) (placed_user r.0 τ (omega (arith, r.1))) (T→eq (m (placed r.0 τ)) r.2))

module _ {σ : ℕ → Bool} {w : List ℕ} {s : Store} (S : Standard w s.count) where
  pub any-means : {u f : ℕ} {p : Meaning} → Means σ u p w s f → Builds w s (Means σ 8 (λ τ. anywhere 8 (λ x. p (placed x τ)))) (Any f w s)
  any-means {u} {f} {p} F =
      let X = any-builds S (stands-value w s u f F.below F.from) in
      builds_weaker X
      (λ N. record {
        below = N.below;
        from = N.from;
        is = λ e τ k.
            N.is e τ ∙ some-anywhere (λ ψ. value w ψ f) τ
            ∙ anywhere-same 8 (λ x. value w (placed x τ) f) (λ x. p (placed x τ))
            (λ x l. F.is (was_free X e) (placed x τ) (record { user = λ v h. placed_user x τ (omega arith) v h ∙ k.user v h }));
      })
