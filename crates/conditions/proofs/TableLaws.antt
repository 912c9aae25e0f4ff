-- The computed table changes nothing of what Ite leaves: what it has is Ite's answer, and stays so as the store grows.
use Rattle.std.proofs.Common.{◌≡◌, refl, sym, ap, ◌∙◌, Bool, false, ◌⊎◌, inl, inr, List, ℕ, zero, suc, ◌+◌, ◌*◌, ◌/◌, ◌%◌, ◌<◌, ◌≤◌, arith, eqb, get_or, replicate, eqb-true, Option, Some, None}
use Rattle.nodes.specs.Standard.{Standard}
use Rattle.nodes.proofs.BoolLaws.{split}
use Rattle.nodes.proofs.ExtendsLaws.{extends_refl}
use Rattle.operations.specs.declared.Store.{Store}
use Rattle.diagrams.specs.declared.Parts.{Parts}
use Rattle.operations.specs.Build.{Outcome, pure}
use Rattle.operations.specs.Make.{Make}
use Rattle.operations.specs.Ite.{plain_of, parts_of, Ite}
use Rattle.operations.specs.Meaning.{Builds}
use Rattle.diagrams.specs.Keys.{key_of, slot_of}
use Rattle.conditions.specs.Table.{recall_of, known_of, remember_of, Known, Remembers}
use Rattle.operations.proofs.BuildLaws.{was_free}
use Rattle.diagrams.proofs.PartsLaws.{Ready}
use Rattle.diagrams.proofs.KeyLaws.{set_or}
use Rattle.operations.proofs.IteLaws.{ready-builds, ite_bounds, ite-done, splits, split_all}
use Rattle.operations.proofs.AgainLaws.{ite-again}

known-ready : {w : List ℕ} {s : Store} {f g h r : ℕ} → Standard w s.count → Known w s f g h r → Ready w s.count f g h
known-ready S K = record { standard = S; first = K.first; second = K.second; third = K.third }

module _ {A : Type 0} {w : List ℕ} {s : Store} {P : List ℕ → Store → A → Type 0} {x : Outcome A} (S : Standard w s.count) (X : Builds w s P x) where
  -- an answer is one in a store that grew
  known_later : {f g h r : ℕ} → x.store.full ≡ false → Known w s f g h r → Known x.words x.store f g h r
  known_later {f} {g} {h} {r} e K =
      record {
        first = omega (arith, K.first, X.extends.more);
        second = omega (arith, K.second, X.extends.more);
        third = omega (arith, K.third, X.extends.more);
        is = ite-again w s f g h (known-ready S K) (rw K.is (was_free X e)) x.words x.store (rw K.is (record { standard = X.standard; extends = X.extends; free = e }))
            ∙ ap (λ (o : Outcome ℕ). pure o.answer x.words x.store) K.is;
      }

  -- and so a table is
  pub remembers_later : {t : List ℕ} → Remembers t w s → Remembers t x.words x.store
  remembers_later M = record { at = λ e i. known_later e (M.at (was_free X e) i) }

-- what Ite answered it answers again
pub ite-known : (w : List ℕ) (s : Store) (f g h : ℕ) {x : Outcome ℕ} → Ready w s.count f g h → x ≡ Ite f g h w s → x.store.full ≡ false → Known x.words x.store f g h x.answer
ite-known w s f g h {x} r ex e =
    let X = ready-builds r in
    let m : s.count ≤ x.store.count = rw ex X.extends.more in
    record {
      first = omega (arith, r.first);
      second = omega (arith, r.second);
      third = omega (arith, r.third);
      is = ite-again w s f g h r (rw (← ex) e) x.words x.store (rw (← ex) (record { standard = rw ex X.standard; extends = extends_refl x.words x.store.count; free = e }))
          ∙ ap (λ (o : Outcome ℕ). pure o.answer x.words x.store) (sym ex);
    }

-- three nodes and an answer, read out of their number
module _ (f g h r : ℕ) (lf : f < 16384) (lg : g < 16384) (lh : h < 16384) (lr : r < 16384) where
  number-first : (key_of f g h * 16384 + r) / 4398046511104 ≡ f
  number-first = omega arith

  number-second : (key_of f g h * 16384 + r) / 268435456 % 16384 ≡ g
  number-second = omega arith

  number-third : (key_of f g h * 16384 + r) / 16384 % 16384 ≡ h
  number-third = omega arith

  number-answer : (key_of f g h * 16384 + r) % 16384 ≡ r
  number-answer = omega arith

  -- a table with an answer more
  pub remembers-more : {t w : List ℕ} {s : Store} → Remembers t w s → (s.full ≡ false → Known w s f g h r) → Remembers (remember_of t f g h r) w s
  remembers-more {t} {w} {s} M K = record { at = λ e i. go e i (set_or t (slot_of f g h) i (key_of f g h * 16384 + r)) }
    where
      go : s.full ≡ false → (i : ℕ) → (get_or (remember_of t f g h r) i 0 ≡ key_of f g h * 16384 + r) ⊎ (get_or (remember_of t f g h r) i 0 ≡ get_or t i 0)
          → Known w s (get_or (remember_of t f g h r) i 0 / 4398046511104) (get_or (remember_of t f g h r) i 0 / 268435456 % 16384) (get_or (remember_of t f g h r) i 0 / 16384 % 16384) (get_or (remember_of t f g h r) i 0 % 16384)
      go e i (inl z) = rw (z, number-first, number-second, number-third, number-answer) (K e)
      go e i (inr z) = rw z (M.at e i)

zeros : (n i : ℕ) → get_or {A = ℕ} (replicate n 0) i 0 ≡ 0
zeros zero i = refl
zeros (suc n) zero = refl
zeros (suc n) (suc i) = zeros n i

-- a table of zeros: Ite of 0, 0 and 0 is 0
pub remembers-zeros : (n : ℕ) (w : List ℕ) (s : Store) → Standard w s.count → Remembers (replicate n 0) w s
unfolding plain_of
remembers-zeros n w s S =
    record {
      at = λ e i.
          let t = S.two in
          let r : Ready w s.count 0 0 0 = record { standard = S; first = omega arith; second = omega arith; third = omega arith } in
          rw (zeros n i) (record { first = r.first; second = r.second; third = r.third; is = sym (ite-done w s 0 0 0 0 r (rw e)) });
    }

-- where the table has an answer it is Ite's
recall_is : (t w : List ℕ) (s : Store) (f g h n : ℕ) → Remembers t w s → s.full ≡ false → f < 16384 → g < 16384 → h < 16384 → recall_of t f g h ≡ Some n → pure n w s ≡ Ite f g h w s
unfolding recall_of
recall_is t w s f g h n M free lf lg lh q =
    split (eqb (get_or t (slot_of f g h) 0 / 16384) (key_of f g h))
    (λ k.
    let a = get_or t (slot_of f g h) 0 in
    let K = M.at free (slot_of f g h) in
    let e : a / 16384 ≡ key_of f g h = eqb-true _ _ k in
    let e1 : a / 4398046511104 ≡ f = omega arith in
    let e2 : a / 268435456 % 16384 ≡ g = omega arith in
    let e3 : a / 16384 % 16384 ≡ h = omega arith in
    let z : Some (a % 16384) ≡ Some n = rw k at q in
    let y : a % 16384 ≡ n = cc in
    sym ((rw (e1, e2, e3) at K.is) ∙ ap (λ m. pure m w s) y))
    (λ k. let z : None ≡ Some n = rw k at q in let y : ◌≡◌ {A = ℕ} 0 1 = cc in absurd (omega arith))

module _ (t w : List ℕ) (s : Store) (f g h : ℕ) where
  pub known-done : (n : ℕ) → Ready w s.count f g h → Remembers t w s → known_of t s.full f g h ≡ Some n → pure n w s ≡ Ite f g h w s
  unfolding known_of
  known-done n r M q = go (plain_of s.full f g h) refl
    where
      most : (k : ℕ) → k < s.count → k < 16384
      most k b = omega (arith, r.standard.most)

      go : (d : Option ℕ) → plain_of s.full f g h ≡ d → pure n w s ≡ Ite f g h w s
      go (Some m) e =
          let z : Some m ≡ Some n = rw e at q in
          let y : m ≡ n = cc in
          ite-done w s f g h n r (rw y at e)
      go None e =
          recall_is t w s f g h n M (splits s.full f g h e).free (most f r.first) (most g r.second) (most h r.third) (rw e at q)

pub known_split : (t : List ℕ) (f g h : ℕ) (full : Bool) → known_of t full f g h ≡ None → plain_of full f g h ≡ None
unfolding known_of
known_split t f g h full q = go (plain_of full f g h) refl
  where
    go : (d : Option ℕ) → plain_of full f g h ≡ d → plain_of full f g h ≡ None
    go (Some m) e = let z : Some m ≡ None = rw e at q in let y : ◌≡◌ {A = ℕ} 0 1 = cc in absurd (omega arith)
    go None e = e

-- the table after a new answer
pub split_remembers : (w : List ℕ) (s : Store) (f g h : ℕ) (d : Parts) (r : Ready w s.count f g h) (e : plain_of s.full f g h ≡ None) (ed : d ≡ parts_of w f g h) {x y z : Outcome ℕ} {t t' : List ℕ}
    → x ≡ Ite d.f0 d.g0 d.h0 w s → y ≡ Ite d.f1 d.g1 d.h1 x.words x.store → z ≡ Make d.v x.answer y.answer y.words y.store
    → Remembers t z.words z.store → t' ≡ remember_of t f g h z.answer → Remembers t' z.words z.store
split_remembers w s f g h d r e ed {x} {y} {z} {t} {t'} ex ey ez M et =
    let z-is : z ≡ Ite f g h w s = split_all w s f g h d r e ed ex ey ez in
    let B = ite_bounds s r z-is in
    let most = r.standard.most in
    rw et (remembers-more f g h z.answer (omega (arith, r.first)) (omega (arith, r.second)) (omega (arith, r.third)) (omega (arith, B.0, B.1)) M (λ k. ite-known w s f g h r z-is k))
