-- Every program that builds nodes makes a store full at its capacity alone; and in longer words it does the same, up to there.
use Rattle.std.proofs.Common.{◌≡◌, refl, sym, ap, subst, ◌∙◌, true, false, true≢false, ◌⊎◌, inl, inr, List, ℕ, zero, suc, ◌+◌, ◌*◌, ◌/◌, ◌<◌, min, arith, Option, Some, None}
use Rattle.nodes.specs.Words.{var_at, low_at, high_at, capacity_of}
use Rattle.nodes.specs.Standard.{Standard}
use Rattle.nodes.proofs.WordsLaws.{node-length}
use Rattle.nodes.proofs.BoolLaws.{split}
use Rattle.operations.specs.declared.Store.{Store}
use Rattle.operations.specs.Build.{Outcome, Build, pure, next, ◌>>=◌, for_each}
use Rattle.operations.specs.Make.{Make, Variable}
use Rattle.operations.specs.Ite.{parts_of, plain_of, by_parts, ite_by, ite_up_to, Ite}
use Rattle.operations.specs.Any.{stop_of, by_children, any_by, any_up_to, Any}
use Rattle.operations.specs.Meaning.{Within, longer, lengthened, Alongside, Fills}
use Rattle.operations.proofs.MakeLaws.{make-full}
use Rattle.operations.proofs.LongerLaws.{get_d-longer, parts-longer}
use Rattle.operations.proofs.CasesLaws.{make_by, make-within, make-alongside}

-- a store in standard form that is not full
pub standard-within : {w : List ℕ} {n : ℕ} → Standard w n → Within (capacity_of w) w (record { count = n; full = false })
standard-within {w} S = record { capacity = refl; most = omega (arith, S.room, S.most); at-capacity = λ e. absurd (true≢false (sym e)) }

pub pure-fills : {A : Type 0} (a : A) → Fills (pure a)
pure-fills a = record { within = λ c w s W. W; long = λ w s. refl; grows = λ w s. omega arith; stuck = λ w s f. f; alongside = λ k w s. record { fits = λ f. refl; past = λ f. inl f } }

-- a program after a program
module _ {A B : Type 0} {m : Build A} {p : A → Build B} (M : Fills m) (P : (a : A) → Fills (p a)) where
  then-alongside : (k : ℕ) (w : List ℕ) (s : Store) → Alongside k w (next (m w s) p) (next (m (longer k w) s) p)
  unfolding next
  then-alongside k w s = split (m w s).store.full stopped goes
    where
      x : Outcome A
      x = m w s

      y : Outcome A
      y = m (longer k w) s

      z : Outcome B
      z = p y.answer y.words y.store

      on : (y.store.full ≡ true) ⊎ (capacity_of w < y.store.count) → (z.store.full ≡ true) ⊎ (capacity_of w < z.store.count)
      on (inl f) = inl ((P y.answer).stuck y.words y.store f)
      on (inr c) = inr (omega (arith, c, (P y.answer).grows y.words y.store))

      stopped : x.store.full ≡ true → Alongside k w (p x.answer x.words x.store) z
      stopped f = record { fits = λ g. absurd (true≢false (sym ((P x.answer).stuck x.words x.store f) ∙ g)); past = λ g. on ((M.alongside k w s).past f) }

      goes : x.store.full ≡ false → Alongside k w (p x.answer x.words x.store) z
      goes f =
          let e : y ≡ lengthened k x = (M.alongside k w s).fits f in
          let q = (P x.answer).alongside k x.words x.store in
          let c : capacity_of x.words ≡ capacity_of w = ap (λ n. min (n / 3) 16384) (M.long w s) in
          rw e (record { fits = q.fits; past = λ g. subst (λ n. ((p x.answer (longer k x.words) x.store).store.full ≡ true) ⊎ (n < (p x.answer (longer k x.words) x.store).store.count)) c (q.past g) })

  pub next-fills : Fills (m >>= p)
  unfolding next
  next-fills =
      record {
        within = λ c w s W. (P (m w s).answer).within c _ _ (M.within c w s W);
        long = λ w s. (P (m w s).answer).long _ _ ∙ M.long w s;
        grows = λ w s. omega (arith, M.grows w s, (P (m w s).answer).grows (m w s).words (m w s).store);
        stuck = λ w s f. (P (m w s).answer).stuck _ _ (M.stuck w s f);
        alongside = then-alongside;
      }

-- a program that turns on what it reads of the words, which is the same in longer ones
pub reads-fills : {A D : Type 0} (p : D → Build A) (d : List ℕ → Store → D) → ((k : ℕ) (w : List ℕ) (s : Store) → d (longer k w) s ≡ d w s) → ((x : D) → Fills (p x)) → Fills (λ w s. p (d w s) w s)
reads-fills p d e P =
    record {
      within = λ c w s. (P (d w s)).within c w s;
      long = λ w s. (P (d w s)).long w s;
      grows = λ w s. (P (d w s)).grows w s;
      stuck = λ w s. (P (d w s)).stuck w s;
      alongside = λ k w s. subst (λ x. Alongside k w (p (d w s) w s) (p x (longer k w) s)) (sym (e k w s)) ((P (d w s)).alongside k w s);
    }

pub each-fills : {A : Type 0} (f : ℕ → A → Build A) → ((i : ℕ) (a : A) → Fills (f i a)) → (i k : ℕ) (a : A) → Fills (for_each f i k a)
unfolding for_each
each-fills f F i zero a = pure-fills a
each-fills f F i (suc k) a = next-fills (F i a) (each-fills f F (suc i) k)

pub make-fills : (v lo hi : ℕ) → Fills (Make v lo hi)
make-fills v lo hi =
    record {
      within = λ c w s. make-within w s v lo hi c;
      long = λ w s. make_by w s v lo hi (λ n o. rw o.0 refl) (λ o. rw o.2 (node-length w s.count v lo hi)) (λ o. rw o.1 refl);
      grows = λ w s. make_by w s v lo hi (λ n o. rw o.0 (omega arith)) (λ o. rw o.2 (omega arith)) (λ o. rw o.1 (omega arith));
      stuck = λ w s f. rw (make-full w s v lo hi f) f;
      alongside = λ k w s. make-alongside w s v lo hi k;
    }

pub variable-fills : (v : ℕ) → Fills (Variable v)
variable-fills v = make-fills v 0 1

by-fills : (rec : ℕ → ℕ → ℕ → Build ℕ) → ((f g h : ℕ) → Fills (rec f g h)) → (d : Option ℕ) (f g h : ℕ) → Fills (ite_by rec d f g h)
unfolding ite_by
by-fills rec R (Some n) f g h = pure-fills n
by-fills rec R None f g h = reads-fills (by_parts rec) (λ w s. parts_of w f g h) (λ k w s. parts-longer k w f g h) (λ d. next-fills (R _ _ _) (λ x. next-fills (R _ _ _) (λ y. make-fills _ _ _)))

up_to-fills : (k f g h : ℕ) → Fills (ite_up_to k f g h)
unfolding ite_up_to
up_to-fills zero f g h = pure-fills 0
up_to-fills (suc k) f g h = reads-fills (λ d. ite_by (ite_up_to k) d f g h) (λ w s. plain_of s.full f g h) (λ k w s. refl) (λ d. by-fills (ite_up_to k) (up_to-fills k) d f g h)

pub ite-fills : (f g h : ℕ) → Fills (Ite f g h)
unfolding Ite
ite-fills f g h = up_to-fills (suc (f + g + h)) f g h

stop-fills : (rec : ℕ → Build ℕ) → ((f : ℕ) → Fills (rec f)) → (d : Option ℕ) (f : ℕ) → Fills (any_by rec d f)
unfolding any_by
stop-fills rec R (Some n) f = pure-fills n
stop-fills rec R None f = reads-fills (λ (c : ℕ × ℕ). by_children rec c.0 c.1) (λ w s. (low_at w f, high_at w f)) (λ k w s. rw (get_d-longer k w (f * 3 + 1), get_d-longer k w (f * 3 + 2)) refl) (λ c. next-fills (R _) (λ x. next-fills (R _) (λ y. ite-fills _ _ _)))

any_up_to-fills : (k f : ℕ) → Fills (any_up_to k f)
unfolding any_up_to
any_up_to-fills zero f = pure-fills 0
any_up_to-fills (suc k) f = reads-fills (λ d. any_by (any_up_to k) d f) (λ w s. stop_of s.full (var_at w f) f) (λ k w s. rw (get_d-longer k w (f * 3)) refl) (λ d. stop-fills (any_up_to k) (any_up_to-fills k) d f)

pub any-fills : (f : ℕ) → Fills (Any f)
unfolding Any
any-fills f = any_up_to-fills (suc f) f
