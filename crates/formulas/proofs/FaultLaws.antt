-- Request 5: where the fault of a text stands.
use mathlib.Core.Path.{◌≡◌, refl, sym, ap, subst, ◌∙◌}
use mathlib.Core.Bool.{Bool, true, false, cond}
use mathlib.Core.List.{List, [], ◌∷◌, ◌++◌, append-nil}
use Prim.Native.Nat.{ℕ, zero, suc, ◌+◌, ◌*◌, ◌≤◌, ◌<◌}
use native.Mathlib.Omega.{arith}
use lib.Dec.{eqb}
use lib.ListN.{length}
use Rattle.formulas.specs.Language.{Tree, predicate, grouped, digit, joined, Part, formula, conjunction, unit, Text}
use Rattle.formulas.specs.Reading.{spaces, byte, digits, numbered}
use Rattle.formulas.specs.Faults.{Stops, FaultAt}
use Rattle.formulas.proofs.Spelling.{spelled_is-text}
use Rattle.formulas.proofs.PlainReader.{Answer, read, fault, after, arrowed, joining, closing, read_part, reader, ended, read_text}
use Rattle.formulas.proofs.CompleteLaws.{rank, spaces-length, text-read}
use Rattle.formulas.proofs.SoundLaws.{Before, here, there, Whole, text-answers, rest, reader-rest, byte-rest, after-rest, digits-rest, number-rest, arrow-rest, joining-rest, closing-rest, ended-rest, reader_shorter}

-- Where a fault stands: the answer hangs on no byte behind the one where it ends.

module _ (c : ℕ) (r r' : List ℕ) where
  -- two texts with the same bytes up to c, behind which one has r and the other r'
  data Like : List ℕ → List ℕ → Type 0 where
    last : Like (c ∷ r) (c ∷ r')
    same : {b : ℕ} {s s' : List ℕ} → Like s s' → Like (b ∷ s) (b ∷ s')

  -- their answers: the same, at the same place, unless the first was read past c
  data Alike : Answer → Answer → Type 0 where
    reads : {t : Tree} {x x' : List ℕ} → Like x x' → Alike (read t x) (read t x')
    faults : {x x' : List ℕ} → Like x x' → Alike (fault x) (fault x')
    passed : {a a' : Answer} → length (rest a) ≤ length r → Alike a a'

  byte-alike : (b : ℕ) (s s' : List ℕ) (f f' : List ℕ → Answer) (a a' : Answer) → Like s s'
      → ((x : List ℕ) → length (rest (f x)) ≤ length x)
      → ((x x' : List ℕ) → suc (length x) ≤ length s → suc (length x') ≤ length s' → Like x x' → Alike (f x) (f' x'))
      → Alike a a' → Alike (byte b s f a) (byte b s' f' a')
  byte-alike b s s' f f' a a' last h g e = go (eqb c b)
    where
      go : (v : Bool) → Alike (cond v (f r) a) (cond v (f' r') a')
      go true = passed (h r)
      go false = e
  byte-alike b s s' f f' a a' (same {b = d} {s = x} {s' = x'} l) h g e = go (eqb d b)
    where
      go : (v : Bool) → Alike (cond v (f x) a) (cond v (f' x') a')
      go true = g x x' (omega arith) (omega arith) l
      go false = e

  spaces-alike : (s s' : List ℕ) (f f' : List ℕ → Answer) → Like s s'
      → ((x : List ℕ) → length (rest (f x)) ≤ length x)
      → ((x x' : List ℕ) → length x ≤ length s → length x' ≤ length s' → Like x x' → Alike (f x) (f' x'))
      → Alike (f (spaces s)) (f' (spaces s'))
  spaces-alike s s' f f' last h g = go (eqb c 32)
    where
      go : (v : Bool) → Alike (f (cond v (spaces r) (c ∷ r))) (f' (cond v (spaces r') (c ∷ r')))
      go true = passed {a = f (spaces r)} (omega (arith, h (spaces r), spaces-length r))
      go false = g (c ∷ r) (c ∷ r') (omega arith) (omega arith) last
  spaces-alike s s' f f' (same {b = d} {s = x} {s' = x'} l) h g =
      go (eqb d 32) (spaces-alike x x' f f' l h (λ y y' m n e. g y y' (omega arith) (omega arith) e))
    where
      go : (v : Bool) → Alike (f (spaces x)) (f' (spaces x')) → Alike (f (cond v (spaces x) (d ∷ x))) (f' (cond v (spaces x') (d ∷ x')))
      go true e = e
      go false e = g (d ∷ x) (d ∷ x') (omega arith) (omega arith) (same l)

  digits-alike : (a : ℕ) (s s' : List ℕ) (f f' : ℕ → List ℕ → Answer) → Like s s'
      → ((n : ℕ) (x : List ℕ) → length (rest (f n x)) ≤ length x)
      → ((n : ℕ) (x x' : List ℕ) → length x ≤ length s → length x' ≤ length s' → Like x x' → Alike (f n x) (f' n x'))
      → Alike (digits a s f) (digits a s' f')
  digits-alike a s s' f f' last h g = go (digit c)
    where
      go : (v : Bool) → Alike (cond v (digits (joined a c) r f) (f a (c ∷ r))) (cond v (digits (joined a c) r' f') (f' a (c ∷ r')))
      go true = passed (digits-rest (joined a c) r f h)
      go false = g a (c ∷ r) (c ∷ r') (omega arith) (omega arith) last
  digits-alike a s s' f f' (same {b = d} {s = x} {s' = x'} l) h g =
      go (digit d) (digits-alike (joined a d) x x' f f' l h (λ n y y' m m' e. g n y y' (omega arith) (omega arith) e))
    where
      go : (v : Bool) → Alike (digits (joined a d) x f) (digits (joined a d) x' f')
          → Alike (cond v (digits (joined a d) x f) (f a (d ∷ x))) (cond v (digits (joined a d) x' f') (f' a (d ∷ x')))
      go true e = e
      go false e = g a (d ∷ x) (d ∷ x') (omega arith) (omega arith) (same l)

  number-alike : (s s' : List ℕ) (f f' : ℕ → List ℕ → Answer) → Like s s'
      → ((n : ℕ) (x : List ℕ) → length (rest (f n x)) ≤ length x)
      → ((n : ℕ) (x x' : List ℕ) → length x ≤ length s → length x' ≤ length s' → Like x x' → Alike (f n x) (f' n x'))
      → Alike (numbered s f (fault s)) (numbered s' f' (fault s'))
  number-alike s s' f f' last h g = go (digit c)
    where
      go : (v : Bool) → Alike (cond v (digits (joined 0 c) r f) (fault (c ∷ r))) (cond v (digits (joined 0 c) r' f') (fault (c ∷ r')))
      go true = passed (digits-rest (joined 0 c) r f h)
      go false = faults last
  number-alike s s' f f' (same {b = d} {s = x} {s' = x'} l) h g =
      go (digit d) (digits-alike (joined 0 d) x x' f f' l h (λ n y y' m m' e. g n y y' (omega arith) (omega arith) e))
    where
      go : (v : Bool) → Alike (digits (joined 0 d) x f) (digits (joined 0 d) x' f')
          → Alike (cond v (digits (joined 0 d) x f) (fault (d ∷ x))) (cond v (digits (joined 0 d) x' f') (fault (d ∷ x')))
      go true e = e
      go false e = faults (same l)

  after-alike : (a a' : Answer) (f f' : Tree → List ℕ → Answer) → Alike a a'
      → ((t : Tree) (x : List ℕ) → length (rest (f t x)) ≤ length x)
      → ((t : Tree) (x x' : List ℕ) → a ≡ read t x → a' ≡ read t x' → Like x x' → Alike (f t x) (f' t x'))
      → Alike (after a f) (after a' f')
  after-alike a a' f f' (reads l) h g = g _ _ _ refl refl l
  after-alike a a' f f' (faults l) h g = faults l
  after-alike a a' f f' (passed l) h g = passed (after-rest (length r) a f l h)

  -- closed parts, and the end of the text
  closing-alike : (t : Tree) (s s' : List ℕ) → Like s s' → Alike (closing t s) (closing t s')
  unfolding rest
  closing-alike t s s' l =
      byte-alike 41 s s' _ _ _ _ l (λ x. spaces-length x)
      (λ x x' m m' e. spaces-alike x x' (read (grouped t)) (read (grouped t)) e (λ y. omega arith) (λ y y' n n' e. reads e))
      (faults l)

  ended-alike : (t : Tree) (s s' : List ℕ) → Like s s' → Alike (ended t s) (ended t s')
  ended-alike t s s' last = faults last
  ended-alike t s s' (same l) = faults (same l)

  module _ (k k' : ℕ) (ih : (p : Part) (x x' : List ℕ) → 3 * length x + rank p < k → 3 * length x' + rank p < k' → Like x x' → Alike (reader k p x) (reader k' p x')) where
    inside-alike : (p : Part) (s s' : List ℕ) (f f' : Tree → List ℕ → Answer) → 3 * length s + rank p < k → 3 * length s' + rank p < k' → Like s s'
        → ((t : Tree) (x : List ℕ) → length (rest (f t x)) ≤ length x)
        → ((t : Tree) (x x' : List ℕ) → length x < length s → length x' < length s' → Like x x' → Alike (f t x) (f' t x'))
        → Alike (after (reader k p (spaces s)) f) (after (reader k' p (spaces s')) f')
    inside-alike p s s' f f' b b' l h g =
        spaces-alike s s' (λ x. after (reader k p x) f) (λ x. after (reader k' p x) f') l
        (λ x. after-rest (length x) (reader k p x) f (reader-rest k p x) h)
        (λ x x' m m' e. after-alike (reader k p x) (reader k' p x') f f' (ih p x x' (omega arith) (omega arith) e) h
        (λ t y y' q q' i. g t y y' (omega (arith, reader_shorter k p x t y q)) (omega (arith, reader_shorter k' p x' t y' q')) i))

    arrow-alike : (n : ℕ) (s s' : List ℕ) → 3 * length s ≤ k → 3 * length s' ≤ k' → Like s s' → Alike (arrowed (reader k) n s) (arrowed (reader k') n s')
    unfolding rank rest
    arrow-alike n s s' b b' l =
        byte-alike 45 s s' _ _ _ _ l
        (λ x. byte-rest 62 x _ _ (λ y. after-rest (length y) (reader k formula (spaces y)) _ (omega (arith, reader-rest k formula (spaces y), spaces-length y)) (λ t r. omega arith)) (omega arith))
        (λ x x' m m' e. byte-alike 62 x x' _ _ _ _ e
        (λ y. after-rest (length y) (reader k formula (spaces y)) _ (omega (arith, reader-rest k formula (spaces y), spaces-length y)) (λ t r. omega arith))
        (λ y y' o o' e. inside-alike formula y y' _ _ (omega arith) (omega arith) e (λ t r. omega arith) (λ t z z' q q' e. reads e))
        (faults e))
        (faults l)

    joining-alike : (t : Tree) (s s' : List ℕ) → 3 * length s ≤ k → 3 * length s' ≤ k' → Like s s' → Alike (joining (reader k) t s) (joining (reader k') t s')
    unfolding rank rest
    joining-alike t s s' b b' l =
        byte-alike 38 s s' _ _ _ _ l
        (λ y. after-rest (length y) (reader k conjunction (spaces y)) _ (omega (arith, reader-rest k conjunction (spaces y), spaces-length y)) (λ u r. omega arith))
        (λ y y' o o' e. inside-alike conjunction y y' _ _ (omega arith) (omega arith) e (λ u r. omega arith) (λ u z z' q q' e. reads e))
        (reads l)

    part-alike : (p : Part) (s s' : List ℕ) → 3 * length s + rank p ≤ k → 3 * length s' + rank p ≤ k' → Like s s' → Alike (read_part (reader k) p s) (read_part (reader k') p s')
    unfolding rank rest
    part-alike formula s s' b b' l =
        byte-alike 98 s s' _ _ _ _ l
        (λ x. number-rest x _ (λ n y. omega (arith, arrow-rest k n (spaces y), spaces-length y)))
        (λ x x' m m' e. number-alike x x' _ _ e (λ n y. omega (arith, arrow-rest k n (spaces y), spaces-length y))
        (λ n y y' o o' e. spaces-alike y y' (arrowed (reader k) n) (arrowed (reader k') n) e (arrow-rest k n)
        (λ z z' q q' e. arrow-alike n z z' (omega arith) (omega arith) e)))
        (ih conjunction s s' (omega arith) (omega arith) l)
    part-alike conjunction s s' b b' l =
        after-alike (reader k unit s) (reader k' unit s') _ _ (ih unit s s' (omega arith) (omega arith) l) (joining-rest k)
        (λ t x x' q q' e. joining-alike t x x' (omega (arith, reader_shorter k unit s t x q)) (omega (arith, reader_shorter k' unit s' t x' q')) e)
    part-alike unit s s' b b' l =
        byte-alike 109 s s' _ _ _ _ l
        (λ x. number-rest x _ (λ n y. spaces-length y))
        (λ x x' m m' e. number-alike x x' _ _ e (λ n y. spaces-length y)
        (λ n y y' o o' e. spaces-alike y y' (read (predicate n)) (read (predicate n)) e (λ z. omega arith) (λ z z' q q' e. reads e)))
        (byte-alike 78 s s' _ _ _ _ l
        (λ x. after-rest (length x) (reader k unit (spaces x)) _ (omega (arith, reader-rest k unit (spaces x), spaces-length x)) (λ t r. omega arith))
        (λ x x' m m' e. inside-alike unit x x' _ _ (omega arith) (omega arith) e (λ t r. omega arith) (λ t z z' q q' e. reads e))
        (byte-alike 40 s s' _ _ _ _ l
        (λ x. after-rest (length x) (reader k formula (spaces x)) _ (omega (arith, reader-rest k formula (spaces x), spaces-length x)) closing-rest)
        (λ x x' m m' e. inside-alike formula x x' _ _ (omega arith) (omega arith) e closing-rest (λ t z z' q q' e. closing-alike t z z' e))
        (faults l)))

  reader-alike : (k k' : ℕ) (p : Part) (s s' : List ℕ) → 3 * length s + rank p < k → 3 * length s' + rank p < k' → Like s s' → Alike (reader k p s) (reader k' p s')
  reader-alike zero k' p s s' b b' l = absurd (omega arith)
  reader-alike (suc k) zero p s s' b b' l = absurd (omega arith)
  reader-alike (suc k) (suc k') p s s' b b' l = part-alike k k' (reader-alike k k') p s s' (omega arith) (omega arith) l

  text-alike : (s s' : List ℕ) → Like s s' → Alike (read_text s) (read_text s')
  unfolding rank
  text-alike s s' l =
      inside-alike (3 * length s + 3) (3 * length s' + 3) (reader-alike (3 * length s + 3) (3 * length s' + 3)) formula s s' ended ended
      (omega arith) (omega arith) l ended-rest (λ t x x' m m' e. ended-alike t x x' e)

  -- read past c, or at c in both
  no-tree : (t : Tree) → Alike (fault (c ∷ r)) (read t []) → ⊥
  unfolding rest
  no-tree t (passed h) = omega arith

  like : (p : List ℕ) → Like (p ++ (c ∷ r)) (p ++ (c ∷ r'))
  like [] = last
  like (b ∷ p) = same (like p)

no-fault : (r : List ℕ) (t : Tree) → fault r ≡ read t [] → ⊥
no-fault r t e = subst tell e tt
  where
    tell : Answer → Type 0
    tell (read t r) = ⊥
    tell (fault r) = Unit {0}

stops : (p r : List ℕ) → read_text (p ++ r) ≡ fault r → Stops p r
stops p [] e = λ t h. no-fault [] t (sym e ∙ rw (append-nil p) (text-read p t h))
stops p (c ∷ r) e =
    λ q t h. no-tree c r q t (subst (λ a. Alike c r q a (read t [])) e (subst (Alike c r q (read_text (p ++ (c ∷ r)))) (text-read (p ++ (c ∷ q)) t h) (text-alike c r q _ _ (like c r q p))))

-- the bytes before a place, and what follows them elsewhere
before_parts : (s r w : List ℕ) → Before s r w → (p : List ℕ) × (q : List ℕ) × (s ≡ p ++ r) × (w ≡ p ++ q)
before_parts s r w (here {s'}) = ([], s', refl, refl)
before_parts s r w (there {c} h) =
    let a = before_parts _ r _ h in
    (c ∷ a.0, a.1, ap (λ x. c ∷ x) a.2, ap (λ x. c ∷ x) a.3)

-- "a fault stands at the first byte with which no text of the language could go on, or at the end"
pub fault-place : (s r : List ℕ) → read_text s ≡ fault r → FaultAt s r
fault-place s r e =
    let h : Whole s (fault r) = subst (Whole s) e (text-answers s) in
    let a = before_parts s r h.0 h.3 in
    record { before = a.0; is = a.2; goes = (a.1, h.1, subst (λ w. Text w h.1) a.3 (spelled_is-text h.0 h.1 h.2)); stops = stops a.0 r (subst (λ x. read_text x ≡ fault r) a.2 e) }
