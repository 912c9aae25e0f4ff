-- Request 5: what is read is spelled, and what stands before a fault begins some text.
use mathlib.Core.Path.{◌≡◌, refl, sym, subst}
use mathlib.Core.Bool.{Bool, true, false, cond}
use mathlib.Core.List.{List, [], ◌∷◌}
use Prim.Native.Nat.{ℕ, zero, suc, ◌+◌, ◌*◌, ◌≤◌, ◌<◌}
use native.Mathlib.Omega.{arith}
use lib.Dec.{T, eqb, eqb→eq}
use lib.ListN.{length}
use Rattle.formulas.specs.Language.{Tree, predicate, next, both, when, grouped, digit, joined, Part, formula, conjunction, unit, Text}
use Rattle.formulas.specs.Reading.{spaces, byte, digits, numbered}
use Rattle.formulas.proofs.Spelling.{SpacesThen, then-none, then-space, DigitsThen, then-stop, then-more, NumberThen, then-number, Spelled, spelled-predicate, spelled-next, spelled-grouped, spelled_unit, spelled-both, spelled_conjunction, spelled-when, SpelledText, spelled-text, spelled_is-text}
use Rattle.formulas.proofs.PlainReader.{Answer, read, fault, after, arrowed, joining, closing, read_part, reader, ended, read_text}
use Rattle.formulas.proofs.CompleteLaws.{digits_shorter, number_shorter, spelled_shorter, spaces-length}

-- Sound

pub spaces-spelled : (s : List ℕ) → SpacesThen s (spaces s)
spaces-spelled [] = then-none
spaces-spelled (c ∷ s) = go (eqb c 32) (eqb→eq c 32) (spaces-spelled s)
  where
    go : (b : Bool) → (T b → c ≡ 32) → SpacesThen s (spaces s) → SpacesThen (c ∷ s) (cond b (spaces s) (c ∷ s))
    go true e h = rw (e tt) (then-space h)
    go false e h = then-none

pub byte_is : (c : ℕ) (s : List ℕ) (f : List ℕ → Answer) (a : Answer) (P : List ℕ → Answer → Type 0) → ((x : List ℕ) → P (c ∷ x) (f x)) → P s a → P s (byte c s f a)
byte_is c [] f a P h g = g
byte_is c (x ∷ s) f a P h g = go (eqb x c) (eqb→eq x c)
  where
    go : (b : Bool) → (T b → x ≡ c) → P (x ∷ s) (cond b (f s) a)
    go true e = rw (e tt) (h s)
    go false e = g

pub after_is : (a : Answer) (f : Tree → List ℕ → Answer) (Q P : Answer → Type 0) → Q a → ((t : Tree) (r : List ℕ) → Q (read t r) → P (f t r)) → ((r : List ℕ) → Q (fault r) → P (fault r)) → P (after a f)
after_is (read t r) f Q P q h g = h t r q
after_is (fault r) f Q P q h g = g r q

pub digits_is : (a : ℕ) (s : List ℕ) (f : ℕ → List ℕ → Answer) (P : Answer → Type 0) → ((n : ℕ) (r : List ℕ) → DigitsThen a s n r → P (f n r)) → P (digits a s f)
digits_is a [] f P h = h a [] then-stop
digits_is a (d ∷ s) f P h = go (digit d) (λ e. e) (λ e. digits_is (joined a d) s f P (λ n r m. h n r (then-more e m)))
  where
    go : (b : Bool) → (T b → T (digit d)) → (T (digit d) → P (digits (joined a d) s f)) → P (cond b (digits (joined a d) s f) (f a (d ∷ s)))
    go true e g = g (e tt)
    go false e g = h a (d ∷ s) then-stop

pub number_is : (s : List ℕ) (f : ℕ → List ℕ → Answer) (a : Answer) (P : Answer → Type 0) → ((n : ℕ) (r : List ℕ) → NumberThen s n r → P (f n r)) → P a → P (numbered s f a)
number_is [] f a P h g = g
number_is (d ∷ s) f a P h g = go (digit d) (λ e. e)
  where
    go : (b : Bool) → (T b → T (digit d)) → P (cond b (digits (joined 0 d) s f) a)
    go true e = digits_is (joined 0 d) s f P (λ n r m. h n r (then-number (e tt) m))
    go false e = g

-- s' begins with the bytes of s before r
pub data Before : List ℕ → List ℕ → List ℕ → Type 0 where
  here : {r s' : List ℕ} → Before r r s'
  there : {c : ℕ} {s r s' : List ℕ} → Before s r s' → Before (c ∷ s) r (c ∷ s')

before_shorter : (s r s' : List ℕ) → Before s r s' → length r ≤ length s
before_shorter s r s' here = omega arith
before_shorter s r s' (there h) = omega (arith, before_shorter _ r _ h)

-- what begins s may as well be followed by r' in place of r
record Moved (R : List ℕ → List ℕ → Type 0) (s r r' : List ℕ) : Type 0 where
  text' : List ℕ
  holds : R text' r'
  same : (x : List ℕ) → Before r x r' → Before s x text'

spaces-moved : (s r r' : List ℕ) → SpacesThen s r → Moved SpacesThen s r r'
spaces-moved s r r' then-none = record { text' = r'; holds = then-none; same = λ x b. b }
spaces-moved s r r' (then-space h) =
    let a = spaces-moved _ r r' h in
    record { text' = 32 ∷ a.text'; holds = then-space a.holds; same = λ x b. there (a.same x b) }

digits-moved : (k : ℕ) (s : List ℕ) (n : ℕ) (r r' : List ℕ) → DigitsThen k s n r → Moved (λ s r. DigitsThen k s n r) s r r'
digits-moved k s n r r' then-stop = record { text' = r'; holds = then-stop; same = λ x b. b }
digits-moved k s n r r' (then-more {d} e h) =
    let a = digits-moved _ _ n r r' h in
    record { text' = d ∷ a.text'; holds = then-more e a.holds; same = λ x b. there (a.same x b) }

number-moved : (s : List ℕ) (n : ℕ) (r r' : List ℕ) → NumberThen s n r → Moved (λ s r. NumberThen s n r) s r r'
number-moved s n r r' (then-number {d} e h) =
    let a = digits-moved _ _ n r r' h in
    record { text' = d ∷ a.text'; holds = then-number e a.holds; same = λ x b. there (a.same x b) }

spelled-moved : (p : Part) (s : List ℕ) (t : Tree) (r r' : List ℕ) → Spelled p s t r → Moved (λ s r. Spelled p s t r) s r r'
spelled-moved p s t r r' (spelled-predicate n m) =
    let b = spaces-moved _ r r' m in
    let a = number-moved _ _ _ b.text' n in
    record { text' = 109 ∷ a.text'; holds = spelled-predicate a.holds b.holds; same = λ x e. there (a.same x (b.same x e)) }
spelled-moved p s t r r' (spelled-next m h) =
    let b = spelled-moved unit _ _ r r' h in
    let a = spaces-moved _ _ b.text' m in
    record { text' = 78 ∷ a.text'; holds = spelled-next a.holds b.holds; same = λ x e. there (a.same x (b.same x e)) }
spelled-moved p s t r r' (spelled-grouped m h g) =
    let c = spaces-moved _ r r' g in
    let b = spelled-moved formula _ _ _ (41 ∷ c.text') h in
    let a = spaces-moved _ _ b.text' m in
    record { text' = 40 ∷ a.text'; holds = spelled-grouped a.holds b.holds c.holds; same = λ x e. there (a.same x (b.same x (there (c.same x e)))) }
spelled-moved p s t r r' (spelled_unit h) =
    let a = spelled-moved unit s t r r' h in
    record { text' = a.text'; holds = spelled_unit a.holds; same = a.same }
spelled-moved p s t r r' (spelled-both h m g) =
    let c = spelled-moved conjunction _ _ r r' g in
    let b = spaces-moved _ _ c.text' m in
    let a = spelled-moved unit s _ _ (38 ∷ b.text') h in
    record { text' = a.text'; holds = spelled-both a.holds b.holds c.holds; same = λ x e. a.same x (there (b.same x (c.same x e))) }
spelled-moved p s t r r' (spelled_conjunction h) =
    let a = spelled-moved conjunction s t r r' h in
    record { text' = a.text'; holds = spelled_conjunction a.holds; same = a.same }
spelled-moved p s t r r' (spelled-when n m g h) =
    let d = spelled-moved formula _ _ r r' h in
    let c = spaces-moved _ _ d.text' g in
    let b = spaces-moved _ _ (45 ∷ 62 ∷ c.text') m in
    let a = number-moved _ _ _ b.text' n in
    record {
      text' = 98 ∷ a.text';
      holds = spelled-when a.holds b.holds c.holds d.holds;
      same = λ x e. there (a.same x (b.same x (there (there (c.same x (d.same x e))))));
    }

-- the bytes of s before r begin a part, whatever z shall follow it
record Begins (p : Part) (s r z : List ℕ) : Type 0 where
  whole : List ℕ
  tree : Tree
  spelled : Spelled p whole tree z
  alike : Before s r whole

abbrev Begun : Part → List ℕ → List ℕ → Type 0
Begun p s r = (z : List ℕ) → Begins p s r z

-- what a reader may answer
abbrev Sound : Part → List ℕ → Answer → Type 0
Sound p s (read t r) = Spelled p s t r
Sound p s (fault r) = Begun p s r

-- a unit that may stand anywhere: `m0`
some_unit : (z : List ℕ) → Spelled unit (109 ∷ 48 ∷ z) (predicate 0) z
some_unit z = spelled-predicate (then-number tt then-stop) then-none

some-part : (p : Part) (z : List ℕ) → Spelled p (109 ∷ 48 ∷ z) (predicate 0) z
some-part formula z = spelled_conjunction (spelled_unit (some_unit z))
some-part conjunction z = spelled_unit (some_unit z)
some-part unit z = some_unit z

begun_here : (p : Part) (s : List ℕ) → Begun p s s
begun_here p s z = record { whole = 109 ∷ 48 ∷ z; tree = predicate 0; spelled = some-part p z; alike = here }

begun-predicate : (x : List ℕ) → Begun unit (109 ∷ x) x
begun-predicate x z = record { whole = 109 ∷ 48 ∷ z; tree = predicate 0; spelled = some_unit z; alike = there here }

begun-next : (x r : List ℕ) → Begun unit (spaces x) r → Begun unit (78 ∷ x) r
begun-next x r h z =
    let b = h z in
    let a = spaces-moved x (spaces x) b.whole (spaces-spelled x) in
    record { whole = 78 ∷ a.text'; tree = next b.tree; spelled = spelled-next a.holds b.spelled; alike = there (a.same r b.alike) }

begun-inside : (x r : List ℕ) → Begun formula (spaces x) r → Begun unit (40 ∷ x) r
begun-inside x r h z =
    let b = h (41 ∷ z) in
    let a = spaces-moved x (spaces x) b.whole (spaces-spelled x) in
    record { whole = 40 ∷ a.text'; tree = grouped b.tree; spelled = spelled-grouped a.holds b.spelled then-none; alike = there (a.same r b.alike) }

begun_close : (x : List ℕ) (t : Tree) (y : List ℕ) → Spelled formula (spaces x) t y → Begun unit (40 ∷ x) y
begun_close x t y h z =
    let b = spelled-moved formula (spaces x) t y (41 ∷ z) h in
    let a = spaces-moved x (spaces x) b.text' (spaces-spelled x) in
    record { whole = 40 ∷ a.text'; tree = grouped t; spelled = spelled-grouped a.holds b.holds then-none; alike = there (a.same y (b.same y here)) }

begun_unit : (s r : List ℕ) → Begun unit s r → Begun conjunction s r
begun_unit s r h z = let a = h z in record { whole = a.whole; tree = a.tree; spelled = spelled_unit a.spelled; alike = a.alike }

begun-both : (s : List ℕ) (t : Tree) (y r : List ℕ) → Spelled unit s t (38 ∷ y) → Begun conjunction (spaces y) r → Begun conjunction s r
begun-both s t y r h g z =
    let c = g z in
    let b = spaces-moved y (spaces y) c.whole (spaces-spelled y) in
    let a = spelled-moved unit s t (38 ∷ y) (38 ∷ b.text') h in
    record { whole = a.text'; tree = both t c.tree; spelled = spelled-both a.holds b.holds c.spelled; alike = a.same r (there (b.same r c.alike)) }

begun_conjunction : (s r : List ℕ) → Begun conjunction s r → Begun formula s r
begun_conjunction s r h z = let a = h z in record { whole = a.whole; tree = a.tree; spelled = spelled_conjunction a.spelled; alike = a.alike }

begun-node : (x : List ℕ) → Begun formula (98 ∷ x) x
begun-node x z =
    record {
      whole = 98 ∷ 48 ∷ 45 ∷ 62 ∷ 109 ∷ 48 ∷ z;
      tree = when 0 (predicate 0);
      spelled = spelled-when (then-number tt then-stop) then-none then-none (some-part formula z);
      alike = there here;
    }

-- behind the number, some of the arrow already there
begun_arrow : (x : List ℕ) (n : ℕ) (y r : List ℕ) → NumberThen x n y → ((z : List ℕ) → Before (spaces y) r (45 ∷ 62 ∷ z)) → Begun formula (98 ∷ x) r
begun_arrow x n y r h g z =
    let b = spaces-moved y (spaces y) (45 ∷ 62 ∷ 109 ∷ 48 ∷ z) (spaces-spelled y) in
    let a = number-moved x n y b.text' h in
    record {
      whole = 98 ∷ a.text';
      tree = when n (predicate 0);
      spelled = spelled-when a.holds b.holds then-none (some-part formula z);
      alike = there (a.same r (b.same r (g (109 ∷ 48 ∷ z))));
    }

begun-when : (x : List ℕ) (n : ℕ) (y w r : List ℕ) → NumberThen x n y → SpacesThen y (45 ∷ 62 ∷ w) → Begun formula (spaces w) r → Begun formula (98 ∷ x) r
begun-when x n y w r h m g z =
    let d = g z in
    let c = spaces-moved w (spaces w) d.whole (spaces-spelled w) in
    let b = spaces-moved y (45 ∷ 62 ∷ w) (45 ∷ 62 ∷ c.text') m in
    let a = number-moved x n y b.text' h in
    record {
      whole = 98 ∷ a.text';
      tree = when n d.tree;
      spelled = spelled-when a.holds b.holds c.holds d.spelled;
      alike = there (a.same r (b.same r (there (there (c.same r d.alike)))));
    }

as-formula : (s : List ℕ) (a : Answer) → Sound conjunction s a → Sound formula s a
as-formula s (read t r) h = spelled_conjunction h
as-formula s (fault r) h = begun_conjunction s r h

module _ (rec : Part → List ℕ → Answer) (ih : (p : Part) (s : List ℕ) → Sound p s (rec p s)) where
  arrow-sound : (x : List ℕ) (n : ℕ) (y s : List ℕ) → NumberThen x n y → s ≡ spaces y → Sound formula (98 ∷ x) (arrowed rec n s)
  arrow-sound x n y s h e =
      byte_is 45 s _ _ (λ s a. s ≡ spaces y → Sound formula (98 ∷ x) a)
      (λ u. byte_is 62 u _ _ (λ u a. 45 ∷ u ≡ spaces y → Sound formula (98 ∷ x) a)
      (λ w e. after_is (rec formula (spaces w)) _ (Sound formula (spaces w)) (Sound formula (98 ∷ x)) (ih formula (spaces w))
      (λ t r g. spelled-when h (rw (sym e) at (spaces-spelled y)) (spaces-spelled w) g)
      (λ r g. begun-when x n y w r h (rw (sym e) at (spaces-spelled y)) g))
      (λ e. begun_arrow x n y u h (λ z. rw (sym e) (there here))))
      (λ e. begun_arrow x n y s h (λ z. rw (sym e) here))
      e

  joining-sound : (s : List ℕ) (t : Tree) (x : List ℕ) → Spelled unit s t x → Sound conjunction s (joining rec t x)
  joining-sound s t x h =
      byte_is 38 x _ _ (λ x a. Spelled unit s t x → Sound conjunction s a)
      (λ y h. after_is (rec conjunction (spaces y)) _ (Sound conjunction (spaces y)) (Sound conjunction s) (ih conjunction (spaces y))
      (λ u r g. spelled-both h (spaces-spelled y) g)
      (λ r g. begun-both s t y r h g))
      (λ h. spelled_unit h)
      h

  closing-sound : (x : List ℕ) (t : Tree) (y : List ℕ) → Spelled formula (spaces x) t y → Sound unit (40 ∷ x) (closing t y)
  closing-sound x t y h =
      byte_is 41 y _ _ (λ y a. Spelled formula (spaces x) t y → Sound unit (40 ∷ x) a)
      (λ z h. spelled-grouped (spaces-spelled x) h (spaces-spelled z))
      (λ h. begun_close x t y h)
      h

  part_sound : (p : Part) (s : List ℕ) → Sound p s (read_part rec p s)
  part_sound formula s =
      byte_is 98 s _ _ (Sound formula)
      (λ x. number_is x _ _ (Sound formula (98 ∷ x)) (λ n y h. arrow-sound x n y (spaces y) h refl) (begun-node x))
      (as-formula s (rec conjunction s) (ih conjunction s))
  part_sound conjunction s =
      after_is (rec unit s) _ (Sound unit s) (Sound conjunction s) (ih unit s) (joining-sound s) (begun_unit s)
  part_sound unit s =
      byte_is 109 s _ _ (Sound unit) (λ x. number_is x _ _ (Sound unit (109 ∷ x)) (λ n y h. spelled-predicate h (spaces-spelled y)) (begun-predicate x))
      (byte_is 78 s _ _ (Sound unit)
      (λ x. after_is (rec unit (spaces x)) _ (Sound unit (spaces x)) (Sound unit (78 ∷ x)) (ih unit (spaces x)) (λ t r h. spelled-next (spaces-spelled x) h) (begun-next x))
      (byte_is 40 s _ _ (Sound unit)
      (λ x. after_is (rec formula (spaces x)) _ (Sound formula (spaces x)) (Sound unit (40 ∷ x)) (ih formula (spaces x)) (closing-sound x) (begun-inside x))
      (begun_here unit s)))

sound : (k : ℕ) (p : Part) (s : List ℕ) → Sound p s (reader k p s)
sound zero p s = begun_here p s
sound (suc k) p s = part_sound (reader k) (sound k) p s

abbrev pub Whole : List ℕ → Answer → Type 0
Whole s (read t r) = SpelledText s t
Whole s (fault r) = (w : List ℕ) × (t : Tree) × SpelledText w t × Before s r w

pub text-answers : (s : List ℕ) → Whole s (read_text s)
text-answers s = after_is (reader (3 * length s + 3) formula (spaces s)) ended (Sound formula (spaces s)) (Whole s) (sound (3 * length s + 3) formula (spaces s)) go failed
  where
    go : (t : Tree) (r : List ℕ) → Spelled formula (spaces s) t r → Whole s (ended t r)
    go t [] h = spelled-text (spaces-spelled s) h
    go t (c ∷ r) h =
        let b = spelled-moved formula (spaces s) t (c ∷ r) [] h in
        let a = spaces-moved s (spaces s) b.text' (spaces-spelled s) in
        (a.text', t, spelled-text a.holds b.holds, a.same (c ∷ r) (b.same (c ∷ r) here))

    failed : (r : List ℕ) → Begun formula (spaces s) r → Whole s (fault r)
    failed r h =
        let b = h [] in
        let a = spaces-moved s (spaces s) b.whole (spaces-spelled s) in
        (a.text', b.tree, spelled-text a.holds b.spelled, a.same r b.alike)

-- "exactly this language is read": nothing else
pub text-spelled : (s : List ℕ) (t : Tree) (r : List ℕ) → read_text s ≡ read t r → Text s t
text-spelled s t r e = spelled_is-text s t (subst (Whole s) e (text-answers s))

-- What is left is no longer than the text

unfoldable pub rest : Answer → List ℕ
rest (read t r) = r
rest (fault r) = r

pub reader-rest : (k : ℕ) (p : Part) (s : List ℕ) → length (rest (reader k p s)) ≤ length s
unfolding rest
reader-rest k p s = go (reader k p s) (sound k p s)
  where
    go : (a : Answer) → Sound p s a → length (rest a) ≤ length s
    go (read t r) h = omega (arith, spelled_shorter p s t r h)
    go (fault r) h = before_shorter s r _ (h []).alike

pub byte-rest : (c : ℕ) (s : List ℕ) (f : List ℕ → Answer) (a : Answer) → ((x : List ℕ) → length (rest (f x)) ≤ length x) → length (rest a) ≤ length s → length (rest (byte c s f a)) ≤ length s
byte-rest c s f a h g = byte_is c s f a (λ s a. length (rest a) ≤ length s) (λ x. omega (arith, h x)) g

pub after-rest : (n : ℕ) (a : Answer) (f : Tree → List ℕ → Answer) → length (rest a) ≤ n → ((t : Tree) (x : List ℕ) → length (rest (f t x)) ≤ length x) → length (rest (after a f)) ≤ n
unfolding rest
after-rest n (read t r) f h g = omega (arith, g t r)
after-rest n (fault r) f h g = h

pub digits-rest : (a : ℕ) (s : List ℕ) (f : ℕ → List ℕ → Answer) → ((n : ℕ) (x : List ℕ) → length (rest (f n x)) ≤ length x) → length (rest (digits a s f)) ≤ length s
digits-rest a s f h = digits_is a s f (λ a. length (rest a) ≤ length s) (λ n r m. omega (arith, h n r, digits_shorter a s n r m))

pub number-rest : (s : List ℕ) (f : ℕ → List ℕ → Answer) → ((n : ℕ) (x : List ℕ) → length (rest (f n x)) ≤ length x) → length (rest (numbered s f (fault s))) ≤ length s
unfolding rest
number-rest s f h = number_is s f (fault s) (λ a. length (rest a) ≤ length s) (λ n r m. omega (arith, h n r, number_shorter s n r m)) (omega arith)

pub arrow-rest : (k n : ℕ) (s : List ℕ) → length (rest (arrowed (reader k) n s)) ≤ length s
unfolding rest
arrow-rest k n s =
    byte-rest 45 s _ _
    (λ x. byte-rest 62 x _ _ (λ y. after-rest (length y) (reader k formula (spaces y)) _ (omega (arith, reader-rest k formula (spaces y), spaces-length y)) (λ t r. omega arith)) (omega arith))
    (omega arith)

pub joining-rest : (k : ℕ) (t : Tree) (s : List ℕ) → length (rest (joining (reader k) t s)) ≤ length s
unfolding rest
joining-rest k t s =
    byte-rest 38 s _ _
    (λ y. after-rest (length y) (reader k conjunction (spaces y)) _ (omega (arith, reader-rest k conjunction (spaces y), spaces-length y)) (λ u r. omega arith))
    (omega arith)

pub closing-rest : (t : Tree) (s : List ℕ) → length (rest (closing t s)) ≤ length s
unfolding rest
closing-rest t s = byte-rest 41 s _ _ (λ x. spaces-length x) (omega arith)

pub ended-rest : (t : Tree) (s : List ℕ) → length (rest (ended t s)) ≤ length s
unfolding rest
ended-rest t [] = omega arith
ended-rest t (c ∷ s) = omega arith

-- what a reader reads is spelled
pub reader-spelled : (k : ℕ) (p : Part) (s : List ℕ) (t : Tree) (x : List ℕ) → reader k p s ≡ read t x → Spelled p s t x
reader-spelled k p s t x e = subst (Sound p s) e (sound k p s)

pub reader_shorter : (k : ℕ) (p : Part) (s : List ℕ) (t : Tree) (x : List ℕ) → reader k p s ≡ read t x → length x < length s
reader_shorter k p s t x e = spelled_shorter p s t x (subst (Sound p s) e (sound k p s))
