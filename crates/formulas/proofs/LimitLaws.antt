-- Request 5, rows 15 and 16: the reader with limits beside the reader of the language.
use mathlib.Core.Path.{◌≡◌, refl, sym, ap, subst, ◌∙◌}
use mathlib.Core.Logic.{◌↔◌}
use mathlib.Core.Bool.{Bool, true, false, cond, ◌&&◌}
use mathlib.Core.List.{List, [], ◌∷◌, ◌++◌}
use Prim.Native.Nat.{ℕ, zero, suc, ◌+◌, ◌*◌, ◌≤◌, ◌<◌}
use native.Mathlib.Omega.{arith}
use lib.Dec.{T, eqb, eqb→eq}
use lib.ListN.{length}
use Rattle.formulas.specs.Language.{Tree, predicate, when, grouped, digit, joined, Part, formula, conjunction, unit, Text}
use Rattle.formulas.specs.Reading.{spaces, byte, digits, numbered, Limits, within, Verdict, fine, wrong, follow, opened, judge_arrow, judge_joining, judge_closing, judge_part, judge, judge_ended, judge_text}
use Rattle.formulas.specs.Faults.{Token, letter_m, letter-b, letter-N, parenthesis, arrow, bytes, Stands, Plain, plain_end, plain, Wrong, outside, wrong-predicate, wrong-node, deep_group, deep-next, deep_arrow}
use Rattle.formulas.proofs.Spelling.{SpacesThen, DigitsThen, then-stop, then-more, NumberThen, then-number, Spelled, SpacesIn, spaces_in, number_in}
use Rattle.formulas.proofs.Placing.{AroundThen, then_m, then-N, then_parenthesis, then_b, then_arrow, under_next, under_group, under_arrow, under_unit, past_and, under_conjunction, AroundIn, around_in}
use Rattle.formulas.proofs.PlainReader.{Answer, read, fault, after, arrowed, joining, closing, read_part, reader, ended, read_text}
use Rattle.formulas.proofs.CompleteLaws.{number_shorter, spaces-length, formula-read}
use Rattle.formulas.proofs.SoundLaws.{spaces-spelled, byte_is, after_is, text-spelled, rest, reader-rest, after-rest, arrow-rest, joining-rest, closing-rest, ended-rest, reader-spelled}
use Rattle.formulas.proofs.FaultLaws.{fault-place}

pub and_left : (a b : Bool) → T (a && b) → T a
and_left true b h = tt
and_left false b h = elim h [ ]

pub and_right : (a b : Bool) → T (a && b) → T b
and_right true b h = h
and_right false b h = elim h [ ]

pub and_both : (a b : Bool) → T a → T b → T (a && b)
and_both true b h g = g
and_both false b h g = elim h [ ]

-- two readers side by side
byte-both : (c : ℕ) (s : List ℕ) (f : List ℕ → Answer) (a : Answer) (g : List ℕ → Verdict) (v : Verdict) (R : List ℕ → Answer → Verdict → Type 0)
    → ((x : List ℕ) → R (c ∷ x) (f x) (g x)) → R s a v → R s (byte c s f a) (byte c s g v)
byte-both c [] f a g v R h e = e
byte-both c (x ∷ s) f a g v R h e = go (eqb x c) (eqb→eq x c)
  where
    go : (b : Bool) → (T b → x ≡ c) → R (x ∷ s) (cond b (f s) a) (cond b (g s) v)
    go true i = rw (i tt) (h s)
    go false i = e

digits-both : (k : ℕ) (s : List ℕ) (f : ℕ → List ℕ → Answer) (g : ℕ → List ℕ → Verdict) (R : Answer → Verdict → Type 0)
    → ((n : ℕ) (r : List ℕ) → DigitsThen k s n r → Plain r → R (f n r) (g n r)) → R (digits k s f) (digits k s g)
digits-both k [] f g R h = h k [] then-stop plain_end
digits-both k (d ∷ s) f g R h = go (digit d) refl (λ e. digits-both (joined k d) s f g R (λ n r m. h n r (then-more e m)))
  where
    go : (b : Bool) → digit d ≡ b → (T (digit d) → R (digits (joined k d) s f) (digits (joined k d) s g))
        → R (cond b (digits (joined k d) s f) (f k (d ∷ s))) (cond b (digits (joined k d) s g) (g k (d ∷ s)))
    go true e i = i (rw e tt)
    go false e i = h k (d ∷ s) then-stop (plain e)

number-both : (s : List ℕ) (f : ℕ → List ℕ → Answer) (a : Answer) (g : ℕ → List ℕ → Verdict) (v : Verdict) (R : Answer → Verdict → Type 0)
    → ((n : ℕ) (r : List ℕ) → NumberThen s n r → Plain r → R (f n r) (g n r)) → R a v → R (numbered s f a) (numbered s g v)
number-both [] f a g v R h e = e
number-both (d ∷ s) f a g v R h e = go (digit d) (λ e. e)
  where
    go : (b : Bool) → (T b → T (digit d)) → R (cond b (digits (joined 0 d) s f) a) (cond b (digits (joined 0 d) s g) v)
    go true i = digits-both (joined 0 d) s f g R (λ n r m. h n r (then-number (i tt) m))
    go false i = e

-- row k refuses the token c at x, with e open around it, where d may be
pub data Refused (l : Limits) (d : ℕ) : ℕ → Token → List ℕ → ℕ → Type 0 where
  predicate-refused : {s r : List ℕ} {n e : ℕ} → NumberThen s n r → Plain r → l.predicates n ≡ false → Refused l d 15 letter_m (109 ∷ s) e
  node-refused : {s r : List ℕ} {n e : ℕ} → NumberThen s n r → Plain r → l.nodes n ≡ false → Refused l d 15 letter-b (98 ∷ s) e
  next-refused : {s : List ℕ} → Refused l d 16 letter-N (78 ∷ s) d
  group-refused : {s : List ℕ} → Refused l d 16 parenthesis (40 ∷ s) d
  arrow-refused : {s : List ℕ} → Refused l d 16 arrow (45 ∷ 62 ∷ s) d

module _ (l : Limits) where
  -- no tree within the limits is read
  abbrev pub Bad : ℕ → Answer → Type 0
  Bad d (read t r) = T (within l d t) → ⊥
  Bad d (fault r) = Unit {0}

  -- of a part at s: the readers agree, or the one with limits stopped earlier, for a reason
  pub data Beside (p : Part) (s : List ℕ) (d : ℕ) : Answer → Verdict → Type 0 where
    agrees : {t : Tree} {r : List ℕ} → T (within l d t) → Beside p s d (read t r) (fine t r)
    faulty : {r : List ℕ} → Beside p s d (fault r) (wrong 15 r)
    earlier : {a : Answer} {k e : ℕ} {c : Token} {x : List ℕ} → Refused l d k c x e → AroundThen p s c x e → Bad d a → length (rest a) < length x → Beside p s d a (wrong k x)

  refused-more : (d k : ℕ) (c : Token) (x : List ℕ) (e : ℕ) → Refused l d k c x e → Refused l (suc d) k c x (suc e)
  refused-more d k c x e (predicate-refused h u v) = predicate-refused h u v
  refused-more d k c x e (node-refused h u v) = node-refused h u v
  refused-more d k c x e next-refused = next-refused
  refused-more d k c x e group-refused = group-refused
  refused-more d k c x e arrow-refused = arrow-refused

  -- a place in a part q at y, which stands inside the part p at s
  abbrev Within : Part → List ℕ → ℕ → Part → List ℕ → ℕ → Type 0
  Within q y e p s d = (k i : ℕ) (c : Token) (x : List ℕ) → AroundThen q y c x i → Refused l e k c x i → (j : ℕ) × AroundThen p s c x j × Refused l d k c x j

  after-beside : (p : Part) (s : List ℕ) (d : ℕ) (q : Part) (y : List ℕ) (e : ℕ) (a : Answer) (v : Verdict) (f : Tree → List ℕ → Answer) (g : Tree → List ℕ → Verdict)
      → Beside q y e a v → Within q y e p s d
      → ((t : Tree) (x : List ℕ) → length (rest (f t x)) ≤ length x)
      → ((t : Tree) (x : List ℕ) → (T (within l e t) → ⊥) → Bad d (f t x))
      → ((t : Tree) (x : List ℕ) → a ≡ read t x → T (within l e t) → Beside p s d (f t x) (g t x))
      → Beside p s d (after a f) (follow v g)
  after-beside p s d q y e a v f g (agrees h) n m b i = i _ _ refl h
  after-beside p s d q y e a v f g faulty n m b i = faulty
  after-beside p s d q y e a v f g (earlier {k} {e = j} {c = o} {x} w u h c) n m b i =
      let z = n k j o x u w in
      earlier z.2 z.1 (after_is a f (Bad e) (Bad d) h b (λ r u. tt)) (go (length (rest a)) (after-rest (length (rest a)) a f (omega arith) m) c)
    where
      go : (n : ℕ) → length (rest (after a f)) ≤ n → n < length x → length (rest (after a f)) < length x
      go n p q = omega arith

  closing_bad : (d : ℕ) (t : Tree) (s : List ℕ) → (T (within l (suc d) (grouped t)) → ⊥) → Bad (suc d) (closing t s)
  closing_bad d t s h = byte_is 41 s _ _ (λ s a. Bad (suc d) a) (λ x. h) tt

  closing-deep : (t : Tree) (s : List ℕ) → Bad 0 (closing t s)
  closing-deep t s = byte_is 41 s _ _ (λ s a. Bad 0 a) (λ x h. h) tt

  closing-beside : (p : Part) (w : List ℕ) (d : ℕ) (t : Tree) (s : List ℕ) → T (within l d t) → Beside p w (suc d) (closing t s) (judge_closing t s)
  closing-beside p w d t s h = byte-both 41 s _ _ _ _ (λ s a v. Beside p w (suc d) a v) (λ x. agrees h) faulty

  module _ (k : ℕ) (ih : (d : ℕ) (p : Part) (s : List ℕ) → Beside p s d (reader k p s) (judge l k d p s)) where
    -- a part q inside one then-more opener, which stands at x
    inside : (p : Part) (o : List ℕ) (d : ℕ) (q : Part) (s : List ℕ) (v : Token) (x : List ℕ) (f : Tree → List ℕ → Answer) (g : Tree → List ℕ → Verdict)
        → Refused l 0 16 v x 0 → AroundThen p o v x 0 → ((i : ℕ) (c : Token) (x : List ℕ) → AroundThen q (spaces s) c x i → AroundThen p o c x (suc i)) → length s < length x
        → ((t : Tree) (y : List ℕ) → length (rest (f t y)) ≤ length y)
        → ((t : Tree) (y : List ℕ) → Bad 0 (f t y))
        → ((e : ℕ) (t : Tree) (y : List ℕ) → (T (within l e t) → ⊥) → Bad (suc e) (f t y))
        → ((e : ℕ) (t : Tree) (y : List ℕ) → T (within l e t) → Beside p o (suc e) (f t y) (g t y))
        → Beside p o d (after (reader k q (spaces s)) f) (opened d x (λ e. follow (judge l k e q (spaces s)) g))
    inside p o zero q s v x f g w z n m h b c i =
        earlier w z (after_is (reader k q (spaces s)) f (λ a. Unit {0}) (Bad 0) tt (λ t r u. b t r) (λ r u. tt))
        (go (after-rest (length (spaces s)) (reader k q (spaces s)) f (reader-rest k q (spaces s)) h) (spaces-length s))
      where
        go : length (rest (after (reader k q (spaces s)) f)) ≤ length (spaces s) → length (spaces s) ≤ length s → length (rest (after (reader k q (spaces s)) f)) < length x
        go q r = omega arith
    inside p o (suc d) q s v x f g w z n m h b c i =
        after-beside p o (suc d) q (spaces s) d (reader k q (spaces s)) (judge l k d q (spaces s)) f g (ih d q (spaces s))
        (λ k j c x a u. (suc j, n j c x a, refused-more d k c x j u)) h (c d) (λ t y e. i d t y)

    arrow-beside : (x y : List ℕ) (d n : ℕ) (s : List ℕ) → NumberThen x n y → s ≡ spaces y → l.nodes n ≡ true → Beside formula (98 ∷ x) d (arrowed (reader k) n s) (judge_arrow (judge l k) d n s)
    unfolding rest
    arrow-beside x y d n s h q e =
        byte-both 45 s _ _ _ _ (λ s a v. s ≡ spaces y → Beside formula (98 ∷ x) d a v)
        (λ u. byte-both 62 u _ _ _ _ (λ u a v. 45 ∷ u ≡ spaces y → Beside formula (98 ∷ x) d a v)
        (λ w q. let m : SpacesThen y (45 ∷ 62 ∷ w) = rw (sym q) at (spaces-spelled y) in
        inside formula (98 ∷ x) d formula w arrow (45 ∷ 62 ∷ w) _ _ arrow-refused (then_arrow h m) (λ i c z a. under_arrow h m (spaces-spelled w) a) (omega arith)
        (λ t r. omega arith) (λ t r h. h)
        (λ i t r h u. h (and_right (l.nodes n) (within l i t) u)) (λ i t r h. agrees (rw e h)))
        (λ q. faulty))
        (λ q. faulty)
        q

    arrow_bad : (d n : ℕ) (s : List ℕ) → l.nodes n ≡ false → Bad d (arrowed (reader k) n s)
    arrow_bad d n s e =
        byte_is 45 s _ _ (λ s a. Bad d a)
        (λ x. byte_is 62 x _ _ (λ s a. Bad d a)
        (λ y. after_is (reader k formula (spaces y)) _ (λ a. Unit {0}) (Bad d) tt (λ t r u. go d t) (λ r u. tt))
        tt)
        tt
      where
        go : (d : ℕ) (t : Tree) → T (within l d (when n t)) → ⊥
        go zero t h = h
        go (suc d) t h = rw e at h

    joining_bad : (d : ℕ) (t : Tree) (s : List ℕ) → (T (within l d t) → ⊥) → Bad d (joining (reader k) t s)
    joining_bad d t s h =
        byte_is 38 s _ _ (λ s a. Bad d a)
        (λ x. after_is (reader k conjunction (spaces x)) _ (λ a. Unit {0}) (Bad d) tt (λ u r v w. h (and_left (within l d t) (within l d u) w)) (λ r u. tt))
        h

    joining-beside : (o : List ℕ) (d : ℕ) (t : Tree) (s : List ℕ) → Spelled unit o t s → T (within l d t)
        → Beside conjunction o d (joining (reader k) t s) (judge_joining (judge l k) d t s)
    unfolding rest
    joining-beside o d t s m h =
        byte-both 38 s _ _ _ _ (λ s a v. Spelled unit o t s → Beside conjunction o d a v)
        (λ x m. after-beside conjunction o d conjunction (spaces x) d (reader k conjunction (spaces x)) (judge l k d conjunction (spaces x)) _ _ (ih d conjunction (spaces x))
        (λ k j c x' a u. (j, past_and m (spaces-spelled x) a, u)) (λ u r. omega arith)
        (λ u r v w. v (and_right (within l d t) (within l d u) w)) (λ u r e v. agrees (and_both (within l d t) (within l d u) h v)))
        (λ m. agrees h)
        m

    node-beside : (d n : ℕ) (x y : List ℕ) → NumberThen x n y → Plain y → (b : Bool) → l.nodes n ≡ b
        → Beside formula (98 ∷ x) d (arrowed (reader k) n (spaces y)) (cond b (judge_arrow (judge l k) d n (spaces y)) (wrong 15 (98 ∷ x)))
    node-beside d n x y h c true e = arrow-beside x y d n (spaces y) h refl e
    node-beside d n x y h c false e =
        earlier {e = 0} (node-refused h c e) then_b (arrow_bad d n (spaces y) e) (go (arrow-rest k n (spaces y)) (spaces-length y) (number_shorter x n y h))
      where
        go : length (rest (arrowed (reader k) n (spaces y))) ≤ length (spaces y) → length (spaces y) ≤ length y → length y < length x → length (rest (arrowed (reader k) n (spaces y))) < suc (length x)
        go p q r = omega arith

    predicate-beside : (d n : ℕ) (x y : List ℕ) → NumberThen x n y → Plain y → (b : Bool) → l.predicates n ≡ b
        → Beside unit (109 ∷ x) d (read (predicate n) (spaces y)) (cond b (fine (predicate n) (spaces y)) (wrong 15 (109 ∷ x)))
    unfolding rest
    predicate-beside d n x y h c true e = agrees {t = predicate n} (rw e tt)
    predicate-beside d n x y h c false e =
        earlier {a = read (predicate n) (spaces y)} {e = 0} (predicate-refused h c e) then_m (λ u. rw e at u) (omega (arith, spaces-length y, number_shorter x n y h))

    conjunction-beside : (d : ℕ) (s : List ℕ) (a : Answer) (v : Verdict) → Beside conjunction s d a v → Beside formula s d a v
    conjunction-beside d s a v (agrees h) = agrees h
    conjunction-beside d s a v faulty = faulty
    conjunction-beside d s a v (earlier w o h m) = earlier w (under_conjunction o) h m

    part-beside : (d : ℕ) (p : Part) (s : List ℕ) → Beside p s d (read_part (reader k) p s) (judge_part l (judge l k) d p s)
    unfolding rest
    part-beside d formula s =
        byte-both 98 s _ _ _ _ (λ s a v. Beside formula s d a v)
        (λ x. number-both x _ _ _ _ (Beside formula (98 ∷ x) d) (λ n y h c. node-beside d n x y h c (l.nodes n) refl) faulty)
        (conjunction-beside d s _ _ (ih d conjunction s))
    part-beside d conjunction s =
        after-beside conjunction s d unit s d (reader k unit s) (judge l k d unit s) _ _ (ih d unit s) (λ k j c x a u. (j, under_unit a, u)) (joining-rest k) (joining_bad d)
        (λ t x e. joining-beside s d t x (reader-spelled k unit s t x e))
    part-beside d unit s =
        byte-both 109 s _ _ _ _ (λ s a v. Beside unit s d a v)
        (λ x. number-both x _ _ _ _ (Beside unit (109 ∷ x) d) (λ n y h c. predicate-beside d n x y h c (l.predicates n) refl) faulty)
        (byte-both 78 s _ _ _ _ (λ s a v. Beside unit s d a v)
        (λ x. inside unit (78 ∷ x) d unit x letter-N (78 ∷ x) _ _ next-refused then-N (λ i c z a. under_next (spaces-spelled x) a) (omega arith)
        (λ t r. omega arith) (λ t r h. h) (λ i t r h. h) (λ i t r h. agrees h))
        (byte-both 40 s _ _ _ _ (λ s a v. Beside unit s d a v)
        (λ x. inside unit (40 ∷ x) d formula x parenthesis (40 ∷ x) _ _ group-refused then_parenthesis (λ i c z a. under_group (spaces-spelled x) a) (omega arith)
        closing-rest closing-deep (λ i t r h. closing_bad i t r h) (closing-beside unit (40 ∷ x)))
        faulty))

  pub beside : (k d : ℕ) (p : Part) (s : List ℕ) → Beside p s d (reader k p s) (judge l k d p s)
  beside zero d p s = faulty
  beside (suc k) d p s = part-beside k (beside k) d p s

  ended_bad : (t : Tree) (r : List ℕ) → (T (within l 32 t) → ⊥) → Bad 32 (ended t r)
  ended_bad t [] h = h
  ended_bad t (c ∷ r) h = tt

  ended-beside : (s : List ℕ) (t : Tree) (r : List ℕ) → T (within l 32 t) → Beside formula s 32 (ended t r) (judge_ended t r)
  ended-beside s t [] h = agrees h
  ended-beside s t (c ∷ r) h = faulty

  pub text-beside : (s : List ℕ) → Beside formula (spaces s) 32 (read_text s) (judge_text l s)
  text-beside s =
      after-beside formula (spaces s) 32 formula (spaces s) 32 (reader (3 * length s + 3) formula (spaces s)) (judge l (3 * length s + 3) 32 formula (spaces s)) ended judge_ended
      (beside (3 * length s + 3) 32 formula (spaces s)) (λ k j c x a u. (j, a, u)) ended-rest ended_bad (λ t r e. ended-beside (spaces s) t r)

  pub fine-reads : (p : Part) (s : List ℕ) (d : ℕ) (a : Answer) (t : Tree) (r : List ℕ) → Beside p s d a (fine t r) → (a ≡ read t r) × T (within l d t)
  fine-reads p s d a t r (agrees h) = (refl, h)

  reads-fine : (s : List ℕ) (d : ℕ) (t : Tree) (r : List ℕ) (v : Verdict) → Beside formula s d (read t r) v → T (within l d t) → v ≡ fine t r
  reads-fine s d t r v (agrees h) g = refl
  reads-fine s d t r v (earlier w o b m) g = absurd (b g)

  -- a text is read where as many may be open as its tree has
  pub judge-fine : (s : List ℕ) (d : ℕ) (t : Tree) → Text s t → T (within l d t) → judge l (3 * length s + 3) d formula (spaces s) ≡ fine t []
  judge-fine s d t h g =
      let k = 3 * length s + 3 in
      reads-fine (spaces s) d t [] (judge l k d formula (spaces s)) (subst (λ a. Beside formula (spaces s) d a (judge l k d formula (spaces s))) (formula-read s t h) (beside k d formula (spaces s))) g

-- "But for wrong numbers and 16, exactly this language is read"
pub judged-fine : (l : Limits) (s : List ℕ) (t : Tree) → (judge_text l s ≡ fine t []) ↔ (Text s t × T (within l 32 t))
judged-fine l s t = (
  λ e. let h = fine-reads l formula (spaces s) 32 (read_text s) t [] (subst (Beside l formula (spaces s) 32 (read_text s)) e (text-beside l s)) in (text-spelled s t [] h.0, h.1),
  λ h. ap (λ v. follow v judge_ended) (judge-fine l s 32 t h.0 h.1),
)

-- a refusal of the reader is a row that is met there
refused-wrong : (l : Limits) (s : List ℕ) (k : ℕ) (c : Token) (x : List ℕ) (e : ℕ) → Refused l 32 k c x e → AroundThen formula (spaces s) c x e → Wrong l s k x
refused-wrong l s k c x e w o = go k c x e w (spaces_in s (spaces s) (spaces-spelled s)) (around_in formula (spaces s) c x e o)
  where
    stands : (c : Token) (x : List ℕ) (e : ℕ) (r : List ℕ) → SpacesIn s (spaces s) → (b : AroundIn formula (spaces s) c x e) → x ≡ bytes c ++ r → Stands s c e r
    stands c x e r a b q =
        record { lead = a.own; before = b.before; spaces = a.spaces; around = b.around; is = a.is ∙ ap (λ y. a.own ++ y) (b.is ∙ ap (λ y. b.before ++ y) q) }

    go : (k : ℕ) (c : Token) (x : List ℕ) (e : ℕ) → Refused l 32 k c x e → SpacesIn s (spaces s) → AroundIn formula (spaces s) c x e → Wrong l s k x
    go k c x e (predicate-refused {s = u} {r} {n} h p q) a b =
        let d = number_in u n r h in
        rw d.is (wrong-predicate (stands c x e (d.own ++ r) a b (ap (λ y. 109 ∷ y) d.is)) d.number p q)
    go k c x e (node-refused {s = u} {r} {n} h p q) a b =
        let d = number_in u n r h in
        rw d.is (wrong-node (stands c x e (d.own ++ r) a b (ap (λ y. 98 ∷ y) d.is)) d.number p q)
    go k c x e (next-refused {s = u}) a b = deep-next (stands c x e u a b refl)
    go k c x e (group-refused {s = u}) a b = deep_group (stands c x e u a b refl)
    go k c x e (arrow-refused {s = u}) a b = deep_arrow (stands c x e u a b refl)

-- "15 .. 16": what is refused is wrong there
pub judged-wrong : (l : Limits) (s : List ℕ) (k : ℕ) (x : List ℕ) → judge_text l s ≡ wrong k x → Wrong l s k x
judged-wrong l s k x e = go (read_text s) k x refl (subst (Beside l formula (spaces s) 32 (read_text s)) e (text-beside l s))
  where
    go : (a : Answer) (k : ℕ) (x : List ℕ) → read_text s ≡ a → Beside l formula (spaces s) 32 a (wrong k x) → Wrong l s k x
    go a k x q faulty = outside (fault-place s x q)
    go a k x q (earlier {e = i} {c} w o h m) = refused-wrong l s k c x i w o
