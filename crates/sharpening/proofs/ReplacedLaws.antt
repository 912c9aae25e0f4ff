-- An X replaced by 0 or 1 in the words of a list of accesses: a node that stood there at first means what it meant, so that the list is sharper, under every assignment.
use mathlib.Core.Path.{◌≡◌, refl, sym, ap, ◌∙◌, subst, subst₂}
use mathlib.Core.Bool.{Bool, true, false, true≢false}
use mathlib.Core.List.{List, [], ◌∷◌}
use Prim.Native.Nat.{ℕ, zero, suc, ◌+◌, ◌<◌}
use native.Mathlib.Omega.{arith}
use Rattle.conditions.specs.Value.{value}
use Rattle.conditions.specs.Assignment.{bit_at}
use Rattle.conditions.proofs.Promises.{value_0, value_1}
use Rattle.semantics.specs.declared.Sizes.{Sizes}
use Rattle.semantics.specs.Sizes.{cell_bits, data_bits}
use Rattle.semantics.specs.Pairs.{Pair}
use Rattle.semantics.specs.Array.{asserts, checks}
use Rattle.model.specs.Record.{Record, h_at, l_at}
use Rattle.model.specs.Step.{State, Access, write, read, assert, check, Call, access, Answer, refused, done, is_refused, step, AllAccepted}
use Rattle.model.specs.Claims.{pairs_from, pairs, argument, event, events}
use Rattle.model.specs.Frames.{SuccessLeaves, Valid}
use Rattle.model.specs.Table.{Names, AcceptedExactly}
use Rattle.model.proofs.FrameLaws.{success-leaves}
use Rattle.model.proofs.TableLaws.{accepted-exactly}
use Rattle.model.proofs.StandLaws.{StandsIn, step_stands}
use Rattle.formula_calls.proofs.StandLaws.{memory-valid}
use Rattle.sharper.specs.Sharper.{Sharper, alike, settled, AllSharper, SharperAccess, SharperList, end, both}
use Rattle.sharper.specs.Sharper as sharper
use Rattle.sharpening.specs.Replaced.{ReplacedPair, same, by1, by0, Replaced, Named, ReplacedAccess, of-write, of-read, of-assert, of-check, ReplacedCalls, then}
use Rattle.sharpening.specs.Replaced as replaced
use Rattle.sharpening.specs.Claims.{Replacing, Sharpening}
use Rattle.sharpening.proofs.NumberLaws.{AllAccesses, numbered}
use Rattle.sharpening.proofs.CallLaws.{sharpening}

-- a state that calls led to from s: its sizes are those, and what stood there means what it meant
record Keeps (s t : State) : Type 0 where
  sizes : t.rec.sizes ≡ s.rec.sizes
  means : (k : ℕ) → Names s.rec s.words k → StandsIn (λ φ. value s.words φ k) k t

keeps-value : {s t : State} → Keeps s t → (φ : ℕ → Bool) (k : ℕ) → Names s.rec s.words k → value t.words φ k ≡ value s.words φ k
keeps-value K φ k N = (K.means k N).is refl φ

keeps-first : (s t : State) → t.rec ≡ s.rec → t.words ≡ s.words → Keeps s t
keeps-first s t er ew = record { sizes = ap (λ (r : Record). r.sizes) er; means = λ k N. go t.rec t.words er ew k N }
  where
    go : (r : Record) (w : List ℕ) → r ≡ s.rec → w ≡ s.words → (k : ℕ) → Names s.rec s.words k → StandsIn (λ φ. value s.words φ k) k (record { rec = r; words = w; list = t.list; ports = t.ports })
    go r w er ew k N = rw (er, ew) N

-- a state in which an access is accepted is valid
access-valid : (c : Access) (t : State) → is_refused (step (access c) t).answer ≡ false → Valid t
unfolding AcceptedExactly
access-valid (write c a d) t f = let A = ((accepted-exactly (access (write c a d)) t).0 f).0 in memory-valid t (A.0, (A.1.0, (A.1.1.0, tt)))
access-valid (read p e a out) t f = let A = ((accepted-exactly (access (read p e a out)) t).0 f).0 in memory-valid t (A.0, (A.1.0, (A.1.1.0.0, tt)))
access-valid (assert b a d) t f = let A = ((accepted-exactly (access (assert b a d)) t).0 f).0 in memory-valid t (A.0, (A.1.0, (A.1.1.0, tt)))
access-valid (check b a d) t f = let A = ((accepted-exactly (access (check b a d)) t).0 f).0 in memory-valid t (A.0, (A.1.0, (A.1.1.0, tt)))

keeps-step : {s : State} (t : State) (c : Access) → is_refused (step (access c) t).answer ≡ false → Keeps s t → Keeps s (step (access c) t).after
unfolding SuccessLeaves
keeps-step {s} t c f K =
    let E = success-leaves (access c) t refl f in
    record { sizes = E.same.sizes ∙ K.sizes; means = λ k N. step_stands (λ φ. value s.words φ k) k (access c) t refl (access-valid c t f) (K.means k N) }

-- n
abbrev address_bits : Sizes → ℕ
address_bits z = z.n

module _ (φ : ℕ → Bool) {s t u : State} (K : Keeps s t) (L : Keeps s u) where
  -- a node that is named in both
  named-same : (k : ℕ) → Names s.rec s.words k → value u.words φ k ≡ value t.words φ k
  named-same k N = keeps-value L φ k N ∙ sym (keeps-value K φ k N)

  pair-sharper : {h l h' l' : ℕ} → ReplacedPair s h l h' l' → Sharper (record { h = value t.words φ h; l = value t.words φ l }) (record { h = value u.words φ h'; l = value u.words φ l' })
  pair-sharper {h} {l} (same N M) = subst₂ (λ (x y : Bool). Sharper (record { h = value t.words φ h; l = value t.words φ l }) (record { h = x; l = y })) (sym (named-same h N)) (sym (named-same l M)) alike
  pair-sharper by1 = rw (value_1 t.words φ, value_1 u.words φ, value_0 u.words φ) (settled true)
  pair-sharper by0 = rw (value_1 t.words φ, value_1 u.words φ, value_0 u.words φ) (settled false)

  pairs-sharper : (ws vs : List ℕ) (i k : ℕ) → ((j : ℕ) → j < i + k → ReplacedPair s (h_at ws j) (l_at ws j) (h_at vs j) (l_at vs j)) → AllSharper (pairs_from φ t.words ws i k) (pairs_from φ u.words vs i k)
  pairs-sharper ws vs i zero f = tt
  pairs-sharper ws vs i (suc k) f = (pair-sharper (f i (omega arith)), pairs-sharper ws vs (suc i) k (λ j h. f j (omega arith)))

  -- so many pairs in both, by the sizes
  words-sharper : (k : Sizes → ℕ) (ws vs : List ℕ) → Replaced s (k s.rec.sizes) ws vs → AllSharper (pairs φ t.words ws (k t.rec.sizes)) (pairs φ u.words vs (k u.rec.sizes))
  words-sharper k ws vs f =
      subst₂ (λ (x y : Sizes). AllSharper (pairs φ t.words ws (k x)) (pairs φ u.words vs (k y))) (sym K.sizes) (sym L.sizes) (pairs-sharper ws vs 0 (k s.rec.sizes) (λ j h. f j (omega arith)))

  -- words that are the same
  pairs-same : (ws : List ℕ) (i k : ℕ) → ((j : ℕ) → j < i + k → Names s.rec s.words (h_at ws j) × Names s.rec s.words (l_at ws j)) → pairs_from φ u.words ws i k ≡ pairs_from φ t.words ws i k
  pairs-same ws i zero f = refl
  pairs-same ws i (suc k) f =
      let N = f i (omega arith) in
      let hs = named-same (h_at ws i) N.0 in
      let ls = named-same (l_at ws i) N.1 in
      let rest = pairs-same ws (suc i) k (λ j h. f j (omega arith)) in
      λ x. record { h = hs x; l = ls x } ∷ rest x

  words_same : (k : Sizes → ℕ) (ws : List ℕ) → Named s (k s.rec.sizes) ws → pairs φ u.words ws (k u.rec.sizes) ≡ pairs φ t.words ws (k t.rec.sizes)
  words_same k ws f =
      subst₂ (λ (x y : Sizes). pairs φ u.words ws (k y) ≡ pairs φ t.words ws (k x)) (sym K.sizes) (sym L.sizes) (pairs-same ws 0 (k s.rec.sizes) (λ j h. f j (omega arith)))

  argument-sharper : (c d : Access) → ReplacedAccess s c d → SharperAccess (argument φ t c) (argument φ u d)
  argument-sharper (write c a d) (write c' a' d') (of-write fc fa fd) = sharper.write (pair-sharper (fc 0 (omega arith))) (words-sharper address_bits a a' fa) (words-sharper data_bits d d' fd)
  argument-sharper (read p e a out) (read p' e' a' out') (of-read fe fa) = sharper.read (pair-sharper (fe 0 (omega arith))) (words-sharper address_bits a a' fa)
  argument-sharper (assert b a d) (assert b' a' d') (of-assert N fa fd) =
      subst (λ (x : Bool). SharperAccess (argument φ t (assert b a d)) (asserts x (pairs φ u.words a' (address_bits u.rec.sizes)) (pairs φ u.words d' (cell_bits u.rec.sizes)))) (sym (named-same b N))
      (sharper.assert (words-sharper address_bits a a' fa) (words-sharper cell_bits d d' fd))
  argument-sharper (check b a d) (check b' a' d') (of-check N fa nd) =
      subst₂ (λ (x : Bool) (y : List Pair). SharperAccess (argument φ t (check b a d)) (checks x (pairs φ u.words a' (address_bits u.rec.sizes)) y)) (sym (named-same b N)) (sym (words_same cell_bits d nd))
      (sharper.check (words-sharper address_bits a a' fa))
  argument-sharper (write c a d) (read p' e' a' out') x'' = elim x'' [ ]
  argument-sharper (write c a d) (assert b' a' d') x3 = elim x3 [ ]
  argument-sharper (write c a d) (check b' a' d') x4 = elim x4 [ ]
  argument-sharper (read p e a out) (write c' a' d') x3 = elim x3 [ ]
  argument-sharper (read p e a out) (assert b' a' d') x4 = elim x4 [ ]
  argument-sharper (read p e a out) (check b' a' d') x5 = elim x5 [ ]
  argument-sharper (assert b a d) (write c' a' d') x4 = elim x4 [ ]
  argument-sharper (assert b a d) (read p' e' a' out') x5 = elim x5 [ ]
  argument-sharper (assert b a d) (check b' a' d') x6 = elim x6 [ ]
  argument-sharper (check b a d) (write c' a' d') x5 = elim x5 [ ]
  argument-sharper (check b a d) (read p' e' a' out') x6 = elim x6 [ ]
  argument-sharper (check b a d) (assert b' a' d') x7 = elim x7 [ ]

-- the event of an accepted access
accepted-event : (φ : ℕ → Bool) (t : State) (c : Access) (x : Answer) → is_refused x ≡ false → event φ t (access c) x ≡ argument φ t c
accepted-event φ t c (refused k) f = absurd (true≢false f)
accepted-event φ t c (done g) f = refl

module _ (φ : ℕ → Bool) {s : State} where
  -- an accepted access and its sharper one
  access-sharper : (t u : State) → Keeps s t → Keeps s u → (c d : Access) → ReplacedAccess s c d → (x y : Answer) → is_refused x ≡ false → is_refused y ≡ false → SharperAccess (event φ t (access c) x) (event φ u (access d) y)
  access-sharper t u K L c d R x y f g = subst₂ SharperAccess (sym (accepted-event φ t c x f)) (sym (accepted-event φ u d y g)) (argument-sharper φ K L c d R)

  -- one after the other
  calls-sharper : (t u : State) → Keeps s t → Keeps s u → (cs ds : List Call) → ReplacedCalls s cs ds → AllAccepted cs t → AllAccepted ds u → SharperList (events φ t cs) (events φ u ds)
  calls-sharper t u K L [] [] replaced.end A B = end
  calls-sharper t u K L (access c ∷ cs) (access d ∷ ds) (then R Rs) A B =
      both (access-sharper t u K L c d R (step (access c) t).answer (step (access d) u).answer A.0 B.0)
      (calls-sharper (step (access c) t).after (step (access d) u).after (keeps-step t c A.0 K) (keeps-step u d B.0 L) cs ds Rs A.1 B.1)
  calls-sharper t u K L [] (_ ∷ ds) x9 A B = elim x9 [ ]
  calls-sharper t u K L (access c ∷ cs) [] x9 A B = elim x9 [ ]
  calls-sharper t u K L (access c ∷ cs) (Rattle.model.specs.Step.node_call _ ∷ ds) x13 A B = elim x13 [ ]
  calls-sharper t u K L (access c ∷ cs) (Rattle.model.specs.Step.upkeep x13 ∷ ds) _ A B = elim x13 [ ]
  calls-sharper t u K L (Rattle.model.specs.Step.node_call _ ∷ cs) ds x10 A B = elim x10 [ ]
  calls-sharper t u K L (Rattle.model.specs.Step.upkeep x10 ∷ cs) ds _ A B = elim x10 [ ]

pub replaced-sharper : (φ : ℕ → Bool) (s t : State) → t.rec ≡ s.rec → t.words ≡ s.words → (cs ds : List Call) → ReplacedCalls s cs ds → AllAccepted cs s → AllAccepted ds t → SharperList (events φ s cs) (events φ t ds)
replaced-sharper φ s t er ew cs ds R A B = calls-sharper φ s t (keeps-first s s refl refl) (keeps-first s t er ew) cs ds R A B

-- all calls of such lists are accesses
replaced-accesses : {s : State} (cs ds : List Call) → ReplacedCalls s cs ds → AllAccesses cs × AllAccesses ds
replaced-accesses [] [] replaced.end = (tt, tt)
replaced-accesses (access c ∷ cs) (access d ∷ ds) (then R Rs) = let A = replaced-accesses cs ds Rs in ((tt, A.0), (tt, A.1))
replaced-accesses {s = s} [] (_ ∷ ds) x3 = elim x3 [ ]
replaced-accesses {s = s} (access c ∷ cs) [] x5 = elim x5 [ ]
replaced-accesses {s = s} (access c ∷ cs) (Rattle.model.specs.Step.node_call _ ∷ ds) x9 = elim x9 [ ]
replaced-accesses {s = s} (access c ∷ cs) (Rattle.model.specs.Step.upkeep x9 ∷ ds) _ = elim x9 [ ]
replaced-accesses {s = s} (Rattle.model.specs.Step.node_call _ ∷ cs) ds x6 = elim x6 [ ]
replaced-accesses {s = s} (Rattle.model.specs.Step.upkeep x6 ∷ cs) ds _ = elim x6 [ ]

pub replacing : Replacing
unfolding Replacing Sharpening
replacing s t B C er ew cs ds R A A' a small =
    let M = replaced-sharper (bit_at a) s t er ew cs ds R A A' in
    let q = replaced-accesses cs ds R in
    numbered (bit_at a) s t cs ds q.0 q.1 A A' M (sharpening s t B C (ap (λ (r : Record). r.sizes) er) cs ds a small M)
