-- Accesses by triples, one after the other.
use Rattle.std.proofs.Common.{◌≡◌, ℕ, suc, ◌+◌, ◌*◌, ◌-◌, ◌<◌, ◌≤◌, List, [], ◌∷◌, length, get_or, Ok, Err, refl, sym, ap, ap₂, subst, ◌∙◌, arith}
use Rattle.semantics.specs.declared.Sizes.{Sizes}
use Rattle.refusals.specs.declared.Refusal.{Refusal}
use Rattle.refusals.specs.Refusal.{number}
use Rattle.model.specs.Record.{address_words, cell_words}
use Rattle.model.specs.Formula.{Triple}
use Rattle.model.specs.Step.{State, Access, access, Given, done, refused, is_refused, Result}
use Rattle.model.specs.Frames.{Valid, SuccessLeaves, StaysValid}
use Rattle.model.proofs.FrameLaws.{stays-valid, success-leaves}
use Rattle.model.proofs.ListLaws.{part_length}
use Rattle.formula_calls.specs.Call.{Making, asserting, checking, predicate_words, address_at, word_at, access_by, accesses_by, Made, one_more, make}
use Rattle.model.specs.declared.Fields.{Fields}
use Rattle.building.specs.Contract.{shape}
use Rattle.rows.specs.Contract.{state_of, Answers}
use Rattle.making.specs.Contract.{triple_at, triples_from, Named, Ready, MayAccess, access_of, Accessed, MadeAs}

-- the words of the predicate that a triple names
module _ {r : Fields} {predicates triples : List ℕ} {i : ℕ} (N : Named r predicates triples i) where
  address-size : length (address_at r predicates (triple_at triples i).named) ≡ address_words r
  address-size = let a = (triple_at triples i).named * predicate_words r in rw (part_length predicates a (a + address_words r) (omega arith) (omega (arith, N.fits))) (omega arith)

  word_size : length (word_at r predicates (triple_at triples i).named) ≡ cell_words r
  word_size = let a = (triple_at triples i).named * predicate_words r in rw (part_length predicates (a + address_words r) (a + predicate_words r) (omega arith) (omega (arith, N.fits))) (omega arith)

  pub may-access : {w l t a d : List ℕ} → Ready r w l t → a ≡ address_at r predicates (triple_at triples i).named → d ≡ word_at r predicates (triple_at triples i).named → MayAccess r w l t a d
  may-access R e f = record { ready = R; pairs = ap (length {A = ℕ}) e ∙ address-size; word = ap (length {A = ℕ}) f ∙ word_size }

-- the access of a triple, by its words
pub access_is : (k : Making) (r : Fields) (table : List ℕ) (t : Triple) {b : ℕ} {a d : List ℕ} → b ≡ t.condition → a ≡ address_at r table t.named → d ≡ word_at r table t.named → access_of k b a d ≡ access_by k r table t
access_is asserting r table t e f g = rw (e, f, g)
access_is checking r table t e f g = rw (e, f, g)

-- so many made before
abbrev pub made_before : ℕ → Made → Made
made_before i m = record { many = i + m.many; row = m.row; after = m.after }

-- an access by a triple asks of the record its sizes alone
access-same : (k : Making) (r r' : Fields) (table : List ℕ) (t : Triple) → r'.sizes ≡ r.sizes → access_by k r' table t ≡ access_by k r table t
access-same asserting r r' table t e = ap (λ (z : Sizes). access_by asserting (shape z 0) table t) e
access-same checking r r' table t e = ap (λ (z : Sizes). access_by checking (shape z 0) table t) e

pub accesses-same : (k : Making) (r r' : Fields) (table : List ℕ) (ts : List Triple) → r'.sizes ≡ r.sizes → accesses_by k r' table ts ≡ accesses_by k r table ts
accesses-same k r r' table [] e = refl
accesses-same k r r' table (t ∷ ts) e = ap₂ (λ (c : Access) (cs : List Access). c ∷ cs) (access-same k r r' table t e) (accesses-same k r r' table ts e)

-- the accesses so far: all were made, and those ahead are made on what they left
pub record SoFar (k : Making) (r : Fields) (w l predicates triples : List ℕ) (listed : ℕ) (r' : Fields) (w' l' t' : List ℕ) (i : ℕ) : Type 0 where
  pub within : i ≤ listed
  pub ready : Ready r' w' l' t'
  pub same : r'.sizes ≡ r.sizes
  pub is : make (accesses_by k r predicates (triples_from triples 0 listed)) (state_of r w l) ≡ made_before i (make (accesses_by k r predicates (triples_from triples i (listed - i))) (state_of r' w' l'))

pub none_so_far : (k : Making) (r : Fields) (w l t predicates triples : List ℕ) (listed : ℕ) → Ready r w l t → SoFar k r w l predicates triples listed r w l t 0
none_so_far k r w l t predicates triples listed R = record { within = omega arith; ready = R; same = refl; is = let e : listed - 0 ≡ listed = omega arith in rw e (none_before (make (accesses_by k r predicates (triples_from triples 0 listed)) (state_of r w l))) }
  where
    none_before : (m : Made) → m ≡ made_before 0 m
    none_before m = let e : m.many ≡ 0 + m.many = omega arith in ap (λ (n : ℕ). record { many = n; row = m.row; after = m.after }) e

-- one step of making: it is made, or a row refuses it
step-made : (c : Access) (cs : List Access) (s t : State) (g : Given) → Answers c s t (done g) → make (c ∷ cs) s ≡ one_more (make cs t)
unfolding make
step-made c cs s t g e = rw e

step-refused : (c : Access) (cs : List Access) (s t : State) (n : ℕ) → Answers c s t (refused n) → make (c ∷ cs) s ≡ record { many = 0; row = n; after = t }
unfolding make
step-refused c cs s t n e = rw e

module _ {k : Making} {r : Fields} {w l predicates triples : List ℕ} {listed : ℕ} {r' : Fields} {w' l' t' : List ℕ} {i : ℕ} (S : SoFar k r w l predicates triples listed r' w' l' t' i) where
  pub so_far-named : Named r predicates triples i → Named r' predicates triples i
  so_far-named N =
      record {
        few = subst (λ (z : Sizes). z.n ≤ 8) (sym S.same) N.few;
        wide = subst (λ (z : Sizes). z.w ≤ 16) (sym S.same) N.wide;
        within = N.within;
        fits = subst (λ (z : Sizes). get_or triples (3 * i + 2) 0 * predicate_words (shape z 0) + predicate_words (shape z 0) ≤ length predicates) (sym S.same) N.fits;
      }

  -- those ahead, by the next of them
  ahead : i < listed → (s : State) → make (accesses_by k r predicates (triples_from triples i (listed - i))) s
      ≡ make (access_by k r' predicates (triple_at triples i) ∷ accesses_by k r predicates (triples_from triples (i + 1) (listed - (i + 1)))) s
  ahead h s =
      let e : listed - i ≡ suc (listed - (i + 1)) = omega (arith, h) in
      let n : suc i ≡ i + 1 = omega arith in
      ap (λ (j : ℕ). make (accesses_by k r predicates (triples_from triples i j)) s) e
      ∙ ap₂ (λ (c : Access) (j : ℕ). make (c ∷ accesses_by k r predicates (triples_from triples j (listed - (i + 1)))) s) (sym (access-same k r r' predicates (triple_at triples i) S.same)) n

  module _ {b : ℕ} {a d : List ℕ} (h : i < listed) (eb : b ≡ (triple_at triples i).condition) (ea : a ≡ address_at r' predicates (triple_at triples i).named) (ed : d ≡ word_at r' predicates (triple_at triples i).named) where
    -- the access by the next triple
    by-triple : access_by k r' predicates (triple_at triples i) ≡ access_of k b a d
    by-triple = sym (access_is k r' predicates (triple_at triples i) eb ea ed)

    pub so_far-next : {r'' : Fields} {w'' l'' t'' : List ℕ} {u : Unit {0}} → Accessed (access_of k b a d) (state_of r' w' l') (state_of r'' w'' l'') (Ok u) t'' → SoFar k r w l predicates triples listed r'' w'' l'' t'' (i + 1)
    unfolding SuccessLeaves StaysValid
    so_far-next {r''} {w''} {l''} {t''} {u} A =
        let c = access (access_of k b a d) in
        let s = state_of r' w' l' in
        let E = success-leaves c s refl (ap (λ (x : Result). is_refused x.answer) A.is.is) in
        let n = ap (λ (x : Result). x.after.rec.sizes) A.is.is in
        record {
          within = omega (arith, h);
          ready = record { valid = subst Valid (ap (λ (x : Result). x.after) A.is.is) (stays-valid c s S.ready.valid); sound = A.is.sound refl };
          same = sym n ∙ E.same.sizes ∙ S.same;
          is =
              S.is ∙ ap (made_before i) (ahead h s ∙ ap (λ (c : Access). make (c ∷ accesses_by k r predicates (triples_from triples (i + 1) (listed - (i + 1)))) s) by-triple ∙ step-made (access_of k b a d) _ s (state_of r'' w'' l'') A.gives A.is.is)
              ∙ more (make (accesses_by k r predicates (triples_from triples (i + 1) (listed - (i + 1)))) (state_of r'' w'' l''));
        }
      where
        more : (m : Made) → made_before i (one_more m) ≡ made_before (i + 1) m
        more m = let e : i + suc m.many ≡ i + 1 + m.many = omega arith in ap (λ (n : ℕ). record { many = n; row = m.row; after = m.after }) e

    pub so_far-refused : {r'' : Fields} {w'' l'' t'' : List ℕ} {f : Refusal} → Accessed (access_of k b a d) (state_of r' w' l') (state_of r'' w'' l'') (Err f) t'' → MadeAs k r w l predicates triples listed r'' w'' l'' (Err (record { refusal = f; made = i }))
    so_far-refused {r''} {w''} {l''} {t''} {f} A =
        let s = state_of r' w' l' in
        record {
          is =
              S.is ∙ ap (made_before i) (ahead h s ∙ ap (λ (c : Access). make (c ∷ accesses_by k r predicates (triples_from triples (i + 1) (listed - (i + 1)))) s) by-triple ∙ step-refused (access_of k b a d) _ s (state_of r'' w'' l'') (number f) A.is.is)
              ∙ (let e : i + 0 ≡ i = omega arith in ap (λ (m : ℕ). record { many = m; row = number f; after = state_of r'' w'' l'' }) e);
        }

  pub so_far_all : {u : Unit {0}} → listed ≤ i → MadeAs k r w l predicates triples listed r' w' l' (Ok u)
  unfolding make
  so_far_all h =
      let e : listed - i ≡ 0 = omega (arith, h) in
      let n : i + 0 ≡ listed = omega (arith, h, S.within) in
      record { is = S.is ∙ ap (λ (j : ℕ). made_before i (make (accesses_by k r predicates (triples_from triples i j)) (state_of r' w' l'))) e ∙ ap (λ (m : ℕ). record { many = m; row = 0; after = state_of r' w' l' }) n }
