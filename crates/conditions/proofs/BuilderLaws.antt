-- What a building function leaves: steps one after another, and what each promises.
use Rattle.std.proofs.Common.{◌≡◌, refl, sym, ap, ap₂, ◌∙◌, cond, Bool, false, List, ℕ, suc, ◌+◌, ◌<◌, ◌≤◌, length, arith}
use Rattle.nodes.specs.Words.{var_at, with_node, capacity_of}
use Rattle.nodes.specs.Standard.{lowest}
use Rattle.operations.specs.declared.Store.{Store}
use Rattle.diagrams.specs.Value.{value}
use Rattle.operations.specs.Build.{Outcome, Build, pure, ◌>>=◌}
use Rattle.operations.specs.Make.{Make}
use Rattle.operations.specs.Meaning.{Meaning, Stands, Builds}
use Rattle.operations.proofs.BuildLaws.{stands-value, next_is}
use Rattle.operations.proofs.MakeLaws.{make-builds, make_new}
use Rattle.conditions.specs.Contract.{Sound}
use Rattle.conditions.specs.declared.builder.Builder.{Builder}
use Rattle.conditions.specs.Builder.{Later, Did}
use Rattle.conditions.proofs.TableLaws.{remembers_later}

pub later_refl : (b : Builder) → Later b b
later_refl b = record { more = omega arith; long = refl; words = refl; table = refl }

pub later_trans : {b c d : Builder} → Later b c → Later c d → Later b d
later_trans L M = record { more = omega (arith, L.more, M.more); long = M.long ∙ L.long; words = M.words ∙ L.words; table = M.table ∙ L.table }

-- a node stays one
pub later_node : {b c : Builder} → Later b c → (n : ℕ) → n < b.store.count → n < c.store.count
later_node L n h = omega (arith, L.more)

-- an answer with nothing built
pub did_pure : (b : Builder) (n : ℕ) → n < b.store.count → Did b b n (pure n)
did_pure b n h = record { is = refl; later = later_refl b; node = h }

-- what a program left goes on by the next, whose first argument is its answer
pub did_next : {b c d : Builder} {r q : ℕ} {m : Build ℕ} (k : ℕ → Build ℕ) → Did b c r m → Did c d q (k r) → Did b d q (m >>= k)
did_next k D E = record { is = next_is k D.is E.is; later = later_trans D.later E.later; node = E.node }

-- the same words and the same store: the one has left, and is left, what the other has
pub record Same (b c : Builder) : Type 0 where
  pub now : b.words.now ≡ c.words.now
  pub store : b.store ≡ c.store
  pub words : b.words.ghost_name ≡ c.words.ghost_name
  pub table : b.table.ghost_name ≡ c.table.ghost_name

module _ {b c : Builder} (E : Same b c) where
  same_count : b.store.count ≡ c.store.count
  same_count = ap (λ (s : Store). s.count) E.store

  pub did_from : {d : Builder} {r : ℕ} {x : Build ℕ} → Did c d r x → Did b d r x
  did_from {x = x} D =
      record {
        is = D.is ∙ ap₂ x (sym E.now) (sym E.store);
        later = record { more = omega (arith, same_count, D.later.more); long = D.later.long ∙ ap length (sym E.now); words = D.later.words ∙ sym E.words; table = D.later.table ∙ sym E.table };
        node = D.node;
      }

  pub did_to : {a : Builder} {r : ℕ} {x : Build ℕ} → Did a b r x → Did a c r x
  did_to {r = r} D =
      record {
        is = ap₂ (λ (w : List ℕ) (s : Store). record { words = w; store = s; answer = r }) (sym E.now) (sym E.store) ∙ D.is;
        later = record { more = omega (arith, same_count, D.later.more); long = ap length (sym E.now) ∙ D.later.long; words = sym E.words ∙ D.later.words; table = sym E.table ∙ D.later.table };
        node = omega (arith, same_count, D.node);
      }

-- what a program left over the same words and table, by what the program promises
pub did_built : {b c : Builder} {r u : ℕ} {m : Meaning} {x : Build ℕ} → Builds b.words.now b.store (Stands u m) (x b.words.now b.store)
    → ◌≡◌ {A = Outcome ℕ} (record { words = c.words.now; store = c.store; answer = r }) (x b.words.now b.store)
    → length c.words.now ≡ length b.words.now → c.words.ghost_name ≡ b.words.ghost_name → c.table.ghost_name ≡ b.table.ghost_name → Did b c r x
did_built X e l p q =
    record {
      is = e;
      later = record { more = rw (← e) at X.extends.more; long = l; words = p; table = q };
      node = rw (← e) at X.post.below;
    }

-- Make of a variable below those of two nodes
module _ {w : List ℕ} {s : Store} {v lo hi : ℕ} (small : v < 64) (l : lo < s.count) (h : hi < s.count) (a : v < var_at w lo) (b : v < var_at w hi) where
  pub make_made : {t : List ℕ} → Sound w t s → Builds w s (Stands v (λ φ. cond (φ v) (value w φ hi) (value w φ lo))) (Make v lo hi w s)
  make_made S = make-builds S.standard small (stands-value w s (suc v) lo l (omega arith)) (stands-value w s (suc v) hi h (omega arith))

  -- the table stays right
  pub make_sound : {t w' : List ℕ} {s' : Store} {n : ℕ} → Sound w t s → ◌≡◌ {A = Outcome ℕ} (record { words = w'; store = s'; answer = n }) (Make v lo hi w s) → Sound w' t s'
  make_sound S e =
      let X = make_made S in
      record { standard = rw (← e) at X.standard; table = rw (← e) at (remembers_later S.standard X S.table) }

-- a new node, in a store that is not full
pub made_new : (w : List ℕ) (s : Store) (v lo hi : ℕ) {w' : List ℕ} → s.full ≡ false → (lo ≡ hi → ⊥) → s.count ≤ lowest w s.count v lo hi → s.count < capacity_of w → w' ≡ with_node w s.count v lo hi
    → ◌≡◌ {A = Outcome ℕ} (record { words = w'; store = record { count = s.count + 1; full = s.full }; answer = s.count }) (Make v lo hi w s)
made_new w s v lo hi f ne h r e =
    ap (λ (x : List ℕ). record { words = x; store = record { count = s.count + 1; full = s.full }; answer = s.count }) e
    ∙ ap (λ (b : Bool). record { words = with_node w s.count v lo hi; store = record { count = s.count + 1; full = b }; answer = s.count }) f
    ∙ sym (make_new w s v lo hi f ne refl h r)
