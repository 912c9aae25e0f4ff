-- Ite and Any of a Builder, one call after the other.
use Rattle.std.proofs.Common.{◌≡◌, refl, sym, true, false, List, ℕ, ◌+◌, ◌<◌, ◌≤◌, arith, Some, None, lt-ltb, le-ltb}
use Rattle.nodes.specs.Words.{var_at, low_at, high_at}
use Rattle.diagrams.specs.declared.Parts.{Parts}
use Rattle.diagrams.specs.Parts.{parts_of}
use Rattle.diagrams.proofs.PartsLaws.{Ready}
use Rattle.operations.specs.Build.{Outcome}
use Rattle.operations.specs.Make.{Make}
use Rattle.operations.specs.Ite.{plain_of, Ite, Or}
use Rattle.operations.specs.Any.{stop_of, Any}
use Rattle.operations.proofs.IteLaws.{ready-builds, split_var, split_low, split-high, split_left, split_all}
use Rattle.operations.proofs.AnyLaws.{below-builds, any-done, children-below, any_all}
use Rattle.conditions.specs.Table.{known_of, remember_of}
use Rattle.conditions.specs.Contract.{Sound}
use Rattle.conditions.specs.declared.builder.Builder.{Builder}
use Rattle.conditions.specs.Builder.{Did}
use Rattle.conditions.proofs.TableLaws.{known-done, known_split, split_remembers}
use Rattle.conditions.proofs.ContractLaws.{sound-ready}
use Rattle.conditions.proofs.BuilderLaws.{did_built, later_trans}

module _ (b : Builder) (f g h : ℕ) (lf : f < b.store.count) (lg : g < b.store.count) (lh : h < b.store.count) where
  ready : Ready b.words.now b.store.count f g h
  ready = sound-ready b.sound lf lg lh

  -- a rule or the table has the answer
  pub ite_known : {n : ℕ} → Some n ≡ known_of b.table.now b.store.full f g h → Did b b n (Ite f g h)
  ite_known {n} e = did_built (ready-builds ready) (known-done b.table.now b.words.now b.store f g h n ready b.sound.table (sym e)) refl refl refl

  -- by the parts
  module _ (e : None ≡ known_of b.table.now b.store.full f g h) (d : Parts) (ed : d ≡ parts_of b.words.now f g h) where
    none : plain_of b.store.full f g h ≡ None
    none = known_split b.table.now f g h b.store.full (sym e)

    pub ite_low : (d.f0 + d.g0 + d.h0 < f + g + h) × (d.f0 < b.store.count) × (d.g0 < b.store.count) × (d.h0 < b.store.count)
    ite_low =
        let q = split_low b.words.now b.store f g h d ready none ed in
        (q.0, q.1.first, q.1.second, q.1.third)

    pub ite_high : (d.f1 + d.g1 + d.h1 < f + g + h) × (d.f1 < b.store.count) × (d.g1 < b.store.count) × (d.h1 < b.store.count)
    ite_high =
        let q = split-high b.words.now b.store f g h d ready none ed in
        (q.0, q.1.first, q.1.second, q.1.third)

    module _ {c₁ c₂ : Builder} {x y : ℕ} (X : Did b c₁ x (Ite d.f0 d.g0 d.h0)) (Y : Did c₁ c₂ y (Ite d.f1 d.g1 d.h1)) where
      -- what Make asks
      pub ite_make : (d.v < 64) × (x < c₂.store.count) × (y < c₂.store.count) × (d.v < var_at c₂.words.now x) × (d.v < var_at c₂.words.now y) × (g < c₂.store.count) × (h < c₂.store.count)
      ite_make =
          let q = split_left b.words.now b.store f g h d ready none ed X.is Y.is in
          (split_var b.words.now b.store f g h d ready none ed, q.1.below, q.2.below, omega (arith, q.1.from), omega (arith, q.2.from), omega (arith, X.later.more, Y.later.more), omega (arith, X.later.more, Y.later.more))

      module _ {c₃ : Builder} {z : ℕ} (Z : Did c₂ c₃ z (Make d.v x y)) where
        made : ◌≡◌ {A = Outcome ℕ} (record { words = c₃.words.now; store = c₃.store; answer = z }) (Ite f g h b.words.now b.store)
        made = split_all b.words.now b.store f g h d ready none ed X.is Y.is Z.is

        -- the table with the answer
        pub ite_sound : {t : List ℕ} → t ≡ remember_of c₃.table.now f g h z → Sound c₃.words.now t c₃.store
        ite_sound et = record { standard = c₃.sound.standard; table = split_remembers b.words.now b.store f g h d ready none ed X.is Y.is Z.is c₃.sound.table et }

        pub ite_did : Did b c₃ z (Ite f g h)
        ite_did = record { is = made; later = later_trans (later_trans X.later Y.later) Z.later; node = Z.node }

-- Any
module _ (b : Builder) (f : ℕ) (l : f < b.store.count) where
  done : {v n : ℕ} → v ≡ var_at b.words.now f → stop_of b.store.full v f ≡ Some n → Did b b n (Any f)
  done {v} {n} ev e = did_built (below-builds b.store b.sound.standard l) (any-done b.words.now b.store f v n b.sound.standard l ev e) refl refl refl

  pub any_full : b.store.full ≡ true → Did b b 0 (Any f)
  unfolding stop_of
  any_full e = done refl (rw e)

  pub any_user : b.store.full ≡ false → {v : ℕ} → v ≡ var_at b.words.now f → 8 ≤ v → Did b b f (Any f)
  unfolding stop_of
  any_user e {v} ev k = done ev (rw (e, le-ltb v 8 k))

  module _ (free : b.store.full ≡ false) {v lo hi : ℕ} (index : v < 8) (ev : v ≡ var_at b.words.now f) (el : lo ≡ low_at b.words.now f) (eh : hi ≡ high_at b.words.now f) where
    none-stops : stop_of b.store.full v f ≡ None
    unfolding stop_of
    none-stops = rw (free, lt-ltb v 8 index)

    pub any_children : (lo < f) × (hi < f)
    any_children = children-below b.words.now b.store f v lo hi b.sound.standard l ev none-stops el eh

    pub any_did : {c₁ c₂ c₃ : Builder} {x y z : ℕ} → Did b c₁ x (Any lo) → Did c₁ c₂ y (Any hi) → Did c₂ c₃ z (Or x y) → Did b c₃ z (Any f)
    any_did X Y Z =
        record {
          is = any_all b.words.now b.store f v lo hi b.sound.standard l ev none-stops el eh X.is Y.is Z.is;
          later = later_trans (later_trans X.later Y.later) Z.later;
          node = Z.node;
        }
