-- What an accepted access builds, of a memory by its values; and that clearing after it is clearing the words at entry.
use mathlib.Core.Path.{◌≡◌}
use mathlib.Core.Bool.{Bool, false, not, ◌&&◌}
use mathlib.Core.List.{List, []}
use Prim.Native.Nat.{ℕ, ◌*◌, ◌<◌}
use native.Mathlib.Omega.{arith}
use lib.ListN.{get_or}
use Rattle.conditions.specs.Stores.{Standard, clear_of}
use Rattle.conditions.specs.Build.{Store}
use Rattle.conditions.specs.Value.{value}
use Rattle.conditions.specs.Meaning.{Builds}
use Rattle.conditions.proofs.Promises.{clear-extends, extends_trans, is_user_lem}
use Rattle.model.specs.Record.{Record, with_count, held_word}
use Rattle.model.specs.Access.{Write, Read, Check}
use Rattle.semantics.specs.Published.{entry, answer, assert_holds, check_holds, keeps}
use Rattle.model.specs.Step.{State, begin, assert_first}
use Rattle.model.specs.Claims.{pair_at, pairs}
use Rattle.model.specs.Meanings.{entry_values, port_value}
use Rattle.model.specs.Table.{AllHoldNodes, WriteFacts, ReadFacts, CheckFacts}
use Rattle.model.proofs.MeansLaws.{Means, means_as, user-means}
use Rattle.model.proofs.PortLaws.{held_at, half_at}
use Rattle.model.proofs.AccessLaws.{MarksMean, write-means, Halves, Word, check-means, AssertBuiltMean, assert-means}
use Rattle.model.proofs.ReadMeansLaws.{read-means}
use Rattle.model.proofs.RowLaws.{length_pairs, name-means, names_halves}
use Rattle.model.proofs.FactLaws.{names, users_tell}
use Rattle.model.proofs.EntryLaws.{holds_values}
use Rattle.model.proofs.ValidLaws.{user-grows, users_stay}

module _ (σ : ℕ → Bool) (s : State) where
  abbrev r : Record
  r = s.rec

  abbrev w : List ℕ
  w = s.words

  pub write-program : (c a d : List ℕ) → WriteFacts s c a d → Builds w (begin r) (MarksMean σ (entry (pair_at σ w c 0) (pairs σ w a r.sizes.n) (pairs σ w d r.sizes.w))) (Write r.sizes.n (get_or c 0 0) (get_or c 1 0) a w (begin r))
  write-program c a d F =
      let S = F.memory.standard in
      let C = names_halves σ r w S c 1 F.enable.names in
      write-means r.sizes.n (get_or c 0 0) (get_or c 1 0) a (pair_at σ w c 0) (pairs σ w a r.sizes.n) (pairs σ w d r.sizes.w) (length_pairs σ w a 0 r.sizes.n) w (begin r) S (C.half 0 (omega arith)) (C.half 1 (omega arith)) (names_halves σ r w S a r.sizes.n F.address.names)

  -- the word of a port, where no port has one that row 3 refuses
  pub port_halves : (p : ℕ) → p < 4 → Standard w r.count → AllHoldNodes r w s.ports → Halves σ 8 (2 * r.sizes.w) (λ τ. port_value σ s p) w (begin r) (held_word r s.ports p)
  port_halves p four S N = record { half = λ h l. means_as (name-means σ r w S (rw (held_at r s.ports p h l) (N p four h l))) (λ τ. half_at σ w (held_word r s.ports p) h) }

  pub read-program : (p : ℕ) (e a out : List ℕ) → ReadFacts s p e a out
      → Builds w (begin r) (Word σ 8 (2 * r.sizes.w) (λ τ. answer r.sizes (entry_values σ s) (port_value σ s p) (pair_at σ w e 0) (pairs σ w a r.sizes.n))) (Read r s.list (held_word r s.ports p) (get_or e 0 0) (get_or e 1 0) a w (begin r))
  read-program p e a out F =
      let S = F.memory.standard in
      let C = names_halves σ r w S e 1 F.enable.names in
      read-means r s.list F.memory.range.n-most (entry_values σ s) (get_or e 0 0) (get_or e 1 0) (held_word r s.ports p) a (pair_at σ w e 0) (port_value σ s p) (pairs σ w a r.sizes.n) (length_pairs σ w a 0 r.sizes.n) w (begin r) S
      (holds_values σ s F.memory).entries (C.half 0 (omega arith)) (C.half 1 (omega arith)) (port_halves p (omega (arith, F.port)) S F.ports) (names_halves σ r w S a r.sizes.n F.address.names)

  module _ (b : ℕ) (a d : List ℕ) (F : CheckFacts s b a d) where
    abbrev S : Standard w r.count
    S = F.memory.standard

    pub check-program : Builds w (begin r) (Means σ 8 (λ τ. value w σ r.checked && check_holds r.sizes (entry_values σ s) (value w σ b) (pairs σ w a r.sizes.n) (pairs σ w d r.sizes.w))) (Check r s.list b a d w (begin r))
    check-program =
        check-means r s.list F.memory.range.n-most (entry_values σ s) b (value w σ b) (value w σ r.checked) a d (pairs σ w a r.sizes.n) (pairs σ w d r.sizes.w) (length_pairs σ w a 0 r.sizes.n) w (begin r) S
        (holds_values σ s F.memory).entries (name-means σ r w S F.control) (names_halves σ r w S a r.sizes.n F.address.names) (names_halves σ r w S d r.sizes.w F.word.names) (name-means σ r w S F.memory.listed.checked)

    pub assert-program : Builds w (begin r) (AssertBuiltMean σ (value w σ r.asserted && assert_holds r.sizes (entry_values σ s) (value w σ b) (pairs σ w a r.sizes.n) (pairs σ w d r.sizes.w)) (not (value w σ b)) (keeps r.sizes (entry_values σ s) (value w σ b) (pairs σ w a r.sizes.n) (pairs σ w d r.sizes.w))) (assert_first b a d s)
    assert-program =
        assert-means r s.list F.memory.range.n-most (entry_values σ s) b (value w σ b) (value w σ r.asserted) a d (pairs σ w a r.sizes.n) (pairs σ w d r.sizes.w) (length_pairs σ w a 0 r.sizes.n) w (begin r) S
        (holds_values σ s F.memory).entries (name-means σ r w S F.control) (names_halves σ r w S a r.sizes.n F.address.names) (names_halves σ r w S d r.sizes.w F.word.names) (name-means σ r w S F.memory.listed.asserted)

    -- the Write of an entry after it: whatever grew past the count is gone when it is cleared
    pub assert-entry-clears : let x = assert_first b a d s in clear_of (Write r.sizes.n b x.answer.not_b a x.words (record { count = x.store.count; full = false })).words r.count ≡ clear_of w r.count
    assert-entry-clears =
        let X = assert-program in
        let x = assert_first b a d s in
        let t : Store = record { count = x.store.count; full = false } in
        let v = x.answer.not_b in
        let T = with_count r x.store.count in
        let ua = (users_tell r w a (2 * r.sizes.n) F.address.long).so F.address.names in
        let Y = write-means r.sizes.n b v a (record { h = value x.words σ b; l = value x.words σ v }) (pairs σ x.words a r.sizes.n) [] (length_pairs σ x.words a 0 r.sizes.n) x.words t X.standard
        (user-means {s = t} X.standard (user-grows X.extends b ((names r w b).so F.control))) (user-means {s = t} X.standard (is_user_lem x.words t.count v X.post.not_b.below X.post.not_b.from))
        (names_halves σ T x.words X.standard a r.sizes.n ((users_tell T x.words a (2 * r.sizes.n) F.address.long).is (users_stay s x.words t.count r.asserted r.checked (user-grows X.extends) a ua))) in
        clear-extends _ _ _ _ (extends_trans X.extends Y.extends) Y.standard
