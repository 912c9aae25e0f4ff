-- An assert by its rows, and its entry.
use Rattle.std.proofs.Common.{◌≡◌, refl, sym, ap, ◌∙◌, Bool, false, cond, not, List, [], ◌∷◌, ℕ, ◌<◌, ◌≤◌}
use Rattle.nodes.specs.Search.{every}
use Rattle.conditions.specs.Stores.{clear_of}
use Rattle.conditions.specs.Build.{Outcome}
use Rattle.conditions.specs.Meet.{together}
use Rattle.conditions.proofs.Promises.{builds_clear}
use Rattle.model.specs.Record.{h_at, l_at}
use Rattle.model.specs.Access as built
use Rattle.model.specs.Rows.{first_row, check_rows, assert_rows}
use Rattle.model.specs.Step.{begin, Finish, full, short, gives, closed, enter}
use Rattle.model.proofs.FactLaws.{first-append}
use Rattle.model.proofs.CallFactLaws.{assert-facts}
use Rattle.model.proofs.ProgramLaws.{assert-program, assert-entry-clears}
use Rattle.building.specs.Contract.{Nodes, Looks}
use Rattle.model.specs.declared.Fields.{Fields}
use Rattle.rows.specs.Contract.{state_of}
use Rattle.rows.proofs.CallLaws.{slice-nodes, facts-look}

-- where the rows of a check pass, 7 is what is left
pub assert_row_is : (r : Fields) (w l : List ℕ) (b : ℕ) (a d : List ℕ) → 0 ≡ first_row (check_rows r w l b a d)
    → first_row (assert_rows r w l b a d) ≡ cond (every (λ (i : ℕ). not (together w b (h_at a i) (l_at a i))) 0 r.sizes.n) 0 7
assert_row_is r w l b a d e = first-append (check_rows r w l b a d) ((7, every (λ (i : ℕ). not (together w b (h_at a i) (l_at a i))) 0 r.sizes.n) ∷ []) refl (sym e)

-- what its rows leave; and of its programs, before the entry and for it, that clearing after them is clearing the words at entry
pub record AssertHolds (r : Fields) (w l : List ℕ) (b : ℕ) (a d : List ℕ) : Type 0 where
  pub few : r.sizes.n ≤ 8
  pub wide : r.sizes.w ≤ 16
  pub looks : Looks r.sizes r.entries r.count l a
  pub word : Nodes r.count d
  pub control : b < r.count
  pub asserted : r.asserted < r.count
  pub clears : clear_of (built.Assert r l b a d w (begin r)).words r.count ≡ clear_of w r.count
  pub entry-clears : (x : Outcome built.AssertBuilt) → x ≡ built.Assert r l b a d w (begin r)
      → clear_of (built.Write r.sizes.n b x.answer.not_b a x.words (record { count = x.store.count; full = false })).words r.count ≡ clear_of w r.count

pub assert-holds : (r : Fields) (w l : List ℕ) (b : ℕ) (a d : List ℕ) → 0 ≡ first_row (assert_rows r w l b a d) → AssertHolds r w l b a d
assert-holds r w l b a d e =
    let s = state_of r w l in
    let F = (assert-facts s b a d (sym e)).compared in
    let σ : ℕ → Bool = λ k. false in
    record {
      few = F.memory.range.n-most;
      wide = F.memory.range.w-most;
      looks = facts-look r w l a F.memory F.address;
      word = slice-nodes F.word;
      control = F.control.below;
      asserted = F.memory.listed.asserted.below;
      clears = builds_clear (assert-program σ s b a d F);
      entry-clears = λ y q. ap (λ (y : Outcome built.AssertBuilt). clear_of (built.Write r.sizes.n b y.answer.not_b a y.words (record { count = y.store.count; full = false })).words r.count) q ∙ assert-entry-clears σ s b a d F;
    }

-- an assert's entry goes by the words at entry only where it clears them
closed-words : (r : Fields) (w w' l : List ℕ) → clear_of w' r.count ≡ clear_of w r.count → (x : Finish) → closed (state_of r w l) x ≡ closed (state_of r w' l) x
unfolding closed
closed-words r w w' l e (full t) = rw e
closed-words r w w' l e short = rw e
closed-words r w w' l e (gives g t) = refl

pub enter-words : (r : Fields) (w w' l : List ℕ) (b : ℕ) (a d : List ℕ) (q : built.AssertBuilt) (v : List ℕ) (c : ℕ) → clear_of w' r.count ≡ clear_of w r.count
    → closed (state_of r w l) (enter (state_of r w l) b a d q v c) ≡ closed (state_of r w' l) (enter (state_of r w' l) b a d q v c)
unfolding enter
enter-words r w w' l b a d q v c e = closed-words r w w' l e (enter (state_of r w l) b a d q v c)
