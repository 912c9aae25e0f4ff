-- What the parts of an assert ask and promise.
use Rattle.std.specs.Prelude.{◌≡◌, false, List, ℕ, ◌<◌, ◌≤◌, length, Result}
use Rattle.refusals.specs.declared.Refusal.{Refusal}
use Rattle.conditions.specs.Build.{Store}
use Rattle.conditions.specs.Stores.{clear_of}
use Rattle.conditions.specs.Contract.{Sound}
use Rattle.model.specs.Record.{address_words, cell_words}
use Rattle.model.specs.Access as model
use Rattle.model.specs.Step.{Given, Answer, entered, kept, closed, enter}
use Rattle.building.specs.Contract.{Nodes}
use Rattle.model.specs.declared.Fields.{Fields}
use Rattle.rows.specs.Contract.{state_of, answer_by, Next}
use Rattle.comparisons.specs.declared.AssertBuilt.{AssertBuilt}
use Rattle.comparisons.specs.Contract.{built_of}
use Rattle.assert_access.specs.declared.Asserted.{Asserted}
use Rattle.assert_access.specs.declared.Asserted.TheVariants.{Entered, Kept}

-- what an assert that is not refused gives
abbrev pub given_by : Asserted → Given
given_by Entered = entered
given_by Kept = kept

-- what an assert answers by its result
abbrev pub assert_answer : Result Asserted Refusal → Answer
assert_answer x = answer_by x given_by

-- an assert that has built its conditions in a store, before its entry
pub record BeforeEntry (r : Fields) (w table : List ℕ) (s : Store) (b : ℕ) (a d : List ℕ) (q : AssertBuilt) : Type 0 where
  pub few : r.sizes.n ≤ 8
  pub wide : r.sizes.w ≤ 16
  pub sound : Sound w table s
  pub fits : s.full ≡ false
  pub more : r.count ≤ s.count
  pub control : b < r.count
  pub not_b : q.not_b < s.count
  pub pairs : length a ≡ address_words r
  pub nodes : Nodes r.count a
  pub word : length d ≡ cell_words r
  pub clears : clear_of (model.Write r.sizes.n b q.not_b a w (record { count = s.count; full = false })).words r.count ≡ clear_of w r.count

-- kept, entered, or refused by 8 or 9
pub record AfterEntry (r : Fields) (w l : List ℕ) (s : Store) (b : ℕ) (a d : List ℕ) (q : AssertBuilt) (r' : Fields) (w' l' : List ℕ) (x : Answer) (table : List ℕ) : Type 0 where
  pub is : closed (state_of r w l) (enter (state_of r w l) b a d (built_of q) w s.count) ≡ record { answer = x; after = state_of r' w' l' }
  pub sound : Next (state_of r' w' l') x table
