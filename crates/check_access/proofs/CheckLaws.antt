-- A check by its rows.
use Rattle.std.proofs.Common.{◌≡◌, sym, false, List, ℕ, ◌<◌}
use Rattle.conditions.specs.Stores.{clear_of}
use Rattle.conditions.proofs.Promises.{builds_clear}
use Rattle.model.specs.Access as built
use Rattle.model.specs.Rows.{first_row, check_rows}
use Rattle.model.specs.Step.{begin}
use Rattle.model.proofs.CallFactLaws.{check-facts}
use Rattle.model.proofs.ProgramLaws.{check-program}
use Rattle.model.specs.declared.Fields.{Fields}
use Rattle.rows.specs.Contract.{state_of}
use Rattle.rows.proofs.CallLaws.{Compared, compared}

-- what its rows leave
pub record CheckHolds (r : Fields) (w l : List ℕ) (b : ℕ) (a d : List ℕ) : Type 0 where
  pub rows : Compared r l b a d
  pub checked : r.checked < r.count
  pub clears : clear_of (built.Check r l b a d w (begin r)).words r.count ≡ clear_of w r.count

pub check-holds : (r : Fields) (w l : List ℕ) (b : ℕ) (a d : List ℕ) → 0 ≡ first_row (check_rows r w l b a d) → CheckHolds r w l b a d
check-holds r w l b a d e =
    let F = check-facts (state_of r w l) b a d (sym e) in
    record { rows = compared r w l b a d e; checked = F.memory.listed.checked.below; clears = builds_clear (check-program (λ k. false) (state_of r w l) b a d F) }
