-- What is printed of a memory: nodes of its store.
use Rattle.std.proofs.Common.{◌≡◌, ap, subst, List, ℕ, ◌<◌}
use Rattle.nodes.specs.Standard.{Standard}
use Rattle.conditions.proofs.Promises.{standard_is}
use Rattle.model.specs.Step.{State, Call, Answer, Result, step}
use Rattle.model.specs.Frames.{Valid, StaysValid}
use Rattle.model.proofs.FactLaws.{row3-tells}
use Rattle.model.proofs.FrameLaws.{stays-valid}
use Rattle.memory.specs.declared.Record.{Record}
use Rattle.memory.specs.Contract.{state_of, memory_of}

-- validity turns on no port
pub valid_ported : (m : Record) (w l ps : List ℕ) → Valid (memory_of m w l) → Valid (state_of m w l ps)
valid_ported m w l ps K = record { one = K.one; two = K.two; three = K.three }

pub valid-plain : (m : Record) (w l ps : List ℕ) → Valid (state_of m w l ps) → Valid (memory_of m w l)
valid-plain m w l ps K = record { one = K.one; two = K.two; three = K.three }

-- the state after an access
pub after-valid : (c : Call) {s t : State} {a : Answer} → Valid s → step c s ≡ record { answer = a; after = t } → Valid t
unfolding StaysValid
after-valid c {s} K e = subst Valid (ap (λ (x : Result). x.after) e) (stays-valid c s K)

-- what is printed of it: nodes of a store in standard form
module _ (c : Call) {s t : State} {a : Answer} (K : Valid s) (e : step c s ≡ record { answer = a; after = t }) where
  pub after-standard : Standard t.words t.rec.count
  after-standard = standard_is t.words t.rec.count (after-valid c K e).two

  pub asserted-below : t.rec.asserted < t.rec.count
  asserted-below = ((row3-tells t.rec t.words t.list).is (after-valid c K e).three).asserted.below

  pub checked-below : t.rec.checked < t.rec.count
  checked-below = ((row3-tells t.rec t.words t.list).is (after-valid c K e).three).checked.below
