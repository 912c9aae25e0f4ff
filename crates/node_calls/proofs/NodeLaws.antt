-- The node calls by their rows.
use Rattle.std.proofs.Common.{◌≡◌, true, List, [], ℕ, ◌<◌, ◌≤◌, length, sym, arith}
use Rattle.refusals.specs.declared.Refusal.{Refusal}
use Rattle.refusals.specs.Refusal.{number}
use Rattle.refusals.proofs.RefusalLaws.{number-suc}
use Rattle.conditions.specs.Stores.{Standard, with_terminals}
use Rattle.conditions.specs.User.{is_user}
use Rattle.semantics.specs.declared.Sizes.{Sizes}
use Rattle.model.specs.Record as model
use Rattle.model.specs.Rows.{first_row, variable_rows, ite_rows, evaluate_rows}
use Rattle.model.specs.Step.{State, accepted, refused, done, fresh_record, fresh_rows, fresh}
use Rattle.model.proofs.FactLaws.{names, fresh-told}
use Rattle.model.proofs.CallFactLaws.{evaluate-facts, variable-facts, ite-facts}
use Rattle.rows.specs.Contract.{state_of}
use Rattle.node_calls.specs.Contract.{freshed}

-- Fresh by its row
module _ (g : model.Record) (z : Sizes) (ws ps : List ℕ) where
  pub fresh-turned : (k : Refusal) → number k ≡ fresh_rows z ws → freshed (fresh g z ws ps) ≡ (refused (number k), g, ws, ps)
  unfolding fresh
  fresh-turned k e = let h = number-suc k in rw (← e, h.1)

  pub fresh-done : 0 ≡ fresh_rows z ws → freshed (fresh g z ws ps) ≡ (done accepted, fresh_record z, with_terminals ws, model.fresh_ports)
  unfolding fresh
  fresh-done e = rw (← e)

  pub fresh-room : 0 ≡ fresh_rows z ws → 6 ≤ length ws
  fresh-room e = ((fresh-told z ws).none (sym e)).1.0

-- what the rows of the node calls leave
module _ (r : model.Record) (w : List ℕ) where
  -- they are lent no list
  abbrev s : State
  s = state_of r w []

  pub variable-holds : (v : ℕ) → 0 ≡ first_row (variable_rows r w v) → Standard w r.count × (v < 64)
  variable-holds v e = let F = variable-facts s v (sym e) in (F.standard, omega (arith, F.named.1))

  pub ite-holds : (f g h : ℕ) → 0 ≡ first_row (ite_rows r w f g h)
      → Standard w r.count × (is_user w r.count f ≡ true) × (is_user w r.count g ≡ true) × (is_user w r.count h ≡ true)
  ite-holds f g h e = let F = ite-facts s f g h (sym e) in (F.standard, (names r w f).so F.named.0, (names r w g).so F.named.1, (names r w h).so F.named.2)

  pub evaluate-holds : (f : ℕ) → 0 ≡ first_row (evaluate_rows r w f) → Standard w r.count × (f < r.count)
  evaluate-holds f e = let F = evaluate-facts s f 0 (sym e) in (F.standard, F.named)
