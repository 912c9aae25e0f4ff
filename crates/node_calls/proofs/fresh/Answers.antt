use Rattle.std.proofs.Common.{◌≡◌, Err, ◌∙◌, rules}
use Rattle.node_calls.proofs.NodeLaws.{fresh-turned, fresh-room, fresh-done}
use Rattle.node_calls.proofs.fresh.Goals as goal

pub returns-in_err-fresh_row : goal.returns-in_err-fresh_row
returns-in_err-fresh_row c =
    let e : c.from_residual.result ≡ Err c.in_err-fresh_row.field-0.0 = search rules in
    rw e (fresh-turned c.args.r.now c.args.z c.args.words.now c.args.ports.now c.in_err-fresh_row.field-0.0 c.in_err-fresh_row.ensures)

pub store_terminals-requires : goal.store_terminals-requires
store_terminals-requires c = fresh-room c.args.r.now _ _ c.args.ports.now c.in_ok-fresh_row.ensures

pub returns : goal.returns
returns c = fresh-done _ _ c.args.words.now c.args.ports.now c.in_ok-fresh_row.ensures ∙ rw (c.store_terminals.ensures, c.make_fresh.ensures)
