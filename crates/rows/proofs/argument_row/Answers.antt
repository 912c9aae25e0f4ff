use Rattle.std.proofs.Common.{sym, ◌∙◌, arith}
use Rattle.model.proofs.FactLaws.{and3}
use Rattle.rows.proofs.CallLaws.{users-nodes}
use Rattle.rows.proofs.argument_row.Goals as goal

pub legal_pairs-x-requires : goal.legal_pairs-x-requires
legal_pairs-x-requires c =
    let p = c.requires in
    let U = and3 c.all_users-x.result c.all_users-y.result c.all_users-z.result (c.if-not-x-y.false) in
    (omega (arith, p), omega (arith, p), record { at = λ i h. users-nodes c.args.r c.args.words.now c.args.control.now (sym c.all_users-x.ensures ∙ U.0) i (omega (arith, p)) })

pub legal_pairs-y-requires : goal.legal_pairs-y-requires
legal_pairs-y-requires c =
    let p = c.requires in
    let U = and3 c.all_users-x.result c.all_users-y.result c.all_users-z.result (c.if-not-x-y.false) in
    (omega (arith, p), omega (arith, p), record { at = λ i h. users-nodes c.args.r c.args.words.now c.args.address.now (sym c.all_users-y.ensures ∙ U.1) i (omega (arith, p)) })

pub legal_pairs-z-requires : goal.legal_pairs-z-requires
legal_pairs-z-requires c =
    let p = c.requires in
    let U = and3 c.all_users-x.result c.all_users-y.result c.all_users-z.result (c.if-not-x-y.false) in
    (omega (arith, p), omega (arith, p), record { at = λ i h. users-nodes c.args.r c.args.words.now c.args.«data».now (sym c.all_users-z.ensures ∙ U.2) i (omega (arith, p)) })
