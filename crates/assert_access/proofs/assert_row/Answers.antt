use Rattle.std.proofs.Common.{arith}
use Rattle.rows.specs.Contract.{state_of}
use Rattle.rows.proofs.CallLaws.{valid-standard, compared}
use Rattle.assert_access.proofs.assert_row.Goals as goal

pub invariant_of-d : goal.invariant_of-d
invariant_of-d c = record { standard = valid-standard (state_of c.args.r c.args.words.now c.args.list.now) c.requires.0 }

pub none_unknown-requires : goal.none_unknown-requires
none_unknown-requires c =
    let H = compared c.args.r c.args.words.now c.args.list.now c.args.b.0 c.args.address.now c.args.«data».now c.in_ok-check_row.ensures in
    (omega (arith, H.control), omega (arith, c.requires.1), H.looks.few, record { at = λ i h. H.looks.nodes.at i (omega (arith, c.requires.1)) })
