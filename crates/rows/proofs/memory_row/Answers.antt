use Rattle.rows.proofs.CallLaws.{in-range_few, store-holds}
use Rattle.rows.proofs.memory_row.Goals as goal

pub has_valid_list-requires : goal.has_valid_list-requires
has_valid_list-requires c =
    let Q = store-holds c.args.r c.args.words.now c.in_ok-d.ensures.0 in
    let f = in-range_few _ _ Q.0 in
    (f.0, f.1, c.in_ok-d.ensures.1.1)
