use Rattle.std.proofs.Common.{◌*◌, ◌≤◌, length, length-take, ◌∙◌, arith}
use borrow.Author.Tests.{lt-leb, le-leb}
use Rattle.conditions.specs.User.{is_user}
use Rattle.model.specs.Rows.{row3}
use Rattle.model.proofs.ListLaws.{capacity-words}
use Rattle.rows.proofs.SliceLaws.{first_places}
use Rattle.rows.proofs.has_valid_list.Goals as goal

pub returns-then-list_capacity-r : goal.returns-then-list_capacity-r
unfolding row3
returns-then-list_capacity-r c = rw (lt-leb _ _ (rw c.list_capacity.ensures at c.if-list_capacity-r.true))

pub overflow_mul-k : goal.overflow_mul-k
overflow_mul-k c = rw c.entry_words.ensures (omega (arith, capacity-words _ _ _ (rw c.list_capacity.ensures at c.if-list_capacity-r.false)))

pub slice_bounds-all_users-end : goal.slice_bounds-all_users-end
slice_bounds-all_users-end c =
    let h : c.args.r.entries * c.entry_words.result ≤ length c.args.list.now = rw c.entry_words.ensures (capacity-words _ _ _ (rw c.list_capacity.ensures at c.if-list_capacity-r.false)) in
    simp length-take (omega (arith, h))

pub returns : goal.returns
unfolding row3
returns c =
    let h : c.args.r.entries * c.entry_words.result ≤ length c.args.list.now = rw c.entry_words.ensures (capacity-words _ _ _ (rw c.list_capacity.ensures at c.if-list_capacity-r.false)) in
    let e = c.all_users-x.ensures ∙ first_places (is_user c.args.d.words.now c.args.d.count) c.args.list.now _ h in
    rw (le-leb _ _ (rw c.list_capacity.ensures at c.if-list_capacity-r.false), ← c.requires.2, ← c.entry_words.ensures, ← e, ← c.is_user-y.ensures, ← c.is_user-z.ensures)
