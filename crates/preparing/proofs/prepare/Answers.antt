use Rattle.std.proofs.Common.{◌≡◌, Ok, Err, refl, rules}
use Rattle.refusals.specs.declared.Refusal.TheVariants.{StoreFull}
use Rattle.rows.specs.Contract.{Cleared}
use Rattle.preparing.specs.declared.Unlisted.TheVariants.{Refused, Faulty}
use Rattle.preparing.proofs.PrepareLaws.{prepared-faulty, prepared-short, may_build, builds-read, prepared-nine, prepared-list, prepared-listed}
use Rattle.preparing.proofs.prepare.Goals as goal

pub returns-in_err-x : goal.returns-in_err-x
returns-in_err-x c =
    let e : c.from_residual.result ≡ Err (Faulty c.in_err-x.field-0.0) = search rules in
    let W = rw c.predicate_words.ensures at c.in_err-x.ensures in
    rw e (prepared-faulty c.args.predicates.now c.requires c.begin.ensures W (search rules))

pub returns-then-answer-x : goal.returns-then-answer-x
returns-then-answer-x c =
    let W = rw c.predicate_words.ensures at c.in_ok-x.ensures in
    prepared-short c.args.predicates.now c.requires c.begin.ensures W c.if-answer-x.true (search rules)

pub walk_text-requires-2 : goal.walk_text-requires-2
walk_text-requires-2 c =
    let W = rw c.predicate_words.ensures at c.in_ok-x.ensures in
    rw c.predicate_words.ensures (may_build c.args.predicates.now c.requires c.begin.ensures W)

pub unwrap-requires : goal.unwrap-requires
unwrap-requires c =
    let W = rw c.predicate_words.ensures at c.in_ok-x.ensures in
    let Y = rw c.predicate_words.ensures at c.walk_text-2.ensures in
    builds-read c.args.predicates.now c.requires c.begin.ensures W Y

pub returns-in_err-clear_where : goal.returns-in_err-clear_where
returns-in_err-clear_where c =
    let W = rw c.predicate_words.ensures at c.in_ok-x.ensures in
    let Y = rw c.predicate_words.ensures at c.walk_text-2.ensures in
    let o : Cleared c.walk_text-2.new.build.words.now c.args.r.count c.walk_text-2.new.build.store.full StoreFull c.clear_where.new.words (Err c.in_err-clear_where.field-0.0) = search rules in
    let e : c.from_residual-in_err-clear_where.result ≡ Err (Refused c.in_err-clear_where.field-0.0) = search rules in
    rw e (prepared-nine c.args.predicates.now c.requires c.begin.ensures W c.if-answer-x.false Y c.unwrap.ensures o)

pub list_steps-requires : goal.list_steps-requires
list_steps-requires c =
    let W = rw c.predicate_words.ensures at c.in_ok-x.ensures in
    let Y = rw c.predicate_words.ensures at c.walk_text-2.ensures in
    let o : Cleared c.walk_text-2.new.build.words.now c.args.r.count c.walk_text-2.new.build.store.full StoreFull c.clear_where.new.words (Ok tt) = search rules in
    rw c.predicate_words.ensures (prepared-list c.args.predicates.now c.requires c.begin.ensures W c.if-answer-x.false Y c.unwrap.ensures o refl refl)

pub returns : goal.returns
returns c =
    let W = rw c.predicate_words.ensures at c.in_ok-x.ensures in
    let Y = rw c.predicate_words.ensures at c.walk_text-2.ensures in
    let L = rw c.predicate_words.ensures at c.list_steps.ensures in
    let o : Cleared c.walk_text-2.new.build.words.now c.args.r.count c.walk_text-2.new.build.store.full StoreFull c.clear_where.new.words (Ok tt) = search rules in
    prepared-listed c.args.predicates.now c.requires c.begin.ensures W c.if-answer-x.false Y c.unwrap.ensures o refl refl L (search rules) (search rules)
