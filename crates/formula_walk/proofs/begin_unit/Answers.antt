use Rattle.std.proofs.Common.{◌≡◌, Err, refl, sym, ap, not, ◌∙◌, rules, arith}
use Rattle.formula_walk.proofs.PlaceLaws.{neither-opens, either-opens, second-opens, either_in}
use Rattle.formula_walk.proofs.WalkLaws.{unit-named, unit-none, opener_passed, opener-stopped, next-inside, group-inside}
use Rattle.formula_walk.proofs.begin_unit.Goals as goal

pub predicate-requires : goal.predicate-requires
predicate-requires c = (c.requires, sym c.stands.ensures ∙ c.if-stands.true)

pub returns-in_err-y : goal.returns-in_err-y
returns-in_err-y c =
    let e : c.from_residual.result ≡ Err c.in_err-y.field-0.0 = search rules in
    rw e (λ b W. unit-named W (sym c.stands.ensures ∙ c.if-stands.true) c.in_err-y.ensures)

pub returns-then-stands : goal.returns-then-stands
returns-then-stands c = λ b W. unit-named W (sym c.stands.ensures ∙ c.if-stands.true) c.in_ok-y.ensures

pub returns-then-not-next-group : goal.returns-then-not-next-group
returns-then-not-next-group c =
    let n = neither-opens c.stands-next.ensures c.stands-group.ensures (ap not c.if-not-next-group.true) in
    λ b W. unit-none W c.args.out.now (sym c.stands.ensures ∙ c.if-stands.false) n.0 n.1

pub opener_token-requires : goal.opener_token-requires
opener_token-requires c = either_in c.args.text.now c.args.x.at (either-opens c.stands-next.ensures c.stands-group.ensures (ap not c.if-not-next-group.false))

pub returns-in_err-t : goal.returns-in_err-t
returns-in_err-t c =
    let e : c.from_residual-in_err-t.result ≡ Err c.in_err-t.field-0.0 = search rules in
    rw e (λ b W. opener-stopped W c.args.out.now (either-opens c.stands-next.ensures c.stands-group.ensures (ap not c.if-not-next-group.false)) c.in_err-t.ensures)

pub inner-requires : goal.inner-requires
inner-requires c = ((opener_passed c.args.o.allowed c.in_ok-t.ensures (either_in c.args.text.now c.args.x.at (either-opens c.stands-next.ensures c.stands-group.ensures (ap not c.if-not-next-group.false)))).0, c.requires.nested, omega arith)

pub returns-then-next : goal.returns-then-next
returns-then-next c = (
  refl,
  (opener_passed c.args.o.allowed c.in_ok-t.ensures (either_in c.args.text.now c.args.x.at (either-opens c.stands-next.ensures c.stands-group.ensures (ap not c.if-not-next-group.false)))).1,
  λ b W. next-inside W c.in_ok-t.ensures c.args.out.now (sym c.stands-next.ensures ∙ c.if-next.true) c.inner.ensures,
)

pub inner-requires-2 : goal.inner-requires-2
inner-requires-2 c = ((opener_passed c.args.o.allowed c.in_ok-t.ensures (either_in c.args.text.now c.args.x.at (either-opens c.stands-next.ensures c.stands-group.ensures (ap not c.if-not-next-group.false)))).0, c.requires.nested, omega arith)

pub returns : goal.returns
returns c = (
  refl,
  (opener_passed c.args.o.allowed c.in_ok-t.ensures (either_in c.args.text.now c.args.x.at (either-opens c.stands-next.ensures c.stands-group.ensures (ap not c.if-not-next-group.false)))).1,
  λ b W. group-inside W c.in_ok-t.ensures c.args.out.now (second-opens (either-opens c.stands-next.ensures c.stands-group.ensures (ap not c.if-not-next-group.false)) (sym c.stands-next.ensures ∙ c.if-next.false)) c.inner-2.ensures,
)
