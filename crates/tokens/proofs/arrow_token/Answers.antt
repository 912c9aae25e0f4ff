use Rattle.std.proofs.Common.{ap, not}
use Prim.Native.Nat.{◌+◌}
use native.Mathlib.Omega.{arith}
use Rattle.nodes.proofs.TestLaws.{test_fails, test-holds}
use Rattle.tokens.proofs.TokenLaws.{starts_in, arrow-none, arrow_half, arrow-full, arrow-free}
use Rattle.tokens.proofs.arrow_token.Goals as goal

pub returns-then-not-stands : goal.returns-then-not-stands
returns-then-not-stands c = arrow-none c.args.text.now c.args.t.at c.args.allowed c.args.t.number c.requires (test_fails c.stands.ensures (ap not c.if-not-stands.true))

pub returns-then-not-stands-2 : goal.returns-then-not-stands-2
returns-then-not-stands-2 c = arrow_half c.args.text.now c.args.t.at c.args.allowed c.args.t.number c.requires (c.args.t.at + 1) (omega arith) (test-holds c.stands.ensures (ap not c.if-not-stands.false)) (test_fails c.stands-2.ensures (ap not c.if-not-stands-2.true))

pub returns-then-allowed-eq0 : goal.returns-then-allowed-eq0
returns-then-allowed-eq0 c = arrow-full c.args.text.now c.args.t.at c.args.allowed c.args.t.number c.requires (c.args.t.at + 1) (omega arith) (test-holds c.stands.ensures (ap not c.if-not-stands.false)) (test-holds c.stands-2.ensures (ap not c.if-not-stands-2.false)) (omega arith)

pub spaces-requires : goal.spaces-requires
spaces-requires c = omega (arith, starts_in c.args.text.now (c.args.t.at + 1) 62 (test-holds c.stands-2.ensures (ap not c.if-not-stands-2.false)))

pub returns : goal.returns
returns c = arrow-free c.args.text.now c.args.t.at c.args.allowed c.args.t.number c.requires (c.args.t.at + 1) (omega arith) (test-holds c.stands.ensures (ap not c.if-not-stands.false)) (test-holds c.stands-2.ensures (ap not c.if-not-stands-2.false)) (c.args.t.at + 2) c.spaces.result (omega arith) (λ e. omega arith) c.spaces.ensures
