use Prim.Native.Nat.{◌+◌}
use native.Mathlib.Omega.{arith}
use Rattle.tokens.proofs.TokenLaws.{opener-full, opener-free}
use Rattle.tokens.proofs.opener_token.Goals as goal

pub returns-then-allowed-eq0 : goal.returns-then-allowed-eq0
returns-then-allowed-eq0 c = opener-full c.args.text.now c.args.at c.args.allowed c.requires (omega arith)

pub returns : goal.returns
returns c = opener-free c.args.text.now c.args.at (c.args.at + 1) c.args.allowed c.spaces.result (omega arith) (λ e. omega arith) c.spaces.ensures
