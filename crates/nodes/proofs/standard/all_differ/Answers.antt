use mathlib.Core.Path.{sym}
use Rattle.nodes.proofs.standard.all_differ.Goals as goal

pub returns-then-is_certified : goal.returns-then-is_certified
returns-then-is_certified c = sym (c.is_certified.ensures c.if-is_certified.true)
