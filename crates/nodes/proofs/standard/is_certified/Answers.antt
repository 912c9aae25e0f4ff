use mathlib.Core.Path.{sym, ◌∙◌}
use mathlib.Core.Bool.{false≢true}
use Rattle.nodes.proofs.CertificateLaws.{found_first}
use Rattle.nodes.proofs.standard.is_certified.Goals as goal

pub returns-then-count-lt64 : goal.returns-then-count-lt64
returns-then-count-lt64 c = λ e. absurd (false≢true e)

pub returns : goal.returns
returns c = λ e. found_first _ _ _ _ (sym c.all_found.ensures ∙ e)
