-- Request 5: the claims of the reader and of the order.
use mathlib.Core.List.{[]}
use Rattle.formulas.specs.Language.{Tree, listed}
use Rattle.formulas.specs.Reading.{Limits}
use Rattle.formulas.specs.Claims.{Reads, Orders}
use Rattle.formulas.proofs.CompleteLaws.{one_way}
use Rattle.formulas.proofs.LimitLaws.{judged-fine}
use Rattle.formulas.proofs.OrderLaws.{by_step-only, by_step-rising, by_step-length}
use Rattle.formulas.proofs.DepthLaws.{within_is}
use Rattle.formulas.proofs.RefusedLaws.{wrong-begun, decide, one_row, refused-first, first-refused, deep-refused, misnumbered-refused}

pub reads : (l : Limits) → Reads l
reads l =
    record {
      exactly = λ s t. (
        λ e. let h = (judged-fine l s t).0 e in let g = (within_is l 32 t).0 h.1 in (h.0, g.0, g.1),
        λ h. (judged-fine l s t).1 (h.0, (within_is l 32 t).1 (h.1, h.2)),
      );
      one_way = one_way;
      refused = λ s k x. (refused-first l s k x, first-refused l s k x);
      decided = λ s. decide l s;
      deep = deep-refused l;
      misnumbered = misnumbered-refused l;
      one_row = one_row l;
      inside = λ s k x h. let a = wrong-begun l s k x h in (a.before, a.is);
    }

pub orders : (t : Tree) → Orders t
orders t =
    record {
      rising = by_step-rising (λ e. e.step) (listed 0 [] t);
      in-text-order = λ k. by_step-only (λ e. e.step) k (listed 0 [] t);
      as_many = by_step-length (λ e. e.step) (listed 0 [] t);
    }
