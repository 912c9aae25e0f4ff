-- The calls by written formulas, computed.
use mathlib.Core.Path.{refl}
use Rattle.conditions.specs.Computing.{computing}
use Rattle.model.specs.Record.{list_capacity, appended}
use Rattle.model.specs.Formula.{Triples}
use Rattle.model.specs.Access.{unique_bit, Unique, Certain, Write, narrow_bit, Narrow, half_step, EachHalf, merge_half, entry_step, settle_half, Look, inside_half, Inside, Check, Assert}
use Rattle.model.specs.Rows.{row1, row3}
use Rattle.model.specs.Step.{closed, unless_full, enter, finish_access, finish_node, step}
use Rattle.formula_calls.specs.Call.{make, read_formula, formula_step}
use Rattle.formula_calls.specs.Examples.{FormulasByHand}

pub formulas_by_hand : FormulasByHand
unfolding
    computing
    list_capacity appended Triples unique_bit Unique Certain Write narrow_bit Narrow half_step EachHalf merge_half entry_step settle_half Look inside_half Inside Check Assert
    row1 row3 closed unless_full enter finish_access finish_node step make read_formula formula_step
formulas_by_hand =
    record {
      arrows = refl;
      conditions-alone = refl;
      one-node_less = refl;
      answer-short = refl;
      unfinished = refl;
      outermost-first = refl;
      node_of_the-text = refl;
      third_and_fourth = refl;
      checks = refl;
      stopped_by-space = refl;
      stopped_by_a-word = refl;
    }
