-- The texts read by hand are read so.
use mathlib.Core.Path.{refl}
use Rattle.formulas.specs.Examples.{ByHand}

pub read_by_hand : ByHand
read_by_hand =
    record {
      spaced = refl;
      unspaced = refl;
      next_unit = refl;
      next_group = refl;
      three = refl;
      arrow_far = refl;
      arrows = refl;
      arrow-closed = refl;
      zeros = refl;
      nine = refl;
      long = refl;
      nothing = refl;
      only-spaces = refl;
      arrow-outside = refl;
      apart = refl;
      number-apart = refl;
      arrow-apart = refl;
      unjoined = refl;
      open_end = refl;
      node-alone = refl;
      unclosed = refl;
      closed = refl;
      empty = refl;
      next-node = refl;
      colon = refl;
      slash = refl;
      tab = refl;
      number-wrong = refl;
      number-first = refl;
      node-wrong = refl;
      node-before = refl;
      deep-next = refl;
      deeper-next = refl;
      deep_group = refl;
      deeper_group = refl;
      deep_arrow = refl;
      deeper_arrow = refl;
      deep-mixed = refl;
      deeper-mixed = refl;
      beside = refl;
      deep-fault = refl;
      deep-number = refl;
      number-deep = refl;
      arrow-deep = refl;
      order = refl;
      order-steps = refl;
      order-nested = refl;
      order_arrow = refl;
      order-twice = refl;
    }
