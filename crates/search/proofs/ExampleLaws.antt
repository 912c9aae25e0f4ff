-- The search computes what was worked out by hand.
use Rattle.std.proofs.Common.{refl}
use Rattle.nodes.specs.Words.{has_words}
use Rattle.search.specs.Search.{compare_from, Search}
use Rattle.search.specs.Examples.{ByHand}

pub searched_by_hand : ByHand
unfolding Search compare_from has_words
searched_by_hand = record { next = refl; twice = refl; low = refl; variable = refl; none = refl; last = refl }
