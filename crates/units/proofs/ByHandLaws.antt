-- What is computed of units, by hand.
use mathlib.Core.Path.{◌≡◌, refl, sym, ◌∙◌}
use mathlib.Core.Bool.{Bool, true, false}
use mathlib.Core.List.{[], ◌∷◌}
use Rattle.semantics.specs.Pairs.{X}
use Rattle.semantics.specs.Array.{Memory, Bits}
use Rattle.semantics.specs.Rulings.{one, nought}
use Rattle.units.specs.Parts.{Order, little, big}
use Rattle.units.specs.Array.{Words, stores}
use Rattle.units.specs.ByHand.{cell3, wrote, given, ByHand, ones, zeros, OneEnable}

pub by_hand : ByHand
by_hand = record {
  little_parts = refl;
  big_parts = refl;
  open_carry = refl;
  read_two = two;
  little_one = refl;
  big_one = refl;
  little_four = refl;
  big_four = refl;
  held_whole = refl;
}
  where
    two : (o : Order) → given o wrote 2 one cell3 ≡ one ∷ nought ∷ nought ∷ nought ∷ []
    two little = refl
    two big = refl

pub one_word : (v : Bits (one ∷ [])) → v.0 ≡ true ∷ []
one_word (true ∷ [], t) = refl
one_word ([], t) = absurd t
one_word (false ∷ v, t) = absurd t
one_word (true ∷ b ∷ v, t) = absurd t

-- a unit of two at X, enabled, with 1 in both parts, writes both cells in every plain run
pub both-written : (o : Order) (x : Bits (X ∷ [])) (vs : Words ones) (m : Memory) (y : Bool) → (stores o x.0 ones vs m).cells (y ∷ []) ≡ true ∷ []
both-written o ([], t) vs m y = absurd t
both-written o (true ∷ b ∷ x, t) vs m y = absurd t
both-written o (false ∷ b ∷ x, t) vs m y = absurd t
both-written little (true ∷ [], t) vs m true = one_word vs.0
both-written little (true ∷ [], t) vs m false = one_word vs.1.0
both-written little (false ∷ [], t) vs m true = one_word vs.1.0
both-written little (false ∷ [], t) vs m false = one_word vs.0
both-written big (true ∷ [], t) vs m true = one_word vs.1.0
both-written big (true ∷ [], t) vs m false = one_word vs.0
both-written big (false ∷ [], t) vs m true = one_word vs.0
both-written big (false ∷ [], t) vs m false = one_word vs.1.0

pub one-enable : OneEnable
unfolding OneEnable
one-enable o ((true, t), x, vs) = both-written o x vs zeros false ∙ sym (both-written o x vs zeros true)
one-enable o ((false, t), x, vs) = refl
