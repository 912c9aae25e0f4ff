-- 01, 'Panel's rulings', as the published accesses mean them, under one assignment: n=1, w=1, reads at port 0.
use Rattle.std.specs.Prelude.{◌≡◌, Bool, true, false, List, [], ◌∷◌}
use Rattle.semantics.specs.declared.Sizes.{Sizes}
use Rattle.semantics.specs.Pairs.{Pair, X, only}
use Rattle.semantics.specs.Published.{answer, check_holds}
use Rattle.semantics.specs.Array.{Event, writes, reads, checks}
use Rattle.semantics.specs.Held.{Held, holds_nothing, held_after_all}

abbrev pub one : Pair
one = only true

abbrev pub nought : Pair
nought = only false

-- '"1@0" writes 1 at 0', under an enable
abbrev pub put : Pair → Pair → Pair → Event
put c d a = writes c (a ∷ []) (d ∷ [])

abbrev pub small : Sizes
small = record { n = 1; w = 1 }

-- what a read gives after these events, by its enable and address
abbrev pub given : List Event → Pair → Pair → Pair
given es e a =
    let h = held_after_all small holds_nothing es in
    answer small h.entries (h.ports 0) e (a ∷ []) 0

-- R11, "w=2, 01@0, 10@1", the lowest bit first: whether a check at an address of X holds against two bits, the higher first
abbrev pub checked : Pair → Pair → Bool
checked high low =
    let wide : Sizes = record { n = 1; w = 2 } in
    let h = held_after_all wide holds_nothing (writes one (nought ∷ []) (one ∷ nought ∷ []) ∷ writes one (one ∷ []) (nought ∷ one ∷ []) ∷ []) in
    check_holds wide h.entries true (X ∷ []) (low ∷ high ∷ [])

pub record Rulings : Type 0 where
  pub r1 : given [] one nought ≡ X
  pub r2 : given (put one one nought ∷ []) one nought ≡ one
  pub r3 : given (put one one nought ∷ []) one one ≡ X
  pub r4 : given (put X one nought ∷ []) one nought ≡ X
  pub r5 : given (put one one nought ∷ put X one nought ∷ []) one nought ≡ one
  pub r6 : given (put one one nought ∷ put one one one ∷ []) one X ≡ one
  pub r7 : given (put one one nought ∷ put one nought one ∷ []) one X ≡ X
  pub r8 : given (put one one nought ∷ put one one one ∷ put one nought X ∷ []) one nought ≡ X
  pub r9 : given (put nought one nought ∷ []) one nought ≡ X
  pub r10 : given (put one one nought ∷ []) X nought ≡ X
  -- "R10 becomes 1 if the same port's last word was 1"
  pub r10-held : given (put one one nought ∷ reads 0 one (nought ∷ []) ∷ []) X nought ≡ one
  pub r11 : checked X X ≡ true
  pub r11_not : checked nought one ≡ false
