-- 02, 'Sharpening an input': pairs of lists of accesses, of which the second is sharper, computed: answers do become narrower. n=1, w=1 and reads at port 0, as in what the rulings mean.
use Rattle.std.specs.Prelude.{Bool, true, false, List, [], ◌∷◌, ℕ, T}
use Rattle.semantics.specs.Pairs.{Pair, X}
use Rattle.semantics.specs.Array.{Event, reads, asserts, checks, nothing}
use Rattle.semantics.specs.Held.{holds_nothing, held_after_all, RunMay, AllAccepted}
use Rattle.semantics.specs.Rulings.{one, nought, put, small}
use Rattle.sharper.specs.Sharper.{SharperList, Matched}

-- a read of enable and address; an assert of b, address and data, and a check
abbrev pub read_at : Pair → Pair → Event
read_at e a = reads 0 e (a ∷ [])

abbrev pub asserted : Bool → Pair → Pair → Event
asserted b a d = asserts b (a ∷ []) (d ∷ [])

abbrev pub checked : Bool → Pair → Pair → Event
checked b a d = checks b (a ∷ []) (d ∷ [])

-- two lists of accepted accesses, of which the second is sharper
pub record IsSharper (es fs : List Event) : Type 0 where
  pub accepted : AllAccepted small es
  pub accepted' : AllAccepted small fs
  pub list : SharperList es fs

-- "Against an empty claim": the bit of call j, matched with call k, which might be b, no longer may
pub record Narrows (es fs : List Event) (j k : ℕ) (b : Bool) : Type 0 where
  pub sharper : IsSharper es fs
  pub matched : Matched sharper.list j k
  pub before : RunMay small holds_nothing es j 0 b
  pub after : RunMay small holds_nothing fs k 0 b → ⊥

-- and the check condition, which did not hold, does
pub record Passes (es fs : List Event) : Type 0 where
  pub sharper : IsSharper es fs
  pub before : T (held_after_all small holds_nothing es).condition → ⊥
  pub after : T (held_after_all small holds_nothing fs).condition

pub record NarrowsByHand : Type 0 where
  -- 1@0, 0@0 with enable X, read 0: X. With enable 0, an idle write, 1; with enable 1, 0
  pub write-enable_0 : Narrows (put one one nought ∷ put X nought nought ∷ read_at one nought ∷ []) (put one one nought ∷ put nought nought nought ∷ read_at one nought ∷ []) 2 2 false
  pub write-enable_1 : Narrows (put one one nought ∷ put X nought nought ∷ read_at one nought ∷ []) (put one one nought ∷ put one nought nought ∷ read_at one nought ∷ []) 2 2 true
  -- 1@0, read 0 with enable X: X, for the port holds X. With enable 1, 1
  pub read-enable : Narrows (put one one nought ∷ read_at X nought ∷ []) (put one one nought ∷ read_at one nought ∷ []) 1 1 false
  -- and what the port then holds: read with enable 0
  pub held : Narrows (put one one nought ∷ read_at X nought ∷ read_at nought one ∷ []) (put one one nought ∷ read_at one nought ∷ read_at nought one ∷ []) 2 2 false
  -- 1@0, 0@X, read 0: X. 0@1 in place of it: 1
  pub write-address : Narrows (put one one nought ∷ put one nought X ∷ read_at one nought ∷ []) (put one one nought ∷ put one nought one ∷ read_at one nought ∷ []) 2 2 false
  -- 1@0, read X: X. Read 0: 1
  pub read-address : Narrows (put one one nought ∷ read_at one X ∷ []) (put one one nought ∷ read_at one nought ∷ []) 1 1 false
  -- X@0, read 0: X. 1@0: 1
  pub written_data : Narrows (put one X nought ∷ read_at one nought ∷ []) (put one one nought ∷ read_at one nought ∷ []) 1 1 false
  -- X asserted at 0: X. 1 asserted: 1
  pub asserted_data : Narrows (asserted true nought X ∷ read_at one nought ∷ []) (asserted true nought one ∷ read_at one nought ∷ []) 1 1 false
  -- an assert's address has an X only where b does not hold, and there it does nothing: with it another bit is sharper
  pub assert-address : Narrows (put one X nought ∷ asserted false X one ∷ read_at one nought ∷ []) (put one one nought ∷ asserted false nought one ∷ read_at one nought ∷ []) 2 2 false
  -- 1@0, check X for 1: not. Check 0: it holds
  pub check-address : Passes (put one one nought ∷ checked true X one ∷ []) (put one one nought ∷ checked true nought one ∷ [])
  -- X@0, check 0 for 1: not. 1@0: it holds
  pub before-check : Passes (put one X nought ∷ checked true nought one ∷ []) (put one one nought ∷ checked true nought one ∷ [])
  -- X@0, read 0: X. 0@0: 0. A node call stands before the write in the first list, and two behind it in the second
  pub node-calls : Narrows (nothing ∷ put one X nought ∷ read_at one nought ∷ []) (put one nought nought ∷ nothing ∷ nothing ∷ read_at one nought ∷ []) 2 3 true
