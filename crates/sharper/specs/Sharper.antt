-- 02, 'Sharpening an input': two lists of accesses, "alike but for bits .. that are X in the first and 0 or 1 in the second under an assignment". Under one assignment, as the array is fed them.
use Rattle.std.specs.Prelude.{Bool, List, [], ◌∷◌, ℕ, zero, suc}
use Rattle.semantics.specs.Pairs.{Pair, X, only}
use Rattle.semantics.specs.Array.{Event, writes, reads, asserts, checks, nothing}

-- a bit and its sharper one: alike, or "X in the first and 0 or 1 in the second"
pub data Sharper : Pair → Pair → Type 0 where
  alike : {p : Pair} → Sharper p p
  settled : (b : Bool) → Sharper X (only b)

-- an address or a word, bit by bit
abbrev pub AllSharper : List Pair → List Pair → Type 0
AllSharper [] [] = Unit {0}
AllSharper [] (q ∷ qs) = ⊥
AllSharper (p ∷ ps) [] = ⊥
AllSharper (p ∷ ps) (q ∷ qs) = Sharper p q × AllSharper ps qs

-- an access and its sharper one: "the same ports, b and check data", and "bits of enables, addresses and written or asserted data"
pub data SharperAccess : Event → Event → Type 0 where
  write : {c c' : Pair} {a a' d d' : List Pair} → Sharper c c' → AllSharper a a' → AllSharper d d' → SharperAccess (writes c a d) (writes c' a' d')
  read : {p : ℕ} {e e' : Pair} {a a' : List Pair} → Sharper e e' → AllSharper a a' → SharperAccess (reads p e a) (reads p e' a')
  assert : {b : Bool} {a a' d d' : List Pair} → AllSharper a a' → AllSharper d d' → SharperAccess (asserts b a d) (asserts b a' d')
  check : {b : Bool} {a a' d : List Pair} → AllSharper a a' → SharperAccess (checks b a d) (checks b a' d)

-- "matched access by access": what is no accepted access, a node call or a refused one, may stand anywhere in either list
pub data SharperList : List Event → List Event → Type 0 where
  end : SharperList [] []
  both : {e e' : Event} {es es' : List Event} → SharperAccess e e' → SharperList es es' → SharperList (e ∷ es) (e' ∷ es')
  first : {es es' : List Event} → SharperList es es' → SharperList (nothing ∷ es) es'
  second : {es es' : List Event} → SharperList es es' → SharperList es (nothing ∷ es')

-- call j of the first list is matched with call k of the second
abbrev pub Matched : {es es' : List Event} → SharperList es es' → ℕ → ℕ → Type 0
Matched end j k = ⊥
Matched (both m M) zero zero = Unit {0}
Matched (both m M) zero (suc k) = ⊥
Matched (both m M) (suc j) zero = ⊥
Matched (both m M) (suc j) (suc k) = Matched M j k
Matched (first M) zero k = ⊥
Matched (first M) (suc j) k = Matched M j k
Matched (second M) j zero = ⊥
Matched (second M) j (suc k) = Matched M j k
