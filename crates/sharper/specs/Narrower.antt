-- 02, 'Sharpening an input', under one assignment: what sharper accesses answer admits less. Pair by pair over the published meaning, then of one access, then of lists of them.
use Rattle.std.specs.Prelude.{◌≡◌, ◌↔◌, Bool, List, ℕ, ◌<◌, T, length}
use Rattle.semantics.specs.declared.Sizes.{Sizes}
use Rattle.semantics.specs.Sizes.{cell_bits, data_bits}
use Rattle.semantics.specs.Pairs.{Pair, legal, admit}
use Rattle.semantics.specs.Published.{Entry, entry, over, cell, look, answer, check_holds}
use Rattle.semantics.specs.Array.{Event}
use Rattle.semantics.specs.Held.{Held, held_after, held_after_all, NowMay, RunMay, Accepted, AllAccepted}
use Rattle.sharper.specs.Sharper.{Sharper, AllSharper, SharperAccess, SharperList, Matched}

-- what a bit answers: the second admits only what the first admits
abbrev pub Narrower : Pair → Pair → Type 0
Narrower p q = (b : Bool) → T (admit q b) → T (admit p b)

-- of a legal second bit, "X in the first and 0 or 1 in the second" is to admit less
unfoldable pub SharperIsNarrower : Type 0
SharperIsNarrower = (p q : Pair) → T (legal q) → Sharper p q ↔ Narrower p q

-- each location, as far as w bits go
abbrev pub NarrowerCells : ℕ → List Entry → List Entry → Type 0
NarrowerCells w es fs = (x : List Bool) (i : ℕ) → i < w → Narrower (cell es x i) (cell fs x i)

-- The published meaning, pair by pair: an entry over what a location held, a look, the answer of a read over what its port held, and a check
pub record PublishedNarrower : Type 0 where
  pub entries : (c c' : Pair) (a a' d d' : List Pair) → Sharper c c' → AllSharper a a' → AllSharper d d'
      → (x : List Bool) (i : ℕ) (r r' : Pair) → Narrower r r' → Narrower (over (entry c a d) x i r) (over (entry c' a' d') x i r')
  pub looks : (n w : ℕ) (es fs : List Entry) → NarrowerCells w es fs → (a a' : List Pair) → AllSharper a a' → length a ≡ n → (i : ℕ) → i < w → Narrower (look n es a i) (look n fs a' i)
  pub answers : (z : Sizes) (es fs : List Entry) → NarrowerCells (cell_bits z) es fs → (p p' : ℕ → Pair) → ((i : ℕ) → i < data_bits z → Narrower (p i) (p' i))
      → (e e' : Pair) (a a' : List Pair) → Sharper e e' → AllSharper a a' → length a ≡ z.n → (i : ℕ) → i < data_bits z → Narrower (answer z es p e a i) (answer z fs p' e' a' i)
  pub checks : (z : Sizes) (es fs : List Entry) → NarrowerCells (cell_bits z) es fs → (b : Bool) (a a' d : List Pair) → AllSharper a a' → length a ≡ z.n → T (check_holds z es b a d) → T (check_holds z fs b a' d)

-- what two published runs hold: the second's locations and ports admit only what the first's admit, and where the first's check condition holds the second's does
pub record NarrowerHeld (z : Sizes) (s t : Held) : Type 0 where
  pub cells : NarrowerCells (cell_bits z) s.entries t.entries
  pub ports : (p i : ℕ) → i < data_bits z → Narrower (s.ports p i) (t.ports p i)
  pub condition : T s.condition → T t.condition

-- one accepted access and its sharper one
pub record AccessNarrower (z : Sizes) (s t : Held) (e f : Event) : Type 0 where
  pub after : NarrowerHeld z (held_after z s e) (held_after z t f)
  pub bits : (i : ℕ) → i < data_bits z → (b : Bool) → NowMay z t f i b → NowMay z s e i b

unfoldable pub OneAccess : Type 0
OneAccess = (z : Sizes) (s t : Held) (e f : Event) → NarrowerHeld z s t → SharperAccess e f → Accepted z e → Accepted z f → AccessNarrower z s t e f

-- and lists of them, from any two that hold such
pub record ListNarrower (z : Sizes) (s t : Held) (es fs : List Event) (M : SharperList es fs) : Type 0 where
  pub after : NarrowerHeld z (held_after_all z s es) (held_after_all z t fs)
  pub bits : (j k : ℕ) → Matched M j k → (i : ℕ) → i < data_bits z → (b : Bool) → RunMay z t fs k i b → RunMay z s es j i b

unfoldable pub AccessLists : Type 0
AccessLists = (z : Sizes) (s t : Held) (es fs : List Event) (M : SharperList es fs) → NarrowerHeld z s t → AllAccepted z es → AllAccepted z fs → ListNarrower z s t es fs M
