-- 01, rows 6 and 7: whether some assignment makes nodes false together, or true together, found without making nodes.
use Rattle.std.specs.Prelude.{◌≡◌, Bool, true, false, cond, ◌&&◌, ◌||◌, Option, None, Some, List, ℕ, zero, suc, ◌+◌, ◌-◌, ◌/◌, ◌%◌, ◌^◌, ◌<◌, eqb, get_or, set}
use Rattle.nodes.specs.Standard.{Standard}
use Rattle.diagrams.specs.declared.Parts.{Parts}
use Rattle.diagrams.specs.Parts.{parts_of}
use Rattle.diagrams.specs.Value.{value}
use Rattle.diagrams.specs.Assignment.{bit_at}
use Rattle.diagrams.specs.Keys.{key_of, slot_of}

-- whether f, g and h meet at the terminal t: no, if one of them is the other terminal; yes, if all three are t; else, where this is none, as their parts do
unfoldable pub judge_of : ℕ → ℕ → ℕ → ℕ → Option Bool
judge_of t f g h =
    cond (eqb f (1 - t) || eqb g (1 - t) || eqb h (1 - t)) (Some false)
    (cond (eqb f t && eqb g t && eqb h t) (Some true)
    None)

-- the low parts meet, or else the high parts do, by a function for the parts
unfoldable pub meets_by : (ℕ → ℕ → ℕ → Bool) → Option Bool → Parts → Bool
meets_by rec (Some b) d = b
meets_by rec None d = rec d.f0 d.g0 d.h0 || rec d.f1 d.g1 d.h1

-- that in so many steps at most
unfoldable pub meets_up_to : ℕ → List ℕ → ℕ → ℕ → ℕ → ℕ → Bool
meets_up_to zero w t f g h = false
meets_up_to (suc k) w t f g h = meets_by (meets_up_to k w t) (judge_of t f g h) (parts_of w f g h)

-- some assignment takes f, g and h to the terminal t. Each step goes to a child of one of the three at least, so these are enough: the law `meets_rule` is this with no bound
unfoldable pub meets : List ℕ → ℕ → ℕ → ℕ → ℕ → Bool
meets w t f g h = meets_up_to (suc (f + g + h)) w t f g h

-- what is told, if anything is, is the answer
abbrev pub Settles : Option Bool → Bool → Type 0
Settles (Some x) b = b ≡ x
Settles None b = Unit {0}

-- what the test asks: a store in standard form, a terminal, and three nodes
pub record Asks (w : List ℕ) (c t f g h : ℕ) : Type 0 where
  pub standard : Standard w c
  pub terminal : t < 2
  pub first : f < c
  pub second : g < c
  pub third : h < c

-- row 6: "some assignment makes a pair neither": both of its nodes are false, beside node 0, which always is
unfoldable pub neither : List ℕ → ℕ → ℕ → Bool
neither w h l = meets w 0 h l 0

-- row 7: "some assignment has b and an X address bit": b and both nodes of the bit's pair are true
unfoldable pub together : List ℕ → ℕ → ℕ → ℕ → Bool
together w f g h = meets w 1 f g h

-- what the two tests are to find, over the assignments of 64 bits
abbrev pub SomeNeither : List ℕ → ℕ → ℕ → Type 0
SomeNeither w h l = (a : ℕ) × (a < 2 ^ 64) × (value w (bit_at a) h ≡ false) × (value w (bit_at a) l ≡ false)

abbrev pub SomeTogether : List ℕ → ℕ → ℕ → ℕ → Type 0
SomeTogether w f g h = (a : ℕ) × (a < 2 ^ 64) × (value w (bit_at a) f ≡ true) × (value w (bit_at a) g ≡ true) × (value w (bit_at a) h ≡ true)

-- the test b decides P
pub record Decides (P : Type 0) (b : Bool) : Type 0 where
  pub yes : b ≡ true → P
  pub no : b ≡ false → P → ⊥

-- notes of what was found not to meet, three nodes to a number: whether they have f, g and h, and the notes with f, g and h put in
unfoldable pub noted_in : List ℕ → ℕ → ℕ → ℕ → Bool
noted_in n f g h = eqb (get_or n (slot_of f g h) 0) (key_of f g h)

abbrev pub with_note : List ℕ → ℕ → ℕ → ℕ → List ℕ
with_note n f g h = set n (slot_of f g h) (key_of f g h)

-- no, if the notes have the three nodes; else by the nodes themselves
unfoldable pub judge_noted : List ℕ → ℕ → ℕ → ℕ → ℕ → Option Bool
judge_noted n t f g h = cond (noted_in n f g h) (Some false) (judge_of t f g h)

-- each number of the notes is three nodes that do not meet
pub record NotesHold (w : List ℕ) (t : ℕ) (n : List ℕ) : Type 0 where
  pub at : (i : ℕ) → i < 32768 → meets w t (get_or n i 0 / 268435456) (get_or n i 0 / 16384 % 16384) (get_or n i 0 % 16384) ≡ false
