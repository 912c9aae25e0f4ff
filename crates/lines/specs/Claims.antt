-- Demand 2: "the text of a condition is the same for two conditions exactly when they agree under every assignment". Here of the lines in which
-- conditions are printed; the two lines may be of two cases, each with a store of its own.
use Rattle.std.specs.Prelude.{◌≡◌, ◌↔◌, Bool, List, [], ◌++◌, ℕ, zero, suc, ◌+◌, ◌*◌, ◌-◌, ◌<◌, length, get_or}
use Rattle.nodes.specs.Standard.{Standard}
use Rattle.conditions.specs.Show.{Alike}
use Rattle.lines.specs.Lines.{line, write_line, idle_line, end_line, check_line, assert_line, bit_text, read_word, read_line}

-- two write lines: the same place; and none is that of an idle write
unfoldable pub WriteLines : Type 0
WriteLines = (k k' : ℕ) → ((write_line k ≡ write_line k') ↔ (k ≡ k')) × (write_line k ≡ idle_line → ⊥)

-- two end lines: the same count
unfoldable pub EndLines : Type 0
EndLines = (k k' : ℕ) → (end_line k ≡ end_line k') ↔ (k ≡ k')

-- a store in standard form with c nodes, and a node of it
pub record Printed (w : List ℕ) (c n : ℕ) : Type 0 where
  pub standard : Standard w c
  pub below : n < c

-- and a word of k bits, each of whose halves is a node of it
pub record PrintedWord (w : List ℕ) (c : ℕ) (word : List ℕ) (k : ℕ) : Type 0 where
  pub standard : Standard w c
  pub size : length word ≡ 2 * k
  pub below : (i : ℕ) → i < 2 * k → get_or word i 0 < c

-- two check lines
unfoldable pub CheckLines : Type 0
CheckLines = (w w' : List ℕ) (c c' n n' : ℕ) → Printed w c n → Printed w' c' n' → (check_line w n ≡ check_line w' n') ↔ Alike w n w' n'

-- two assert lines: both entered or both kept, too
unfoldable pub AssertLines : Type 0
AssertLines =
    (w w' : List ℕ) (c c' n n' : ℕ) (e e' : Bool) → Printed w c n → Printed w' c' n'
    → (assert_line w e n ≡ assert_line w' e' n') ↔ ((e ≡ e') × Alike w n w' n')

-- two read lines: as many bits, and each half alike
unfoldable pub ReadLines : Type 0
ReadLines =
    (w w' : List ℕ) (c c' k k' : ℕ) (word word' : List ℕ) → PrintedWord w c word k → PrintedWord w' c' word' k'
    → (read_line w word ≡ read_line w' word') ↔ ((k ≡ k') × ((i : ℕ) → i < 2 * k → Alike w (get_or word i 0) w' (get_or word' i 0)))

-- "for each bit, highest first": of k bits the one that is printed first is bit k - 1, the next bit k - 2, and on
abbrev pub in_turn : ℕ → (ℕ → List ℕ) → List ℕ
in_turn zero f = []
in_turn (suc k) f = f 0 ++ in_turn k (λ i. f (suc i))

unfoldable pub HighestFirst : Type 0
HighestFirst =
    (w word : List ℕ) (k : ℕ) → length word ≡ 2 * k
    → read_line w word ≡ line (read_word ++ in_turn k (λ i. bit_text w (get_or word (2 * (k - 1 - i)) 0) (get_or word (2 * (k - 1 - i) + 1) 0)))
