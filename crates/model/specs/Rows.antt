-- 01, 'Turned down': rows 1 to 7 of the table, and 02's 14 in a read. The first test that fails refuses, by its number; 0 is none. Row 8 is asked later, where an entry is needed.
use Rattle.std.specs.Prelude.{Bool, true, false, cond, not, ◌&&◌, List, [], ◌∷◌, ℕ, ◌+◌, ◌*◌, eqb, ltb, leb, length, get_or}
use Rattle.nodes.specs.Search.{every}
use Rattle.conditions.specs.Stores.{is_standard}
use Rattle.conditions.specs.User.{is_user}
use Rattle.conditions.specs.Meet.{neither, together}
use Rattle.semantics.specs.Sizes.{cell_bits, data_bits}
use Rattle.formulas.specs.Language.{Tree}
use Rattle.model.specs.Formula.{every_node}
use Rattle.model.specs.Record.{Record, h_at, l_at, address_words, cell_words, data_words, size, list_capacity, port_at}

-- a row's number, and its test
abbrev pub Row : Type 0
Row = ℕ × Bool

abbrev pub first_row : List Row → ℕ
first_row [] = 0
first_row (t ∷ ts) = cond t.1 (first_row ts) t.0

module _ (r : Record) (w : List ℕ) where
  -- each word is a node that 5 accepts
  abbrev pub users : List ℕ → Bool
  users ws = every (λ i. is_user w r.count (get_or ws i 0)) 0 (length ws)

  -- "some assignment makes a pair neither": no such of k pairs
  abbrev pub legal_pairs : List ℕ → ℕ → Bool
  legal_pairs ws k = every (λ i. not (neither w (h_at ws i) (l_at ws i))) 0 k

  -- Each of the following is true where its row does not refuse.

  -- "n or w outside its range"
  unfoldable pub row1 : Bool
  row1 = leb 1 r.sizes.n && leb r.sizes.n 8 && leb 1 r.sizes.w && leb r.sizes.w 16

  -- "fewer than 6 words, count under 2 or over capacity, not standard form"
  abbrev pub row2 : Bool
  row2 = is_standard w r.count

  -- "entry count over the list's capacity; an entry word or record condition that 5 would refuse"
  unfoldable pub row3 : List ℕ → Bool
  row3 l =
      leb r.entries (list_capacity r l) && every (λ i. is_user w r.count (get_or l i 0)) 0 (r.entries * size r)
      && is_user w r.count r.asserted && is_user w r.count r.checked

  -- row 8: "no space for the entry": there is space for k entries more
  abbrev pub space_for : ℕ → List ℕ → Bool
  space_for k l = leb (r.entries + k) (list_capacity r l)

  -- rows 1 and 2, which every call meets; and 3 of an access
  abbrev pub store_rows : List Row → List Row
  store_rows ts = (1, row1) ∷ (2, row2) ∷ ts

  abbrev pub memory_rows : List ℕ → List Row → List Row
  memory_rows l ts = store_rows ((3, row3 l) ∷ ts)

  -- row 4: "a slice not exactly 2n or 2w words, an enable not 2". Row 5: "an access's .. node not below the count or on an index variable".
  -- Row 6: "some assignment makes a pair neither". Row 7: "some assignment has b and an X address bit"
  abbrev pub write_rows : List ℕ → List ℕ → List ℕ → List ℕ → List Row
  write_rows l c a d =
      memory_rows l
      ((4, eqb (length c) 2 && eqb (length a) (address_words r) && eqb (length d) (data_words r))
      ∷ (5, users c && users a && users d)
      ∷ (6, legal_pairs c 1 && legal_pairs a r.sizes.n && legal_pairs d (data_bits r.sizes))
      ∷ [])

  -- 02: "A held word that 5 would refuse meets 3": the words that the four ports hold
  unfoldable pub ports_row : List ℕ → Bool
  ports_row ps = every (λ p. every (λ i. is_user w r.count (get_or ps (port_at p + i) 0)) 0 (data_words r)) 0 4

  -- "14, port above 3, tested after 4"
  abbrev pub read_rows : List ℕ → List ℕ → ℕ → List ℕ → List ℕ → List ℕ → List Row
  read_rows l ps p e a out =
      store_rows
      ((3, row3 l && ports_row ps)
      ∷ (4, eqb (length e) 2 && eqb (length a) (address_words r) && eqb (length out) (data_words r))
      ∷ (14, leb p 3)
      ∷ (5, users e && users a)
      ∷ (6, legal_pairs e 1 && legal_pairs a r.sizes.n)
      ∷ [])

  -- a check's, and an assert's before 7
  abbrev pub compared_rows : List ℕ → ℕ → List ℕ → List ℕ → List Row → List Row
  compared_rows l b a d ts =
      memory_rows l
      ((4, eqb (length a) (address_words r) && eqb (length d) (cell_words r))
      ∷ (5, is_user w r.count b && users a && users d)
      ∷ (6, legal_pairs a r.sizes.n && legal_pairs d (cell_bits r.sizes))
      ∷ ts)

  abbrev pub check_rows : List ℕ → ℕ → List ℕ → List ℕ → List Row
  check_rows l b a d = compared_rows l b a d []

  abbrev pub assert_rows : List ℕ → ℕ → List ℕ → List ℕ → List Row
  assert_rows l b a d = compared_rows l b a d ((7, every (λ i. not (together w b (h_at a i) (l_at a i))) 0 r.sizes.n) ∷ [])

  -- "Ite, evaluate and variable calls lend no list and skip 3." Row 5: "evaluate: not below the count; variable not 8 to 63"
  abbrev pub evaluate_rows : ℕ → List Row
  evaluate_rows f = store_rows ((5, ltb f r.count) ∷ [])

  abbrev pub variable_rows : ℕ → List Row
  variable_rows v = store_rows ((5, leb 8 v && leb v 63) ∷ [])

  abbrev pub ite_rows : ℕ → ℕ → ℕ → List Row
  ite_rows f g h = store_rows ((5, is_user w r.count f && is_user w r.count g && is_user w r.count h) ∷ [])

  -- a formula's conditions are built of nodes that 5 accepts
  abbrev pub formula_rows : Tree → List Row
  formula_rows t = store_rows ((5, every_node (is_user w r.count) t) ∷ [])
