-- One call with units: what may stand at each bit of each location and each port stays what the plain runs so far can have there.
-- In two halves that do not need each other: what a run has is admitted (Admitted), at any address; and what is admitted some run has (Reached), where no unit above 1 has an X in its address.
use mathlib.Core.Path.{◌≡◌, refl, sym, ap, ◌∙◌, subst}
use mathlib.Core.Logic.{◌⊎◌, inl, inr}
use mathlib.Core.Bool.{Bool, true, false, ◌&&◌, ◌||◌, cond}
use mathlib.Core.List.{List, [], ◌∷◌, ◌++◌, append_assoc, append-nil}
use Prim.Native.Nat.{ℕ, zero, suc, ◌+◌, ◌*◌, ◌/◌, ◌%◌, ◌^◌, ◌<◌, ◌≤◌}
use native.Mathlib.Nat.{le_of_suc-le-suc, not-suc-le-zero, mod-lt, add-zero, suc-mul, mul-le-mul_right, mul-add-div_right, mul-add-mod_self_right, div-eq_of_lt, mod-eq_of_lt}
use native.Mathlib.Omega.{arith}
use borrow.Author.Tests.{ltb-true}
use lib.Dec.{T, leb, ltb, leb→le}
use lib.ListN.{length, replicate, length-replicate, get_or-replicate}
use Rattle.semantics.specs.declared.Sizes.{Sizes}
use Rattle.semantics.specs.Sizes.{cell_bits}
use Rattle.semantics.specs.Pairs.{Pair, X, only, legal, admit, admits, legals, unique, at, bit}
use Rattle.semantics.specs.Published.{Entry, entry, over, scan, cell, look}
use Rattle.semantics.specs.Array.{Memory, same, put, Bit, Bits}
use Rattle.semantics.specs.Array as Cell
use Rattle.semantics.specs.Held.{Held}
use Rattle.semantics.proofs.PairLaws.{and_left, and_right, either, T→eq, same_eq, admits-length, choose, chooses, choose_at, anything-word, look_to, look-from, scan-append, over_is}
use Rattle.semantics.proofs.ExactLaws.{Admits, Reaches, X-admits, length-anything, where_choice}
use Rattle.semantics.proofs.ExactLaws as S
use Rattle.units.specs.Sum.{bits_of}
use Rattle.units.specs.Parts.{Order, Shape, sizes, wide, offset, part_of, part_pairs, part_entry, parts_from, unit_entries, look_unit}
use Rattle.units.specs.Array.{Event, writes, reads, asserts, checks, nothing, Words, Choice, stores_from, stores, word_of, find_unit, finds, memory_after, Start, Settled}
use Rattle.units.specs.Held.{Parts, Accepted}
use Rattle.units.proofs.SumLaws.{zero_bit, sum_from-length, sum-unique}
use Rattle.units.proofs.PartLaws.{part_sound, part-known, parts_distinct, shared-marks, pairs_one, unit_of_one, part_of_one}

-- other runs with the same words
module _ (w : ℕ) (p : ℕ → Pair) (I J : Type 0) (v : I → List Bool) (u : J → List Bool) where
  admits_along : (h : J → I) → ((r : J) → v (h r) ≡ u r) → Admits w p I v → Admits w p J u
  admits_along h e A = record {
    sized = λ r. subst (λ (z : List Bool). length z ≡ w) (e r) (A.sized (h r));
    within = λ r i l. subst (λ (z : List Bool). T (admit (p i) (bit z i))) (e r) (A.within (h r) i l);
  }

  reaches_along : (h : I → J) → ((r : I) → u (h r) ≡ v r) → Reaches w p I v → Reaches w p J u
  reaches_along h e R = record { reach = λ i l b t. let q = R.reach i l b t in (h q.0, ap (λ (z : List Bool). bit z i) (e q.0) ∙ q.1) }

-- of memories of a shape, at each location, of w bits, and in each port, of m cells; f and h say what may stand there
pub record Admitted (g : Shape) (f : List Bool → ℕ → Pair) (h : ℕ → ℕ → Pair) (I : Type 0) (mem : I → Memory) : Type 0 where
  pub cells : (x : List Bool) → Admits g.w (f x) I (λ r. (mem r).cells x)
  pub ports : (p : ℕ) → Admits (wide g) (h p) I (λ r. (mem r).ports p)

pub record Reached (g : Shape) (f : List Bool → ℕ → Pair) (h : ℕ → ℕ → Pair) (I : Type 0) (mem : I → Memory) : Type 0 where
  pub some : I
  pub cells : (x : List Bool) → Reaches g.w (f x) I (λ r. (mem r).cells x)
  pub ports : (p : ℕ) → Reaches (wide g) (h p) I (λ r. (mem r).ports p)

module _ (g : Shape) (f : List Bool → ℕ → Pair) (h : ℕ → ℕ → Pair) (I J : Type 0) (mem : I → Memory) (nem : J → Memory) where
  pub admitted_along : (k : J → I) → ((r : J) → mem (k r) ≡ nem r) → Admitted g f h I mem → Admitted g f h J nem
  admitted_along k e A = record {
    cells = λ x. admits_along g.w (f x) I J (λ r. (mem r).cells x) (λ r. (nem r).cells x) k (λ r. ap (λ (m : Memory). m.cells x) (e r)) (A.cells x);
    ports = λ p. admits_along (wide g) (h p) I J (λ r. (mem r).ports p) (λ r. (nem r).ports p) k (λ r. ap (λ (m : Memory). m.ports p) (e r)) (A.ports p);
  }

  pub reached_along : (k : I → J) → ((r : I) → nem (k r) ≡ mem r) → Reached g f h I mem → Reached g f h J nem
  reached_along k e R = record {
    some = k R.some;
    cells = λ x. reaches_along g.w (f x) I J (λ r. (mem r).cells x) (λ r. (nem r).cells x) k (λ r. ap (λ (m : Memory). m.cells x) (e r)) (R.cells x);
    ports = λ p. reaches_along (wide g) (h p) I J (λ r. (mem r).ports p) (λ r. (nem r).ports p) k (λ r. ap (λ (m : Memory). m.ports p) (e r)) (R.ports p);
  }

-- Their cells are those of an array of one cell, whose ports have w bits, of which nothing is asked
abbrev pub bare : ℕ → Memory → Memory
bare w m = record { cells = m.cells; ports = λ p. replicate w false }

abbrev pub none : Pair
none = record { h = false; l = false }

none-admits : (b : Bool) → T (admit none b) → ⊥
none-admits true t = t
none-admits false t = t

module _ (g : Shape) (f : List Bool → ℕ → Pair) (h : ℕ → ℕ → Pair) (I : Type 0) (mem : I → Memory) where
  pub cells-admitted : Admitted g f h I mem → S.Admitted (sizes g) f (λ p i. X) I (λ r. bare g.w (mem r))
  cells-admitted A = record { cells = A.cells; ports = λ p. record { sized = λ r. length-replicate g.w false; within = λ r i l. X-admits (bit (replicate g.w false) i) } }

  pub cells_reached : Reached g f h I mem → S.Reached (sizes g) f (λ p i. none) I mem
  cells_reached R = record { some = R.some; cells = R.cells; ports = λ p. record { reach = λ i l b t. absurd (none-admits b t) } }

-- at first: any content, and any words in the ports
all : (g : Shape) → Bool → Start g
all g b = (record { cells = λ x. replicate g.w b; ports = λ p. replicate (wide g) b }, λ x. anything-word g.w b, λ p. anything-word (wide g) b)

pub start-admitted : (g : Shape) → Admitted g (cell []) (λ p i. X) (Start g) (λ r. r.0)
start-admitted g = record {
  cells = λ x. record { sized = λ r. length-anything g.w (r.0.cells x) (r.1 x); within = λ r i h. X-admits (bit (r.0.cells x) i) };
  ports = λ p. record { sized = λ r. length-anything (wide g) (r.0.ports p) (r.2 p); within = λ r i h. X-admits (bit (r.0.ports p) i) };
}

pub start_reached : (g : Shape) → Reached g (cell []) (λ p i. X) (Start g) (λ r. r.0)
unfolding all
start_reached g = record {
  some = all g true;
  cells = λ x. record { reach = λ i h b t. (all g b, get_or-replicate g.w i b false h) };
  ports = λ p. record { reach = λ i h b t. (all g b, get_or-replicate (wide g) i b false h) };
}

-- A word given bit by bit
pub word_of-length : (k : ℕ) (f : ℕ → Bool) → length (word_of k f) ≡ k
word_of-length zero f = refl
word_of-length (suc k) f = ap suc (word_of-length k (λ i. f (suc i)))

pub word_of_bit : (k : ℕ) (f : ℕ → Bool) (i : ℕ) → i < k → bit (word_of k f) i ≡ f i
word_of_bit zero f i h = absurd (not-suc-le-zero h)
word_of_bit (suc k) f zero h = refl
word_of_bit (suc k) f (suc i) h = word_of_bit k (λ j. f (suc j)) i (le_of_suc-le-suc h)

-- a bit of m cells is a bit of its cell
pub in_cell : (m w i : ℕ) → i < m * w → i % w < w
in_cell m zero i h = absurd (omega arith)
in_cell m (suc w) i h = mod-lt i (omega arith)

-- bit c of cell j, as the answers and the held words have it, is bit c of part j + 1, and 0 above the unit
in_cells : (j w c : ℕ) → c < w → ((j * w + c) / w ≡ j) × ((j * w + c) % w ≡ c)
in_cells j w c h =
    let l : zero < w = omega arith in
    (mul-add-div_right l j c ∙ (rw (div-eq_of_lt h) (add-zero j)), mul-add-mod_self_right j w c ∙ mod-eq_of_lt h)

below-wide : (m j w c : ℕ) → j < m → c < w → j * w + c < m * w
below-wide m j w c l h = omega (arith, mul-le-mul_right w l, suc-mul j w)

pub look-cell : (g : Shape) (es : List Entry) (unit : ℕ) (a : List Pair) (j c : ℕ) → c < g.w →
    look_unit g es unit a (j * g.w + c) ≡ cond (ltb j unit) (look g.n es (part_pairs g.order unit a (suc j)) c) (only false)
look-cell g es unit a j c h = let e = in_cells j g.w c h in rw (e.0, e.1)

pub finds-cell : (g : Shape) (unit : ℕ) (x : List Bool) (m : Memory) (j c : ℕ) → j < g.m → c < g.w →
    bit (finds g unit x m) (j * g.w + c) ≡ cond (ltb j unit) (bit (m.cells (part_of g.order unit x (suc j))) c) false
finds-cell g unit x m j c l h =
    let e = in_cells j g.w c h in
    word_of_bit (wide g) (find_unit g unit x m) (j * g.w + c) (below-wide g.m j g.w c l h) ∙ (rw (e.0, e.1))

-- What a look at a unit finds: its parts
-- where a unit has one part, its first is the address itself
first-pairs : (o : Order) (unit k : ℕ) (a : List Pair) → T (legals a) → unit ≡ 1 → k ≡ 0 → part_pairs o unit a (suc k) ≡ a
first-pairs o unit k a la e f = rw (e, f) (pairs_one o a la)

first-place : (o : Order) (unit k : ℕ) (x : List Bool) → unit ≡ 1 → k ≡ 0 → part_of o unit x (suc k) ≡ x
first-place o unit k x e f = rw (e, f) (part_of_one o x)

module _ (g : Shape) (es : List Entry) (ports : ℕ → ℕ → Pair) (I : Type 0) (mem : I → Memory) (unit : ℕ) (a : List Pair) where
  -- at any address: each part lies where its own address admits
  pub look-within : Admitted g (cell es) ports I mem → length a ≡ g.n → (r : I) (x : Bits a) (i : ℕ) → i < wide g → T (admit (look_unit g es unit a i) (bit (finds g unit x.0 (mem r)) i))
  look-within A na r x i h = subst (λ (b : Bool). T (admit (look_unit g es unit a i) b)) (sym (word_of_bit (wide g) (find_unit g unit x.0 (mem r)) i h)) (go (ltb (i / g.w) unit))
    where
      j : ℕ
      j = suc (i / g.w)

      c : ℕ
      c = i % g.w

      p : List Pair
      p = part_pairs g.order unit a j

      z : List Bool
      z = part_of g.order unit x.0 j

      go : (t : Bool) → T (admit (cond t (look g.n es p c) (only false)) (cond t (bit ((mem r).cells z) c) false))
      go false = tt
      go true = look-from g.n es p (sum_from-length (only false) (bits_of (length a) (offset g.order unit j)) a ∙ na) (z, part_sound g.order unit a x.0 x.1 j) c (bit ((mem r).cells z) c)
          ((A.cells z).within r c (in_cell g.m g.w i h))

  pub look_reach : Reached g (cell es) ports I mem → T (legals a) → Settled unit a → (i : ℕ) → i < wide g → (b : Bool) → T (admit (look_unit g es unit a i) b)
      → (r : I) × (x : Bits a) × (bit (finds g unit x.0 (mem r)) i ≡ b)
  look_reach R la s i h b t =
      let q = go (ltb (i / g.w) unit) refl t in
      (q.0, q.1, word_of_bit (wide g) (find_unit g unit q.1.0 (mem q.0)) i h ∙ q.2)
    where
      j : ℕ
      j = suc (i / g.w)

      c : ℕ
      c = i % g.w

      p : List Pair
      p = part_pairs g.order unit a j

      z : List Bool → List Bool
      z x = part_of g.order unit x j

      small : c < g.w
      small = in_cell g.m g.w i h

      -- one part, at any address
      one : unit ≡ 1 → i / g.w ≡ 0 → T (admit (look g.n es p c) b) → (r : I) × (x : Bits a) × (bit ((mem r).cells (z x.0)) c ≡ b)
      one e f t =
          let x = look_to g.n es a c b (subst (λ (q : List Pair). T (admit (look g.n es q c) b)) (first-pairs g.order unit (i / g.w) a la e f) t) in
          let r = (R.cells x.0.0).reach c small b x.1 in
          (r.0, x.0, ap (λ (q : List Bool). bit ((mem r.0).cells q) c) (first-place g.order unit (i / g.w) x.0.0 e f) ∙ r.1)

      -- any part, at a known address
      place : T (unique a) → T (admit (look g.n es p c) b) → (r : I) × (x : Bits a) × (bit ((mem r).cells (z x.0)) c ≡ b)
      place ua t =
          let y = chooses a la in
          let q = look_to g.n es p c b t in
          let e : q.0.0 ≡ z y.0 = same_eq q.0.0 (z y.0) (subst T (part-known g.order unit a la ua y.0 y.1 j q.0.0) q.0.1) in
          let r = (R.cells (z y.0)).reach c small b (subst (λ (v : List Bool). T (admit (cell es v c) b)) e q.1) in
          (r.0, y, r.1)

      go : (l : Bool) → ltb (i / g.w) unit ≡ l → T (admit (cond l (look g.n es p c) (only false)) b) → (r : I) × (x : Bits a) × (cond l (bit ((mem r).cells (z x.0)) c) false ≡ b)
      go false e t = (R.some, chooses a la, sym (zero_bit b t))
      go true e t = either (leb unit 1) (unique a) s
          (λ v.
          let k : i / g.w < unit = ltb-true (i / g.w) unit e in
          let l : unit ≤ 1 = leb→le unit 1 v in
          one (omega arith) (omega arith) t)
          (λ v. place v t)

-- A write of a unit, at any address: each part is the write of one cell, where the part lies
cond_same : (on : Bool) (m : Memory) → cond on m m ≡ m
cond_same true m = refl
cond_same false m = refl

module _ (z : Sizes) (ports : ℕ → ℕ → Pair) (o : Order) (unit : ℕ) (c : Pair) (lc : T (legal c)) (a : List Pair) (la : T (legals a)) where
  abbrev wrote : (j : ℕ) (ds : List (List Pair)) → Choice (writes c a ds) → Memory → Memory
  wrote j ds k m = cond k.0.0 (stores_from o unit k.1.0 j ds k.2 m) m

  parts-admitted : (j : ℕ) (ds : List (List Pair)) → Parts (cell_bits z) ds → (es : List Entry) (I : Type 0) (mem : I → Memory) → S.Admitted z (cell es) ports I mem →
      S.Admitted z (cell (es ++ parts_from o unit c a j ds)) ports (I × Choice (writes c a ds)) (λ r. wrote j ds r.1 (mem r.0))
  parts-admitted j [] q es I mem A =
      subst (λ (fs : List Entry). S.Admitted z (cell fs) ports (I × Choice (writes c a [])) (λ r. wrote j [] r.1 (mem r.0))) (sym (append-nil es))
      (S.admitted_along z (cell es) ports I (I × Choice (writes c a [])) mem (λ r. wrote j [] r.1 (mem r.0)) (λ r. r.0) (λ r. sym (cond_same r.1.0.0 (mem r.0))) A)
  parts-admitted j (d ∷ ds) q es I mem A =
      subst (λ (fs : List Entry). S.Admitted z (cell fs) ports (I × Choice (writes c a (d ∷ ds))) (λ r. wrote j (d ∷ ds) r.1 (mem r.0))) entered
      (S.admitted_along z (cell (one ++ parts_from o unit c a (suc j) ds)) ports (J × Choice (writes c a ds)) (I × Choice (writes c a (d ∷ ds))) (λ r. wrote (suc j) ds r.1 (stored r.0)) (λ r. wrote j (d ∷ ds) r.1 (mem r.0))
      part (λ r. again r.1.0.0 r.1.1.0 r.1.2 (mem r.0))
      (parts-admitted (suc j) ds q.1 one J stored (S.write-admitted z es ports I mem c p d lc q.0.1 A)))
    where
      p : List Pair
      p = part_pairs o unit a j

      one : List Entry
      one = es ++ (entry c p d ∷ [])

      J : Type 0
      J = I × Cell.Choice (Cell.writes c p d)

      stored : J → Memory
      stored r = Cell.memory_after (Cell.writes c p d) r.1 (mem r.0)

      part : I × Choice (writes c a (d ∷ ds)) → J × Choice (writes c a ds)
      part r = ((r.0, (r.1.0, (part_of o unit r.1.1.0 j, part_sound o unit a r.1.1.0 r.1.1.1 j), r.1.2.0)), (r.1.0, r.1.1, r.1.2.1))

      again : (on : Bool) (y : List Bool) (vs : Words (d ∷ ds)) (m : Memory) →
          cond on (stores_from o unit y (suc j) ds vs.1 (cond on (put m (part_of o unit y j) vs.0.0) m)) (cond on (put m (part_of o unit y j) vs.0.0) m) ≡ cond on (stores_from o unit y j (d ∷ ds) vs m) m
      again true y vs m = refl
      again false y vs m = refl

      entered : one ++ parts_from o unit c a (suc j) ds ≡ es ++ parts_from o unit c a j (d ∷ ds)
      entered = append_assoc es (entry c p d ∷ []) (parts_from o unit c a (suc j) ds) ∙ ap (λ (e : Entry). es ++ (e ∷ parts_from o unit c a (suc j) ds)) (sym (shared-marks o unit c a d la j))

-- of the cells alone
stores_bare : (w : ℕ) (o : Order) (unit : ℕ) (y : List Bool) (j : ℕ) (ds : List (List Pair)) (vs : Words ds) (m : Memory) → stores_from o unit y j ds vs (bare w m) ≡ bare w (stores_from o unit y j ds vs m)
stores_bare w o unit y j [] vs m = refl
stores_bare w o unit y j (d ∷ ds) vs m = stores_bare w o unit y (suc j) ds vs.1 (put m (part_of o unit y j) vs.0.0)

wrote_bare : (w : ℕ) (o : Order) (unit : ℕ) (on : Bool) (y : List Bool) (j : ℕ) (ds : List (List Pair)) (vs : Words ds) (m : Memory) →
    cond on (stores_from o unit y j ds vs (bare w m)) (bare w m) ≡ bare w (cond on (stores_from o unit y j ds vs m) m)
wrote_bare w o unit true y j ds vs m = stores_bare w o unit y j ds vs m
wrote_bare w o unit false y j ds vs m = refl

-- a write changes no port
stores-ports : (o : Order) (unit : ℕ) (y : List Bool) (j : ℕ) (ds : List (List Pair)) (vs : Words ds) (m : Memory) (p : ℕ) → (stores_from o unit y j ds vs m).ports p ≡ m.ports p
stores-ports o unit y j [] vs m p = refl
stores-ports o unit y j (d ∷ ds) vs m p = stores-ports o unit y (suc j) ds vs.1 (put m (part_of o unit y j) vs.0.0) p

some_words : (w : ℕ) (ds : List (List Pair)) → Parts w ds → Words ds
some_words w [] q = tt
some_words w (d ∷ ds) q = (chooses d q.0.0, some_words w ds q.1)

module _ (g : Shape) (es : List Entry) (ports : ℕ → ℕ → Pair) (I : Type 0) (mem : I → Memory) (c : Pair) (a : List Pair) (ds : List (List Pair)) (lc : T (legal c)) (la : T (legals a)) (ld : Parts g.w ds) where
  abbrev after : I × Choice (writes c a ds) → Memory
  after r = memory_after g (writes c a ds) r.1 (mem r.0)

  after-ports : (r : I × Choice (writes c a ds)) (p : ℕ) → (after r).ports p ≡ (mem r.0).ports p
  after-ports r p = go r.1.0.0
    where
      go : (on : Bool) → (cond on (stores g.order r.1.1.0 ds r.1.2 (mem r.0)) (mem r.0)).ports p ≡ (mem r.0).ports p
      go true = stores-ports g.order (length ds) r.1.1.0 1 ds r.1.2 (mem r.0) p
      go false = refl

  some-write : Choice (writes c a ds)
  some-write = (choose c lc, chooses a la, some_words g.w ds ld)

  pub write-admitted : Admitted g (cell es) ports I mem → Admitted g (cell (es ++ unit_entries g.order c a ds)) ports (I × Choice (writes c a ds)) after
  write-admitted A = record {
    cells = λ x. admits_along g.w (cell (es ++ unit_entries g.order c a ds) x) (I × Choice (writes c a ds)) (I × Choice (writes c a ds)) (λ r. (wrote (sizes g) (λ p i. X) g.order (length ds) c lc a la 1 ds r.1 (bare g.w (mem r.0))).cells x) (λ r. (after r).cells x) (λ r. r)
        (λ r. ap (λ (m : Memory). m.cells x) (wrote_bare g.w g.order (length ds) r.1.0.0 r.1.1.0 1 ds r.1.2 (mem r.0)))
        ((parts-admitted (sizes g) (λ p i. X) g.order (length ds) c lc a la 1 ds ld es I (λ r. bare g.w (mem r)) (cells-admitted g (cell es) ports I mem A)).cells x);
    ports = λ p. admits_along (wide g) (ports p) I (I × Choice (writes c a ds)) (λ r. (mem r).ports p) (λ r. (after r).ports p) (λ r. r.0) (λ r. sym (after-ports r p)) (A.ports p);
  }

  -- the other half from what it says of cells
  reached_by : Reached g (cell es) ports I mem
      → ((x : List Bool) (i : ℕ) → i < g.w → (b : Bool) → T (admit (cell (es ++ unit_entries g.order c a ds) x i) b) → (r : I × Choice (writes c a ds)) × (bit ((after r).cells x) i ≡ b))
      → Reached g (cell (es ++ unit_entries g.order c a ds)) ports (I × Choice (writes c a ds)) after
  reached_by R f = record {
    some = (R.some, some-write);
    cells = λ x. record { reach = f x };
    ports = λ p. reaches_along (wide g) (ports p) I (I × Choice (writes c a ds)) (λ r. (mem r).ports p) (λ r. (after r).ports p) (λ r. (r, some-write)) (λ r. after-ports (r, some-write) p) (R.ports p);
  }

-- At a known address at most one part lies at x, so its bit is that part's where the unit is enabled, else what was there
landed : (ℕ → List Bool) → ℕ → List (List Pair) → List Bool → ℕ → Pair → Pair
landed f j [] x i r = r
landed f j (d ∷ ds) x i r = landed f (suc j) ds x i (cond (same x (f j)) (at d i) r)

passed_by : (f : ℕ → List Bool) (j : ℕ) (ds : List (List Pair)) (x : List Bool) (i : ℕ) (r : Pair) →
    ((k : ℕ) → j ≤ k → k < j + length ds → same x (f k) ≡ false) → landed f j ds x i r ≡ r
unfolding landed
passed_by f j [] x i r e = refl
passed_by f j (d ∷ ds) x i r e = rw (e j (omega arith) (omega arith)) (passed_by f (suc j) ds x i r (λ k h l. e k (omega arith) (omega arith)))

twice : (c : Pair) → T (legal c) → (b : Bool) → (c.h && b || c.l && b) ≡ b
twice c t b = go c.h c.l t b
  where
    go : (h l : Bool) → T (h || l) → (b : Bool) → (h && b || l && b) ≡ b
    go true true t true = refl
    go true true t false = refl
    go true false t true = refl
    go true false t false = refl
    go false true t b = refl
    go false false t b = absurd t

module _ (o : Order) (unit : ℕ) (c : Pair) (lc : T (legal c)) (a : List Pair) (la : T (legals a)) (ua : T (unique a))
    (y : List Bool) (ay : T (admits a y)) (fits : unit ≤ 2 ^ length y) (x : List Bool) (i : ℕ) where
  parts-scan : (j : ℕ) (ds : List (List Pair)) → 1 ≤ j → j + length ds ≡ suc unit → (r : Pair) (b : Bool) →
      admit (scan (parts_from o unit c a j ds) x i r) b ≡ (c.h && admit (landed (part_of o unit y) j ds x i r) b || c.l && admit r b)
  unfolding landed
  parts-scan j [] h e r b = sym (twice c lc (admit r b))
  parts-scan j (d ∷ ds) h e r b = go (same x (part_of o unit y j)) refl (λ r'. parts-scan (suc j) ds (omega arith) (omega arith) r' b)
    where
      f : ℕ → List Bool
      f = part_of o unit y

      p : List Pair
      p = part_pairs o unit a j

      go : (t : Bool) → same x (f j) ≡ t →
          ((r' : Pair) → admit (scan (parts_from o unit c a (suc j) ds) x i r') b ≡ (c.h && admit (landed f (suc j) ds x i r') b || c.l && admit r' b)) →
          admit (scan (parts_from o unit c a (suc j) ds) x i (over (part_entry c a p d) x i r)) b
          ≡ (c.h && admit (landed f (suc j) ds x i (cond t (at d i) r)) b || c.l && admit r b)
      go false t ih =
          let q : admits p x ≡ false = part-known o unit a la ua y ay j x ∙ t in
          let s : over (part_entry c a p d) x i r ≡ r = rw q in
          rw s (ih r)
      go true t ih =
          let q : admits p x ≡ true = part-known o unit a la ua y ay j x ∙ t in
          let away : (k : ℕ) → suc j ≤ k → k < suc j + length ds → same x (f k) ≡ false
          = λ k l g. rw (same_eq x (f j) (subst T (sym t) tt)) (parts_distinct o unit y fits j k h (omega arith) (omega arith) (omega arith) (omega arith)) in
          let r' = over (part_entry c a p d) x i r in
          let s1 : landed f (suc j) ds x i r' ≡ r' = passed_by f (suc j) ds x i r' away in
          let s2 : landed f (suc j) ds x i (at d i) ≡ at d i = passed_by f (suc j) ds x i (at d i) away in
          let up : unique p ≡ true = sum-unique (bits_of (length a) (offset o unit j)) a la ∙ T→eq (unique a) ua in
          let s3 : admit r' b ≡ (c.h && admit (at d i) b || c.l && admit r b)
          = ap (λ (e : Entry). admit (over e x i r) b) (shared-marks o unit c a d la j) ∙ over_is c lc p d x i r b ∙ (rw (q, up)) in
          ih r' ∙ (rw (s1, s2) (twice c lc (admit r' b) ∙ s3))

  -- a bit that landed at x is some word's, whatever the memory was; or it was there, and every part passes x by
  abbrev Landed : Bool → ℕ → List (List Pair) → Pair → Type 0
  Landed b j ds r = (vs : Words ds) × (((m : Memory) → bit ((stores_from o unit y j ds vs m).cells x) i ≡ b) ⊎ (T (admit r b) × ((m : Memory) → (stores_from o unit y j ds vs m).cells x ≡ m.cells x)))

  parts_from_lem : (w : ℕ) → i < w → (b : Bool) (j : ℕ) (ds : List (List Pair)) → Parts w ds → (r : Pair) → T (admit (landed (part_of o unit y) j ds x i r) b) → Landed b j ds r
  unfolding landed
  parts_from_lem w h b j [] q r t = (tt, inr (t, λ m. refl))
  parts_from_lem w h b j (d ∷ ds) q r t =
      go (same x (part_of o unit y j)) refl (parts_from_lem w h b (suc j) ds q.1 (cond (same x (part_of o unit y j)) (at d i) r) t)
    where
      f : ℕ → List Bool
      f = part_of o unit y

      go : (e : Bool) → same x (f j) ≡ e → Landed b (suc j) ds (cond e (at d i) r) → Landed b j (d ∷ ds) r
      go e s (vs, inl g) = ((chooses d q.0.0, vs), inl (λ m. g (put m (f j) (chooses d q.0.0).0)))
      go true s (vs, inr g) =
          let v = choose_at d q.0.0 i (omega (arith, q.0.1)) b g.0 in
          ((v.0, vs), inl (λ m. rw (g.1 (put m (f j) v.0.0), s) v.1))
      go false s (vs, inr g) =
          let v = chooses d q.0.0 in
          ((v, vs), inr (g.0, λ m. g.1 (put m (f j) v.0) ∙ (rw s)))

module _ (g : Shape) (es : List Entry) (ports : ℕ → ℕ → Pair) (I : Type 0) (mem : I → Memory) (c : Pair) (a : List Pair) (lc : T (legal c)) (la : T (legals a)) (R : Reached g (cell es) ports I mem) where
  -- any unit, at a known address
  known_reached : (ds : List (List Pair)) → Parts g.w ds → T (unique a) → length ds ≤ 2 ^ length a →
      Reached g (cell (es ++ unit_entries g.order c a ds)) ports (I × Choice (writes c a ds)) (λ r. memory_after g (writes c a ds) r.1 (mem r.0))
  known_reached ds ld ua fits = reached_by g es ports I mem c a ds lc la ld R unit-from
    where
      y : Bits a
      y = chooses a la

      o : Order
      o = g.order

      unit-from : (x : List Bool) (i : ℕ) → i < g.w → (b : Bool) → T (admit (cell (es ++ unit_entries g.order c a ds) x i) b) →
          (r : I × Choice (writes c a ds)) × (bit ((memory_after g (writes c a ds) r.1 (mem r.0)).cells x) i ≡ b)
      unit-from x i h b t = either (c.h && admit new b) (c.l && admit (cell es x i) b) (subst T is t) on off
        where
          new : Pair
          new = landed (part_of o (length ds) y.0) 1 ds x i (cell es x i)

          small : length ds ≤ 2 ^ length y.0
          small = subst (λ (n : ℕ). length ds ≤ 2 ^ n) (sym (admits-length a y.0 y.1)) fits

          is : admit (cell (es ++ unit_entries g.order c a ds) x i) b ≡ (c.h && admit new b || c.l && admit (cell es x i) b)
          is =
              ap (λ (p : Pair). admit p b) (scan-append es (unit_entries o c a ds) x i X)
              ∙ parts-scan o (length ds) c lc a la ua y.0 y.1 small x i 1 ds (omega arith) (omega arith) (cell es x i) b

          off : T (c.l && admit (cell es x i) b) → (r : I × Choice (writes c a ds)) × (bit ((memory_after g (writes c a ds) r.1 (mem r.0)).cells x) i ≡ b)
          off s =
              let q = (R.cells x).reach i h b (and_right c.l (admit (cell es x i) b) s) in
              ((q.0, ((false, and_left c.l (admit (cell es x i) b) s), y, some_words g.w ds ld)), q.1)

          on : T (c.h && admit new b) → (r : I × Choice (writes c a ds)) × (bit ((memory_after g (writes c a ds) r.1 (mem r.0)).cells x) i ≡ b)
          on s = go (parts_from_lem o (length ds) c lc a la ua y.0 y.1 small x i g.w h b 1 ds ld (cell es x i) (and_right c.h (admit new b) s))
            where
              en : Bit c
              en = (true, and_left c.h (admit new b) s)

              go : Landed o (length ds) c lc a la ua y.0 y.1 small x i b 1 ds (cell es x i) → (r : I × Choice (writes c a ds)) × (bit ((memory_after g (writes c a ds) r.1 (mem r.0)).cells x) i ≡ b)
              go (vs, inl f) = ((R.some, (en, y, vs)), f (mem R.some))
              go (vs, inr f) =
                  let q = (R.cells x).reach i h b f.0 in
                  ((q.0, (en, y, vs)), ap (λ (v : List Bool). bit v i) (f.1 (mem q.0)) ∙ q.1)

  -- one part, at any address: the write of one cell
  one_reached : (d : List Pair) → Parts g.w (d ∷ []) →
      Reached g (cell (es ++ unit_entries g.order c a (d ∷ []))) ports (I × Choice (writes c a (d ∷ []))) (λ r. memory_after g (writes c a (d ∷ [])) r.1 (mem r.0))
  one_reached d ld = reached_by g es ports I mem c a (d ∷ []) lc la ld R one_from
    where
      one_from : (x : List Bool) (i : ℕ) → i < g.w → (b : Bool) → T (admit (cell (es ++ unit_entries g.order c a (d ∷ [])) x i) b) →
          (r : I × Choice (writes c a (d ∷ []))) × (bit ((memory_after g (writes c a (d ∷ [])) r.1 (mem r.0)).cells x) i ≡ b)
      one_from x i h b t =
          let q = ((S.write_reached (sizes g) es (λ p i. none) I mem c a d lc ld.0.1 (cells_reached g (cell es) ports I mem R) la ld.0.0).cells x).reach i h b
          (subst (λ (fs : List Entry). T (admit (cell (es ++ fs) x i) b)) (unit_of_one g.order c a d la) t) in
          let k = q.0.1 in
          ((q.0.0, (k.0, k.1, (k.2, tt))), ap (λ (y : List Bool). bit ((cond k.0.0 (put (mem q.0.0) y k.2.0) (mem q.0.0)).cells x) i) (part_of_one g.order k.1.0) ∙ q.1)

  -- so a unit write keeps the half where its address is known or it has one part
  pub write_reached : (ds : List (List Pair)) → Parts g.w ds → 1 ≤ length ds → length ds ≤ 2 ^ length a → Settled (length ds) a →
      Reached g (cell (es ++ unit_entries g.order c a ds)) ports (I × Choice (writes c a ds)) (λ r. memory_after g (writes c a ds) r.1 (mem r.0))
  write_reached [] ld l fits s = absurd (omega arith)
  write_reached (d ∷ []) ld l fits s = one_reached d ld
  write_reached (d ∷ d' ∷ ds) ld l fits s = either (leb (suc (suc (length ds))) 1) (unique a) s
      (λ v. let k : suc (suc (length ds)) ≤ 1 = leb→le (suc (suc (length ds))) 1 v in absurd (omega arith))
      (λ v. known_reached (d ∷ d' ∷ ds) ld v fits)

-- Any call
-- an accepted call has a choice, whatever the memory
pub some_choice : (g : Shape) (e : Event) → Accepted g e → Choice e
some_choice g (writes c a ds) q = (choose c q.0, chooses a q.1.0, some_words g.w ds q.2)
some_choice g (reads p u e a) q = (choose e q.0, chooses a q.1.0)
some_choice g (asserts b a d) q = where_choice b (chooses a q.0.0, chooses d q.1.0)
some_choice g (checks b a d) q = where_choice b (chooses a q.0.0)
some_choice g nothing q = tt

-- a call that stores and latches nothing
module _ (g : Shape) (f : List Bool → ℕ → Pair) (h : ℕ → ℕ → Pair) (I K : Type 0) (mem : I → Memory) where
  pub idle-admitted : Admitted g f h I mem → Admitted g f h (I × K) (λ r. mem r.0)
  idle-admitted A = admitted_along g f h I (I × K) mem (λ r. mem r.0) (λ r. r.0) (λ r. refl) A

  pub idle_reached : K → Reached g f h I mem → Reached g f h (I × K) (λ r. mem r.0)
  idle_reached k R = reached_along g f h I (I × K) mem (λ r. mem r.0) (λ r. (r, k)) (λ r. refl) R

-- what a published run admits of memories, and what they reach of it
abbrev pub HeldAdmits : Shape → Held → (I : Type 0) → (I → Memory) → Type 0
HeldAdmits g s I mem = Admitted g (cell s.entries) s.ports I mem

abbrev pub HeldReaches : Shape → Held → (I : Type 0) → (I → Memory) → Type 0
HeldReaches g s I mem = Reached g (cell s.entries) s.ports I mem

-- and of their cells, by the laws of one cell
abbrev pub with-ports : Held → Pair → Held
with-ports s p = record { entries = s.entries; ports = λ q i. p; condition = s.condition }
