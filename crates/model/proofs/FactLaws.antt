-- The table's facts and the tests of `Rows` are each other, row by row, each where the facts before it hold.
use mathlib.Core.Path.{◌≡◌, refl, sym, ◌∙◌}
use mathlib.Core.Bool.{Bool, true, false, cond, not, ◌&&◌, true≢false}
use mathlib.Core.Logic.{◌⊎◌, inl, inr}
use mathlib.Core.List.{List, [], ◌∷◌, ◌++◌}
use Prim.Native.Nat.{ℕ, zero, suc, ◌+◌, ◌*◌, ◌/◌, ◌^◌, ◌<◌, ◌≤◌}
use native.Mathlib.Nat.{le-div_iff_mul-le}
use native.Mathlib.Omega.{arith}
use lib.Dec.{eqb, ltb, leb}
use lib.ListN.{length, get_or}
use borrow.Author.Tests.{lt-ltb, le-leb, eq-eqb, ltb-true, leb-true, eqb-true, not-true}
use Rattle.nodes.specs.Search.{every}
use Rattle.nodes.proofs.BoolLaws.{split, and_both, both_and}
use Rattle.nodes.proofs.SearchLaws.{every_is, is-every}
use Rattle.conditions.specs.Stores.{is_standard, Standard}
use Rattle.conditions.specs.Build.{Store}
use Rattle.conditions.specs.Value.{value}
use Rattle.conditions.specs.Assignment.{bit_at}
use Rattle.conditions.specs.User.{is_user}
use Rattle.conditions.specs.Meet.{neither, together, SomeNeither, SomeTogether, Decides}
use Rattle.conditions.proofs.Promises.{standard_is, is-standard, user_stands, stands_user, neither_decides, together_decides}
use Rattle.formulas.specs.Language.{Tree, predicate, next, both, when, grouped}
use Rattle.semantics.specs.declared.Sizes.{Sizes}
use Rattle.model.specs.Record.{Record, h_at, l_at, data_words, size, list_capacity, port_at}
use Rattle.model.specs.Formula.{every_node}
use Rattle.model.specs.Rows.{Row, first_row, users, legal_pairs, row1, row2, row3, ports_row, space_for, compared_rows, write_rows, read_rows, check_rows, assert_rows, evaluate_rows, variable_rows, ite_rows, formula_rows}
use Rattle.model.specs.Step.{fresh_record, fresh_rows}
use Rattle.model.specs.Table.{Fact, fact, InRange, Names, AllName, Listed, AllHoldNodes, NoneNeither, NoneUnknown, Space, compared_facts, write_facts, read_facts, check_facts, assert_facts, evaluate_facts, variable_facts, ite_facts, EachArrow, formula_facts, fresh_facts, AllHold, FirstFails, Slice, MemoryFacts}

-- no row has the number 0
abbrev pub numbered : List Row → Bool
numbered [] = true
numbered (t ∷ ts) = ltb 0 t.0 && numbered ts

pub either : {A B C : Type 0} → (A → C) → (B → C) → A ⊎ B → C
either f g (inl a) = f a
either f g (inr b) = g b

-- the test b finds whether P holds
pub record Tells (b : Bool) (P : Type 0) : Type 0 where
  pub is : b ≡ true → P
  pub so : P → b ≡ true

-- rows and facts agree: place by place they have the same number, and the test tells the fact where the facts before it hold
abbrev pub Agree : List Row → List Fact → Type 0
Agree [] [] = Unit {0}
Agree [] (f ∷ fs) = ⊥
Agree (t ∷ ts) [] = ⊥
Agree (t ∷ ts) (f ∷ fs) = (t.0 ≡ f.row) × Tells t.1 f.holds × (f.holds → Agree ts fs)

-- k is 0 where all facts hold, and else the row of the first that fails
pub record Told (k : ℕ) (fs : List Fact) : Type 0 where
  pub all : AllHold fs → k ≡ 0
  pub none : k ≡ 0 → AllHold fs
  pub first : (j : ℕ) → k ≡ suc j → FirstFails (suc j) fs
  pub from : (j : ℕ) → FirstFails j fs → k ≡ j

pub told : (ts : List Row) (fs : List Fact) → numbered ts ≡ true → Agree ts fs → Told (first_row ts) fs
told [] [] q A = record { all = λ x. refl; none = λ e. tt; first = λ j e. absurd (omega arith); from = λ j x. absurd x }
told [] (f ∷ fs) q A = absurd A
told (t ∷ ts) [] q A = absurd A
told (t ∷ ts) (f ∷ fs) q A = go t.1 refl (and_both _ _ q) (told ts fs)
  where
    go : (b : Bool) → t.1 ≡ b → (ltb 0 t.0 ≡ true) × (numbered ts ≡ true) → (numbered ts ≡ true → Agree ts fs → Told (first_row ts) fs) → Told (cond b (first_row ts) t.0) (f ∷ fs)
    go true e n ih =
        let P = A.1.is e in
        let T = ih n.1 (A.2 P) in
        record { all = λ x. T.all x.1; none = λ z. (P, T.none z); first = λ j z. inr (P, T.first j z); from = λ j. either (λ x. absurd (x.1 P)) (λ x. T.from j x.1) }
    go false e n ih =
        let no : f.holds → ⊥ = λ P. true≢false (sym (A.1.so P) ∙ e) in
        record { all = λ x. absurd (no x.0); none = λ z. absurd (omega (arith, ltb-true 0 t.0 n.0)); first = λ j z. inl (sym A.0 ∙ z, no); from = λ j. either (λ x. A.0 ∙ x.0) (λ x. absurd (no x.0)) }

pub not-both : (k : ℕ) (fs : List Fact) → AllHold fs → FirstFails k fs → ⊥
not-both k [] a x = x
not-both k (f ∷ fs) a x = either (λ y. y.1 a.0) (λ y. not-both k fs a.1 y.1) x

-- each test of the rows holds
abbrev pub RowsHold : List Row → Type 0
RowsHold [] = Unit {0}
RowsHold (t ∷ ts) = (t.1 ≡ true) × RowsHold ts

pub rows-hold : (ts : List Row) → numbered ts ≡ true → first_row ts ≡ 0 → RowsHold ts
rows-hold [] q e = tt
rows-hold (t ∷ ts) q e = go t.1 refl e (and_both _ _ q) (rows-hold ts)
  where
    go : (b : Bool) → t.1 ≡ b → cond b (first_row ts) t.0 ≡ 0 → (ltb 0 t.0 ≡ true) × (numbered ts ≡ true) → (numbered ts ≡ true → first_row ts ≡ 0 → RowsHold ts) → (t.1 ≡ true) × RowsHold ts
    go true z e n f = (z, f n.1 e)
    go false z e n f = absurd (omega (arith, ltb-true 0 t.0 n.0))

-- rows that follow others are asked where none of those refuses
pub first-append : (ts us : List Row) → numbered ts ≡ true → first_row ts ≡ 0 → first_row (ts ++ us) ≡ first_row us
first-append [] us q e = refl
first-append (t ∷ ts) us q e = go t.1 e (and_both (ltb 0 t.0) (numbered ts) q) (first-append ts us)
  where
    go : (b : Bool) → cond b (first_row ts) t.0 ≡ 0 → (ltb 0 t.0 ≡ true) × (numbered ts ≡ true) → (numbered ts ≡ true → first_row ts ≡ 0 → first_row (ts ++ us) ≡ first_row us) → cond b (first_row (ts ++ us)) t.0 ≡ first_row us
    go true e n f = f n.1 e
    go false e n f = absurd (omega (arith, ltb-true 0 t.0 n.0))

-- three tests joined
pub and3 : (a b c : Bool) → (a && b && c) ≡ true → (a ≡ true) × (b ≡ true) × (c ≡ true)
and3 a b c e = let p = and_both (a && b) c e in let q = and_both a b p.0 in (q.0, q.1, p.1)

-- tests and facts joined
module _ {a b : Bool} {P Q : Type 0} (A : Tells a P) (B : Tells b Q) where
  two : Tells (a && b) (P × Q)
  two = record { is = λ e. let p = and_both a b e in (A.is p.0, B.is p.1); so = λ x. both_and (A.so x.0) (B.so x.1) }

  three : {c : Bool} {R : Type 0} → Tells c R → Tells (a && b && c) (P × Q × R)
  three {c} C =
      record {
        is = λ e. let p = and3 a b c e in (A.is p.0, B.is p.1, C.is p.2);
        so = λ x. both_and (both_and (A.so x.0) (B.so x.1)) (C.so x.2);
      }

each : (p : ℕ → Bool) (P : ℕ → Type 0) (k : ℕ) → ((i : ℕ) → i < k → Tells (p i) (P i)) → Tells (every p 0 k) ((i : ℕ) → i < k → P i)
each p P k f = record { is = λ e i l. (f i l).is (every_is p k 0 e i (omega arith) (omega arith)); so = λ x. is-every p k 0 (λ i a b. let l : i < k = omega arith in (f i l).so (x i l)) }

pub same : (a b : ℕ) → Tells (eqb a b) (a ≡ b)
same a b = record { is = eqb-true a b; so = eq-eqb a b }

under : (a b : ℕ) → Tells (ltb a b) (a < b)
under a b = record { is = ltb-true a b; so = lt-ltb a b }

pub most : (a b : ℕ) → Tells (leb a b) (a ≤ b)
most a b = record { is = leb-true a b; so = le-leb a b }

-- "List capacity is whole entries, at most 4,096."
pub fits_is : (r : Record) (l : List ℕ) (k : ℕ) → k ≤ list_capacity r l → (k * size r ≤ length l) × (k ≤ 4096)
unfolding list_capacity
fits_is r l k h =
    let p : k ≤ length l / size r = omega arith in
    let positive : 0 < size r = omega arith in
    ((le-div_iff_mul-le positive).0 p, omega arith)

is-fits : (r : Record) (l : List ℕ) (k : ℕ) → k * size r ≤ length l → k ≤ 4096 → k ≤ list_capacity r l
unfolding list_capacity
is-fits r l k h m =
    let positive : 0 < size r = omega arith in
    let p : k ≤ length l / size r = (le-div_iff_mul-le positive).1 h in
    omega arith

module _ (r : Record) (w : List ℕ) where
  pub row1-tells : Tells (row1 r w) (InRange r.sizes)
  unfolding row1
  row1-tells =
      record {
        is = λ e.
            let p = and_both _ _ e in
            let q = and_both _ _ p.0 in
            let t = and_both (leb 1 r.sizes.n) _ q.0 in
            record { n_least = leb-true _ _ t.0; n-most = leb-true _ _ t.1; w_least = leb-true _ _ q.1; w-most = leb-true _ _ p.1 };
        so = λ R. rw (le-leb 1 r.sizes.n R.n_least, le-leb r.sizes.n 8 R.n-most, le-leb 1 r.sizes.w R.w_least, le-leb r.sizes.w 16 R.w-most);
      }

  row2-tells : Tells (row2 r w) (Standard w r.count)
  row2-tells = record { is = standard_is w r.count; so = is-standard w r.count }

  abbrev store : Store
  store = record { count = r.count; full = false }

  pub names : (n : ℕ) → Tells (is_user w r.count n) (Names r w n)
  names n = record { is = λ e. user_stands {s = store} e; so = λ N. stands_user {s = store} N }

  abbrev word_user : List ℕ → ℕ → Bool
  word_user l i = is_user w r.count (get_or l i 0)

  pub row3-tells : (l : List ℕ) → Tells (row3 r w l) (Listed r w l)
  unfolding row3
  row3-tells l =
      record {
        is = λ e.
            let p = and_both _ _ e in
            let q = and_both _ _ p.0 in
            let t = and_both (leb r.entries (list_capacity r l)) _ q.0 in
            let F = fits_is r l r.entries (leb-true _ _ t.0) in
            record {
              within = F.0;
              most = F.1;
              words = λ k h. (names (get_or l k 0)).is (every_is (word_user l) _ 0 t.1 k (omega arith) (omega arith));
              asserted = (names r.asserted).is q.1;
              checked = (names r.checked).is p.1;
            };
        so = λ L.
            rw (le-leb _ _ (is-fits r l r.entries L.within L.most), is-every (word_user l) (r.entries * size r) 0 (λ k a b. (names (get_or l k 0)).so (L.words k (omega arith))), (names r.asserted).so L.asserted, (names r.checked).so L.checked);
      }

  pub space-tells : (k : ℕ) (l : List ℕ) → Tells (space_for r w k l) (Space r w k l)
  space-tells k l =
      record {
        is = λ e. let F = fits_is r l (r.entries + k) (leb-true (r.entries + k) (list_capacity r l) e) in record { within = F.0; most = F.1 };
        so = λ S. le-leb (r.entries + k) (list_capacity r l) (is-fits r l (r.entries + k) S.within S.most);
      }

  pub space-room : (l : List ℕ) → space_for r w 1 l ≡ true → r.entries < list_capacity r l
  space-room l e = omega (arith, leb-true (r.entries + 1) (list_capacity r l) e)

  pub users_tell : (ws : List ℕ) (k : ℕ) → length ws ≡ k → Tells (users r w ws) (AllName r w ws k)
  users_tell ws k len = rw len (each (λ i. is_user w r.count (get_or ws i 0)) (λ i. Names r w (get_or ws i 0)) k (λ i l. names (get_or ws i 0)))

  module _ (S : Standard w r.count) where
    neither-tells : (h l : ℕ) → h < r.count → l < r.count → Tells (not (neither w h l)) ((a : ℕ) → a < 2 ^ 64 → value w (bit_at a) h ≡ false → value w (bit_at a) l ≡ false → ⊥)
    neither-tells h l hh hl =
        let D = neither_decides S h l hh hl in
        record { is = λ e a m x y. D.no (not-true _ e) (a, m, x, y); so = λ f. split (neither w h l) (λ t. let z = D.yes t in absurd (f z.0 z.1 z.2 z.3)) (λ t. rw t) }

    together-tells : (b h l : ℕ) → b < r.count → h < r.count → l < r.count
        → Tells (not (together w b h l)) ((a : ℕ) → a < 2 ^ 64 → value w (bit_at a) b ≡ true → value w (bit_at a) h ≡ true → value w (bit_at a) l ≡ true → ⊥)
    together-tells b h l bb hh hl =
        let D = together_decides S b h l bb hh hl in
        record { is = λ e a m x y v. D.no (not-true _ e) (a, m, x, y, v); so = λ f. split (together w b h l) (λ t. let z = D.yes t in absurd (f z.0 z.1 z.2 z.3 z.4)) (λ t. rw t) }

    pairs_tell : (ws : List ℕ) (k : ℕ) → AllName r w ws (2 * k) → Tells (legal_pairs r w ws k) (NoneNeither r w ws k)
    pairs_tell ws k N =
        each (λ i. not (neither w (h_at ws i) (l_at ws i))) (λ i. (a : ℕ) → a < 2 ^ 64 → value w (bit_at a) (h_at ws i) ≡ false → value w (bit_at a) (l_at ws i) ≡ false → ⊥) k
        (λ i l. neither-tells (h_at ws i) (l_at ws i) (N (2 * i) (omega arith)).below (N (2 * i + 1) (omega arith)).below)

    unknown-tells : (b : ℕ) (ws : List ℕ) → Names r w b → AllName r w ws (2 * r.sizes.n) → Tells (every (λ i. not (together w b (h_at ws i) (l_at ws i))) 0 r.sizes.n) (NoneUnknown r w b ws)
    unknown-tells b ws B N =
        each (λ i. not (together w b (h_at ws i) (l_at ws i))) (λ i. (a : ℕ) → a < 2 ^ 64 → value w (bit_at a) b ≡ true → value w (bit_at a) (h_at ws i) ≡ true → value w (bit_at a) (l_at ws i) ≡ true → ⊥) r.sizes.n
        (λ i l. together-tells b (h_at ws i) (l_at ws i) B.below (N (2 * i) (omega arith)).below (N (2 * i + 1) (omega arith)).below)

  -- a row beside its fact, and what follows where the fact holds
  abbrev Beside : ℕ → Bool → Type 0 → Type 0 → Type 0
  Beside k b P A = (k ≡ k) × Tells b P × (P → A)

  -- rows 1 and 2 of every call, and 3 of an access
  store_agree : {A : Type 0} → (Standard w r.count → A) → Beside 1 (row1 r w) (InRange r.sizes) (Beside 2 (row2 r w) (Standard w r.count) A)
  store_agree f = (refl, row1-tells, λ R. (refl, row2-tells, f))

  memory_agree : {A : Type 0} (l : List ℕ) → (Standard w r.count → A) → Beside 1 (row1 r w) (InRange r.sizes) (Beside 2 (row2 r w) (Standard w r.count) (Beside 3 (row3 r w l) (Listed r w l) A))
  memory_agree l f = store_agree (λ S. (refl, row3-tells l, λ T. f S))

  pub write_agree : (l c a d : List ℕ) → Agree (write_rows r w l c a d) (write_facts r w l c a d)
  write_agree l c a d =
      memory_agree l
      (λ S. (
        refl,
        three (same (length c) 2) (same (length a) (2 * r.sizes.n)) (same (length d) (2 * r.sizes.w)),
        λ L. (
          refl,
          three (users_tell c 2 L.0) (users_tell a (2 * r.sizes.n) L.1) (users_tell d (2 * r.sizes.w) L.2),
          λ N. (
            refl,
            three (pairs_tell S c 1 N.0) (pairs_tell S a r.sizes.n N.1) (pairs_tell S d r.sizes.w N.2),
            λ Q. tt,
          ),
        ),
      ))

  pub ports_tell : (ps : List ℕ) → Tells (ports_row r w ps) (AllHoldNodes r w ps)
  unfolding ports_row
  ports_tell ps =
      each (λ p. every (λ i. is_user w r.count (get_or ps (port_at p + i) 0)) 0 (data_words r)) (λ p. (i : ℕ) → i < 2 * r.sizes.w → Names r w (get_or ps (p * 32 + i) 0)) 4
      (λ p l. each (λ i. is_user w r.count (get_or ps (port_at p + i) 0)) (λ i. Names r w (get_or ps (p * 32 + i) 0)) (2 * r.sizes.w) (λ i k. names (get_or ps (p * 32 + i) 0)))

  pub read_agree : (l ps : List ℕ) (p : ℕ) (e a out : List ℕ) → Agree (read_rows r w l ps p e a out) (read_facts r w l ps p e a out)
  read_agree l ps p e a out =
      store_agree
      (λ S. (
        refl,
        two (row3-tells l) (ports_tell ps),
        λ T. (
          refl,
          three (same (length e) 2) (same (length a) (2 * r.sizes.n)) (same (length out) (2 * r.sizes.w)),
          λ L. (
            refl,
            most p 3,
            λ P. (
              refl,
              two (users_tell e 2 L.0) (users_tell a (2 * r.sizes.n) L.1),
              λ N. (refl, two (pairs_tell S e 1 N.0) (pairs_tell S a r.sizes.n N.1), λ Q. tt),
            ),
          ),
        ),
      ))

  compared_agree : (ts : List Row) (fs : List Fact) (l : List ℕ) (b : ℕ) (a d : List ℕ) → (Standard w r.count → Names r w b → AllName r w a (2 * r.sizes.n) → Agree ts fs) → Agree (compared_rows r w l b a d ts) (compared_facts r w l b a d fs)
  compared_agree ts fs l b a d f =
      memory_agree l
      (λ S. (
        refl,
        two (same (length a) (2 * r.sizes.n)) (same (length d) (2 * r.sizes.w)),
        λ L. (
          refl,
          three (names b) (users_tell a (2 * r.sizes.n) L.0) (users_tell d (2 * r.sizes.w) L.1),
          λ N. (refl, two (pairs_tell S a r.sizes.n N.1) (pairs_tell S d r.sizes.w N.2), λ Q. f S N.0 N.1),
        ),
      ))

  pub check_agree : (l : List ℕ) (b : ℕ) (a d : List ℕ) → Agree (check_rows r w l b a d) (check_facts r w l b a d)
  check_agree l b a d = compared_agree [] [] l b a d (λ S B A. tt)

  pub assert_agree : (l : List ℕ) (b : ℕ) (a d : List ℕ) → Agree (assert_rows r w l b a d) (assert_facts r w l b a d)
  assert_agree l b a d = compared_agree ((7, every (λ i. not (together w b (h_at a i) (l_at a i))) 0 r.sizes.n) ∷ []) (fact 7 (NoneUnknown r w b a) ∷ []) l b a d (λ S B A. (refl, unknown-tells S b a B A, λ U. tt))

  pub evaluate_agree : (f : ℕ) → Agree (evaluate_rows r w f) (evaluate_facts r w f)
  evaluate_agree f = store_agree (λ S. (refl, under f r.count, λ F. tt))

  pub variable_agree : (v : ℕ) → Agree (variable_rows r w v) (variable_facts r w v)
  variable_agree v = store_agree (λ S. (refl, two (most 8 v) (most v 63), λ F. tt))

  pub ite_agree : (f g h : ℕ) → Agree (ite_rows r w f g h) (ite_facts r w f g h)
  ite_agree f g h = store_agree (λ S. (refl, three (names f) (names g) (names h), λ F. tt))

  arrows_tell : (t : Tree) → Tells (every_node (is_user w r.count) t) (EachArrow (Names r w) t)
  arrows_tell (predicate n) = record { is = λ e. tt; so = λ x. refl }
  arrows_tell (next t) = arrows_tell t
  arrows_tell (both t u) = two (arrows_tell t) (arrows_tell u)
  arrows_tell (when b t) = two (names b) (arrows_tell t)
  arrows_tell (grouped t) = arrows_tell t

  pub formula_agree : (t : Tree) → Agree (formula_rows r w t) (formula_facts r w t)
  formula_agree t = store_agree (λ S. (refl, arrows_tell t, λ F. tt))

-- Fresh
pub fresh-told : (z : Sizes) (ws : List ℕ) → Told (fresh_rows z ws) (fresh_facts z ws)
fresh-told z ws = told ((1, row1 (fresh_record z) ws) ∷ (2, leb 6 (length ws)) ∷ []) _ refl (refl, row1-tells (fresh_record z) ws, λ R. (refl, most 6 (length ws), λ S. tt))
