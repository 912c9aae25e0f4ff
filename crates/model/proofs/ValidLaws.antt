-- What a state becomes when a call succeeds: it extends what was there, and is valid where that was.
use mathlib.Core.Path.{◌≡◌, refl, ap, ◌∙◌}
use mathlib.Core.Bool.{true}
use mathlib.Core.List.{List, ◌∷◌, ◌++◌}
use Prim.Native.Nat.{ℕ, zero, suc, ◌+◌, ◌*◌, ◌-◌, ◌<◌, ◌≤◌}
use native.Mathlib.Nat.{suc-mul}
use native.Mathlib.Omega.{arith}
use native.Mathlib.Decide.{dec_lt, ℕ_discrete}
use lib.ListN.{length, get_or, get_or-append}
use lib.Seq.{get_or-append-add}
use Rattle.nodes.proofs.SearchLaws.{every_is, is-every}
use Rattle.conditions.specs.Stores.{Standard, Agree, Extends}
use Rattle.conditions.specs.User.{is_user}
use Rattle.conditions.proofs.Promises.{from-stays, is-standard, user_is, is_user_lem}
use Rattle.model.specs.Record.{Record, size, list_capacity, appended, port_at, replaced}
use Rattle.model.specs.Access.{Marks}
use Rattle.model.specs.Rows.{users, row1, row3, ports_row}
use Rattle.model.specs.Step.{State, grown, with_entry, with_assert_condition, with_check_condition, with_held}
use Rattle.model.specs.Frames.{Extended, Valid, PortsValid}
use Rattle.model.specs.Table.{Listed}
use Rattle.model.proofs.ListLaws.{entry-word, appended-length, appended_old, appended-past, entry_new}
use Rattle.model.proofs.FactLaws.{fits_is, names, row3-tells}
use Rattle.nodes.specs.Search.{every}
use Rattle.model.proofs.PortLaws.{replaced-length, replaced_in, replaced_other}

-- a word that names a node which 5 accepts
abbrev pub User : State → ℕ → Type 0
User s n = is_user s.words s.rec.count n ≡ true

-- a node that 5 accepts stays one where the older nodes stay
pub user-stays : {w w' : List ℕ} {c : ℕ} (c' : ℕ) → Agree w w' c → c ≤ c' → (n : ℕ) → is_user w c n ≡ true → is_user w' c' n ≡ true
user-stays {w} {w'} {c} c' E l n u =
    let p = user_is w c n u in
    is_user_lem w' c' n (omega arith) (from-stays E n p.0 p.1)

pub user-grows : {w w' : List ℕ} {c c' : ℕ} → Extends w c w' c' → (n : ℕ) → is_user w c n ≡ true → is_user w' c' n ≡ true
user-grows {c' = c'} E = user-stays c' E.old E.more

pub users_at : (s : State) (ws : List ℕ) → users s.rec s.words ws ≡ true → (i : ℕ) → i < length ws → User s (get_or ws i 0)
users_at s ws u i h = every_is (λ i. is_user s.words s.rec.count (get_or ws i 0)) (length ws) 0 u i (omega arith) (omega arith)

-- the state with other node words and conditions
abbrev pub with_conditions : State → List ℕ → ℕ → ℕ → ℕ → State
with_conditions s w c v u = with_check_condition (with_assert_condition (grown s w c) v) u

module _ (s : State) (w : List ℕ) (c v u : ℕ) where
  -- where every node that 5 accepted is still accepted
  module _ (stays : (n : ℕ) → User s n → is_user w c n ≡ true) where
    pub users_stay : (ws : List ℕ) → users s.rec s.words ws ≡ true → users (with_conditions s w c v u).rec w ws ≡ true
    users_stay ws e = is-every (λ i. is_user w c (get_or ws i 0)) (length ws) 0 (λ i a b. stays (get_or ws i 0) (users_at s ws e i (omega arith)))

    pub conditions-valid : Standard w c → (User s s.rec.asserted → is_user w c v ≡ true) → (User s s.rec.checked → is_user w c u ≡ true) → Valid s → Valid (with_conditions s w c v u)
    unfolding row1 list_capacity
    conditions-valid S A C H =
        let r = s.rec in
        let t = (with_conditions s w c v u).rec in
        let T = (row3-tells r s.words s.list).is H.three in
        record {
          one = H.one;
          two = is-standard w c S;
          three = (row3-tells t w s.list).so (record {
            within = T.within;
            most = T.most;
            words = λ k h. (names t w _).is (stays _ ((names r s.words _).so (T.words k h)));
            asserted = (names t w v).is (A ((names r s.words r.asserted).so T.asserted));
            checked = (names t w u).is (C ((names r s.words r.checked).so T.checked));
          });
        }

  module _ (E : Extends s.words s.rec.count w c) where
    pub conditions_extended : Extended s (with_conditions s w c v u)
    conditions_extended = record { same = record { sizes = refl; len = refl }; nodes = E; more = omega arith; old = λ k h. refl; past = λ k h. refl }

    -- and one entry more
    pub entry_extended : (m : Marks) (a d : List ℕ) → length a ≡ 2 * s.rec.sizes.n → length d ≡ 2 * s.rec.sizes.w → s.rec.entries < list_capacity s.rec s.list → Extended s (with_entry (with_conditions s w c v u) m a d)
    unfolding list_capacity
    entry_extended m a d na wd room =
        let r = (with_conditions s w c v u).rec in
        record {
          same = record { sizes = refl; len = appended-length r s.list m.hard m.soft a d na wd room };
          nodes = E;
          more = omega arith;
          old = appended_old r s.list m.hard m.soft a d na wd room;
          past = appended-past r s.list m.hard m.soft a d na wd room;
        }

-- row 3 of a memory with no entries
pub no-entries : (r : Record) (w l : List ℕ) → r.entries ≡ 0 → is_user w r.count r.asserted ≡ true → is_user w r.count r.checked ≡ true → row3 r w l ≡ true
no-entries r w l z a c =
    let none : r.entries * size r ≡ 0 * size r = ap (λ (k : ℕ). k * size r) z in
    (row3-tells r w l).so (record { within = omega (arith, none); most = omega (arith, z); words = λ k h. absurd (omega (arith, none)); asserted = (names r w _).is a; checked = (names r w _).is c })

-- an entry of nodes that 5 accepts
module _ (s : State) (m : Marks) (a d : List ℕ) (na : length a ≡ 2 * s.rec.sizes.n) (wd : length d ≡ 2 * s.rec.sizes.w) (room : s.rec.entries < list_capacity s.rec s.list)
    (hard : User s m.hard) (soft : User s m.soft) (address : users s.rec s.words a ≡ true) (word : users s.rec s.words d ≡ true) where
  abbrev l : List ℕ
  l = appended s.rec s.list m.hard m.soft a d

  entry_user : (i : ℕ) → i < size s.rec → User s (get_or (m.hard ∷ m.soft ∷ (a ++ d)) i 0)
  entry_user zero b = hard
  entry_user (suc zero) b = soft
  entry_user (suc (suc i)) b = go (dec_lt i (length a))
    where
      go : Dec (i < length a) → User s (get_or (a ++ d) i 0)
      go (yes h) = rw (get_or-append a d 0 i h) (users_at s a address i h)
      go (no h) = let z : i ≡ length a + (i - length a) = omega arith in rw (z, get_or-append-add a d (i - length a) 0) (users_at s d word (i - length a) (omega arith))

  word_user : Listed s.rec s.words s.list → (k : ℕ) → k < (s.rec.entries + 1) * size s.rec → Dec (k < s.rec.entries * size s.rec) → User s (get_or l k 0)
  word_user T k h (yes b) = rw (appended_old s.rec s.list m.hard m.soft a d na wd room k b) ((names s.rec s.words _).so (T.words k b))
  word_user T k h (no b) =
      let i = k - s.rec.entries * size s.rec in
      let z : k ≡ s.rec.entries * size s.rec + i = omega arith in
      let b : i < size s.rec = omega (arith, suc-mul s.rec.entries (size s.rec)) in
      rw (z, ← entry-word s.rec l s.rec.entries i b, entry_new s.rec s.list m.hard m.soft a d na wd room) (entry_user i b)

  pub entry-valid : Valid s → Valid (with_entry s m a d)
  unfolding row1 list_capacity
  entry-valid H =
      let r = (with_entry s m a d).rec in
      let T = (row3-tells s.rec s.words s.list).is H.three in
      let F = fits_is s.rec s.list (s.rec.entries + 1) (omega arith) in
      record {
        one = H.one;
        two = H.two;
        three = (row3-tells r s.words l).so (record {
          within = rw (appended-length s.rec s.list m.hard m.soft a d na wd room) F.0;
          most = F.1;
          words = λ k h. (names r s.words _).is (word_user T k h (dec_lt k (s.rec.entries * size s.rec)));
          asserted = T.asserted;
          checked = T.checked;
        });
      }

-- the ports as facts: each word that a port holds names a node which 5 accepts
abbrev pub PortUsers : State → Type 0
PortUsers s = (p : ℕ) → p < 4 → (i : ℕ) → i < 2 * s.rec.sizes.w → User s (get_or s.ports (p * 32 + i) 0)

pub ports-users : (s : State) → PortsValid s → PortUsers s
unfolding ports_row
ports-users s H p l i m =
    every_is (λ i. is_user s.words s.rec.count (get_or s.ports (port_at p + i) 0)) (2 * s.rec.sizes.w) 0
    (every_is (λ p. every (λ i. is_user s.words s.rec.count (get_or s.ports (port_at p + i) 0)) 0 (2 * s.rec.sizes.w)) 4 0 H.three p (omega arith) (omega arith)) i (omega arith) (omega arith)

pub users-ports : (s : State) → length s.ports ≡ 128 → PortUsers s → PortsValid s
unfolding ports_row
users-ports s long U =
    record {
      three = is-every (λ p. every (λ i. is_user s.words s.rec.count (get_or s.ports (port_at p + i) 0)) 0 (2 * s.rec.sizes.w)) 4 0
          (λ p a b. is-every (λ i. is_user s.words s.rec.count (get_or s.ports (port_at p + i) 0)) (2 * s.rec.sizes.w) 0 (λ i c d. U p (omega arith) i (omega arith)));
      long = long;
    }

-- a word of such nodes latched in port p
pub latched-valid : (s : State) (p : ℕ) (word : List ℕ) → s.rec.sizes.w ≤ 16 → p ≤ 3 → length word ≡ 2 * s.rec.sizes.w → ((i : ℕ) → i < 2 * s.rec.sizes.w → User s (get_or word i 0)) → PortsValid s → PortsValid (with_held s p word)
latched-valid s p word wide port size U H = users-ports (with_held s p word) (replaced-length s.ports p word fits ∙ H.long) (λ q l i m. go q l i m (ℕ_discrete q p))
  where
    fits : p * 32 + length word ≤ length s.ports
    fits = omega (arith, H.long, size)

    go : (q : ℕ) → q < 4 → (i : ℕ) → i < 2 * s.rec.sizes.w → Dec (q ≡ p) → User s (get_or (replaced s.ports p word) (q * 32 + i) 0)
    go q l i m (yes e) = rw (e, replaced_in s.ports p word fits i (omega (arith, size))) (U i m)
    go q l i m (no ne) = rw (replaced_other s.ports p word fits (omega (arith, size)) q i ne (omega arith)) (ports-users s H q l i m)
