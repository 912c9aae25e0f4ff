-- Entries in the list's words: which words an entry has, and what an appended entry leaves and adds.
use mathlib.Core.Path.{◌≡◌, sym, ◌∙◌}
use mathlib.Core.List.{List, ◌∷◌, ◌++◌, append_assoc}
use Prim.Native.Nat.{ℕ, ◌+◌, ◌*◌, ◌-◌, ◌≤◌, ◌<◌}
use native.Mathlib.Nat.{suc-mul, le-div_iff_mul-le, mul-le-mul_right}
use native.Mathlib.Numerals.{add-one}
use native.Mathlib.Omega.{arith}
use lib.ListN.{length, get_or, take, drop, length-append, length-take, length-drop, get_or-append}
use lib.Seq.{length-take-le, get_or-take, get_or-drop, take_at, drop_at, take_all, ext_get_or}
use Rattle.model.specs.Record.{Record, part, size, entry_at, address_of, data_of, list_capacity, appended}

-- what the capacity says
pub capacity-words : (r : Record) (l : List ℕ) (k : ℕ) → k ≤ list_capacity r l → k * size r ≤ length l
unfolding list_capacity
capacity-words r l k h = (le-div_iff_mul-le {k = size r} (omega arith)).0 (omega arith)

pub capacity-most : (r : Record) (l : List ℕ) (k : ℕ) → k ≤ list_capacity r l → k ≤ 4096
unfolding list_capacity
capacity-most r l k h = omega arith

pub room-words : (r : Record) (l : List ℕ) → r.entries < list_capacity r l → (r.entries + 1) * size r ≤ length l
room-words r l room = capacity-words r l (r.entries + 1) (omega arith)

-- the words of an entry stand among the words of the first entries
next-words : (r : Record) (j : ℕ) → (j + 1) * size r ≡ j * size r + size r
next-words r j = rw add-one (suc-mul j (size r))

pub entry-words : (r : Record) (j k : ℕ) → j < r.entries → k < size r → j * size r + k < r.entries * size r
entry-words r j k h i = omega (arith, mul-le-mul_right (size r) h, suc-mul j (size r))

-- the size of a part, and of one of k words
pub part_length : (l : List ℕ) (a e : ℕ) → a ≤ e → e ≤ length l → length (part l a e) ≡ e - a
part_length l a e h k = simp (length-take, length-drop) (omega arith)

pub part-size : (l : List ℕ) (a k : ℕ) → a + k ≤ length l → length (part l a (a + k)) ≡ k
part-size l a k h = part_length l a (a + k) (omega arith) h ∙ (omega arith)

-- reading a part, and an entry
pub part-word : (l : List ℕ) (a e k : ℕ) → k < e - a → get_or (part l a e) k 0 ≡ get_or l (a + k) 0
part-word l a e k h = get_or-take (e - a) (drop a l) k 0 h ∙ get_or-drop a l k 0

module _ (r : Record) (l : List ℕ) (j : ℕ) where
  pub entry-word : (k : ℕ) → k < size r → get_or (entry_at r l j) k 0 ≡ get_or l (j * size r + k) 0
  entry-word k h = part-word l (j * size r) (j * size r + size r) k (omega arith)

  pub entry-address : (k : ℕ) → k < 2 * r.sizes.n → get_or (address_of r (entry_at r l j)) k 0 ≡ get_or l (j * size r + (2 + k)) 0
  entry-address k h = part-word (entry_at r l j) 2 (2 + 2 * r.sizes.n) k (omega arith) ∙ entry-word (2 + k) (omega arith)

  pub entry_data : (k : ℕ) → k < 2 * r.sizes.w → get_or (data_of r (entry_at r l j)) k 0 ≡ get_or l (j * size r + (2 + 2 * r.sizes.n + k)) 0
  entry_data k h = part-word (entry_at r l j) (2 + 2 * r.sizes.n) (size r) k (omega arith) ∙ entry-word (2 + 2 * r.sizes.n + k) (omega arith)

-- the parts of an entry as it is appended
module _ (r : Record) (h s : ℕ) (a d : List ℕ) (na : length a ≡ 2 * r.sizes.n) (wd : length d ≡ 2 * r.sizes.w) where
  pub new-address : address_of r (h ∷ s ∷ (a ++ d)) ≡ a
  new-address = take_at a d (2 + 2 * r.sizes.n - 2) (omega arith)

  pub new_data : data_of r (h ∷ s ∷ (a ++ d)) ≡ d
  new_data = rw (drop_at (h ∷ s ∷ a) d (2 + 2 * r.sizes.n) (omega arith)) (take_all (size r - (2 + 2 * r.sizes.n)) d (omega arith))

-- the list after an entry was appended
module _ (r : Record) (l : List ℕ) (h s : ℕ) (a d : List ℕ)
    (na : length a ≡ 2 * r.sizes.n) (wd : length d ≡ 2 * r.sizes.w) (room : r.entries < list_capacity r l) where
  new-words : r.entries * size r + size r ≤ length l
  new-words = rw next-words at (room-words r l room)

  old-length : length (take (r.entries * size r) l) ≡ r.entries * size r
  old-length = length-take-le _ l (omega (arith, new-words))

  pub appended-length : length (appended r l h s a d) ≡ length l
  unfolding appended
  appended-length = simp (length-append, old-length, length-drop) (omega (arith, new-words))

  pub appended_old : (k : ℕ) → k < r.entries * size r → get_or (appended r l h s a d) k 0 ≡ get_or l k 0
  unfolding appended
  appended_old k i = get_or-append (take (r.entries * size r) l) _ 0 k (omega (arith, old-length)) ∙ get_or-take _ l k 0 i

  appended-rest : drop (r.entries * size r + size r) (appended r l h s a d) ≡ drop (r.entries * size r + size r) l
  unfolding appended
  appended-rest =
      rw (← append_assoc)
      (drop_at (take (r.entries * size r) l ++ (h ∷ s ∷ (a ++ d))) _ (r.entries * size r + size r) (simp (length-append, old-length) (omega arith)))

  pub appended-past : (k : ℕ) → (r.entries + 1) * size r ≤ k → get_or (appended r l h s a d) k 0 ≡ get_or l k 0
  appended-past k i =
      let e : k ≡ r.entries * size r + size r + (k - (r.entries * size r + size r)) = omega (arith, next-words r r.entries) in
      rw (e, ← get_or-drop _ (appended r l h s a d), appended-rest, get_or-drop)

  pub entry_old : (j : ℕ) → j < r.entries → entry_at r (appended r l h s a d) j ≡ entry_at r l j
  entry_old j i =
      ext_get_or 0 (entry_at r (appended r l h s a d) j) (entry_at r l j) (simp (length-take, length-drop, appended-length))
      (λ k b.
      let c : k < size r = omega (arith, length-take (j * size r + size r - j * size r) (drop (j * size r) (appended r l h s a d))) in
      entry-word r (appended r l h s a d) j k c ∙ appended_old (j * size r + k) (entry-words r j k i c) ∙ sym (entry-word r l j k c))

  pub entry_new : entry_at r (appended r l h s a d) r.entries ≡ h ∷ s ∷ (a ++ d)
  unfolding appended
  entry_new =
      rw (drop_at (take (r.entries * size r) l) _ _ old-length)
      (take_at (h ∷ s ∷ (a ++ d)) _ (r.entries * size r + size r - r.entries * size r) (omega (arith, length-append a d)))
