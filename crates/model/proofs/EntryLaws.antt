-- Words and their values, each way: users mean the pairs and entries of their values, and words that mean pairs or an entry have these values.
use mathlib.Core.Path.{◌≡◌, refl, sym, ap, ◌∙◌}
use mathlib.Core.Bool.{Bool, false}
use mathlib.Core.List.{List, [], ◌∷◌, ◌++◌}
use Prim.Native.Nat.{ℕ, zero, suc, ◌+◌, ◌*◌, ◌<◌}
use native.Mathlib.Omega.{arith}
use lib.ListN.{length, get_or, length-append}
use lib.Seq.{get_or_at, ext_get_or}
use Rattle.conditions.specs.Build.{Store}
use Rattle.conditions.specs.Value.{value}
use Rattle.semantics.specs.Pairs.{Pair, X, at}
use Rattle.model.specs.Record.{size, entry_at}
use Rattle.model.specs.Step.{State, begin}
use Rattle.semantics.specs.Published.{Entry, entry}
use Rattle.semantics.specs.Array.{writes}
use Rattle.model.specs.Claims.{pairs}
use Rattle.model.specs.Meanings.{entry_value, entries_from, entry_values, port_value, address_argument, word_argument, Enters}
use Rattle.semantics.specs.Held.{Held, add}
use Rattle.model.specs.Table.{Names, MemoryFacts}
use Rattle.model.proofs.MeansLaws.{near_self}
use Rattle.model.proofs.HalfLaws.{half_of, half_even, half_odd}
use Rattle.model.proofs.AccessLaws.{Halves, EntryMeans, no_entry}
use Rattle.model.proofs.ListLaws.{entry-words, entry-word, entry-address, entry_data}
use Rattle.model.proofs.RowLaws.{length_pairs, pairs_half, name-means, names_halves}
use Rattle.model.proofs.StepLaws.{AllWide, wide-more, Holds, pair_is}

-- what a state holds by its values
abbrev pub held : (ℕ → Bool) → State → Held
held φ s = record { entries = entry_values φ s; ports = port_value φ s; condition = value s.words φ s.rec.checked }

length-entries : (φ : ℕ → Bool) (s : State) (j k : ℕ) → length (entries_from φ s j k) ≡ k
length-entries φ s j zero = refl
length-entries φ s j (suc k) = ap suc (length-entries φ s (suc j) k)

entries_at : (φ : ℕ → Bool) (s : State) (k i j m : ℕ) → j < k → m ≡ i + j → get_or (entries_from φ s i k) j no_entry ≡ entry_value φ s m
entries_at φ s zero i j m h e = absurd (omega arith)
entries_at φ s (suc k) i zero m h e = let z : i ≡ m = omega arith in ap (entry_value φ s) z
entries_at φ s (suc k) i (suc j) m h e = entries_at φ s k (suc i) j m (omega arith) (omega arith)

-- half h of the pairs is the value of word h
half-value : (φ : ℕ → Bool) (w ws : List ℕ) (k h : ℕ) → h < 2 * k → value w φ (get_or ws h 0) ≡ half_of h (at (pairs φ w ws k))
half-value φ w ws k h l = let z : h ≡ 2 * 0 + h = omega arith in ap (λ (n : ℕ). value w φ (get_or ws n 0)) z ∙ pairs_half φ w ws k 0 h l

-- a memory that rows 1 to 3 accept means its values
module _ (φ : ℕ → Bool) (s : State) (M : MemoryFacts s) where
  entry-means : (j : ℕ) → j < s.rec.entries → EntryMeans φ s.rec (entry_value φ s j) s.words (begin s.rec) (entry_at s.rec s.list j)
  entry-means j h =
      record {
        hard = name-means φ s.rec s.words M.standard (word 0 (omega arith));
        soft = name-means φ s.rec s.words M.standard (word 1 (omega arith));
        address = names_halves φ s.rec s.words M.standard _ s.rec.sizes.n (λ i l. rw (entry-address s.rec s.list j i l) (stored (2 + i) (omega arith)));
        word = names_halves φ s.rec s.words M.standard _ s.rec.sizes.w (λ i l. rw (entry_data s.rec s.list j i l) (stored (2 + 2 * s.rec.sizes.n + i) (omega arith)));
        sized = length_pairs φ s.words _ 0 s.rec.sizes.n;
      }
    where
      stored : (k : ℕ) → k < size s.rec → Names s.rec s.words (get_or s.list (j * size s.rec + k) 0)
      stored k l = M.listed.words (j * size s.rec + k) (entry-words s.rec j k h l)

      word : (k : ℕ) → k < size s.rec → Names s.rec s.words (get_or (entry_at s.rec s.list j) k 0)
      word k l = rw (entry-word s.rec s.list j k l) (stored k l)

  pub holds_values : Holds φ s (held φ s)
  holds_values =
      record {
        entries = record { count = length-entries φ s 0 s.rec.entries; at = λ j h. rw (entries_at φ s s.rec.entries 0 j j h (omega arith)) (entry-means j h) };
        checked = name-means φ s.rec s.words M.standard M.listed.checked;
      }

-- words that mean pairs have them as values
halves_pairs : {σ : ℕ → Bool} {u k : ℕ} {w : List ℕ} {s : Store} {ws : List ℕ} (qs : List Pair) → Halves σ u (2 * k) (λ τ. at qs) w s ws → s.full ≡ false → length qs ≡ k → pairs σ w ws k ≡ qs
halves_pairs {σ} {u} {k} {w} {s} {ws} qs H free len =
    ext_get_or X (pairs σ w ws k) qs (length_pairs σ w ws 0 k ∙ sym len)
    (λ i l.
    let b : i < k = omega (arith, length_pairs σ w ws 0 k) in
    pair_is (at (pairs σ w ws k) i) (at qs i) (sym (half_even i (at (pairs σ w ws k))) ∙ same (2 * i) (omega arith) ∙ half_even i (at qs))
    (sym (half_odd i (at (pairs σ w ws k))) ∙ same (2 * i + 1) (omega arith) ∙ half_odd i (at qs)))
  where
    same : (h : ℕ) → h < 2 * k → half_of h (at (pairs σ w ws k)) ≡ half_of h (at qs)
    same h l = sym (half-value σ w ws k h l) ∙ (H.half h l).is free σ (near_self σ)

entry_is : (φ : ℕ → Bool) (s : State) (j : ℕ) (e : Entry) → EntryMeans φ s.rec e s.words (begin s.rec) (entry_at s.rec s.list j) → length e.word ≡ s.rec.sizes.w → entry_value φ s j ≡ e
entry_is φ s j e M len = λ i. record { hard = M.hard.is refl φ (near_self φ) i; soft = M.soft.is refl φ (near_self φ) i; address = halves_pairs e.address M.address refl M.sized i; word = halves_pairs e.word M.word refl len i }

wide_at : (w : ℕ) (es : List Entry) → AllWide w es → (j : ℕ) → j < length es → length (get_or es j no_entry).word ≡ w
wide_at w [] S j h = absurd (omega arith)
wide_at w (e ∷ es) S zero h = S.0
wide_at w (e ∷ es) S (suc j) h = wide_at w es S.1 j (omega arith)

wide_values : (φ : ℕ → Bool) (s : State) (j k : ℕ) → AllWide s.rec.sizes.w (entries_from φ s j k)
wide_values φ s j zero = tt
wide_values φ s j (suc k) = (length_pairs φ s.words _ 0 s.rec.sizes.w, wide_values φ s (suc j) k)

-- a state that holds these entries has them as values
pub holds_are : (φ : ℕ → Bool) (t : State) (h : Held) → Holds φ t h → AllWide t.rec.sizes.w h.entries → entry_values φ t ≡ h.entries
holds_are φ t h H S =
    let l = length-entries φ t 0 t.rec.entries in
    ext_get_or no_entry (entry_values φ t) h.entries (l ∙ sym H.entries.count)
    (λ j b.
    let m : j < t.rec.entries = omega (arith, l) in
    entries_at φ t t.rec.entries 0 j j m (omega arith) ∙ entry_is φ t j (get_or h.entries j no_entry) (H.entries.at j m) (wide_at t.rec.sizes.w h.entries S j (omega (arith, H.entries.count))))

-- a state that holds one entry more, the published one, has the list with it at the end
pub holds-enters : (φ : ℕ → Bool) (s t : State) (c : Pair) (a d : List ℕ) → t.rec.sizes ≡ s.rec.sizes → Holds φ t (add (held φ s) (writes c (address_argument φ s a) (word_argument φ s d))) → Enters φ s t c a d
holds-enters φ s t c a d same H =
    let e = entry c (address_argument φ s a) (word_argument φ s d) in
    holds_are φ t (add (held φ s) (writes c (address_argument φ s a) (word_argument φ s d))) H (rw same (wide-more s.rec.sizes.w (entry_values φ s) e (wide_values φ s 0 s.rec.entries) (length_pairs φ s.words d 0 s.rec.sizes.w)))

-- and one that holds the same entries has the same list
pub holds-stays : (φ : ℕ → Bool) (s t : State) (g : ℕ → ℕ → Pair) (b : Bool) → t.rec.sizes ≡ s.rec.sizes → Holds φ t (record { entries = entry_values φ s; ports = g; condition = b }) → entry_values φ t ≡ entry_values φ s
holds-stays φ s t g b same H = holds_are φ t (record { entries = entry_values φ s; ports = g; condition = b }) H (rw same (wide_values φ s 0 s.rec.entries))
