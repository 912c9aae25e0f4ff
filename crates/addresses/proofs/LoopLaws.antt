-- Loops of building steps, and what they need to know of words of nodes.
use Rattle.std.proofs.Common.{◌≡◌, refl, sym, ◌∙◌, List, ℕ, ◌+◌, ◌*◌, ◌-◌, ◌<◌, ◌≤◌, length, get_or, set, drop, replicate, length-set, arith}
use Rattle.std.proofs.lemmas.List.{length-replicate}
use native.Mathlib.Decide.{ℕ_discrete}
use lib.ListN.{get_or-replicate}
use lib.Seq.{get_or-set_same, get_or-set_other, get_or-take, get_or-drop}
use Rattle.conditions.specs.Build.{Build, for_each}
use Rattle.conditions.specs.declared.builder.Builder.{Builder}
use Rattle.conditions.specs.Builder.{Later, Did}
use Rattle.conditions.proofs.Promises.{later_refl, later_trans, next_is, each_end, each_step}
use Rattle.semantics.specs.declared.Sizes.{Sizes}
use Rattle.model.specs.Record.{h_at, l_at, part, size, entry_at}
use Rattle.model.specs.Access.{half_step}
use Rattle.model.proofs.ListLaws.{part_length, entry-word, entry-words}
use Rattle.addresses.specs.Contract.{Nodes, shape, Looks}
use Rattle.addresses.specs.Words.{WordDid}

-- what a loop over the numbers below n keeps: what is left to do from here is what was to do at the start
pub record Loop (f : ℕ → ℕ → Build ℕ) (n a : ℕ) (b c : Builder) (r i : ℕ) : Type 0 where
  pub later : Later b c
  pub node : r < c.store.count
  pub is : for_each f i (n - i) r c.words.now c.store ≡ for_each f 0 n a b.words.now b.store

module _ {f : ℕ → ℕ → Build ℕ} {n a : ℕ} {b : Builder} where
  pub loop-begins : a < b.store.count → Loop f n a b b a 0
  loop-begins h = let e : n - 0 ≡ n = omega arith in record { later = later_refl b; node = h; is = rw e }

  pub loop-goes_on : {c d : Builder} {r q i : ℕ} → Loop f n a b c r i → i < n → Did c d q (f i r) → Loop f n a b d q (i + 1)
  loop-goes_on {c} {r = r} {i = i} L h D =
      record {
        later = later_trans L.later D.later;
        node = D.node;
        is = next_is (for_each f (i + 1) (n - (i + 1))) D.is refl ∙ sym (each_step f r c.words.now c.store n i h) ∙ L.is;
      }

  pub loop_did : {c : Builder} {r i : ℕ} → Loop f n a b c r i → n ≤ i → Did b c r (for_each f 0 n a)
  loop_did {c} {r} {i} L h =
      record { is = sym (each_end f r c.words.now c.store i (n - i) (omega arith)) ∙ L.is; later = L.later; node = L.node }

-- the halves of pair i of an address are nodes
pub pair-nodes : {c : ℕ} {ws : List ℕ} → Nodes c ws → (i : ℕ) → 2 * i + 1 < length ws → (h_at ws i < c) × (l_at ws i < c)
pair-nodes N i h = (N.at (2 * i) (omega arith), N.at (2 * i + 1) h)

-- the same where the loop goes over a lent word
pub record WordLoop (g : ℕ → List ℕ → Build (List ℕ)) (n : ℕ) (r₀ : List ℕ) (b c : Builder) (r : List ℕ) (i : ℕ) : Type 0 where
  pub later : Later b c
  pub size : length r ≡ length r₀
  pub nodes : Nodes c.store.count r
  pub is : for_each g i (n - i) r c.words.now c.store ≡ for_each g 0 n r₀ b.words.now b.store

module _ {g : ℕ → List ℕ → Build (List ℕ)} {n : ℕ} {r₀ : List ℕ} {b : Builder} where
  pub word-begins : Nodes b.store.count r₀ → WordLoop g n r₀ b b r₀ 0
  word-begins N = let e : n - 0 ≡ n = omega arith in record { later = later_refl b; size = refl; nodes = N; is = rw e }

  pub word-goes_on : {c d : Builder} {r q : List ℕ} {i : ℕ} → WordLoop g n r₀ b c r i → i < n → length q ≡ length r → WordDid c d q (g i r) → WordLoop g n r₀ b d q (i + 1)
  word-goes_on {c} {r = r} {i = i} L h size D =
      record {
        later = later_trans L.later D.later;
        size = size ∙ L.size;
        nodes = D.nodes;
        is = next_is (for_each g (i + 1) (n - (i + 1))) D.is refl ∙ sym (each_step g r c.words.now c.store n i h) ∙ L.is;
      }

  pub word_did : {c : Builder} {r : List ℕ} {i : ℕ} → WordLoop g n r₀ b c r i → n ≤ i → WordDid b c r (for_each g 0 n r₀)
  word_did {c} {r} {i} L h =
      record { is = sym (each_end g r c.words.now c.store i (n - i) (omega arith)) ∙ L.is; later = L.later; nodes = L.nodes }

-- a half of a word replaced by a node
pub set-nodes : {c : ℕ} {r : List ℕ} (k x : ℕ) → Nodes c r → x < c → Nodes c (set r k x)
set-nodes {c} {r} k x N h = record { at = λ j l. go j (rw length-set at l) (ℕ_discrete j k) }
  where
    go : (j : ℕ) → j < length r → Dec (j ≡ k) → get_or (set r k x) j 0 < c
    go j l (yes e) = rw (e, get_or-set_same r k x 0 (omega arith)) h
    go j l (no e) = rw (get_or-set_other r k j x 0 e) (N.at j l)

pub more-nodes : {c c' : ℕ} {r : List ℕ} → c ≤ c' → Nodes c r → Nodes c' r
more-nodes h N = record { at = λ k l. omega (arith, N.at k l) }

-- one half of a word in its turn
half_did : (f : ℕ → ℕ → Build ℕ) {b c : Builder} {r : List ℕ} {x : ℕ} (k : ℕ) → Nodes b.store.count r → Did b c x (f k (get_or r k 0)) → WordDid b c (set r k x) (half_step f k r)
unfolding half_step
half_did f k N D = record { is = next_is _ D.is refl; later = D.later; nodes = set-nodes k _ (more-nodes D.later.more N) D.node }

pub half-goes_on : (f : ℕ → ℕ → Build ℕ) {n : ℕ} {r₀ : List ℕ} {b c d : Builder} {r : List ℕ} {x k : ℕ} → WordLoop (half_step f) n r₀ b c r k → k < n → Did c d x (f k (get_or r k 0))
    → WordLoop (half_step f) n r₀ b d (set r k x) (k + 1)
half-goes_on f {k = k} L h D = word-goes_on L h (simp length-set) (half_did f k L.nodes D)

-- parts of a slice of nodes
pub part-nodes : {c : ℕ} {l : List ℕ} (a e : ℕ) → a ≤ e → e ≤ length l → Nodes c l → Nodes c (part l a e)
part-nodes {l = l} a e h k N = record { at = λ i m. let b : i < e - a = omega (arith, part_length l a e h k) in rw (get_or-take (e - a) (drop a l) i 0 b, get_or-drop a l i 0) (N.at (a + i) (omega arith)) }

-- an entry of the list is within it, and its words are nodes
module _ {z : Sizes} {k c : ℕ} {list address : List ℕ} (L : Looks z k c list address) (j : ℕ) (h : j < k) where
  pub entry-fits : j * size (shape z 0) + size (shape z 0) ≤ length list
  entry-fits = omega (arith, entry-words (shape z k) j (1 + 2 * z.n + 2 * z.w) h (omega arith), L.room)

  pub entry-size : length (entry_at (shape z 0) list j) ≡ size (shape z 0)
  entry-size = part_length list (j * size (shape z 0)) (j * size (shape z 0) + size (shape z 0)) (omega arith) entry-fits ∙ (omega arith)

  pub entry-nodes : Nodes c (entry_at (shape z 0) list j)
  entry-nodes =
      record {
        at = λ i m.
            let b : i < size (shape z 0) = omega (arith, entry-size) in
            rw (entry-word (shape z 0) list j i b) (L.entries (j * size (shape z 0) + i) (entry-words (shape z k) j i h b));
      }

-- a store that grew has the list's nodes and the address's still
pub looks-more : {z : Sizes} {k c c' : ℕ} {list address : List ℕ} → c ≤ c' → Looks z k c list address → Looks z k c' list address
looks-more h L = record { few = L.few; wide = L.wide; many = L.many; room = L.room; entries = λ i m. omega (arith, L.entries i m); pairs = L.pairs; nodes = more-nodes h L.nodes }

-- a word of ones
pub ones-nodes : (c k : ℕ) → 1 < c → Nodes c (replicate k 1)
ones-nodes c k h = record { at = λ i m. rw (get_or-replicate {A = ℕ} k i 1 0 (rw length-replicate at m)) h }
