-- Words lent with more of them, all 0: what is read of a store there is what is read of it here.
use lib.ListN.{length-replicate}
use Rattle.std.proofs.Common.{◌≡◌, refl, ap, ◌∙◌, Bool, true, false, List, [], ◌∷◌, ℕ, zero, suc, ◌+◌, ◌*◌, ◌<◌, ◌≤◌, arith, ltb, length, get_or, set, replicate, length-append, length-set}
use Rattle.nodes.specs.Words.{var_at, low_at, high_at, has_words, with_node, capacity_of}
use Rattle.nodes.specs.Search.{seek}
use Rattle.nodes.specs.Standard.{lowest}
use Rattle.diagrams.specs.Parts.{least_of, part_of, parts_of}
use Rattle.diagrams.specs.Value.{branch, eval, grow, tree_of, value}
use Rattle.operations.specs.Meaning.{longer}

get_d-zeros : (k i : ℕ) → ◌≡◌ {A = ℕ} (get_or (replicate k 0) i 0) 0
get_d-zeros zero i = refl
get_d-zeros (suc k) zero = refl
get_d-zeros (suc k) (suc i) = get_d-zeros k i

pub get_d-longer : (k : ℕ) (w : List ℕ) (i : ℕ) → get_or (longer k w) i 0 ≡ get_or w i 0
get_d-longer k [] i = get_d-zeros k i
get_d-longer k (x ∷ w) zero = refl
get_d-longer k (x ∷ w) (suc i) = get_d-longer k w i

pub length-longer : (k : ℕ) (w : List ℕ) → length (longer k w) ≡ length w + k
length-longer k w = length-append w (replicate k 0) ∙ ap (λ (n : ℕ). length w + n) (length-replicate k 0)

pub capacity-longer : (k : ℕ) (w : List ℕ) → capacity_of w ≤ capacity_of (longer k w)
capacity-longer k w = omega (arith, length-longer k w)

set_longer : (k : ℕ) (w : List ℕ) (i v : ℕ) → i < length w → set (longer k w) i v ≡ longer k (set w i v)
set_longer k [] i v h = absurd (omega arith)
set_longer k (x ∷ w) zero v h = refl
set_longer k (x ∷ w) (suc i) v h = ap (λ (l : List ℕ). x ∷ l) (set_longer k w i v (omega arith))

pub node-longer : (k : ℕ) (w : List ℕ) (n v lo hi : ℕ) → n < capacity_of w → with_node (longer k w) n v lo hi ≡ longer k (with_node w n v lo hi)
node-longer k w n v lo hi h =
    let a = set_longer k w (n * 3) v (omega arith) in
    let w1 = set w (n * 3) v in
    let l1 : length w1 ≡ length w = length-set w (n * 3) v in
    let b = set_longer k w1 (n * 3 + 1) lo (omega (arith, l1)) in
    let w2 = set w1 (n * 3 + 1) lo in
    let l2 : length w2 ≡ length w1 = length-set w1 (n * 3 + 1) lo in
    let c = set_longer k w2 (n * 3 + 2) hi (omega (arith, l1, l2)) in
    rw (a, b, c) refl

seek-same : (p q : ℕ → Bool) → ((n : ℕ) → p n ≡ q n) → (i k : ℕ) → seek p i k ≡ seek q i k
unfolding seek
seek-same p q e i zero = refl
seek-same p q e i (suc k) = rw (e i, seek-same p q e (suc i) k) refl

pub lowest-longer : (k : ℕ) (w : List ℕ) (c v lo hi : ℕ) → lowest (longer k w) c v lo hi ≡ lowest w c v lo hi
unfolding lowest has_words
lowest-longer k w c v lo hi = seek-same _ _ (λ n. rw (get_d-longer k w (n * 3), get_d-longer k w (n * 3 + 1), get_d-longer k w (n * 3 + 2)) refl) 0 c

part-longer : (k : ℕ) (b : Bool) (w : List ℕ) (v n : ℕ) → part_of b (longer k w) v n ≡ part_of b w v n
unfolding part_of
part-longer k true w v n = rw (get_d-longer k w (n * 3), get_d-longer k w (n * 3 + 2)) refl
part-longer k false w v n = rw (get_d-longer k w (n * 3), get_d-longer k w (n * 3 + 1)) refl

least-longer : (k : ℕ) (w : List ℕ) (f g h : ℕ) → least_of (longer k w) f g h ≡ least_of w f g h
least-longer k w f g h = rw (get_d-longer k w (f * 3), get_d-longer k w (g * 3), get_d-longer k w (h * 3)) refl

pub parts-longer : (k : ℕ) (w : List ℕ) (f g h : ℕ) → parts_of (longer k w) f g h ≡ parts_of w f g h
parts-longer k w f g h =
    let v = least_of w f g h in
    rw (least-longer k w f g h, part-longer k false w v f, part-longer k false w v g, part-longer k false w v h, part-longer k true w v f, part-longer k true w v g, part-longer k true w v h) refl

grow-longer : (k : ℕ) (w : List ℕ) (j : ℕ) (e : Bool) (n : ℕ) → grow (longer k w) j e n ≡ grow w j e n
unfolding grow
grow-longer k w zero e n = refl
grow-longer k w (suc j) true n = refl
grow-longer k w (suc j) false n =
    rw (get_d-longer k w (n * 3), get_d-longer k w (n * 3 + 1), get_d-longer k w (n * 3 + 2))
    (λ i. branch (var_at w n) (grow-longer k w j (ltb (low_at w n) 2) (low_at w n) i) (grow-longer k w j (ltb (high_at w n) 2) (high_at w n) i))

pub value-longer : (k : ℕ) (w : List ℕ) (φ : ℕ → Bool) (n : ℕ) → value (longer k w) φ n ≡ value w φ n
unfolding value tree_of
value-longer k w φ n = ap (eval φ) (grow-longer k w n (ltb n 2) n)
