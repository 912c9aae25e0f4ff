-- Entering an idle write, or an assert that is kept, changes no cell, so that a memory which leaves them out tells the same as one in which each is entered.
use mathlib.Core.Path.{◌≡◌, refl, sym, ap, ◌∙◌, subst}
use mathlib.Core.Bool.{Bool, true, false, ◌&&◌, ◌||◌, not, cond, true≢false}
use mathlib.Core.List.{List, [], ◌∷◌, ◌++◌}
use Prim.Native.Nat.{ℕ, ◌<◌}
use lib.Dec.{T, eqb}
use lib.ListN.{length}
use Rattle.semantics.specs.declared.Sizes.{Sizes}
use Rattle.semantics.specs.Sizes.{cell_bits, data_bits}
use Rattle.semantics.specs.Pairs.{Pair, X, admit, admits, unique, at}
use Rattle.semantics.specs.Published.{Entry, entry, union, scan, cell, look, holding, answer, inside, keeps, control}
use Rattle.semantics.specs.Array.{Event, writes, reads, asserts, checks, nothing}
use Rattle.semantics.specs.Held.{Held, held_after, Accepted}
use Rattle.semantics.proofs.PairLaws.{and_left, and_right, same_eq, one_place, look_to, look-from, inside_to, inside-from, bool_same, anywhere-same, scan-append, scan_snoc}

-- two lists of entries that say the same of each location, as far as w bits go
pub record SameCells (w : ℕ) (es fs : List Entry) : Type 0 where
  pub cells : (x : List Bool) (i : ℕ) → i < w → cell es x i ≡ cell fs x i

pub pair_same : (p q : Pair) → ((b : Bool) → T (admit p b) → T (admit q b)) → ((b : Bool) → T (admit q b) → T (admit p b)) → p ≡ q
pair_same p q f g =
    let hs : p.h ≡ q.h = bool_same p.h q.h (f true) (g true) in
    let ls : p.l ≡ q.l = bool_same p.l q.l (f false) (g false) in
    λ i. record { h = hs i; l = ls i }

-- an entry whose control may not be 1 leaves what was there
pub over_off : (m u : Bool) (e r : Pair) → cond (m && (false && u)) e (cond (m && (false || false && not u)) (union e r) r) ≡ r
over_off true u e r = refl
over_off false u e r = refl

-- entering a write whose enable is 0 changes no cell
pub idle-same : (w : ℕ) (es : List Entry) (c : Pair) (a d : List Pair) → c.h ≡ false → SameCells w (es ++ (entry c a d ∷ [])) es
idle-same w es c a d e = record { cells = λ x i l. scan_snoc es (entry c a d) x i X ∙ go c.h e x i }
  where
    go : (h : Bool) → h ≡ false → (x : List Bool) (i : ℕ) → cond (admits a x && (h && not c.l && unique a)) (at d i) (cond (admits a x && (h && c.l || h && not c.l && not (unique a))) (union (at d i) (cell es x i)) (cell es x i)) ≡ cell es x i
    go false e x i = over_off (admits a x) (unique a) (at d i) (cell es x i)
    go true e x i = absurd (true≢false e)

-- entering an assert that is kept changes no cell
pub kept_same : (z : Sizes) (es : List Entry) (b : Bool) (a d : List Pair) → length a ≡ z.n → T (not b || unique a) → T (keeps z es b a d) →
    SameCells (cell_bits z) (es ++ (entry (control b) a d ∷ [])) es
kept_same z es false a d na u k = idle-same (cell_bits z) es (control false) a d refl
kept_same z es true a d na u k = record { cells = λ x i h. scan_snoc es (entry (control true) a d) x i X ∙ go x i h (admits a x) refl (unique a) u }
  where
    A : T (inside (cell_bits z) (at d) (look z.n es a))
    A = and_left (inside (cell_bits z) (at d) (look z.n es a)) (inside (cell_bits z) (look z.n es a) (at d)) k

    C : T (inside (cell_bits z) (look z.n es a) (at d))
    C = and_right (inside (cell_bits z) (at d) (look z.n es a)) (inside (cell_bits z) (look z.n es a) (at d)) k

    there : (x : List Bool) (i : ℕ) → i < cell_bits z → T (admits a x) → at d i ≡ cell es x i
    there x i h m = pair_same (at d i) (cell es x i)
        (λ b t.
        let y = look_to z.n es a i b (inside_to (cell_bits z) (at d) (look z.n es a) A i h b t) in
        subst (λ (z : List Bool). T (admit (cell es z i) b)) (same_eq y.0.0 x (one_place a u y.0.0 x y.0.1 m)) y.1)
        (λ b t. inside_to (cell_bits z) (look z.n es a) (at d) C i h b (look-from z.n es a na (x, m) i b t))

    go : (x : List Bool) (i : ℕ) → i < cell_bits z → (m : Bool) → admits a x ≡ m → (v : Bool) → T v →
        cond (m && (true && v)) (at d i) (cond (m && (false || true && not v)) (union (at d i) (cell es x i)) (cell es x i)) ≡ cell es x i
    go x i h true e true t = there x i h (subst T (sym e) tt)
    go x i h false e v t = refl
    go x i h true e false t = absurd t

-- so entries after it, looks, answers and conditions are the same
pub same_more : (w : ℕ) (es fs more : List Entry) → SameCells w es fs → SameCells w (es ++ more) (fs ++ more)
same_more w es fs more S = record { cells = λ x i h. scan-append es more x i X ∙ ap (λ (r : Pair). scan more x i r) (S.cells x i h) ∙ sym (scan-append fs more x i X) }

pub same-look : (n w : ℕ) (es fs : List Entry) → SameCells w es fs → (a : List Pair) (i : ℕ) → i < w → look n es a i ≡ look n fs a i
same-look n w es fs S a i h =
    let hs : (look n es a i).h ≡ (look n fs a i).h = anywhere-same n (λ x. admits a x && (cell es x i).h) (λ x. admits a x && (cell fs x i).h) (λ x l. ap (λ (p : Pair). admits a x && p.h) (S.cells x i h)) in
    let ls : (look n es a i).l ≡ (look n fs a i).l = anywhere-same n (λ x. admits a x && (cell es x i).l) (λ x. admits a x && (cell fs x i).l) (λ x l. ap (λ (p : Pair). admits a x && p.l) (S.cells x i h)) in
    λ k. record { h = hs k; l = ls k }

same-inside : (w : ℕ) (r s d : ℕ → Pair) → ((i : ℕ) → i < w → r i ≡ s i) → inside w r d ≡ inside w s d
same-inside w r s d e = bool_same (inside w r d) (inside w s d)
    (λ t. inside-from w s d (λ i h b q. inside_to w r d t i h b (subst (λ (p : Pair). T (admit p b)) (sym (e i h)) q)))
    (λ t. inside-from w r d (λ i h b q. inside_to w s d t i h b (subst (λ (p : Pair). T (admit p b)) (e i h) q)))

-- two memories that tell the same
pub record SameHeld (z : Sizes) (s t : Held) : Type 0 where
  pub entries : SameCells (cell_bits z) s.entries t.entries
  pub ports : (p i : ℕ) → i < data_bits z → s.ports p i ≡ t.ports p i
  pub condition : s.condition ≡ t.condition

pub same_itself : (z : Sizes) (s : Held) → SameHeld z s s
same_itself z s = record { entries = record { cells = λ x i h. refl }; ports = λ p i h. refl; condition = refl }

pub same_answer : (z : Sizes) (s t : Held) → SameHeld z s t → (p : ℕ) (e : Pair) (a : List Pair) (i : ℕ) → i < data_bits z → answer z s.entries (s.ports p) e a i ≡ answer z t.entries (t.ports p) e a i
same_answer z s t S p e a i h =
    ap (λ (r : Pair). holding e r (s.ports p i)) (same-look z.n (cell_bits z) s.entries t.entries S.entries a i h) ∙ ap (λ (q : Pair). holding e (look z.n t.entries a i) q) (S.ports p i h)

same_check : (z : Sizes) (s t : Held) → SameHeld z s t → (b : Bool) (a d : List Pair) →
    (s.condition && (not b || inside (cell_bits z) (look z.n s.entries a) (at d))) ≡ (t.condition && (not b || inside (cell_bits z) (look z.n t.entries a) (at d)))
same_check z s t S b a d =
    ap (λ (c : Bool). c && (not b || inside (cell_bits z) (look z.n s.entries a) (at d))) S.condition
    ∙ ap (λ (c : Bool). t.condition && (not b || c)) (same-inside (cell_bits z) (look z.n s.entries a) (look z.n t.entries a) (at d) (λ i h. same-look z.n (cell_bits z) s.entries t.entries S.entries a i h))

pub same_after : (z : Sizes) (s t : Held) → SameHeld z s t → (e : Event) → SameHeld z (held_after z s e) (held_after z t e)
same_after z s t S (writes c a d) = record { entries = same_more (cell_bits z) s.entries t.entries (entry c a d ∷ []) S.entries; ports = S.ports; condition = S.condition }
same_after z s t S (reads p e a) = record { entries = S.entries; ports = λ q i h. go q i h (eqb q p); condition = S.condition }
  where
    go : (q i : ℕ) → i < data_bits z → (k : Bool) → cond k (answer z s.entries (s.ports p) e a) (s.ports q) i ≡ cond k (answer z t.entries (t.ports p) e a) (t.ports q) i
    go q i h true = same_answer z s t S p e a i h
    go q i h false = S.ports q i h
same_after z s t S (asserts b a d) = record { entries = same_more (cell_bits z) s.entries t.entries (entry (control b) a d ∷ []) S.entries; ports = S.ports; condition = S.condition }
same_after z s t S (checks b a d) = record { entries = S.entries; ports = S.ports; condition = same_check z s t S b a d }
same_after z s t S nothing = S

-- where the left leaves out an idle write,
pub same-idle : (z : Sizes) (s t : Held) → SameHeld z s t → (c : Pair) (a d : List Pair) → c.h ≡ false → SameHeld z s (held_after z t (writes c a d))
same-idle z s t S c a d e =
    record { entries = record { cells = λ x i h. S.entries.cells x i h ∙ sym ((idle-same (cell_bits z) t.entries c a d e).cells x i h) }; ports = S.ports; condition = S.condition }

-- and an assert that it keeps
pub same_kept : (z : Sizes) (s t : Held) → SameHeld z s t → (b : Bool) (a d : List Pair) → Accepted z (asserts b a d) → T (keeps z s.entries b a d) →
    SameHeld z s (held_after z t (asserts b a d))
same_kept z s t S b a d q k =
    let e = entry (control b) a d in
    let K = kept_same z s.entries b a d q.0.1 q.2 k in
    record { entries = record { cells = λ x i h. sym (K.cells x i h) ∙ (same_more (cell_bits z) s.entries t.entries (e ∷ []) S.entries).cells x i h }; ports = S.ports; condition = S.condition }
