-- What the look and the read of a unit build means, near one assignment: what is published of the unit there.
use mathlib.Core.Path.{◌≡◌, refl, sym, ap, ◌∙◌, subst}
use mathlib.Core.Bool.{Bool, false, ◌&&◌}
use mathlib.Core.List.{List, [], ◌++◌}
use Prim.Native.Nat.{ℕ, zero, suc, ◌+◌, ◌*◌, ◌-◌, ◌/◌, ◌≤◌, ◌<◌}
use native.Mathlib.Nat.{add-mul, suc-mul, mul-add-div_right}
use native.Mathlib.Omega.{arith}
use native.Mathlib.Decide.{dec_lt, ℕ_discrete}
use borrow.Author.Tests.{lt-ltb, le-ltb}
use lib.Dec.{ltb}
use lib.ListN.{length, get_or, set, length-set, length-append, get_or-append}
use lib.Seq.{get_or-append-add, get_or-set_same, get_or-set_other}
use Rattle.conditions.specs.Stores.{Standard}
use Rattle.conditions.specs.Build.{Store, Outcome, next, for_each}
use Rattle.conditions.specs.Meaning.{Builds}
use Rattle.conditions.proofs.Promises.{pure-builds, next-builds, builds_weaker, each-builds}
use Rattle.semantics.specs.Pairs.{Pair, only, at}
use Rattle.semantics.specs.Published.{Entry, look, holding}
use Rattle.model.specs.Record.{Record}
use Rattle.model.specs.Access.{half_step, EachHalf, hold_half}
use Rattle.model.proofs.MeansLaws.{Means, means_as, up, one-means, ite-means, and-means}
use Rattle.model.proofs.HalfLaws.{half_of, half-same, half-hold}
use Rattle.model.proofs.AccessLaws.{Halves, EntriesMean, Word, up_halves, up-entries, look-means}
use Rattle.units.specs.Sum.{bits_of, sum}
use Rattle.units.specs.Parts.{Shape, Order, offset, part_pairs, look_unit, answer_unit}
use Rattle.units.proofs.SumLaws.{sum_from-length}
use Rattle.units.proofs.ExactLaws.{look-cell}
use Rattle.unit_programs.specs.Add.{Add}
use Rattle.unit_programs.specs.Units.{shaped, PartAddress, look_part, zero_pairs, LookUnit, ReadUnit}
use Rattle.unit_programs.proofs.HalfLaws.{zero-means}
use Rattle.unit_programs.proofs.SumLaws.{add-means}

-- the address of a part means the part's
pub part-means : {σ : ℕ → Bool} (o : Order) (r : Record) (unit j : ℕ) (a : List ℕ) (qs : List Pair) → length qs ≡ r.sizes.n → 1 ≤ r.sizes.n → (w : List ℕ) (s : Store) → Standard w s.count → Halves σ 8 (2 * r.sizes.n) (λ τ. at qs) w s a
    → Builds w s (Word σ 8 (2 * r.sizes.n) (λ τ. at (part_pairs o unit qs j))) (PartAddress o r unit a j w s)
unfolding PartAddress
part-means {σ} o r unit j a qs len some w s S A =
    let n = r.sizes.n in
    subst (λ (k : ℕ). Builds w s (Word σ 8 (2 * n) (λ τ. at (sum (bits_of k (offset o unit j)) qs))) (Add n a (bits_of n (offset o unit j)) w s)) (sym len) (add-means n a (bits_of n (offset o unit j)) qs len some w s S A)

-- Words one after the other: half 2k + h of the whole is half h of what stands from bit k on
half_shift : (k h : ℕ) (f : ℕ → Pair) → half_of (2 * k + h) f ≡ half_of h (λ i. f (k + i))
half_shift zero h f =
    let e : 2 * 0 + h ≡ h = omega arith in
    ap (λ (j : ℕ). half_of j f) e ∙ half-same h f (λ i. f (0 + i)) (λ i. let d : i ≡ 0 + i = omega arith in ap f d)
half_shift (suc k) h f =
    let e : 2 * suc k + h ≡ suc (suc (2 * k + h)) = omega arith in
    ap (λ (j : ℕ). half_of j f) e ∙ half_shift k h (λ i. f (suc i)) ∙ half-same h (λ i. f (suc (k + i))) (λ i. f (suc k + i)) (λ i. let d : suc (k + i) ≡ suc k + i = omega arith in ap f d)

half-below : (w h : ℕ) (f g : ℕ → Pair) → h < 2 * w → ((i : ℕ) → i < w → f i ≡ g i) → half_of h f ≡ half_of h g
half-below zero h f g l e = absurd (omega arith)
half-below (suc w) zero f g l e = ap (λ (p : Pair). p.h) (e zero (omega arith))
half-below (suc w) (suc zero) f g l e = ap (λ (p : Pair). p.l) (e zero (omega arith))
half-below (suc w) (suc (suc h)) f g l e = half-below w h (λ i. f (suc i)) (λ i. g (suc i)) (omega arith) (λ i k. e (suc i) (omega arith))

module _ {σ : ℕ → Bool} {w : List ℕ} {s : Store} (f g : ℕ → Pair) (k c : ℕ) (word more : List ℕ) (len : length word ≡ 2 * k) (old : (h : ℕ) → h < 2 * k → Means σ 8 (λ τ. half_of h f) w s (get_or word h 0))
    (new : (h : ℕ) → h < 2 * c → Means σ 8 (λ τ. half_of h g) w s (get_or more h 0)) (same : (i : ℕ) → i < c → f (k + i) ≡ g i) where
  joined_halves : (h : ℕ) → h < 2 * (k + c) → Means σ 8 (λ τ. half_of h f) w s (get_or (word ++ more) h 0)
  joined_halves h b = go (dec_lt h (2 * k))
    where
      go : Dec (h < 2 * k) → Means σ 8 (λ τ. half_of h f) w s (get_or (word ++ more) h 0)
      go (yes p) = rw (get_or-append word more 0 h (omega arith)) (old h p)
      go (no p) =
          let e : h ≡ length word + (h - 2 * k) = omega arith in
          let d : h ≡ 2 * k + (h - 2 * k) = omega arith in
          subst (λ (n : ℕ). Means σ 8 (λ τ. half_of h f) w s n) (sym (ap (λ (n : ℕ). get_or (word ++ more) n 0) e ∙ get_or-append-add word more (h - 2 * k) 0))
          (means_as (new (h - 2 * k) (omega arith)) (λ τ. sym (ap (λ (n : ℕ). half_of n f) d ∙ half_shift k (h - 2 * k) f ∙ half-below c (h - 2 * k) (λ i. f (k + i)) g (omega arith) same)))

zero-length : (k : ℕ) → length (zero_pairs k) ≡ 2 * k
zero-length zero = refl
zero-length (suc k) = omega (arith, zero-length k)

zero_halves : {σ : ℕ → Bool} {w : List ℕ} {s : Store} → Standard w s.count → (k h : ℕ) → h < 2 * k → Means σ 8 (λ τ. half_of h (λ i. (only false))) w s (get_or (zero_pairs k) h 0)
zero_halves S zero h l = absurd (omega arith)
zero_halves S (suc k) zero l = zero-means 8 (omega arith) S
zero_halves S (suc k) (suc zero) l = one-means 8 (omega arith) S
zero_halves S (suc k) (suc (suc h)) l = zero_halves S k h (omega arith)

-- above the unit there is zero
look_above : (g : Shape) (es : List Entry) (unit : ℕ) (qs : List Pair) (k i : ℕ) → i < k * g.w → look_unit g es unit qs (unit * g.w + i) ≡ (only false)
look_above g es unit qs k i h = rw (go g.w h)
  where
    go : (w : ℕ) → i < k * w → ltb ((unit * w + i) / w) unit ≡ false
    go zero h = absurd (omega arith)
    go (suc w) h = le-ltb ((unit * suc w + i) / suc w) unit (rw (mul-add-div_right {m = suc w} (omega arith) unit i) (omega arith))

-- each half of a word beside the same half of the word that a port holds
module _ (σ : ℕ → Bool) (e : Pair) (f g : ℕ → Pair) (K both eh : ℕ) (held : List ℕ) where
  -- j halves are done
  record Holding (j : ℕ) (w : List ℕ) (s : Store) (word : List ℕ) : Type 0 where
    size : length word ≡ K
    done : (h : ℕ) → h < j → Means σ 8 (λ τ. half_of h (λ i. holding e (f i) (g i))) w s (get_or word h 0)
    left : (h : ℕ) → j ≤ h → h < K → Means σ 8 (λ τ. half_of h f) w s (get_or word h 0)
    unknown : Means σ 8 (λ τ. e.h && e.l) w s both
    enable : Means σ 8 (λ τ. e.h) w s eh
    port : Halves σ 8 K (λ τ. g) w s held

  hold_one : (j x : ℕ) (w : List ℕ) (s : Store) → j < K → Standard w s.count → Means σ 8 (λ τ. e.h && e.l) w s both → Means σ 8 (λ τ. e.h) w s eh → Halves σ 8 K (λ τ. g) w s held
      → Means σ 8 (λ τ. half_of j f) w s x → Builds w s (Means σ 8 (λ τ. half_of j (λ i. holding e (f i) (g i)))) (hold_half both eh (get_or held j 0) x w s)
  unfolding hold_half
  hold_one j x w s h S B H G R =
      let Z1 = ite-means S B R H in
      let Z2 = ite-means Z1.standard Z1.post (up S Z1 R) (up S Z1 (G.half j h)) in
      builds_weaker (next-builds Z1 _ Z2) (λ N. means_as N (λ τ. half-hold e j f g))

  hold-next : (j : ℕ) (word : List ℕ) (w : List ℕ) (s : Store) → j < K → Standard w s.count → Holding j w s word → Builds w s (Holding (suc j)) (half_step (λ k. hold_half both eh (get_or held k 0)) j word w s)
  unfolding half_step
  hold-next j word w s l S I =
      let X = hold_one j (get_or word j 0) w s l S I.unknown I.enable I.port (I.left j (omega arith) l) in
      next-builds X _ (pure-builds X.standard (record {
        size = length-set word j _ ∙ I.size;
        done = λ h k. now X h k (ℕ_discrete h j);
        left = λ h k b. rw (get_or-set_other word j h (hold_half both eh (get_or held j 0) (get_or word j 0) w s).answer 0 (omega arith)) (up S X (I.left h (omega arith) b));
        unknown = up S X I.unknown;
        enable = up S X I.enable;
        port = up_halves S X I.port;
      }))
    where
      now : Builds w s (Means σ 8 (λ τ. half_of j (λ i. holding e (f i) (g i)))) (hold_half both eh (get_or held j 0) (get_or word j 0) w s) → (h : ℕ) → h < suc j → Dec (h ≡ j)
          → Means σ 8 (λ τ. half_of h (λ i. holding e (f i) (g i))) (hold_half both eh (get_or held j 0) (get_or word j 0) w s).words (hold_half both eh (get_or held j 0) (get_or word j 0) w s).store
          (get_or (set word j (hold_half both eh (get_or held j 0) (get_or word j 0) w s).answer) h 0)
      now X h k (yes d) = rw (d, get_or-set_same word j (hold_half both eh (get_or held j 0) (get_or word j 0) w s).answer 0 (omega (arith, I.size))) X.post
      now X h k (no d) = rw (get_or-set_other word j h (hold_half both eh (get_or held j 0) (get_or word j 0) w s).answer 0 d) (up S X (I.done h (omega arith)))

  each-held : (word : List ℕ) (w : List ℕ) (s : Store) → Standard w s.count → Means σ 8 (λ τ. e.h && e.l) w s both → Means σ 8 (λ τ. e.h) w s eh → Halves σ 8 K (λ τ. g) w s held → Word σ 8 K (λ τ. f) w s word
      → Builds w s (Word σ 8 K (λ τ i. holding e (f i) (g i))) (EachHalf (λ k. hold_half both eh (get_or held k 0)) K word w s)
  unfolding EachHalf
  each-held word w s S B H G R =
      builds_weaker
      (each-builds (half_step (λ k. hold_half both eh (get_or held k 0))) Holding 0 K (λ j word w s lo hi S I. hold-next j word w s (omega arith) S I) word w s S
      (record { size = R.size; done = λ h k. absurd (omega arith); left = λ h a b. R.halves.half h b; unknown = B; enable = H; port = G }))
      (λ I. record { size = I.size; halves = record { half = λ h l. I.done h (omega arith) } })

module _ (σ : ℕ → Bool) (m : ℕ) (o : Order) (r : Record) (l : List ℕ) (small : r.sizes.n ≤ 8) (some : 1 ≤ r.sizes.n) (es : List Entry) (unit : ℕ) (a : List ℕ) (qs : List Pair) (len : length qs ≡ r.sizes.n) where
  abbrev g : Shape
  g = shaped m o r

  -- j parts of the answer stand
  record Looked (j : ℕ) (w : List ℕ) (s : Store) (word : List ℕ) : Type 0 where
    size : length word ≡ 2 * (j * r.sizes.w)
    halves : (h : ℕ) → h < 2 * (j * r.sizes.w) → Means σ 8 (λ τ. half_of h (look_unit g es unit qs)) w s (get_or word h 0)
    entries : EntriesMean σ r es w s l
    address : Halves σ 8 (2 * r.sizes.n) (λ τ. at qs) w s a

  look-part : (j : ℕ) (word : List ℕ) (w : List ℕ) (s : Store) → j < unit → Standard w s.count → Looked j w s word → Builds w s (Looked (suc j)) (look_part o r l unit a j word w s)
  unfolding look_part
  look-part j word w s b S I =
      let p = part_pairs o unit qs (suc j) in
      let Y1 = part-means o r unit (suc j) a qs len some w s S I.address in
      let E1 = up-entries S Y1 I.entries in
      let Y2 = look-means r l small es _ p (sum_from-length (only false) (bits_of (length qs) (offset o unit (suc j))) qs ∙ len) _ _ Y1.standard E1 Y1.post.halves in
      next-builds Y1 _ (next-builds Y2 _ (pure-builds Y2.standard (record {
        size = length-append word _ ∙ (omega (arith, I.size, Y2.post.size, suc-mul j r.sizes.w));
        halves = λ h k. joined_halves (look_unit g es unit qs) (look r.sizes.n es p) (j * r.sizes.w) r.sizes.w word _ I.size (λ h k. up Y1.standard Y2 (up S Y1 (I.halves h k))) Y2.post.halves.half
            (λ i k. look-cell g es unit qs j i k ∙ (rw (lt-ltb j unit b))) h (omega (arith, suc-mul j r.sizes.w));
        entries = up-entries Y1.standard Y2 E1;
        address = up_halves Y1.standard Y2 (up_halves S Y1 I.address);
      })))

  -- the look of a unit means what is published of it
  pub look_unit-means : unit ≤ m → (w : List ℕ) (s : Store) → Standard w s.count → EntriesMean σ r es w s l → Halves σ 8 (2 * r.sizes.n) (λ τ. at qs) w s a
      → Builds w s (Word σ 8 (2 * (m * r.sizes.w)) (λ τ. look_unit g es unit qs)) (LookUnit m o r l unit a w s)
  unfolding LookUnit
  look_unit-means few w s S E A =
      let z : 0 + unit ≡ unit = omega arith in
      let X1 : Builds w s (Looked unit) (for_each (look_part o r l unit a) 0 unit [] w s)
      = subst (λ (k : ℕ). Builds w s (Looked k) (for_each (look_part o r l unit a) 0 unit [] w s)) z
      (each-builds (look_part o r l unit a) Looked 0 unit (λ j word w s lo hi S I. look-part j word w s (omega arith) S I) [] w s S
      (record { size = omega arith; halves = λ h k. absurd (omega arith); entries = E; address = A })) in
      let x : Outcome (List ℕ) = for_each (look_part o r l unit a) 0 unit [] w s in
      let I = X1.post in
      let e : unit * r.sizes.w + (m - unit) * r.sizes.w ≡ m * r.sizes.w = sym (add-mul unit (m - unit) r.sizes.w) ∙ ap (λ (k : ℕ). k * r.sizes.w) (omega arith) in
      next-builds X1 _ (pure-builds X1.standard (record {
        size = length-append x.answer (zero_pairs ((m - unit) * r.sizes.w)) ∙ (omega (arith, I.size, zero-length ((m - unit) * r.sizes.w)));
        halves = record {
          half = λ h k. joined_halves (look_unit g es unit qs) (λ i. (only false)) (unit * r.sizes.w) ((m - unit) * r.sizes.w) x.answer (zero_pairs ((m - unit) * r.sizes.w)) I.size I.halves (zero_halves X1.standard ((m - unit) * r.sizes.w))
              (λ i k. look_above g es unit qs (m - unit) i k) h (omega arith);
        };
      }))

  -- and so does the read
  pub read_unit-means : unit ≤ m → (eh el : ℕ) (held : List ℕ) (e : Pair) (f : ℕ → Pair) (w : List ℕ) (s : Store) → Standard w s.count → EntriesMean σ r es w s l
      → Means σ 8 (λ τ. e.h) w s eh → Means σ 8 (λ τ. e.l) w s el → Halves σ 8 (2 * (m * r.sizes.w)) (λ τ. f) w s held → Halves σ 8 (2 * r.sizes.n) (λ τ. at qs) w s a
      → Builds w s (Word σ 8 (2 * (m * r.sizes.w)) (λ τ. answer_unit g es f unit e qs)) (ReadUnit m o r l held unit eh el a w s)
  unfolding ReadUnit
  read_unit-means few eh el held e f w s S E H L G A =
      let X1 = look_unit-means few w s S E A in
      let X2 = and-means X1.standard (up S X1 H) (up S X1 L) in
      let X3 = each-held σ e (look_unit g es unit qs) f (2 * (m * r.sizes.w)) _ eh held _ _ _ X2.standard X2.post (up X1.standard X2 (up S X1 H)) (up_halves X1.standard X2 (up_halves S X1 G))
      (record { size = X1.post.size; halves = up_halves X1.standard X2 X1.post.halves }) in
      next-builds X1 _ (next-builds X2 _ X3)
