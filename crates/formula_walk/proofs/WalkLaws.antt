-- Walks: what a token, a unit, an arrow and parentheses make of the reader's verdict and of what the pass has seen.
use Rattle.std.proofs.Common.{◌≡◌, ℕ, zero, suc, ◌+◌, ◌-◌, ◌<◌, ◌≤◌, Bool, true, false, List, ◌∷◌, ◌⊎◌, inl, inr, length, get_or, drop, Result, Ok, Err, refl, sym, ap, subst, ◌∙◌, arith, length-drop}
use mathlib.Core.Path.{fun_ext}
use Rattle.formulas.specs.Language.{Tree, predicate, next, both, when, grouped, Part, formula, conjunction, unit, only}
use Rattle.formulas.specs.Reading.{Limits, Verdict, fine, wrong, follow, judge_closing, judge}
use Rattle.formulas.proofs.CompleteLaws.{spaces-length}
use Rattle.nodes.proofs.BoolLaws.{iff-same}
use Rattle.conditions.specs.Stores.{Standard, Extends}
use Rattle.conditions.specs.User.{is_user}
use Rattle.conditions.specs.Build.{Store, Outcome}
use Rattle.conditions.specs.declared.builder.Builder.{Builder}
use Rattle.conditions.specs.Builder.{Later, Did}
use Rattle.conditions.proofs.Promises.{extends_refl, extends_trans, user_is, is_user_lem, from-stays, later_refl, later_trans}
use Rattle.model.specs.Formula.{Triple, Triples}
use Rattle.model.proofs.AgainFormulaLaws.{both_is, when_is, and-grows}
use Rattle.refusals.specs.Refusal.{number}
use Rattle.tokens.specs.declared.Token.{Token}
use Rattle.tokens.specs.declared.Fault.{Fault}
use Rattle.tokens.specs.Contract.{starts, Took, took, stops, TookAt, number_token, within_table, opener_token, when_token}
use Rattle.tokens.proofs.TokenLaws.{starts_in, starts_here, byte_not}
use Rattle.formula_walk.specs.declared.Pass.{Pass}
use Rattle.formula_walk.specs.declared.Pass.TheVariants.{Count, List as Lists}
use Rattle.formula_walk.specs.declared.Plan.{Plan}
use Rattle.formula_walk.specs.declared.Around.{Around}
use Rattle.formula_walk.specs.declared.Walk.{Walk}
use Rattle.formula_walk.specs.Contract.{Out, out_of, put_all, listed_by, condition_in, Seen, predicates_of, seen, limits, Counts, inner_of, Walks, Untouched, seen_at, Came, Enough, walk_place, Goes, Leads, outside, Closed, NamedAt, Named}
use Rattle.formula_walk.proofs.ReadLaws.{onward, reads_conjunction, when_read, reads-when, reads-predicate, reads-next, reads_group, reads_none}
use Rattle.formula_walk.proofs.TookLaws.{took_is, stops_is, byte_is, Taken, number-taken, opener-taken, when-taken, later-place}
use Rattle.formula_walk.proofs.OutLaws.{step_of, put_both, put_one}

-- What a pass sees.
pub seen-predicate : (p : Pass) (k c n : ℕ) (b : Builder) (out out' : List ℕ) (x y : Walk) → out_of out' y.listed ≡ listed_by p (record { step = k; condition = c; named = n }) (out_of out x.listed)
    → seen_at y b out' ≡ seen p k c (predicate n) (seen_at x b out)
unfolding Triples
seen-predicate Count k c n b out out' x y e = ap (λ (o : Out). record { words = b.words.now; store = b.store; out = o }) e
seen-predicate (Lists j) k c n b out out' x y e =
    ap (λ (o : Out). record { words = b.words.now; store = b.store; out = o }) (e ∙ put_one j (record { step = k; condition = c; named = n }) (out_of out x.listed))

pub seen_next : (p : Pass) (k c j : ℕ) (t : Tree) (x : Seen) → j ≡ k + 1 → seen p j c t x ≡ seen p k c (next t) x
unfolding Triples
seen_next Count k c j t x e = refl
seen_next (Lists i) k c j t x e = let q : j ≡ suc k = omega (arith, e) in rw q refl

pub seen-grouped : (p : Pass) (k c j : ℕ) (t : Tree) (x : Seen) → j ≡ k + 0 → seen p j c t x ≡ seen p k c (grouped t) x
unfolding Triples
seen-grouped Count k c j t x e = refl
seen-grouped (Lists i) k c j t x e = let q : j ≡ k = omega (arith, e) in rw q refl

pub seen-both : (p : Pass) (k c : ℕ) (t u : Tree) (x : Seen) → seen p k c u (seen p k c t x) ≡ seen p k c (both t u) x
seen-both Count k c t u x =
    let e : x.out.listed + predicates_of t + predicates_of u ≡ x.out.listed + (predicates_of t + predicates_of u) = omega arith in
    ap (λ (n : ℕ). record { words = x.words; store = x.store; out = out_of x.out.words n }) e
seen-both (Lists j) k c t u x =
    let X = Triples k c t x.words x.store in
    let Y = Triples k c u X.words X.store in
    ap (λ (o : Out). record { words = Y.words; store = Y.store; out = o }) (sym (put_both j X.answer Y.answer x.out))
    ∙ ap (λ (z : Outcome (List Triple)). record { words = z.words; store = z.store; out = put_all (only step_of j z.answer) x.out }) (sym (both_is k c x.words x.store t u))

pub seen-when : (p : Pass) (k c b j : ℕ) (t : Tree) (out : List ℕ) (x y : Walk) {d e : Builder} {r : ℕ} → j ≡ k + 0 → Did d e r (condition_in p c b) → y.listed ≡ x.listed → seen p j r t (seen_at y e out) ≡ seen p k c (when b t) (seen_at x d out)
seen-when Count k c b j t out x y {d} ej D l =
    rw l (ap (λ (z : Outcome ℕ). record { words = z.words; store = z.store; out = out_of out (x.listed + predicates_of t) }) D.is)
seen-when (Lists i) k c b j t out x y {d} ej D l =
    let q : j ≡ k = omega (arith, ej) in
    rw (l, q)
    (ap (λ (z : Outcome ℕ). record { words = (Triples k z.answer t z.words z.store).words; store = (Triples k z.answer t z.words z.store).store; out = put_all (only step_of i (Triples k z.answer t z.words z.store).answer) (out_of out x.listed) }) D.is
    ∙ ap (λ (z : Outcome (List Triple)). record { words = z.words; store = z.store; out = put_all (only step_of i z.answer) (out_of out x.listed) }) (sym (when_is k c d.words.now d.store b t)))

-- Nodes that were there are judged alike as the store grows.
pub limits-same : (g : Plan) (w w' : List ℕ) (c c' : ℕ) → g.count ≤ c → Extends w c w' c' → limits g w' ≡ limits g w
limits-same g w w' c c' h E = ap (λ (f : ℕ → Bool). record { predicates = within_table g.predicates; nodes = f }) (fun_ext (λ n. iff-same (is_user w' g.count n) (is_user w g.count n) (back n) (on n)))
  where
    on : (n : ℕ) → is_user w g.count n ≡ true → is_user w' g.count n ≡ true
    on n e = let p = user_is w g.count n e in is_user_lem w' g.count n p.0 (from-stays E.old n (omega (arith, p.0)) p.1)

    back : (n : ℕ) → is_user w' g.count n ≡ true → is_user w g.count n ≡ true
    back n e =
        let p = user_is w' g.count n e in
        is_user_lem w g.count n p.0 (from-stays {w = w'} {w' = w} {c = c} (record { at = λ k h. sym (E.old.at k h) }) n (omega (arith, p.0)) p.1)

untouched-none : (p : Pass) (w out : List ℕ) → Untouched p w out w out
untouched-none Count w out = (refl, refl)
untouched-none (Lists j) w out = tt

-- a walk that a row stops before anything is done
pub goes-stopped : {g : Plan} {o : Around} {p : Part} {text : List ℕ} {b : Builder} {out : List ℕ} {x : Walk} (f : Fault) → f.at ≤ length text
    → ((k : ℕ) → Enough p (drop x.at text) (suc k) → judge (limits g b.words.now) (suc k) o.allowed p (drop x.at text) ≡ wrong (number f.refusal) (drop f.at text)) → Goes g o p text b out x b out (Err f)
goes-stopped {g} {o} {p} {text} {b} {out} {x} f h J = record { within = h; later = later_refl b; extends = extends_refl b.words.now b.store.count; came = came }
  where
    came : (k : ℕ) → Enough p (drop x.at text) k → Came g o text b out x (judge (limits g b.words.now) k o.allowed p (drop x.at text)) b out (Err f)
    came zero E = absurd (omega (arith, E))
    came (suc k) E = rw (J k E) (refl, refl, untouched-none g.pass b.words.now out)

-- what was read is by its place
at_left : (text : List ℕ) (at : ℕ) → at ≤ length text → length (drop at text) + at ≡ length text
at_left text at h = omega (arith, length-drop at text)

-- A part that goes on inside: the reader's verdict is of a tree that holds the inner one.
module _ (g : Plan) (o a : Around) (text : List ℕ) (b b' : Builder) (out out₀ : List ℕ) (x y : Walk) (F : Tree → Tree)
    (S : (t : Tree) → seen g.pass a.step a.condition t (seen_at y b' out) ≡ seen g.pass o.step o.condition (F t) (seen_at x b out₀))
    (U : (w'' out'' : List ℕ) → Untouched g.pass b'.words.now out w'' out'' → Untouched g.pass b.words.now out₀ w'' out'') where
  came-follow : (b'' : Builder) (out'' : List ℕ) (z : Result Walk Fault) (v : Verdict) → Came g a text b' out y v b'' out'' z → Came g o text b out₀ x (follow v (λ t r. fine (F t) r)) b'' out'' z
  came-follow b'' out'' (Ok z) (fine t r) C = (C.0, C.1 ∙ S t, C.2)
  came-follow b'' out'' (Err f) (wrong k r) C = (C.0, C.1, U b''.words.now out'' C.2)
  came-follow b'' out'' (Err f) (fine t r) C = absurd C
  came-follow b'' out'' (Ok z) (wrong k r) C = absurd C

  pub leads_on : (p q : Part) → Later b b' → Extends b.words.now b.store.count b'.words.now b'.store.count
      → ((k : ℕ) → Enough p (drop x.at text) (suc k) → Enough q (drop y.at text) k × (judge (limits g b.words.now) (suc k) o.allowed p (drop x.at text) ≡ follow (judge (limits g b'.words.now) k a.allowed q (drop y.at text)) (λ t r. fine (F t) r)))
      → Leads g text out a q b' y b o p out₀ x
  leads_on p q L E J b'' out'' z G = record { within = G.within; later = later_trans L G.later; extends = extends_trans E G.extends; came = came }
    where
      came : (k : ℕ) → Enough p (drop x.at text) k → Came g o text b out₀ x (judge (limits g b.words.now) k o.allowed p (drop x.at text)) b'' out'' z
      came zero e = absurd (omega (arith, e))
      came (suc k) e =
          let j = J k e in
          subst (λ (v : Verdict). Came g o text b out₀ x v b'' out'' z) (sym j.1) (came-follow b'' out'' z (judge (limits g b'.words.now) k a.allowed q (drop y.at text)) (G.came k j.0))

-- a formula with no arrow is a conjunction
pub leads_conjunction : {g : Plan} {o : Around} {text : List ℕ} {b : Builder} {out : List ℕ} {x : Walk} → starts 98 (drop x.at text) ≡ false → Leads g text out o conjunction b x b o formula out x
leads_conjunction {g} {o} {text} {b} {out} {x} e b'' out'' z G = record { within = G.within; later = G.later; extends = G.extends; came = came }
  where
    came : (k : ℕ) → Enough formula (drop x.at text) k → Came g o text b out x (judge (limits g b.words.now) k o.allowed formula (drop x.at text)) b'' out'' z
    came zero h = absurd (omega (arith, h))
    came (suc k) h = subst (λ (v : Verdict). Came g o text b out x v b'' out'' z) (sym (reads_conjunction (limits g b.words.now) k o.allowed (drop x.at text) e)) (G.came k (omega (arith, h)))

-- a place further on, with no more predicates, is behind those counted
pub counts_later : (p : Pass) (x y : Walk) → Counts p x → y.listed ≡ x.listed → x.at ≤ y.at → Counts p y
counts_later Count x y C l h = omega (arith, C, l, h)
counts_later (Lists j) x y C l h = tt

-- the nodes that were there before are standard by themselves
pub standard-older : {w : List ℕ} {c d : ℕ} → Standard w c → 2 ≤ d → d ≤ c → Standard w d
standard-older S h k =
    record {
      two = h;
      room = omega (arith, k, S.room);
      most = omega (arith, k, S.most);
      var0 = S.var0;
      var1 = S.var1;
      low0 = S.low0;
      low1 = S.low1;
      high0 = S.high0;
      high1 = S.high1;
      shape = λ n a b. S.shape n a (omega (arith, k, b));
      once = λ m n a b e f. S.once m n a (omega (arith, k, b)) e (omega (arith, k, f));
    }

-- The condition inside an arrow.
condition-extends : (p : Pass) (c b : ℕ) (w : List ℕ) (s : Store) → Standard w s.count → c < s.count → b < s.count → Extends w s.count (condition_in p c b w s).words (condition_in p c b w s).store.count
condition-extends Count c b w s S C B = extends_refl w s.count
condition-extends (Lists j) c b w s S C B = (and-grows w s S c b C B).extends

condition_untouched : (p : Pass) (c b : ℕ) (w : List ℕ) (s : Store) (out w'' out'' : List ℕ) → Untouched p (condition_in p c b w s).words out w'' out'' → Untouched p w out w'' out''
condition_untouched Count c b w s out w'' out'' U = U
condition_untouched (Lists j) c b w s out w'' out'' U = tt

-- `b`, its number and the arrow
module _ {g : Plan} {o : Around} {text : List ℕ} {b : Builder} {x : Walk} (W : Walks g o text b x) (e : starts 98 (drop x.at text) ≡ true) where
  when_at : (k : ℕ) (v : Took) → when_token (is_user b.words.now g.count) o.allowed (get_or text x.at 0) (drop (suc x.at) text) ≡ v → judge (limits g b.words.now) (suc k) o.allowed formula (drop x.at text) ≡ onward v (when_read (limits g b.words.now) k o.allowed)
  when_at k v q =
      let c = byte_is text x.at 98 e in
      ap (judge (limits g b.words.now) (suc k) o.allowed formula) c.1 ∙ reads-when (limits g b.words.now) k o.allowed (drop (suc x.at) text)
      ∙ ap (λ (z : Took). onward z (when_read (limits g b.words.now) k o.allowed)) (ap (λ (c : ℕ). when_token (is_user b.words.now g.count) o.allowed c (drop (suc x.at) text)) (sym c.0) ∙ q)

  pub when-stopped : {f : Fault} (out : List ℕ) → TookAt text (Err f) (when_token (is_user b.words.now g.count) o.allowed (get_or text x.at 0) (drop (suc x.at) text)) → Goes g o formula text b out x b out (Err f)
  when-stopped {f} out T = goes-stopped f T.within (λ k E. when_at k _ (stops_is T))

  module _ {u : Token} (T : TookAt text (Ok u) (when_token (is_user b.words.now g.count) o.allowed (get_or text x.at 0) (drop (suc x.at) text))) where
    when_is-taken : (is_user b.words.now g.count u.number ≡ true) × (0 < o.allowed) × (length (drop u.at text) ≤ length (drop (suc x.at) text))
    when_is-taken =
        subst (Taken (λ n r. (is_user b.words.now g.count n ≡ true) × (0 < o.allowed) × (length r ≤ length (drop (suc x.at) text)))) (took_is T)
        (when-taken (is_user b.words.now g.count) o.allowed (get_or text x.at 0) (drop (suc x.at) text))

    pub when-node : u.number < b.store.count
    when-node = omega (arith, (user_is b.words.now g.count u.number when_is-taken.0).0, W.older)

    pub when_open : 0 < o.allowed
    when_open = when_is-taken.1

    pub when_later : x.at < u.at
    when_later = later-place text x.at u.at (starts_in text x.at 98 e) T.within when_is-taken.2

    module _ {r : ℕ} {b' : Builder} (D : Did b b' r (condition_in g.pass o.condition u.number)) where
      abbrev behind_arrow : Walk
      behind_arrow = record { at = u.at; listed = x.listed }

      when-extends : Extends b.words.now b.store.count b'.words.now b'.store.count
      when-extends =
          subst (λ (y : Outcome ℕ). Extends b.words.now b.store.count y.words y.store.count) (sym D.is)
          (condition-extends g.pass o.condition u.number b.words.now b.store b.sound.standard W.node when-node)

      when_walks : Walks g (inner_of o 0 r) text b' behind_arrow
      when_walks =
          record {
            begins = record { within = T.within; counts = counts_later g.pass x behind_arrow W.begins.counts refl (omega (arith, when_later)); nested = omega (arith, W.begins.nested, when_open) };
            two = W.two;
            older = omega (arith, W.older, D.later.more);
            node = D.node;
          }

      when_leads : (out : List ℕ) → Leads g text out (inner_of o 0 r) formula b' behind_arrow b o formula out x
      when_leads out =
          leads_on g o (inner_of o 0 r) text b b' out out x behind_arrow (when u.number)
          (λ t. seen-when g.pass o.step o.condition u.number (o.step + 0) t out x behind_arrow refl D refl)
          (λ w'' out'' U. condition_untouched g.pass o.condition u.number b.words.now b.store out w'' out'' (subst (λ (y : Outcome ℕ). Untouched g.pass y.words out w'' out'') D.is U))
          formula formula D.later when-extends
          (λ k E. (
            omega (arith, E, when_later, T.within, at_left text u.at T.within, at_left text x.at W.begins.within),
            when_at k _ (took_is T) ∙ ap (λ (l : Limits). follow (judge l k (o.allowed - 1) formula (drop u.at text)) (λ t r. fine (when u.number t) r)) (sym (limits-same g b.words.now b'.words.now b.store.count b'.store.count W.older when-extends)),
          ))

      pub when-inside : {a : Around} → a ≡ inner_of o 0 r → Walks g a text b' behind_arrow × (x.at < u.at) × ((out : List ℕ) → Leads g text out a formula b' behind_arrow b o formula out x)
      when-inside q =
          subst (λ (a : Around). Walks g a text b' behind_arrow × (x.at < u.at) × ((out : List ℕ) → Leads g text out a formula b' behind_arrow b o formula out x)) (sym q)
          (when_walks, when_later, when_leads)

-- what was seen of a whole part, where predicates are counted
pub seen_untouched : (p : Pass) (k c : ℕ) (t : Tree) (b : Builder) (out : List ℕ) (b'' : Builder) (out'' : List ℕ) (x z : Walk) → seen_at z b'' out'' ≡ seen p k c t (seen_at x b out) → Untouched p b.words.now out b''.words.now out''
seen_untouched Count k c t b out b'' out'' x z e = (ap (λ (s : Seen). s.words) e, ap (λ (s : Seen). s.out.words) e)
seen_untouched (Lists j) k c t b out b'' out'' x z e = tt

-- one predicate more is counted, at a place further on
counts-listed : (p : Pass) (r : Triple) (out out' : List ℕ) (x y : Walk) → Counts p x → out_of out' y.listed ≡ listed_by p r (out_of out x.listed) → x.at < y.at → Counts p y
counts-listed Count r out out' x y C e h = omega (arith, C, ap (λ (o : Out). o.listed) e, h)
counts-listed (Lists j) r out out' x y C e h = tt

-- a walk that has moved may go on, one more being open
pub walks-inside : {g : Plan} {o a : Around} {text : List ℕ} {b : Builder} {x : Walk} {more at : ℕ} → Walks g o text b x → 0 < o.allowed → more ≤ 1 → x.at < at → at ≤ length text → a ≡ inner_of o more o.condition → Walks g a text b (record { at = at; listed = x.listed })
walks-inside {g} {o} {a} {text} {b} {x} {more} {at} W d m h k ea =
    subst (λ (a : Around). Walks g a text b (record { at = at; listed = x.listed })) (sym ea)
    (record {
      begins = record { within = k; counts = counts_later g.pass x (record { at = at; listed = x.listed }) W.begins.counts refl (omega (arith, h)); nested = omega (arith, W.begins.nested, d, m) };
      two = W.two;
      older = W.older;
      node = W.node;
    })

-- an opener that was taken: one more may be open, and its place is passed
pub opener_passed : {text : List ℕ} {at : ℕ} (d : ℕ) {u : Token} → TookAt text (Ok u) (opener_token d (get_or text at 0) (drop (suc at) text)) → at < length text → (0 < d) × (at < u.at)
opener_passed {text} {at} d {u} T h =
    let p = subst (Taken (λ n r. (0 < d) × (length r ≤ length (drop (suc at) text)))) (took_is T) (opener-taken d (get_or text at 0) (drop (suc at) text)) in
    (p.0, later-place text at u.at h T.within p.1)

-- A unit.
module _ {g : Plan} {o : Around} {text : List ℕ} {b : Builder} {x : Walk} (W : Walks g o text b x) where
  -- what is no unit
  pub unit-none : (out : List ℕ) → starts 109 (drop x.at text) ≡ false → starts 78 (drop x.at text) ≡ false → starts 40 (drop x.at text) ≡ false → Goes g o unit text b out x b out (Err (outside x.at))
  unit-none out m n p = goes-stopped (outside x.at) W.begins.within (λ k E. reads_none (limits g b.words.now) k o.allowed (drop x.at text) m n p)

  -- a predicate
  named-came : (out out' : List ℕ) (y : Result Walk Fault) → x.at < length text → (v : Took) → Taken (λ n r. (within_table g.predicates n ≡ true) × (length r ≤ length (drop (suc x.at) text))) v → walk_place y ≤ length text
      → Named g o text out x v out' y → Came g o text b out x (onward v (λ n r. fine (predicate n) r)) b out' y
  named-came out out' (Ok y) i (took n r) K h N =
      let at : x.at < y.at = later-place text x.at y.at i h (omega (arith, K.1, ap length N.0)) in
      (N.0, seen-predicate g.pass o.step o.condition n b out out' x y N.1, counts-listed g.pass _ out out' x y W.begins.counts N.1 at)
  named-came out out' (Err f) i (stops k r) K h N = (N.0, N.1, subst (λ (l : List ℕ). Untouched g.pass b.words.now out b.words.now l) (sym N.2) (untouched-none g.pass b.words.now out))
  named-came out out' (Err f) i (took n r) K h N = absurd N
  named-came out out' (Ok y) i (stops k r) K h N = absurd N

  pub unit-named : {y : Result Walk Fault} {out out' : List ℕ} → starts 109 (drop x.at text) ≡ true → NamedAt g o text out x out' y → Goes g o unit text b out x b out' y
  unit-named {y} {out} {out'} e N = record { within = N.within; later = later_refl b; extends = extends_refl b.words.now b.store.count; came = came }
    where
      c : (get_or text x.at 0 ≡ 109) × (drop x.at text ≡ 109 ∷ drop (suc x.at) text)
      c = byte_is text x.at 109 e

      reads : (k : ℕ) → judge (limits g b.words.now) (suc k) o.allowed unit (drop x.at text) ≡ onward (number_token (within_table g.predicates) (get_or text x.at 0) (drop (suc x.at) text)) (λ n r. fine (predicate n) r)
      reads k =
          ap (judge (limits g b.words.now) (suc k) o.allowed unit) c.1 ∙ reads-predicate (limits g b.words.now) k o.allowed (drop (suc x.at) text)
          ∙ ap (λ (c : ℕ). onward (number_token (within_table g.predicates) c (drop (suc x.at) text)) (λ n r. fine (predicate n) r)) (sym c.0)

      came : (k : ℕ) → Enough unit (drop x.at text) k → Came g o text b out x (judge (limits g b.words.now) k o.allowed unit (drop x.at text)) b out' y
      came zero E = absurd (omega (arith, E))
      came (suc k) E =
          subst (λ (v : Verdict). Came g o text b out x v b out' y) (sym (reads k))
          (named-came out out' y (starts_in text x.at 109 e) (number_token (within_table g.predicates) (get_or text x.at 0) (drop (suc x.at) text)) (number-taken (within_table g.predicates) (get_or text x.at 0) (drop (suc x.at) text)) N.within N.named)

  -- `N` and `(`
  next_at : starts 78 (drop x.at text) ≡ true → (k : ℕ) (v : Took) → opener_token o.allowed (get_or text x.at 0) (drop (suc x.at) text) ≡ v
      → judge (limits g b.words.now) (suc k) o.allowed unit (drop x.at text) ≡ onward v (λ n r. follow (judge (limits g b.words.now) k (o.allowed - 1) unit r) (λ t r. fine (next t) r))
  next_at e k v q =
      let c = byte_is text x.at 78 e in
      ap (judge (limits g b.words.now) (suc k) o.allowed unit) c.1 ∙ reads-next (limits g b.words.now) k o.allowed (drop (suc x.at) text)
      ∙ ap (λ (z : Took). onward z (λ n r. follow (judge (limits g b.words.now) k (o.allowed - 1) unit r) (λ t r. fine (next t) r))) (ap (λ (c : ℕ). opener_token o.allowed c (drop (suc x.at) text)) (sym c.0) ∙ q)

  group_at : starts 40 (drop x.at text) ≡ true → (k : ℕ) (v : Took) → opener_token o.allowed (get_or text x.at 0) (drop (suc x.at) text) ≡ v
      → judge (limits g b.words.now) (suc k) o.allowed unit (drop x.at text) ≡ onward v (λ n r. follow (judge (limits g b.words.now) k (o.allowed - 1) formula r) judge_closing)
  group_at e k v q =
      let c = byte_is text x.at 40 e in
      ap (judge (limits g b.words.now) (suc k) o.allowed unit) c.1 ∙ reads_group (limits g b.words.now) k o.allowed (drop (suc x.at) text)
      ∙ ap (λ (z : Took). onward z (λ n r. follow (judge (limits g b.words.now) k (o.allowed - 1) formula r) judge_closing)) (ap (λ (c : ℕ). opener_token o.allowed c (drop (suc x.at) text)) (sym c.0) ∙ q)

  pub opener-stopped : {f : Fault} (out : List ℕ) → (starts 78 (drop x.at text) ≡ true) ⊎ (starts 40 (drop x.at text) ≡ true) → TookAt text (Err f) (opener_token o.allowed (get_or text x.at 0) (drop (suc x.at) text)) → Goes g o unit text b out x b out (Err f)
  opener-stopped {f} out (inl e) T = goes-stopped f T.within (λ k E. next_at e k _ (stops_is T))
  opener-stopped {f} out (inr e) T = goes-stopped f T.within (λ k E. group_at e k _ (stops_is T))

  module _ {u : Token} (T : TookAt text (Ok u) (opener_token o.allowed (get_or text x.at 0) (drop (suc x.at) text))) where
    -- the walk behind it
    abbrev opened_at : Walk
    opened_at = record { at = u.at; listed = x.listed }

    pub next-inside : {a : Around} (out : List ℕ) → starts 78 (drop x.at text) ≡ true → a ≡ inner_of o 1 o.condition → Walks g a text b opened_at × Leads g text out a unit b opened_at b o unit out x
    next-inside {a} out e ea =
        let p = opener_passed o.allowed T (starts_in text x.at 78 e) in (
          walks-inside W p.0 (omega arith) p.1 T.within ea,
          subst (λ (a : Around). Leads g text out a unit b opened_at b o unit out x) (sym ea)
              (leads_on g o (inner_of o 1 o.condition) text b b out out x opened_at next
              (λ t. seen_next g.pass o.step o.condition (o.step + 1) t (seen_at x b out) refl) (λ w'' out'' U. U) unit unit (later_refl b) (extends_refl b.words.now b.store.count)
              (λ k E. (omega (arith, E, p.1, at_left text u.at T.within, at_left text x.at W.begins.within), next_at e k _ (took_is T)))),
        )

    -- a formula inside, and what closes it
    group-came : (out : List ℕ) (b'' : Builder) (out'' : List ℕ) (y : Walk) (v : Result Walk Fault) → Closed text y v → walk_place v ≤ length text → (j : Verdict) → Came g (inner_of o 0 o.condition) text b out opened_at j b'' out'' (Ok y)
        → Came g o text b out x (follow j judge_closing) b'' out'' v
    group-came out b'' out'' y v S h (wrong k r) C = absurd C
    group-came out b'' out'' y (Ok v) S h (fine t r) C =
        subst (λ (r : List ℕ). Came g o text b out x (judge_closing t r) b'' out'' (Ok v)) (sym (starts_here text y.at 41 S.0) ∙ C.0) (
          S.1.left,
          ap (λ (l : ℕ). record { words = b''.words.now; store = b''.store; out = out_of out'' l }) S.1.listed ∙ C.1 ∙ seen-grouped g.pass o.step o.condition (o.step + 0) t (seen_at x b out) refl,
          counts_later g.pass y v C.2 S.1.listed (omega (arith, later-place text y.at v.at (starts_in text y.at 41 S.0) S.1.within (omega (arith, ap length S.1.left, spaces-length (drop (suc y.at) text))))),
        )
    group-came out b'' out'' y (Err f) S h (fine t r) C =
        subst (λ (j : Verdict). Came g o text b out x j b'' out'' (Err f)) (sym (byte_not 41 (drop y.at text) _ _ S.0) ∙ ap (judge_closing t) C.0)
        (ap (λ (f : Fault). number f.refusal) S.2, ap (λ (f : Fault). drop f.at text) S.2, seen_untouched g.pass (o.step + 0) o.condition t b out b'' out'' opened_at y C.1)

    closed-within : (y : Walk) (v : Result Walk Fault) → Closed text y v → walk_place v ≤ length text
    closed-within y (Ok v) S = S.1.within
    closed-within y (Err f) S = omega (arith, S.1, ap (λ (f : Fault). f.at) S.2)

    -- where a row stops it inside
    group_fault : (out : List ℕ) (b'' : Builder) (out'' : List ℕ) (f : Fault) (j : Verdict) → Came g (inner_of o 0 o.condition) text b out opened_at j b'' out'' (Err f) → Came g o text b out x (follow j judge_closing) b'' out'' (Err f)
    group_fault out b'' out'' f (fine t r) C = absurd C
    group_fault out b'' out'' f (wrong k r) C = C

    group-goes : {out : List ℕ} {b'' : Builder} {out'' : List ℕ} {z v : Result Walk Fault} → starts 40 (drop x.at text) ≡ true → walk_place v ≤ length text
        → ((j : Verdict) → Came g (inner_of o 0 o.condition) text b out opened_at j b'' out'' z → Came g o text b out x (follow j judge_closing) b'' out'' v)
        → Goes g (inner_of o 0 o.condition) formula text b out opened_at b'' out'' z → Goes g o unit text b out x b'' out'' v
    group-goes {out} {b''} {out''} {z} {v} e h on G = record { within = h; later = G.later; extends = G.extends; came = came }
      where
        came : (k : ℕ) → Enough unit (drop x.at text) k → Came g o text b out x (judge (limits g b.words.now) k o.allowed unit (drop x.at text)) b'' out'' v
        came zero E = absurd (omega (arith, E))
        came (suc k) E =
            let p : (0 < o.allowed) × (x.at < u.at) = opener_passed o.allowed T (starts_in text x.at 40 e) in
            subst (λ (j : Verdict). Came g o text b out x j b'' out'' v) (sym (group_at e k (took u.number (drop u.at text)) (took_is T)))
            (on (judge (limits g b.words.now) k (o.allowed - 1) formula (drop u.at text)) (G.came k (omega (arith, E, p.1, at_left text u.at T.within, at_left text x.at W.begins.within))))

    pub group-inside : {a : Around} (out : List ℕ) → starts 40 (drop x.at text) ≡ true → a ≡ inner_of o 0 o.condition
        → Walks g a text b opened_at
        × ((b'' : Builder) (out'' : List ℕ) (f : Fault) → Goes g a formula text b out opened_at b'' out'' (Err f) → Goes g o unit text b out x b'' out'' (Err f))
        × ((b'' : Builder) (out'' : List ℕ) (z : Walk) (v : Result Walk Fault) → Goes g a formula text b out opened_at b'' out'' (Ok z) → Closed text z v → Goes g o unit text b out x b'' out'' v)
    group-inside {a} out e ea =
        let p = opener_passed o.allowed T (starts_in text x.at 40 e) in (
          walks-inside W p.0 (omega arith) p.1 T.within ea,
          subst (λ (a : Around). (b'' : Builder) (out'' : List ℕ) (f : Fault) → Goes g a formula text b out opened_at b'' out'' (Err f) → Goes g o unit text b out x b'' out'' (Err f)) (sym ea)
              (λ b'' out'' f G. group-goes e G.within (group_fault out b'' out'' f) G),
          subst (λ (a : Around). (b'' : Builder) (out'' : List ℕ) (z : Walk) (v : Result Walk Fault) → Goes g a formula text b out opened_at b'' out'' (Ok z) → Closed text z v → Goes g o unit text b out x b'' out'' v) (sym ea)
              (λ b'' out'' z v G S. group-goes e (closed-within z v S) (group-came out b'' out'' z v S (closed-within z v S)) G),
        )
