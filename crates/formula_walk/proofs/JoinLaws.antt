-- Units joined by `&`, and the end of a whole text.
use Rattle.std.proofs.Common.{◌≡◌, ℕ, zero, suc, ◌+◌, ◌*◌, ◌-◌, ◌<◌, ◌≤◌, true, false, List, [], ◌∷◌, length, drop, Result, Ok, Err, refl, sym, ap, subst, ◌∙◌, arith, length-drop}
use Rattle.formulas.specs.Language.{Tree, both, formula, conjunction, unit}
use Rattle.formulas.specs.Reading.{spaces, Limits, Verdict, fine, wrong, follow, judge_joining, judge, judge_ended}
use Rattle.formulas.proofs.ReadingLaws.{judge_shorter}
use Rattle.formulas.proofs.CompleteLaws.{spaces-length}
use Rattle.conditions.specs.declared.builder.Builder.{Builder}
use Rattle.conditions.proofs.Promises.{extends_trans, later_trans}
use Rattle.tokens.specs.declared.Fault.{Fault}
use Rattle.tokens.specs.Contract.{starts, Left}
use Rattle.tokens.proofs.TokenLaws.{starts_in, starts_here, byte_not}
use Rattle.formula_walk.specs.declared.Pass.{Pass}
use Rattle.formula_walk.specs.declared.Pass.TheVariants.{Count, List as Lists}
use Rattle.formula_walk.specs.declared.Plan.{Plan}
use Rattle.formula_walk.specs.declared.Around.{Around}
use Rattle.formula_walk.specs.declared.Walk.{Walk}
use Rattle.formula_walk.specs.Contract.{out_of, Seen, seen, limits, Counts, Behind, Walks, Untouched, seen_at, Came, Enough, Goes, Leads, outside, Ended, outermost, begun, CountsFrom, MayWalk, Walked}
use Rattle.formula_walk.proofs.WalkLaws.{limits-same, seen_untouched, seen-both}

-- Nothing is touched by two parts that touch nothing.
untouched-both : (p : Pass) (w out w' out' w'' out'' : List ℕ) → Untouched p w out w' out' → Untouched p w' out' w'' out'' → Untouched p w out w'' out''
untouched-both Count w out w' out' w'' out'' a b = (b.0 ∙ a.0, b.1 ∙ a.1)
untouched-both (Lists j) w out w' out' w'' out'' a b = tt

-- a part that was read: its tree, what is left of the text, and what the pass has seen of it
pub record Read (g : Plan) (o : Around) (text : List ℕ) (b : Builder) (out : List ℕ) (x : Walk) (b' : Builder) (out' : List ℕ) (y : Walk) (v : Verdict) : Type 0 where
  pub tree : Tree
  pub is : v ≡ fine tree (drop y.at text)
  pub seen : seen_at y b' out' ≡ seen g.pass o.step o.condition tree (seen_at x b out)
  pub counts : Counts g.pass y

-- a walk that no row stopped has read its part; one that a row stopped is stopped in whatever follows
came-read : (g : Plan) (o : Around) (text : List ℕ) (b : Builder) (out : List ℕ) (x : Walk) (b' : Builder) (out' : List ℕ) (y : Walk) (v : Verdict) → Came g o text b out x v b' out' (Ok y) → Read g o text b out x b' out' y v
came-read g o text b out x b' out' y (fine t r) C = record { tree = t; is = ap (λ (r : List ℕ). fine t r) (sym C.0); seen = C.1; counts = C.2 }
came-read g o text b out x b' out' y (wrong k r) C = absurd C

came-stopped : (g : Plan) (o : Around) (text : List ℕ) (b : Builder) (out : List ℕ) (x : Walk) (b' : Builder) (out' : List ℕ) (e : Fault) (v : Verdict) (f : Tree → List ℕ → Verdict) → Came g o text b out x v b' out' (Err e)
    → Came g o text b out x (follow v f) b' out' (Err e)
came-stopped g o text b out x b' out' e (fine t r) f C = absurd C
came-stopped g o text b out x b' out' e (wrong k r) f C = C

-- How far a conjunction has come behind one of its units: it ends there, or goes on behind `&` as one that begins there.
pub record Joining (g : Plan) (o : Around) (text : List ℕ) (b : Builder) (out : List ℕ) (x : Walk) (b' : Builder) (out' : List ℕ) (y : Walk) : Type 0 where
  pub last : starts 38 (drop y.at text) ≡ false → Goes g o conjunction text b out x b' out' (Ok y)
  pub walks : Walks g o text b' y
  pub later : x.at < y.at
  pub more : starts 38 (drop y.at text) ≡ true → (z : Walk) → Behind text y z → Leads g text out' o conjunction b' z b o conjunction out x

-- the walk behind `&`
pub behind_later : {text : List ℕ} {y z : Walk} → y.at < length text → Behind text y z → y.at < z.at
behind_later {text} {y} {z} h B =
    omega (arith, h, B.within, length-drop z.at text, ap length B.left, spaces-length (drop (suc y.at) text), length-drop (suc y.at) text)

counts_later : (p : Pass) (y z : Walk) → z.listed ≡ y.listed → y.at < z.at → Counts p y → Counts p z
counts_later Count y z e h c = omega (arith, e, h, c)
counts_later (Lists k) y z e h c = tt

pub walks_behind : {g : Plan} {o : Around} {text : List ℕ} {b : Builder} {y z : Walk} → Walks g o text b y → y.at < length text → Behind text y z → Walks g o text b z
walks_behind {g} {o} {text} {b} {y} {z} W h B =
    record { begins = record { within = B.within; counts = counts_later g.pass y z B.listed (behind_later h B) W.begins.counts; nested = W.begins.nested }; two = W.two; older = W.older; node = W.node }

-- a unit that a row stops stops the conjunction that it begins
pub unit-stopped : {g : Plan} {o : Around} {text : List ℕ} {b : Builder} {out : List ℕ} {x : Walk} {b' : Builder} {out' : List ℕ} {f : Fault} → Goes g o unit text b out x b' out' (Err f) → Goes g o conjunction text b out x b' out' (Err f)
unit-stopped {g} {o} {text} {b} {out} {x} {b'} {out'} {f} G = record { within = G.within; later = G.later; extends = G.extends; came = came }
  where
    came : (k : ℕ) → Enough conjunction (drop x.at text) k → Came g o text b out x (judge (limits g b.words.now) k o.allowed conjunction (drop x.at text)) b' out' (Err f)
    came zero e = absurd (omega (arith, e))
    came (suc k) e = came-stopped g o text b out x b' out' f (judge (limits g b.words.now) k o.allowed unit (drop x.at text)) (judge_joining (judge (limits g b.words.now) k) o.allowed) (G.came k (omega (arith, e)))

-- The unit with which a conjunction begins.
module _ {g : Plan} {o : Around} {text : List ℕ} {b : Builder} {out : List ℕ} {x : Walk} {b' : Builder} {out' : List ℕ} {y : Walk} (W : Walks g o text b x) (G : Goes g o unit text b out x b' out' (Ok y)) where
  unit-read : (k : ℕ) → Enough unit (drop x.at text) k → Read g o text b out x b' out' y (judge (limits g b.words.now) k o.allowed unit (drop x.at text))
  unit-read k e = came-read g o text b out x b' out' y (judge (limits g b.words.now) k o.allowed unit (drop x.at text)) (G.came k e)

  -- what is left is shorter
  unit_shorter : length (drop y.at text) < length (drop x.at text)
  unit_shorter =
      let R = unit-read (3 * length (drop x.at text) + 1) (omega arith) in
      judge_shorter (limits g b.words.now) (3 * length (drop x.at text) + 1) o.allowed unit (drop x.at text) R.tree (drop y.at text) R.is

  unit_walks : Walks g o text b' y
  unit_walks =
      let R = unit-read (3 * length (drop x.at text) + 1) (omega arith) in
      record { begins = record { within = G.within; counts = R.counts; nested = W.begins.nested }; two = W.two; older = omega (arith, W.older, G.later.more); node = omega (arith, W.node, G.later.more) }

  -- no `&` is behind it; or the conjunction goes on behind `&`
  unit-last : starts 38 (drop y.at text) ≡ false → Goes g o conjunction text b out x b' out' (Ok y)
  unit-last n = record { within = G.within; later = G.later; extends = G.extends; came = came }
    where
      came : (k : ℕ) → Enough conjunction (drop x.at text) k → Came g o text b out x (judge (limits g b.words.now) k o.allowed conjunction (drop x.at text)) b' out' (Ok y)
      came zero e = absurd (omega (arith, e))
      came (suc k) e =
          let R = unit-read k (omega (arith, e)) in
          subst (λ (v : Verdict). Came g o text b out x v b' out' (Ok y))
          (sym (ap (λ (v : Verdict). follow v (judge_joining (judge (limits g b.words.now) k) o.allowed)) R.is ∙ byte_not 38 (drop y.at text) _ _ n))
          (refl, R.seen, R.counts)

  -- the tree of a unit and the conjunction behind it
  joined-came : (s : Tree) → seen_at y b' out' ≡ seen g.pass o.step o.condition s (seen_at x b out) → (z : Walk) → z.listed ≡ y.listed → (b'' : Builder) (out'' : List ℕ) (u : Result Walk Fault) (v : Verdict)
      → Came g o text b' out' z v b'' out'' u → Came g o text b out x (follow v (λ t r. fine (both s t) r)) b'' out'' u
  joined-came s S z el b'' out'' (Ok u) (fine t r) C =
      let here : seen_at z b' out' ≡ seen_at y b' out' = ap (λ (l : ℕ). record { words = b'.words.now; store = b'.store; out = out_of out' l }) el in
      (C.0, C.1 ∙ ap (λ (e : Seen). seen g.pass o.step o.condition t e) (here ∙ S) ∙ seen-both g.pass o.step o.condition s t (seen_at x b out), C.2)
  joined-came s S z el b'' out'' (Err f) (wrong k r) C =
      (C.0, C.1, untouched-both g.pass b.words.now out b'.words.now out' b''.words.now out'' (seen_untouched g.pass o.step o.condition s b out b' out' x y S) C.2)
  joined-came s S z el b'' out'' (Err f) (fine t r) C = absurd C
  joined-came s S z el b'' out'' (Ok u) (wrong k r) C = absurd C

  unit-more : starts 38 (drop y.at text) ≡ true → (z : Walk) → Behind text y z → Leads g text out' o conjunction b' z b o conjunction out x
  unit-more s z B b'' out'' u C = record { within = C.within; later = later_trans G.later C.later; extends = extends_trans G.extends C.extends; came = came }
    where
      came : (k : ℕ) → Enough conjunction (drop x.at text) k → Came g o text b out x (judge (limits g b.words.now) k o.allowed conjunction (drop x.at text)) b'' out'' u
      came zero e = absurd (omega (arith, e))
      came (suc k) e =
          let R = unit-read k (omega (arith, e)) in
          let h = starts_here text y.at 38 s in
          let enough : Enough conjunction (drop z.at text) k =
          omega (arith, e, unit_shorter, ap length h, ap length B.left, spaces-length (drop (suc y.at) text)) in
          subst (λ (v : Verdict). Came g o text b out x v b'' out'' u)
          (sym (ap (λ (v : Verdict). follow v (judge_joining (judge (limits g b.words.now) k) o.allowed)) R.is ∙ ap (judge_joining (judge (limits g b.words.now) k) o.allowed R.tree) h
          ∙ ap (λ (l : List ℕ). follow (judge (limits g b.words.now) k o.allowed conjunction l) (λ t r. fine (both R.tree t) r)) (sym B.left)
          ∙ ap (λ (l : Limits). follow (judge l k o.allowed conjunction (drop z.at text)) (λ t r. fine (both R.tree t) r)) (sym (limits-same g b.words.now b'.words.now b.store.count b'.store.count W.older G.extends))))
          (joined-came R.tree R.seen z B.listed b'' out'' u (judge (limits g b'.words.now) k o.allowed conjunction (drop z.at text)) (C.came k enough))

  -- how far it has come
  pub joining_unit : Joining g o text b out x b' out' y
  joining_unit = record { last = unit-last; walks = unit_walks; later = omega (arith, unit_shorter, length-drop x.at text, length-drop y.at text); more = unit-more }

-- behind one unit more; and where a row stops that
module _ {g : Plan} {o : Around} {text : List ℕ} {b : Builder} {out : List ℕ} {x : Walk} {b' : Builder} {out' : List ℕ} {y z : Walk} (J : Joining g o text b out x b' out' y) (s : starts 38 (drop y.at text) ≡ true) (B : Behind text y z) where
  pub joining-more : {b'' : Builder} {out'' : List ℕ} {u : Walk} → Goes g o unit text b' out' z b'' out'' (Ok u) → Joining g o text b out x b'' out'' u
  joining-more {b''} {out''} {u} G =
      let in-text = starts_in text y.at 38 s in
      let K = joining_unit (walks_behind J.walks in-text B) G in
      let L = J.more s z B in
      record { last = λ r. L b'' out'' (Ok u) (K.last r); walks = K.walks; later = omega (arith, J.later, behind_later in-text B, K.later); more = λ r v B c out e G. L c out e (K.more r v B c out e G) }

  pub joining-stopped : {b'' : Builder} {out'' : List ℕ} {f : Fault} → Goes g o unit text b' out' z b'' out'' (Err f) → Goes g o conjunction text b out x b'' out'' (Err f)
  joining-stopped {b''} {out''} {f} G = J.more s z B b'' out'' (Err f) (unit-stopped G)

  -- one unit more leaves less
  pub joins_less : {b'' : Builder} {out'' : List ℕ} {u : Walk} → Goes g o unit text b' out' z b'' out'' (Ok u) → length text - u.at < length text - y.at
  joins_less G =
      let in-text = starts_in text y.at 38 s in
      omega (arith, in-text, behind_later in-text B, (joining_unit (walks_behind J.walks in-text B) G).later, G.within)

-- A whole text.
counts-from : (p : Pass) (listed at : ℕ) → CountsFrom p listed → Counts p (record { at = at; listed = listed })
counts-from Count listed at e = omega (arith, e)
counts-from (Lists k) listed at e = tt

-- the walk behind the spaces before a formula
pub may-begin : {g : Plan} {text : List ℕ} {b : Builder} {listed at : ℕ} → MayWalk g b listed → at ≤ length text → Walks g outermost text b (record { at = at; listed = listed })
may-begin {g} {text} {b} {listed} {at} M h =
    record { begins = record { within = h; counts = counts-from g.pass listed at M.counts; nested = omega arith }; two = M.two; older = M.older; node = omega (arith, M.two, M.older) }

ended-past : (t : Tree) (l : List ℕ) → 0 < length l → judge_ended t l ≡ wrong 15 l
ended-past t [] h = absurd (omega (arith, h))
ended-past t (c ∷ l) h = refl

ended-whole : (t : Tree) (l : List ℕ) → length l ≡ 0 → judge_ended t l ≡ fine t l
ended-whole t [] h = refl
ended-whole t (c ∷ l) h = absurd (omega (arith, h))

-- a walk's place does not bear on what it came to
came-begun : (g : Plan) (text : List ℕ) (b : Builder) (out : List ℕ) (listed at : ℕ) (b' : Builder) (out' : List ℕ) (y : Result Walk Fault) (v : Verdict) → Came g outermost text b out (record { at = at; listed = listed }) v b' out' y
    → Came g outermost text b out (begun listed) v b' out' y
came-begun g text b out listed at b' out' (Ok y) (fine t r) C = C
came-begun g text b out listed at b' out' (Err f) (wrong k r) C = C
came-begun g text b out listed at b' out' (Err f) (fine t r) C = absurd C
came-begun g text b out listed at b' out' (Ok y) (wrong k r) C = absurd C

-- what the reader says of the formula behind the spaces with which a text begins
abbrev verdict : Plan → List ℕ → Builder → Verdict
verdict g text b = judge (limits g b.words.now) (3 * length text + 3) 32 formula (spaces text)

-- from a walk over a formula, behind the spaces before it, to one over the whole text
module _ {g : Plan} {text : List ℕ} {b : Builder} {out : List ℕ} {listed at : ℕ} {b' : Builder} {out' : List ℕ} (L : Left text at (spaces text)) where
  came-whole : {y : Result Walk Fault} → Goes g outermost formula text b out (record { at = at; listed = listed }) b' out' y → Came g outermost text b out (begun listed) (verdict g text b) b' out' y
  came-whole {y} G =
      subst (λ (l : List ℕ). Came g outermost text b out (begun listed) (judge (limits g b.words.now) (3 * length text + 3) 32 formula l) b' out' y) L.is
      (came-begun g text b out listed at b' out' y (judge (limits g b.words.now) (3 * length text + 3) 32 formula (drop at text)) (G.came (3 * length text + 3) (omega (arith, length-drop at text))))

  pub walked-stopped : {f : Fault} → Goes g outermost formula text b out (record { at = at; listed = listed }) b' out' (Err f) → Walked g text b out listed b' out' (Err f)
  walked-stopped {f} G = record { within = G.within; later = G.later; extends = G.extends; came = came-stopped g outermost text b out (begun listed) b' out' f (verdict g text b) judge_ended (came-whole G) }

  walked-by : {y : Walk} (z : Result Walk Fault) → Goes g outermost formula text b out (record { at = at; listed = listed }) b' out' (Ok y) → Ended text y z → Walked g text b out listed b' out' z
  walked-by {y} (Ok z) G E =
      let R = came-read g outermost text b out (begun listed) b' out' y (verdict g text b) (came-whole G) in
      subst (λ (z : Walk). Walked g text b out listed b' out' (Ok z)) (sym E.1)
      (record {
        within = G.within;
        later = G.later;
        extends = G.extends;
        came =
            subst (λ (v : Verdict). Came g outermost text b out (begun listed) v b' out' (Ok y))
            (sym (ap (λ (v : Verdict). follow v judge_ended) R.is ∙ ended-whole R.tree (drop y.at text) (omega (arith, E.0, length-drop y.at text))))
            (refl, R.seen, R.counts);
      })
  walked-by {y} (Err f) G E =
      let R = came-read g outermost text b out (begun listed) b' out' y (verdict g text b) (came-whole G) in
      subst (λ (f : Fault). Walked g text b out listed b' out' (Err f)) (sym E.1)
      (record {
        within = G.within;
        later = G.later;
        extends = G.extends;
        came =
            subst (λ (v : Verdict). Came g outermost text b out (begun listed) v b' out' (Err (outside y.at)))
            (sym (ap (λ (v : Verdict). follow v judge_ended) R.is ∙ ended-past R.tree (drop y.at text) (omega (arith, E.0, length-drop y.at text))))
            (refl, refl, seen_untouched g.pass 0 1 R.tree b out b' out' (begun listed) y R.seen);
      })

  pub walked : {y : Walk} {z : Result Walk Fault} → Goes g outermost formula text b out (record { at = at; listed = listed }) b' out' (Ok y) → Ended text y z → Walked g text b out listed b' out' z
  walked {y} {z} G E = walked-by z G E
