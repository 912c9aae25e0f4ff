-- What a walk over a written formula promises: it goes as the reader does, and does at each tree that was read what its pass asks.
use Rattle.std.specs.Prelude.{◌≡◌, true, false, cond, List, [], ◌∷◌, ◌++◌, ℕ, suc, ◌+◌, ◌*◌, ◌-◌, ◌/◌, ◌<◌, ◌≤◌, eqb, ltb, length, get_or, take, drop, Option, Some, None, Result, Ok, Err}
use Rattle.formulas.specs.Language.{Tree, predicate, next, both, when, grouped, Part, formula, conjunction, unit, only}
use Rattle.formulas.specs.Reading.{spaces, Limits, Verdict, fine, wrong, judge, judge_text}
use Rattle.refusals.specs.declared.Refusal.TheVariants as rows
use Rattle.refusals.specs.Refusal.{number}
use Rattle.conditions.specs.Stores.{Extends}
use Rattle.conditions.specs.User.{is_user}
use Rattle.conditions.specs.Build.{Store, Outcome, pure}
use Rattle.conditions.specs.Ite.{And}
use Rattle.conditions.specs.declared.builder.Builder.{Builder}
use Rattle.conditions.specs.Builder.{Later}
use Rattle.model.specs.Formula.{Triple, Triples}
use Rattle.tokens.specs.declared.Fault.{Fault}
use Rattle.tokens.specs.Contract.{starts, Took, took, stops, number_token, within_table}
use Rattle.formula_walk.specs.declared.Pass.{Pass}
use Rattle.formula_walk.specs.declared.Pass.TheVariants.{Count, List as Lists}
use Rattle.formula_walk.specs.declared.Plan.{Plan}
use Rattle.formula_walk.specs.declared.Around.{Around}
use Rattle.formula_walk.specs.declared.Walk.{Walk}
use Rattle.formula_walk.specs.declared.Begun.{Begun}
use Rattle.formula_walk.specs.declared.Begun.TheVariants as begins

-- answer words, and how many triples stand in them
pub record Out : Type 0 where
  pub words : List ℕ
  pub listed : ℕ

abbrev pub out_of : List ℕ → ℕ → Out
out_of ws k = record { words = ws; listed = k }

-- one triple more, where there is space for it
unfoldable pub put : Triple → Out → Out
put t x =
    cond (ltb x.listed (length x.words / 3))
    (record { words = take (3 * x.listed) x.words ++ (t.step ∷ t.condition ∷ t.named ∷ drop (3 * x.listed + 3) x.words); listed = x.listed + 1 })
    x

abbrev pub put_all : List Triple → Out → Out
put_all [] x = x
put_all (t ∷ ts) x = put_all ts (put t x)

-- a triple at a pass: one more is counted, or it is put where it is of the pass's step
abbrev pub listed_by : Pass → Triple → Out → Out
listed_by Count t x = out_of x.words (x.listed + 1)
listed_by (Lists k) t x = cond (eqb t.step k) (put t x) x

-- the condition inside an arrow: nothing is built where predicates are counted
abbrev pub condition_in : Pass → ℕ → ℕ → List ℕ → Store → Outcome ℕ
condition_in Count c b w s = pure c w s
condition_in (Lists k) c b w s = And c b w s

-- what a walk has before it: node words, store and answer words
pub record Seen : Type 0 where
  pub words : List ℕ
  pub store : Store
  pub out : Out

-- how many predicates a formula names
abbrev pub predicates_of : Tree → ℕ
predicates_of (predicate n) = 1
predicates_of (next t) = predicates_of t
predicates_of (both t u) = predicates_of t + predicates_of u
predicates_of (when b t) = predicates_of t
predicates_of (grouped t) = predicates_of t

-- a tree at a pass, below k letters N and the condition c
abbrev pub listed_as : ℕ → Outcome (List Triple) → Out → Seen
listed_as j x o = record { words = x.words; store = x.store; out = put_all (only (λ (t : Triple). t.step) j x.answer) o }

abbrev pub seen : Pass → ℕ → ℕ → Tree → Seen → Seen
seen Count k c t x = record { words = x.words; store = x.store; out = out_of x.out.words (x.out.listed + predicates_of t) }
seen (Lists j) k c t x = listed_as j (Triples k c t x.words x.store) x.out

-- the limits of a walk
abbrev pub limits : Plan → List ℕ → Limits
limits g w = record { predicates = within_table g.predicates; nodes = is_user w g.count }

-- a count of predicates that one more does not overflow
abbrev pub MayCount : Pass → ℕ → Type 0
MayCount Count k = k < 18446744073709551615
MayCount (Lists j) k = Unit {0}

-- a place in the text that is behind those counted
abbrev pub Counts : Pass → Walk → Type 0
Counts Count x = x.listed ≤ x.at
Counts (Lists k) x = Unit {0}

-- behind the byte at y's place, and its spaces
pub record Behind (text : List ℕ) (y z : Walk) : Type 0 where
  pub within : z.at ≤ length text
  pub listed : z.listed ≡ y.listed
  pub left : drop z.at text ≡ spaces (drop (suc y.at) text)

-- inside an arrow, an `N` or parentheses
abbrev pub inner_of : Around → ℕ → ℕ → Around
inner_of o more c = record { allowed = o.allowed - 1; step = o.step + more; condition = c }

-- a place at which a walk may go on: "32" are allowed, and those that are open and those that may be are no more
pub record Begins (g : Plan) (o : Around) (text : List ℕ) (x : Walk) : Type 0 where
  pub within : x.at ≤ length text
  pub counts : Counts g.pass x
  pub nested : o.step + o.allowed ≤ 32

pub record Walks (g : Plan) (o : Around) (text : List ℕ) (b : Builder) (x : Walk) : Type 0 where
  pub begins : Begins g o text x
  pub two : 2 ≤ g.count
  pub older : g.count ≤ b.store.count
  pub node : o.condition < b.store.count

-- where predicates are counted nothing is touched
abbrev pub Untouched : Pass → List ℕ → List ℕ → List ℕ → List ℕ → Type 0
Untouched Count w out w' out' = (w' ≡ w) × (out' ≡ out)
Untouched (Lists k) w out w' out' = Unit {0}

abbrev pub seen_at : Walk → Builder → List ℕ → Seen
seen_at x b out = record { words = b.words.now; store = b.store; out = out_of out x.listed }

-- the walk x came to y, or to a fault, by what the reader says
abbrev pub Came : Plan → Around → List ℕ → Builder → List ℕ → Walk → Verdict → Builder → List ℕ → Result Walk Fault → Type 0
Came g o text b out x (fine t r) b' out' (Ok y) = (drop y.at text ≡ r) × (seen_at y b' out' ≡ seen g.pass o.step o.condition t (seen_at x b out)) × Counts g.pass y
Came g o text b out x (wrong k r) b' out' (Err f) = (number f.refusal ≡ k) × (drop f.at text ≡ r) × Untouched g.pass b.words.now out b'.words.now out'
Came g o text b out x (fine t r) b' out' (Err f) = ⊥
Came g o text b out x (wrong k r) b' out' (Ok y) = ⊥

abbrev pub rank : Part → ℕ
rank formula = 2
rank conjunction = 1
rank unit = 0

-- the reader has calls enough for a part
abbrev pub Enough : Part → List ℕ → ℕ → Type 0
Enough p s k = 3 * length s + rank p < k

-- where a walk stands, or met a fault
abbrev pub walk_place : Result Walk Fault → ℕ
walk_place (Ok y) = y.at
walk_place (Err f) = f.at

-- the walk over a part, whatever the reader's bound on its calls, if it is enough; after a fault too the store has the nodes that it had
pub record Goes (g : Plan) (o : Around) (p : Part) (text : List ℕ) (b : Builder) (out : List ℕ) (x : Walk) (b' : Builder) (out' : List ℕ) (y : Result Walk Fault) : Type 0 where
  pub within : walk_place y ≤ length text
  pub later : Later b b'
  pub extends : Extends b.words.now b.store.count b'.words.now b'.store.count
  pub came : (k : ℕ) → Enough p (drop x.at text) k → Came g o text b out x (judge (limits g b.words.now) k o.allowed p (drop x.at text)) b' out' y

-- where a walk y inside goes, the walk x goes
abbrev pub Leads : Plan → List ℕ → List ℕ → Around → Part → Builder → Walk → Builder → Around → Part → List ℕ → Walk → Type 0
Leads g text out a q b' y b o p out₀ x =
    (b'' : Builder) (out'' : List ℕ) (z : Result Walk Fault) → Goes g a q text b' out y b'' out'' z → Goes g o p text b out₀ x b'' out'' z

-- how a formula begins
abbrev pub ArrowIs : Plan → Around → List ℕ → Builder → Walk → Builder → Result (Option (Around × Walk)) Fault → Type 0
ArrowIs g o text b x b' (Ok None) =
    Walks g o text b' x × ((out : List ℕ) → Leads g text out o conjunction b' x b o formula out x)
ArrowIs g o text b x b' (Err f) = (out : List ℕ) → Goes g o formula text b out x b' out (Err f)
ArrowIs g o text b x b' (Ok (Some p)) =
    Walks g p.0 text b' p.1 × (x.at < p.1.at) × ((out : List ℕ) → Leads g text out p.0 formula b' p.1 b o formula out x)

-- the fault of what is outside the language, here
abbrev pub outside : ℕ → Fault
outside at = record { refusal = rows.Language; at = at }

-- behind a formula in parentheses: `)` stands there, or is missing
abbrev pub Closed : List ℕ → Walk → Result Walk Fault → Type 0
Closed text z (Ok v) = (starts 41 (drop z.at text) ≡ true) × Behind text z v
Closed text z (Err f) = (starts 41 (drop z.at text) ≡ false) × (z.at ≤ length text) × (f ≡ outside z.at)

-- how a unit begins, whatever the builder
abbrev pub BegunIs : Plan → Around → List ℕ → List ℕ → Walk → List ℕ → Result Begun Fault → Type 0
BegunIs g o text out x out' (Ok (begins.Done y)) = (b : Builder) → Walks g o text b x → Goes g o unit text b out x b out' (Ok y)
BegunIs g o text out x out' (Ok (begins.Next a y)) =
    (out' ≡ out) × (x.at < y.at) × ((b : Builder) → Walks g o text b x → Walks g a text b y × Leads g text out a unit b y b o unit out x)
BegunIs g o text out x out' (Ok (begins.Group a y)) =
    (out' ≡ out) × (x.at < y.at)
    × ((b : Builder) → Walks g o text b x
    → Walks g a text b y
    × ((b'' : Builder) (out'' : List ℕ) (f : Fault) → Goes g a formula text b out y b'' out'' (Err f) → Goes g o unit text b out x b'' out'' (Err f))
    × ((b'' : Builder) (out'' : List ℕ) (z : Walk) (v : Result Walk Fault) → Goes g a formula text b out y b'' out'' (Ok z) → Closed text z v → Goes g o unit text b out x b'' out'' v))
BegunIs g o text out x out' (Err f) = (b : Builder) → Walks g o text b x → Goes g o unit text b out x b out' (Err f)

-- the walk x came to y over `m` and its number
abbrev pub Named : Plan → Around → List ℕ → List ℕ → Walk → Took → List ℕ → Result Walk Fault → Type 0
Named g o text out x (took n r) out' (Ok y) =
    (drop y.at text ≡ r) × (out_of out' y.listed ≡ listed_by g.pass (record { step = o.step; condition = o.condition; named = n }) (out_of out x.listed))
Named g o text out x (stops k r) out' (Err f) = (number f.refusal ≡ k) × (drop f.at text ≡ r) × (out' ≡ out)
Named g o text out x (took n r) out' (Err f) = ⊥
Named g o text out x (stops k r) out' (Ok y) = ⊥

pub record NamedAt (g : Plan) (o : Around) (text out : List ℕ) (x : Walk) (out' : List ℕ) (y : Result Walk Fault) : Type 0 where
  pub within : walk_place y ≤ length text
  pub named : Named g o text out x (number_token (within_table g.predicates) (get_or text x.at 0) (drop (suc x.at) text)) out' y

-- behind a whole formula: the text's end, or what is outside the language
abbrev pub Ended : List ℕ → Walk → Result Walk Fault → Type 0
Ended text y (Ok z) = (y.at ≡ length text) × (z ≡ y)
Ended text y (Err f) = (y.at < length text) × (f ≡ outside y.at)

-- before a walk over a whole text: nothing is open around it, and the condition is node 1
abbrev pub outermost : Around
outermost = record { allowed = 32; step = 0; condition = 1 }

abbrev pub begun : ℕ → Walk
begun listed = record { at = 0; listed = listed }

-- where predicates are counted, none is before
abbrev pub CountsFrom : Pass → ℕ → Type 0
CountsFrom Count listed = listed ≡ 0
CountsFrom (Lists k) listed = Unit {0}

pub record MayWalk (g : Plan) (b : Builder) (listed : ℕ) : Type 0 where
  pub two : 2 ≤ g.count
  pub older : g.count ≤ b.store.count
  pub counts : CountsFrom g.pass listed

-- a walk over a whole text came to y, or to a fault, by what the reader says of it
pub record Walked (g : Plan) (text : List ℕ) (b : Builder) (out : List ℕ) (listed : ℕ) (b' : Builder) (out' : List ℕ) (y : Result Walk Fault) : Type 0 where
  pub within : walk_place y ≤ length text
  pub later : Later b b'
  pub extends : Extends b.words.now b.store.count b'.words.now b'.store.count
  pub came : Came g outermost text b out (begun listed) (judge_text (limits g b.words.now) text) b' out' y
