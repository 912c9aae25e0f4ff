-- 01, 'Accesses': each access as the program that builds its conditions. "Inner operations come first, left to right".
use Rattle.std.specs.Prelude.{List, ℕ, ◌+◌, ◌*◌, length, get_or, set, replicate}
use Rattle.conditions.specs.Build.{Store, Outcome, Build, pure, next, ◌>>=◌, for_each}
use Rattle.conditions.specs.Make.{Variable}
use Rattle.conditions.specs.Ite.{Ite, Not, And, Or}
use Rattle.conditions.specs.Any.{Any}
use Rattle.model.specs.Record.{Record, h_at, l_at, cell_words, data_words, entry_at, address_of, data_of}

-- "u = 1, then for each bit u = And(u, Not And(a.h,a.l))"
unfoldable pub unique_bit : ℕ → ℕ → ℕ → Build ℕ
unique_bit h l u = do
  x ← And h l
  y ← Not x
  And u y

unfoldable pub Unique : ℕ → List ℕ → Build ℕ
Unique n a = for_each (λ i. unique_bit (h_at a i) (l_at a i)) 0 n 1

-- a write's h and s
pub record Marks : Type 0 where
  pub hard : ℕ
  pub soft : ℕ

-- "hard = And(c.h, Not c.l)": a control that is certainly 1
unfoldable pub Certain : ℕ → ℕ → Build ℕ
Certain h l = do
  x ← Not l
  And h x

-- "h = And(hard,u). s = Or(And(c.h,c.l), And(hard, Not u))."
unfoldable pub Write : ℕ → ℕ → ℕ → List ℕ → Build Marks
Write n ch cl a = do
  hard ← Certain ch cl
  u ← Unique n a
  h ← And hard u
  x ← And ch cl
  y ← Not u
  z ← And hard y
  s ← Or x z
  pure (record { hard = h; soft = s })

-- "for each bit i, in = And(in, Ite(index i, a.h, a.l)), index i being Make(i,0,1)"
unfoldable pub narrow_bit : ℕ → ℕ → ℕ → ℕ → Build ℕ
narrow_bit i h l m = do
  x ← Variable i
  t ← Ite x h l
  And m t

unfoldable pub Narrow : ℕ → List ℕ → ℕ → Build ℕ
Narrow n a m = for_each (λ i. narrow_bit i (h_at a i) (l_at a i)) 0 n m

-- each half of a word in its turn, "per bit h then l"
unfoldable pub half_step : (ℕ → ℕ → Build ℕ) → ℕ → List ℕ → Build (List ℕ)
half_step f j r = do
  x ← f j (get_or r j 0)
  pure (set r j x)

unfoldable pub EachHalf : (ℕ → ℕ → Build ℕ) → ℕ → List ℕ → Build (List ℕ)
EachHalf f k r = for_each (half_step f) 0 k r

-- "each half of r .. becomes Ite(hm, e, Ite(sm, Or(e,r), r)), e the entry's half"
unfoldable pub merge_half : ℕ → ℕ → ℕ → ℕ → Build ℕ
merge_half hm sm e r = do
  x ← Or e r
  y ← Ite sm x r
  Ite hm e y

-- "For each entry, oldest first: m = in, narrowed likewise by its address; hm = And(m,h); sm = And(m,s)"
unfoldable pub entry_step : Record → ℕ → List ℕ → List ℕ → Build (List ℕ)
entry_step r inside entry word = do
  m ← Narrow r.sizes.n (address_of r entry) inside
  hm ← And m (get_or entry 0 0)
  sm ← And m (get_or entry 1 0)
  EachHalf (λ k. merge_half hm sm (get_or (data_of r entry) k 0)) (cell_words r) word

-- "Then each half becomes Any(And(in, r))."
unfoldable pub settle_half : ℕ → ℕ → Build ℕ
settle_half inside r = do
  x ← And inside r
  Any x

-- "Look(a): in = 1, then for each bit .. The word r starts all (1,1)."
unfoldable pub Look : Record → List ℕ → List ℕ → Build (List ℕ)
Look r l a = do
  inside ← Narrow r.sizes.n a 1
  word ← for_each (λ j. entry_step r inside (entry_at r l j)) 0 r.entries (replicate (cell_words r) 1)
  EachHalf (λ k. settle_half inside) (cell_words r) word

-- 02: "Enable 1 gives the look, enable 0 the port's last word, X the bitwise union of both." S = And(e.h, e.l) where the enable is X;
-- each half r of the look, beside p of the held word: t = Ite(S, r, e.h), then Ite(t, r, p)
unfoldable pub hold_half : ℕ → ℕ → ℕ → ℕ → Build ℕ
hold_half s eh p r = do
  t ← Ite s r eh
  Ite t r p

-- "Read(e,a): Look(a), then", with the word that the port holds
unfoldable pub Read : Record → List ℕ → List ℕ → ℕ → ℕ → List ℕ → Build (List ℕ)
Read r l held eh el a = do
  looked ← Look r l a
  s ← And eh el
  EachHalf (λ k. hold_half s eh (get_or held k 0)) (data_words r) looked

-- "C = 1, and for each bit C = And(C, Or(Not r.h, d.h)), then with l": for each half of x and y
unfoldable pub inside_half : ℕ → ℕ → ℕ → Build ℕ
inside_half x y c = do
  p ← Not x
  q ← Or p y
  And c q

unfoldable pub Inside : ℕ → List ℕ → List ℕ → Build ℕ
Inside k x y = for_each (λ j. inside_half (get_or x j 0) (get_or y j 0)) 0 k 1

-- "Check(b,a,d), b a condition: Look; C .. Check condition becomes And(it, Or(Not b, C))."
unfoldable pub Check : Record → List ℕ → ℕ → List ℕ → List ℕ → Build ℕ
Check r l b a d = do
  word ← Look r l a
  c ← Inside (cell_words r) word d
  x ← Not b
  y ← Or x c
  And r.checked y

-- what an assert builds before its entry: the assert condition, Not b, and Or(Not b, And(A,C))
pub record AssertBuilt : Type 0 where
  pub condition : ℕ
  pub not_b : ℕ
  pub keep : ℕ

-- "Assert(b,a,d): Look; A likewise with d inside r; assert condition becomes And(it, Or(Not b, A)). Then C as in a check; if Or(Not b, And(A,C)) is 1"
unfoldable pub Assert : Record → List ℕ → ℕ → List ℕ → List ℕ → Build AssertBuilt
Assert r l b a d = do
  word ← Look r l a
  below ← Inside (cell_words r) d word
  v ← Not b
  y ← Or v below
  condition ← And r.asserted y
  above ← Inside (cell_words r) word d
  z ← And below above
  k ← Or v z
  pure (record { condition = condition; not_b = v; keep = k })
