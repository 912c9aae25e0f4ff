-- Bytes, spaces and digits at a place of a text, and the tokens that are made of them.
use Rattle.std.proofs.Common.{◌≡◌, ◌==◌, ℕ, zero, suc, ◌+◌, ◌-◌, ◌<◌, ◌≤◌, Bool, true, false, cond, ◌&&◌, List, [], ◌∷◌, length, get_or, drop, take, take_while, fold, T, eqb, ltb, leb, leb→le, le→leb, eqb→eq, Option, Some, None, Result, Ok, Err, refl, sym, ap, subst, ◌∙◌, true≢false, arith, length-drop, drop-drop, drop-cons, ap₂, lt-ltb, le-ltb, ltb-true, ltb-false, min}
use Rattle.std.proofs.Math.Seq.{take-length}
use Rattle.std.specs.List.{prefix_len}
use Rattle.std.specs.Result.{OkIff, result_ok}
use Rattle.std.proofs.lemmas.List.Folds.{length-prefix_len}
use Rattle.std.proofs.lemmas.List.Sums.{prefix_len-le-length}
use Rattle.formulas.specs.Language.{digit, joined}
use Rattle.formulas.specs.Reading.{spaces, byte, digits, numbered}
use Rattle.nodes.proofs.BoolLaws.{and_both}
use Rattle.conditions.specs.Stores.{Standard}
use Rattle.conditions.specs.User.{is_user}
use Rattle.conditions.proofs.Promises.{user_is}
use Rattle.refusals.specs.declared.Refusal.TheVariants as row
use Rattle.tokens.specs.Contract.{Left, starts, value_of, rest_of, fitted, joined_to, joined_up, Took, took, stops, TookAt, where_good, kept, within_table, opens, opener_token, arrow_token, number_token}

pub head_is : (c : ℕ) (s : List ℕ) → starts c s ≡ true → s ≡ c ∷ drop 1 s
head_is c [] e = absurd (true≢false (sym e))
head_is c (x ∷ s) e = go (eqb x c) refl e
  where
    go : (b : Bool) → eqb x c ≡ b → cond b true false ≡ true → x ∷ s ≡ c ∷ s
    go true q e = ap (λ (y : ℕ). y ∷ s) (eqb→eq x c (subst T (sym q) tt))
    go false q e = absurd (true≢false (sym e))

pub byte_not : {A : Type 0} (c : ℕ) (s : List ℕ) (f : List ℕ → A) (a : A) → starts c s ≡ false → byte c s f a ≡ a
byte_not c [] f a e = refl
byte_not c (x ∷ s) f a e = go (eqb x c) refl e
  where
    go : (b : Bool) → eqb x c ≡ b → cond b true false ≡ false → cond b (f s) a ≡ a
    go true q e = absurd (true≢false e)
    go false q e = refl

-- where a byte is left, the place is in the text
cons_in : (text : List ℕ) (at : ℕ) {x : ℕ} {s : List ℕ} → drop at text ≡ x ∷ s → at < length text
cons_in text at e = omega (arith, length-drop at text, ap length e)

-- a byte that stands here
pub starts_in : (text : List ℕ) (at c : ℕ) → starts c (drop at text) ≡ true → at < length text
starts_in text at c e = cons_in text at (head_is c (drop at text) e)

pub starts_here : (text : List ℕ) (at c : ℕ) → starts c (drop at text) ≡ true → drop at text ≡ c ∷ drop (suc at) text
starts_here text at c e =
    let k = drop-cons text at 0 (starts_in text at c e) in
    head_is c (drop at text) e ∙ ap (λ (s : List ℕ). c ∷ drop 1 s) k

-- the text from a place on
rest_is : (text : List ℕ) (at : ℕ) → take (length text - at) (drop at text) ≡ drop at text
rest_is text at = ap (λ (n : ℕ). take n (drop at text)) (sym (length-drop at text)) ∙ take-length (drop at text)

-- behind the first bytes that a test takes
pub left_behind : (p : ℕ → Bool) (text : List ℕ) (at n k : ℕ) (s : List ℕ) → at ≤ length text → n ≡ length (take_while p (take (length text - at) (drop at text))) → k ≡ at + n → drop (prefix_len p (drop at text)) (drop at text) ≡ s
    → Left text k s
left_behind p text at n k s h e q l =
    let m : n ≡ prefix_len p (drop at text) = e ∙ ap (λ (l : List ℕ). length (take_while p l)) (rest_is text at) ∙ length-prefix_len p (drop at text) in
    record { within = omega (arith, m, q, h, prefix_len-le-length p (drop at text), length-drop at text); is = rw q (sym (drop-drop n at text) ∙ ap (λ (i : ℕ). drop i (drop at text)) m ∙ l) }

-- Spaces and digits.
pub behind_spaces : (s : List ℕ) → drop (prefix_len (λ c. c == 32) s) s ≡ spaces s
behind_spaces [] = refl
behind_spaces (c ∷ s) = go (eqb c 32) (behind_spaces s)
  where
    go : (b : Bool) → drop (prefix_len (λ c. c == 32) s) s ≡ spaces s → drop (cond b (1 + prefix_len (λ c. c == 32) s) 0) (c ∷ s) ≡ cond b (spaces s) (c ∷ s)
    go true e = let q : 1 + prefix_len (λ c. c == 32) s ≡ suc (prefix_len (λ c. c == 32) s) = omega arith in rw q e
    go false e = refl

-- the digits with which s begins, and what is behind them
pub digits_are : {A : Type 0} (a : ℕ) (s : List ℕ) (f : ℕ → List ℕ → A) → digits a s f ≡ f (fold joined a (take (prefix_len digit s) s)) (drop (prefix_len digit s) s)
digits_are a [] f = refl
digits_are {A} a (c ∷ s) f = go (digit c) (digits_are (joined a c) s f)
  where
    go : (b : Bool) → digits (joined a c) s f ≡ f (fold joined (joined a c) (take (prefix_len digit s) s)) (drop (prefix_len digit s) s)
        → cond b (digits (joined a c) s f) (f a (c ∷ s)) ≡ f (fold joined a (take (cond b (1 + prefix_len digit s) 0) (c ∷ s))) (drop (cond b (1 + prefix_len digit s) 0) (c ∷ s))
    go true e = let q : 1 + prefix_len digit s ≡ suc (prefix_len digit s) = omega arith in rw q e
    go false e = refl

-- a value that is kept below 4,294,967,296, joined to a digit
joined-fitted : (a c : ℕ) → joined_to (fitted a) c ≡ fitted (joined a c)
joined-fitted a c = go (ltb a 4294967296) refl
  where
    go : (b : Bool) → ltb a 4294967296 ≡ b → joined_to (cond b (Some a) None) c ≡ fitted (joined a c)
    go true e = refl
    go false e = sym (ap (λ (b : Bool). cond b (Some (joined a c)) None) (le-ltb (joined a c) 4294967296 (omega (arith, ltb-false a 4294967296 e))))

folds-fitted : (a : ℕ) (s : List ℕ) → fold joined_to (fitted a) s ≡ fitted (fold joined a s)
folds-fitted a [] = refl
folds-fitted a (c ∷ s) = ap (λ (v : Option ℕ). fold joined_to v s) (joined-fitted a c) ∙ folds-fitted (joined a c) s

-- a digit joined to at most 4,294,967,296 gives the same value
joined_up-fitted : (a c : ℕ) → fitted (joined_up a c) ≡ joined_to (fitted a) c
joined_up-fitted a c = go (ltb a 4294967296) refl
  where
    go : (b : Bool) → ltb a 4294967296 ≡ b → fitted (joined_up a c) ≡ joined_to (cond b (Some a) None) c
    go true e = let q : min a 4294967296 ≡ a = omega (arith, ltb-true a 4294967296 e) in ap (λ (n : ℕ). fitted (joined n c)) q
    go false e = ap (λ (b : Bool). cond b (Some (joined_up a c)) None) (le-ltb (joined_up a c) 4294967296 (omega (arith, ltb-false a 4294967296 e)))

-- a number turned to 32 bits, where it fits
pub fitted_by : {E : Type 0} (r : Result ℕ E) (n : ℕ) → OkIff r (n < 4294967296) n → result_ok r ≡ fitted n
fitted_by (Ok x) n h = rw (lt-ltb n 4294967296 h.0) (ap Some h.1)
fitted_by (Err e) n h = ap (λ (b : Bool). cond b (Some n) None) (sym (le-ltb n 4294967296 (omega (arith, h))))

-- and so do all digits
pub folds-up : (a : ℕ) (s : List ℕ) → fitted (fold joined_up a s) ≡ fold joined_to (fitted a) s
folds-up a [] = refl
folds-up a (c ∷ s) = folds-up (joined_up a c) s ∙ ap (λ (v : Option ℕ). fold joined_to v s) (joined_up-fitted a c)

pub value_is : (text : List ℕ) (at n : ℕ) (v : Option ℕ) → n ≡ length (take_while digit (take (length text - at) (drop at text))) → v ≡ fold joined_to (Some 0) (take n (take (length text - at) (drop at text))) → v ≡ fitted (value_of (drop at text))
value_is text at n v e f =
    let s = drop at text in
    let m : n ≡ prefix_len digit s = e ∙ ap (λ (l : List ℕ). length (take_while digit l)) (rest_is text at) ∙ length-prefix_len digit s in
    f ∙ ap₂ (λ (i : ℕ) (l : List ℕ). fold joined_to (Some 0) (take i l)) m (rest_is text at) ∙ folds-fitted 0 (take (prefix_len digit s) s) ∙ ap fitted (sym (digits_are 0 s (λ n y. n)))

pub behind_digits : (s : List ℕ) → drop (prefix_len digit s) s ≡ rest_of s
behind_digits s = sym (digits_are 0 s (λ n y. y))

-- Numbers.
digits_split : {A : Type 0} (a : ℕ) (s : List ℕ) (f : ℕ → List ℕ → A) → digits a s f ≡ f (digits a s (λ n y. n)) (digits a s (λ n y. y))
digits_split a s f = digits_are a s f ∙ sym (ap₂ f (digits_are a s (λ n y. n)) (digits_are a s (λ n y. y)))

rest_short : (a : ℕ) (s : List ℕ) → length (digits a s (λ n y. y)) ≤ length s
rest_short a s = omega (arith, ap length (digits_are a s (λ n y. y)), length-drop (prefix_len digit s) s)

numbered-none : {A : Type 0} (s : List ℕ) (f : ℕ → List ℕ → A) (a : A) → length (rest_of s) ≡ length s → numbered s f a ≡ a
numbered-none [] f a e = refl
numbered-none (d ∷ s) f a e = go (digit d) e
  where
    go : (b : Bool) → length (cond b (digits (joined 0 d) s (λ n y. y)) (d ∷ s)) ≡ suc (length s) → cond b (digits (joined 0 d) s f) a ≡ a
    go true e = absurd (omega (arith, e, rest_short (joined 0 d) s))
    go false e = refl

numbered-some : {A : Type 0} (s : List ℕ) (f : ℕ → List ℕ → A) (a : A) → length (rest_of s) < length s → numbered s f a ≡ f (value_of s) (rest_of s)
numbered-some [] f a e = absurd (omega (arith, e))
numbered-some (d ∷ s) f a e = go (digit d) e
  where
    go : (b : Bool) → length (cond b (digits (joined 0 d) s (λ n y. y)) (d ∷ s)) < suc (length s)
        → cond b (digits (joined 0 d) s f) a ≡ f (cond b (digits (joined 0 d) s (λ n y. n)) 0) (cond b (digits (joined 0 d) s (λ n y. y)) (d ∷ s))
    go true e = digits_split (joined 0 d) s f
    go false e = absurd (omega (arith, e))

-- a number is chosen where it is good
chosen-none : (b : Bool) (n : ℕ) → None ≡ cond b (Some n) None → b ≡ false
chosen-none true n e = cc
chosen-none false n e = refl

chosen-some : (b : Bool) (m n : ℕ) → Some m ≡ cond b (Some n) None → (b ≡ true) × (m ≡ n)
chosen-some true m n e = (refl, cc)
chosen-some false m n e = cc

-- the number behind the letter at this place
module _ (text : List ℕ) (at «end» : ℕ) (h : at < length text) (L : Left text «end» (rest_of (drop (suc at) text))) (good : ℕ → Bool) where
  -- no digit stands behind the letter
  pub number-none : «end» ≡ at + 1 → TookAt text (Err (record { refusal = row.Language; at = «end» })) (number_token good (get_or text at 0) (drop (suc at) text))
  number-none e =
      let q : «end» ≡ suc at = omega (arith, e) in
      let l = ap (λ (i : ℕ). drop i text) q in
      record { within = L.within; is = ap (stops 15) l ∙ sym (numbered-none (drop (suc at) text) _ _ (ap length (sym L.is ∙ l))) }

  module _ (e : («end» ≡ at + 1 → ⊥)) where
    shorter : length (rest_of (drop (suc at) text)) < length (drop (suc at) text)
    shorter = omega (arith, e, h, L.within, ap length L.is, rest_short 0 (drop (suc at) text), length-drop «end» text, length-drop (suc at) text)

    -- its value is not good
    pub number-wrong : None ≡ where_good good (value_of (drop (suc at) text)) → TookAt text (Err (record { refusal = row.Language; at = at })) (number_token good (get_or text at 0) (drop (suc at) text))
    number-wrong g =
        let x = drop (suc at) text in
        record {
          within = omega arith;
          is = ap (stops 15) (drop-cons text at 0 h) ∙ sym (numbered-some x _ _ shorter ∙ ap (λ (b : Bool). cond b (took (value_of x) (spaces (rest_of x))) (stops 15 (get_or text at 0 ∷ x))) (chosen-none (good (value_of x)) (value_of x) g));
        }

    -- it is good
    pub number_good : {n k : ℕ} → Some n ≡ where_good good (value_of (drop (suc at) text)) → Left text k (spaces (drop «end» text)) → TookAt text (Ok (record { at = k; number = n })) (number_token good (get_or text at 0) (drop (suc at) text))
    number_good {n} {k} g K =
        let x = drop (suc at) text in
        let q = chosen-some (good (value_of x)) n (value_of x) g in
        record {
          within = K.within;
          is = ap₂ took q.1 (K.is ∙ ap spaces L.is) ∙ sym (numbered-some x _ _ shorter ∙ ap (λ (b : Bool). cond b (took (value_of x) (spaces (rest_of x))) (stops 15 (get_or text at 0 ∷ x))) q.0);
        }

-- Which numbers are good: those of a table's predicates, and of nodes.
kept-fitted : (p good : ℕ → Bool) → ((n : ℕ) → good n ≡ true → n < 4294967296) → ((n : ℕ) → n < 4294967296 → p n ≡ good n) → (n : ℕ) → kept p (fitted n) ≡ where_good good n
kept-fitted p good small same n = go (ltb n 4294967296) refl
  where
    go : (b : Bool) → ltb n 4294967296 ≡ b → kept p (cond b (Some n) None) ≡ where_good good n
    go true e = ap (λ (b : Bool). cond b (Some n) None) (same n (ltb-true n 4294967296 e))
    go false e = past (good n) refl
      where
        past : (b : Bool) → good n ≡ b → None ≡ cond b (Some n) None
        past true q = absurd (omega (arith, small n q, ltb-false n 4294967296 e))
        past false q = refl

-- the number behind the letter, at the place that a program names
chosen-behind : (text : List ℕ) (at j : ℕ) (p good : ℕ → Bool) {v r : Option ℕ} → j ≡ suc at → v ≡ fitted (value_of (drop j text)) → r ≡ kept p v → ((n : ℕ) → kept p (fitted n) ≡ where_good good n) → r ≡ where_good good (value_of (drop (suc at) text))
chosen-behind text at j p good q e f K = f ∙ ap (kept p) (e ∙ ap (λ (i : ℕ). fitted (value_of (drop i text))) q) ∙ K (value_of (drop (suc at) text))

pub predicate_chosen : (text : List ℕ) (at j predicates : ℕ) {v r : Option ℕ} → j ≡ suc at → v ≡ fitted (value_of (drop j text)) → r ≡ kept (λ p. ltb p predicates) v → r ≡ where_good (within_table predicates) (value_of (drop (suc at) text))
predicate_chosen text at j predicates q e f = chosen-behind text at j (λ p. ltb p predicates) (within_table predicates) q e f (kept-fitted (λ p. ltb p predicates) (within_table predicates) small same)
  where
    small : (n : ℕ) → within_table predicates n ≡ true → n < 4294967296
    small n e = omega (arith, leb→le n 4294967295 (subst T (sym (and_both (ltb n predicates) (leb n 4294967295) e).1) tt))

    and_true : (a b : Bool) → T b → a ≡ (a && b)
    and_true true true h = refl
    and_true false true h = refl
    and_true a false h = absurd h

    same : (n : ℕ) → n < 4294967296 → ltb n predicates ≡ within_table predicates n
    same n h = and_true (ltb n predicates) (leb n 4294967295) (le→leb n 4294967295 (omega (arith, h)))

pub node_chosen : (text : List ℕ) (at j : ℕ) (w : List ℕ) (c : ℕ) {v r : Option ℕ} → Standard w c → j ≡ suc at → v ≡ fitted (value_of (drop j text)) → r ≡ kept (is_user w c) v → r ≡ where_good (is_user w c) (value_of (drop (suc at) text))
node_chosen text at j w c S q e f = chosen-behind text at j (is_user w c) (is_user w c) q e f (kept-fitted (is_user w c) (is_user w c) (λ n e. omega (arith, (user_is w c n e).0, S.most)) (λ n h. refl))

-- and its digits end where those behind the letter do
pub rest_behind : {text : List ℕ} {at j «end» : ℕ} → j ≡ suc at → Left text «end» (rest_of (drop j text)) → Left text «end» (rest_of (drop (suc at) text))
rest_behind {text} {at} {j} {«end»} q L = subst (λ (i : ℕ). Left text «end» (rest_of (drop i text))) q L

-- Openers and arrows.
opens-more : (d : ℕ) (s : List ℕ) (t : Took) → (d ≡ 0 → ⊥) → t ≡ opens d s t
opens-more zero s t h = absurd (h refl)
opens-more (suc d) s t h = refl

pub opener-full : (text : List ℕ) (at d : ℕ) → at < length text → d ≡ 0 → TookAt text (Err (record { refusal = row.Depth; at = at })) (opener_token d (get_or text at 0) (drop (suc at) text))
opener-full text at d h e = record { within = omega arith; is = ap (stops 16) (drop-cons text at 0 h) ∙ ap (λ (d : ℕ). opener_token d (get_or text at 0) (drop (suc at) text)) (sym e) }

pub opener-free : (text : List ℕ) (at j d k : ℕ) → j ≡ suc at → (d ≡ 0 → ⊥) → Left text k (spaces (drop j text)) → TookAt text (Ok (record { at = k; number = 0 })) (opener_token d (get_or text at 0) (drop (suc at) text))
opener-free text at j d k q h L = record { within = L.within; is = ap (took 0) (L.is ∙ ap (λ (j : ℕ). spaces (drop j text)) q) ∙ opens-more d (get_or text at 0 ∷ drop (suc at) text) _ h }

module _ (text : List ℕ) (at d n : ℕ) (h : at ≤ length text) where
  pub arrow-none : starts 45 (drop at text) ≡ false → TookAt text (Err (record { refusal = row.Language; at = at })) (arrow_token d n (drop at text))
  arrow-none e = record { within = h; is = sym (byte_not 45 (drop at text) _ _ e) }

  module _ (j : ℕ) (next : j ≡ suc at) (e : starts 45 (drop at text) ≡ true) where
    behind_dash : {A : Type 0} (f : List ℕ → A) (a : A) → byte 45 (drop at text) f a ≡ f (drop j text)
    behind_dash f a = ap (λ (s : List ℕ). byte 45 s f a) (starts_here text at 45 e) ∙ ap (λ (j : ℕ). f (drop j text)) (sym next)

    pub arrow_half : starts 62 (drop j text) ≡ false → TookAt text (Err (record { refusal = row.Language; at = j })) (arrow_token d n (drop at text))
    arrow_half f = record { within = omega (arith, next, starts_in text at 45 e); is = sym (behind_dash _ _ ∙ byte_not 62 (drop j text) _ _ f) }

    module _ (f : starts 62 (drop j text) ≡ true) where
      whole : drop at text ≡ 45 ∷ 62 ∷ drop (suc j) text
      whole = starts_here text at 45 e ∙ ap (λ (j : ℕ). 45 ∷ drop j text) (sym next) ∙ ap (λ (s : List ℕ). 45 ∷ s) (starts_here text j 62 f)

      behind_arrow : arrow_token d n (drop at text) ≡ opens d (45 ∷ 62 ∷ drop (suc j) text) (took n (spaces (drop (suc j) text)))
      behind_arrow = ap (arrow_token d n) whole

      pub arrow-full : d ≡ 0 → TookAt text (Err (record { refusal = row.Depth; at = at })) (arrow_token d n (drop at text))
      arrow-full z = record { within = h; is = ap (stops 16) whole ∙ sym (behind_arrow ∙ ap (λ (d : ℕ). opens d (45 ∷ 62 ∷ drop (suc j) text) (took n (spaces (drop (suc j) text)))) z) }

      pub arrow-free : (i k : ℕ) → i ≡ suc j → (d ≡ 0 → ⊥) → Left text k (spaces (drop i text)) → TookAt text (Ok (record { at = k; number = n })) (arrow_token d n (drop at text))
      arrow-free i k q z L = record { within = L.within; is = ap (took n) (L.is ∙ ap (λ (i : ℕ). spaces (drop i text)) q) ∙ opens-more d _ _ z ∙ sym behind_arrow }
