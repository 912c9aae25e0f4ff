-- What the functions of a sum ask and promise, beside those of `conditions` and `addresses`.
use Rattle.std.specs.Prelude.{◌≡◌, Bool, true, false, List, [], ◌∷◌, ℕ, ◌*◌, ◌/◌, ◌%◌, ◌^◌, ◌<◌, eqb, get_or, take}
use Rattle.conditions.specs.Build.{Outcome, Build, ◌>>=◌}
use Rattle.conditions.specs.declared.builder.Builder.{Builder}
use Rattle.conditions.specs.Builder.{Later}
use Rattle.conditions.specs.Ite.{And, Or}
use Rattle.model.specs.Record.{h_at, l_at}
use Rattle.model.specs.declared.AddressNode.{AddressNode}
use Rattle.model.specs.declared.Pair.{Pair}
use Rattle.unit_programs.specs.Add.{Adding, sum_bit, carry_bit}

-- both halves of a pair are nodes
pub record PairNodes (c : ℕ) (p : Pair AddressNode) : Type 0 where
  pub high : p.h.0 < c
  pub low : p.l.0 < c

-- and so are the first k words of a slice
pub record FirstNodes (c k : ℕ) (ws : List ℕ) : Type 0 where
  pub at : (j : ℕ) → j < k → get_or ws j 0 < c

-- a pair in words, h before l
abbrev pub halves_of : Pair AddressNode → List ℕ
halves_of p = p.h.0 ∷ p.l.0 ∷ []

-- a sum so far, with its carry
abbrev pub adding : List ℕ → Pair AddressNode → Adding
adding ws c = record { words = ws; carry_h = c.h.0; carry_l = c.l.0 }

-- a pair, exchanged where the constant's bit is 1
abbrev pub turned_pair : Bool → Pair AddressNode → Pair AddressNode
turned_pair false p = p
turned_pair true p = record { h = p.l; l = p.h }

-- Or, or And
abbrev pub either_of : Bool → ℕ → ℕ → Build ℕ
either_of true f g = Or f g
either_of false f g = And f g

-- bit i of the sum with the constant k, and with the carry after it
abbrev pub sum_bit_of : ℕ → List ℕ → ℕ → Adding → Build Adding
sum_bit_of k a i t = sum_bit (eqb (k / 2 ^ i % 2) 1) (h_at a i) (l_at a i) t

abbrev pub add_bit_of : ℕ → List ℕ → ℕ → Adding → Build Adding
add_bit_of k a i t = do
  x ← sum_bit_of k a i t
  carry_bit (eqb (k / 2 ^ i % 2) 1) (h_at a i) (l_at a i) x

-- a function left what it built, as x says whatever the sum's words so far
pub record PairDid (b c : Builder) (r : Pair AddressNode) (f : List ℕ → Adding) (x : List ℕ → Build Adding) : Type 0 where
  pub is : (ws : List ℕ) → ◌≡◌ {A = Outcome Adding} (record { words = c.words.now; store = c.store; answer = f ws }) (x ws b.words.now b.store)
  pub later : Later b c
  pub nodes : PairNodes c.store.count r

-- i bits of a sum stand in a slice, and c is a carry
pub record BitDid (b d : Builder) (c : Pair AddressNode) (i : ℕ) (out : List ℕ) (x : Build Adding) : Type 0 where
  pub is : ◌≡◌ {A = Outcome Adding} (record { words = d.words.now; store = d.store; answer = adding (take (2 * i) out) c }) (x b.words.now b.store)
  pub later : Later b d
  pub nodes : PairNodes d.store.count c
  pub first : FirstNodes d.store.count (2 * i) out
