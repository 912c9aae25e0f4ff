-- Demand 2: "Every condition and word returned is, under each assignment, what the published write, read, assert and check give, with 01's enables".
use Rattle.std.specs.Prelude.{◌≡◌, Bool, true, false, cond, ◌&&◌, List, [], ◌∷◌, ◌++◌, ℕ, zero, suc, ◌^◌, ◌<◌, eqb, length, get_or}
use Rattle.conditions.specs.Value.{value}
use Rattle.conditions.specs.Assignment.{bit_at}
use Rattle.formulas.specs.Language.{Tree, Listed, listed}
use Rattle.semantics.specs.Pairs.{Pair}
use Rattle.model.specs.Record.{Record, entry_at, address_of, data_of, held_word}
use Rattle.model.specs.Formula.{Triple}
use Rattle.semantics.specs.Published.{Entry, entry, answer, assert_holds, check_holds, keeps, control}
use Rattle.model.specs.Step.{State, write, read, assert, check, access, evaluate, variable, ite, conditions, node_call, place, idle, filled, entered, kept, accepted, valued, node, triples, done, Result, is_refused, step}
use Rattle.model.specs.Claims.{pair_at, pairs}

-- entry j of the list, under an assignment
abbrev pub entry_value : (ℕ → Bool) → State → ℕ → Entry
entry_value φ s j =
    let e = entry_at s.rec s.list j in
    record {
      hard = value s.words φ (get_or e 0 0);
      soft = value s.words φ (get_or e 1 0);
      address = pairs φ s.words (address_of s.rec e) s.rec.sizes.n;
      word = pairs φ s.words (data_of s.rec e) s.rec.sizes.w;
    }

-- the k entries from entry j on; all of them, oldest first
abbrev pub entries_from : (ℕ → Bool) → State → ℕ → ℕ → List Entry
entries_from φ s j zero = []
entries_from φ s j (suc k) = entry_value φ s j ∷ entries_from φ s (suc j) k

abbrev pub entry_values : (ℕ → Bool) → State → List Entry
entry_values φ s = entries_from φ s 0 s.rec.entries

-- an address and a word among a call's arguments
abbrev pub address_argument : (ℕ → Bool) → State → List ℕ → List Pair
address_argument φ s a = pairs φ s.words a s.rec.sizes.n

abbrev pub word_argument : (ℕ → Bool) → State → List ℕ → List Pair
word_argument φ s d = pairs φ s.words d s.rec.sizes.w

-- what port p holds, under an assignment
abbrev pub port_value : (ℕ → Bool) → State → ℕ → ℕ → Pair
port_value φ s p i = pair_at φ s.words (held_word s.rec s.ports p) i

-- from s to t the published entry was put after the last, and the list is otherwise as it was: the source's InsertTail (Fig. 2)
abbrev pub Enters : (ℕ → Bool) → State → State → Pair → List ℕ → List ℕ → Type 0
Enters φ s t c a d = entry_values φ t ≡ entry_values φ s ++ (entry c (address_argument φ s a) (word_argument φ s d) ∷ [])

-- 02: "condition (And of the enclosing ones ..)": these nodes all hold
abbrev pub all_hold : (ℕ → Bool) → List ℕ → List ℕ → Bool
all_hold φ w [] = true
all_hold φ w (b ∷ bs) = value w φ b && all_hold φ w bs

-- a triple is what is listed: the same step and predicate, and a condition that holds, in the words after, where the enclosing nodes held, in the words before
pub record IsListed (φ : ℕ → Bool) (w w' : List ℕ) (t : Triple) (l : Listed) : Type 0 where
  pub same_step : t.step ≡ l.step
  pub condition : value w' φ t.condition ≡ all_hold φ w l.nodes
  pub same-named : t.named ≡ l.named

-- one after the other
abbrev pub AreListed : (ℕ → Bool) → List ℕ → List ℕ → List Triple → List Listed → Type 0
AreListed φ w w' [] [] = Unit {0}
AreListed φ w w' [] (l ∷ ls) = ⊥
AreListed φ w w' (t ∷ ts) [] = ⊥
AreListed φ w w' (t ∷ ts) (l ∷ ls) = IsListed φ w w' t l × AreListed φ w w' ts ls

-- of any state s, under one assignment, each answer and what it leaves
pub record Meant (φ : ℕ → Bool) (s : State) : Type 0 where
  pub write-enters : (c a d : List ℕ) (k : ℕ) → (step (access (write c a d)) s).answer ≡ done (place k) → (k ≡ s.rec.entries) × Enters φ s (step (access (write c a d)) s).after (pair_at φ s.words c 0) a d
  pub write-idles : (c a d : List ℕ) → (step (access (write c a d)) s).answer ≡ done idle → ((pair_at φ s.words c 0).h ≡ false) × (entry_values φ (step (access (write c a d)) s).after ≡ entry_values φ s)
  pub read-fills : (p : ℕ) (e a out r : List ℕ) → (step (access (read p e a out)) s).answer ≡ done (filled r) → (i : ℕ) → i < s.rec.sizes.w
      → pair_at φ (step (access (read p e a out)) s).after.words r i ≡ answer s.rec.sizes (entry_values φ s) (port_value φ s p) (pair_at φ s.words e 0) (address_argument φ s a) i
  pub read_held : (p : ℕ) (e a out r : List ℕ) → (step (access (read p e a out)) s).answer ≡ done (filled r) → length s.ports ≡ 128 → (q i : ℕ) → q < 4 → i < s.rec.sizes.w
      → port_value φ (step (access (read p e a out)) s).after q i ≡ cond (eqb q p) (answer s.rec.sizes (entry_values φ s) (port_value φ s p) (pair_at φ s.words e 0) (address_argument φ s a)) (port_value φ s q) i
  pub assert-condition : (b : ℕ) (a d : List ℕ) → is_refused (step (access (assert b a d)) s).answer ≡ false
      → value (step (access (assert b a d)) s).after.words φ (step (access (assert b a d)) s).after.rec.asserted
      ≡ (value s.words φ s.rec.asserted && assert_holds s.rec.sizes (entry_values φ s) (value s.words φ b) (address_argument φ s a) (word_argument φ s d))
  pub assert-kept : (b : ℕ) (a d : List ℕ) → (step (access (assert b a d)) s).answer ≡ done kept → keeps s.rec.sizes (entry_values φ s) (value s.words φ b) (address_argument φ s a) (word_argument φ s d) ≡ true
  pub read_stays : (p : ℕ) (e a out r : List ℕ) → (step (access (read p e a out)) s).answer ≡ done (filled r) → entry_values φ (step (access (read p e a out)) s).after ≡ entry_values φ s
  pub kept-stays : (b : ℕ) (a d : List ℕ) → (step (access (assert b a d)) s).answer ≡ done kept → entry_values φ (step (access (assert b a d)) s).after ≡ entry_values φ s
  pub check-stays : (b : ℕ) (a d : List ℕ) → (step (access (check b a d)) s).answer ≡ done accepted → entry_values φ (step (access (check b a d)) s).after ≡ entry_values φ s
  pub assert-enters : (b : ℕ) (a d : List ℕ) → (step (access (assert b a d)) s).answer ≡ done entered → Enters φ s (step (access (assert b a d)) s).after (control (value s.words φ b)) a d
  pub check-condition : (b : ℕ) (a d : List ℕ) → (step (access (check b a d)) s).answer ≡ done accepted
      → value (step (access (check b a d)) s).after.words φ (step (access (check b a d)) s).after.rec.checked
      ≡ (value s.words φ s.rec.checked && check_holds s.rec.sizes (entry_values φ s) (value s.words φ b) (address_argument φ s a) (word_argument φ s d))
  pub evaluates : (f a : ℕ) (v : Bool) → (step (node_call (evaluate f a)) s).answer ≡ done (valued v) → v ≡ value s.words (bit_at a) f
  pub variable-node : (v n : ℕ) → (step (node_call (variable v)) s).answer ≡ done (node n) → value (step (node_call (variable v)) s).after.words φ n ≡ φ v
  pub ite-node : (f g h n : ℕ) → (step (node_call (ite f g h)) s).answer ≡ done (node n)
      → value (step (node_call (ite f g h)) s).after.words φ n ≡ cond (value s.words φ f) (value s.words φ g) (value s.words φ h)
  pub conditions-listed : (t : Tree) (ts : List Triple) → (step (node_call (conditions t)) s).answer ≡ done (triples ts) → AreListed φ s.words (step (node_call (conditions t)) s).after.words ts (listed 0 [] t)

-- of every state, under every 64-bit assignment
unfoldable pub Demand2 : Type 0
Demand2 = (s : State) (a : ℕ) → a < 2 ^ 64 → Meant (bit_at a) s

-- 02: "asserts .. must follow": none is idle, and one whose b is 0 under every assignment is kept, as before
unfoldable pub KeptWhereNever : Type 0
KeptWhereNever =
    (s : State) (b : ℕ) (a d : List ℕ) → is_refused (step (access (assert b a d)) s).answer ≡ false → ((k : ℕ) → k < 2 ^ 64 → value s.words (bit_at k) b ≡ false)
    → (step (access (assert b a d)) s).answer ≡ done kept
