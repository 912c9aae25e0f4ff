-- What follows for C: what a refused Fresh leaves, what a condition's text tells, and that a node holds under its witness.
use Rattle.std.specs.Prelude.{◌≡◌, cond, ◌↔◌, ◌⊎◌, List, ℕ, suc, eqb, length, take}
use Rattle.conditions.specs.Show.{Alike}
use Rattle.cases.specs.Case.{zeroed}
use Rattle.capi_nodes.specs.Contract.{evaluated, freshed, left_text, texted, witnessed}

-- a refused Fresh: record, node words and ports "are untouched"
unfoldable pub FreshRefused : Type 0
FreshRefused = (n w : ℕ) (r ws ps : List ℕ) (k : ℕ) → length r ≡ 6 → (freshed n w r ws ps).0 ≡ suc k → freshed n w r ws ps ≡ (suc k, r, ws, ps)

-- a condition's text that is refused: the length is untouched, and so are the text bytes, but for 13, after which they are 0
unfoldable pub TextRefused : Type 0
TextRefused = (f : ℕ) (r w b : List ℕ) (v k : ℕ) → (texted f r w b v).number ≡ suc k → texted f r w b v ≡ left_text (suc k) (cond (eqb (suc k) 13) (zeroed b) b) v

-- the bytes that were written
abbrev pub bytes_of : ℕ → List ℕ → List ℕ → List ℕ → ℕ → List ℕ
bytes_of f r w b v = take (texted f r w b v).length (texted f r w b v).text

-- demand 2: "the text of a condition is the same for two conditions exactly when they agree under every assignment"; of two memories or of one
unfoldable pub TextsExactly : Type 0
TextsExactly =
    (f : ℕ) (r w b : List ℕ) (v f' : ℕ) (r' w' b' : List ℕ) (v' : ℕ) → (texted f r w b v).number ≡ 0 → (texted f' r' w' b' v').number ≡ 0
    → (bytes_of f r w b v ≡ bytes_of f' r' w' b' v') ↔ Alike w f w' f'

-- a node holds under its witness, or is node 0
unfoldable pub WitnessHolds : Type 0
WitnessHolds = (f : ℕ) (r w : List ℕ) (v u : ℕ) → (witnessed f r w v).0 ≡ 0 → (evaluated f (witnessed f r w v).1 r w u ≡ (0, 1)) ⊎ (f ≡ 0)
