-- What a refused Fresh leaves, what a condition's text tells, and that a node holds under its witness.
use mathlib.Core.Path.{◌≡◌, refl, sym, ap, ◌∙◌}
use mathlib.Core.Bool.{Bool, true, false, cond}
use mathlib.Core.List.{List, [], ◌∷◌, ◌++◌}
use mathlib.Core.Logic.{inl, inr, ⊎_elim}
use Prim.Native.Nat.{ℕ, zero, suc}
use native.Mathlib.Omega.{arith}
use lib.Dec.{ltb, leb, eqb}
use lib.ListN.{length, take, drop}
use borrow.Author.Tests.{ne_eqb}
use Rattle.conditions.specs.Assignment.{bit_at}
use Rattle.conditions.specs.Value.{value}
use Rattle.conditions.specs.Show.{text_of}
use Rattle.conditions.specs.Witness.{witness_of, HoldsThere}
use Rattle.conditions.proofs.Promises.{text-exactly, witness-holds}
use Rattle.model.specs.Rows.{first_row, row1, row2}
use Rattle.model.specs.Step.{evaluate, Result, finish_node, closed}
use Rattle.model.specs.Frames.{FreshLeaves}
use Rattle.model.proofs.FrameLaws.{fresh-leaves}
use Rattle.cases.specs.Case.{zeroed}
use Rattle.rows.proofs.CallLaws.{node_acted}
use Rattle.node_calls.proofs.NodeLaws.{evaluate-holds}
use Rattle.record_words.specs.Words.{record_in, state_in}
use Rattle.record_words.specs.Calls.{left_by, called}
use Rattle.record_words.proofs.WordsLaws.{words_back}
use Rattle.capi_nodes.specs.Contract.{evaluated_by, evaluated, fresh_by, freshed, row_of, LeftText, left_text, text_by, texted, witness_by, witnessed}
use Rattle.capi_nodes.specs.Claims.{FreshRefused, TextRefused, bytes_of, TextsExactly, WitnessHolds}

pub fresh-refused : FreshRefused
unfolding FreshRefused freshed FreshLeaves
fresh-refused n w r ws ps k six e =
    ap fresh_by ((fresh-leaves (record_in r) (record { n = n; w = w }) ws ps).0 k e) ∙ ap (λ (z : List ℕ). (suc k, z, ws, ps)) (words_back r six)

-- the rows of what is asked of a node: none is 13
row_number : (a b d : Bool) → (first_row ((1, a) ∷ (2, b) ∷ (5, d) ∷ []) ≡ 13) → ⊥
row_number true true true e = absurd (omega (arith, e))
row_number true true false e = absurd (omega (arith, e))
row_number true false d e = absurd (omega (arith, e))
row_number false b d e = absurd (omega (arith, e))

text-refused_by : (k : ℕ) (t b : List ℕ) (v j : ℕ) → (k ≡ 13 → ⊥) → (text_by k t b v).number ≡ suc j → text_by k t b v ≡ left_text (suc j) (cond (eqb (suc j) 13) (zeroed b) b) v
text-refused_by zero t b v j n e = go (leb (length t) (length b)) e
  where
    go : (x : Bool) → (cond x (left_text 0 (t ++ drop (length t) b) (length t)) (left_text 13 (zeroed b) v)).number ≡ suc j → cond x (left_text 0 (t ++ drop (length t) b) (length t)) (left_text 13 (zeroed b) v) ≡ left_text (suc j) (cond (eqb (suc j) 13) (zeroed b) b) v
    go true q = absurd (omega (arith, q))
    go false q = rw (← q)
text-refused_by (suc k) t b v j n e = rw (← e, ne_eqb (suc k) 13 n)

pub text-refused : TextRefused
unfolding TextRefused texted
text-refused f r w b v k e = text-refused_by (row_of f r w) (text_of w f) b v k (row_number (row1 (record_in r) w) (row2 (record_in r) w) (ltb f (record_in r).count)) e

-- an accepted text: no row refuses it, and its bytes are the condition's
take_all : (t b : List ℕ) → take (length t) (t ++ b) ≡ t
take_all [] b = refl
take_all (x ∷ t) b = ap (x ∷◌) (take_all t b)

accepted_by : (k : ℕ) (t b : List ℕ) (v : ℕ) → (text_by k t b v).number ≡ 0 → (k ≡ 0) × (take (text_by k t b v).length (text_by k t b v).text ≡ t)
accepted_by zero t b v e = (refl, go (leb (length t) (length b)) e)
  where
    told : Bool → LeftText
    told x = cond x (left_text 0 (t ++ drop (length t) b) (length t)) (left_text 13 (zeroed b) v)

    go : (x : Bool) → (told x).number ≡ 0 → take (told x).length (told x).text ≡ t
    go true q = take_all t (drop (length t) b)
    go false q = absurd (omega (arith, q))
accepted_by (suc k) t b v e = absurd (omega (arith, e))

text-accepted : (f : ℕ) (r w b : List ℕ) (v : ℕ) → (texted f r w b v).number ≡ 0 → (row_of f r w ≡ 0) × (bytes_of f r w b v ≡ text_of w f)
unfolding texted
text-accepted f r w b v e = accepted_by (row_of f r w) (text_of w f) b v e

pub texts-exactly : TextsExactly
unfolding TextsExactly
texts-exactly f r w b v f' r' w' b' v' e e' =
    let A = text-accepted f r w b v e in
    let B = text-accepted f' r' w' b' v' e' in
    let H = evaluate-holds (record_in r) w f (sym A.0) in
    let K = evaluate-holds (record_in r') w' f' (sym B.0) in
    rw (A.1, B.1) (text-exactly H.0 K.0 f f' H.1 K.1)

witness-accepted : (k a v : ℕ) → (witness_by k a v).0 ≡ 0 → (k ≡ 0) × ((witness_by k a v).1 ≡ a)
witness-accepted zero a v e = (refl, refl)
witness-accepted (suc k) a v e = absurd (omega (arith, e))

evaluated_there : (f φ : ℕ) (r w : List ℕ) (u : ℕ) → row_of f r w ≡ 0 → evaluated f φ r w u ≡ (0, cond (value w (bit_at φ) f) 1 0)
unfolding evaluated called finish_node closed
evaluated_there f φ r w u e = ap (λ (x : Result). evaluated_by (left_by x [] u)) (node_acted (evaluate f φ) (state_in r w [] []) (sym e))

pub witness-tells : WitnessHolds
unfolding WitnessHolds witnessed HoldsThere
witness-tells f r w v u e =
    let A = witness-accepted (row_of f r w) (witness_of w f) v e in
    let H = evaluate-holds (record_in r) w f (sym A.0) in
    ⊎_elim
    (λ t. inl (ap (λ (φ : ℕ). evaluated f φ r w u) A.1 ∙ evaluated_there f (witness_of w f) r w u A.0 ∙ ap (λ (x : Bool). (0, cond x 1 0)) t))
    (λ z. inr z)
    (witness-holds w (record_in r).count f H.0 H.1)
