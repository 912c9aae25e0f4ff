-- The refusal of a call is what its facts say; and so what an accepted call knows, by name.
use mathlib.Core.Path.{◌≡◌, refl}
use mathlib.Core.List.{List, [], ◌∷◌}
use Prim.Native.Nat.{ℕ, ◌<◌, ◌≤◌}
use Rattle.conditions.specs.Stores.{Standard}
use Rattle.formulas.specs.Language.{Tree}
use Rattle.model.specs.Rows.{write_rows, read_rows, check_rows, assert_rows, evaluate_rows, variable_rows, ite_rows, formula_rows}
use Rattle.model.specs.Step.{State, write, read, assert, check, evaluate, variable, ite, conditions, Call, access, node_call, upkeep, refusal}
use Rattle.model.specs.Table.{Fact, fact, Names, NoneUnknown, store_facts, compared_facts, EachArrow, facts, AllHold, WriteFacts, ReadFacts, CheckFacts, AssertFacts, NodeFacts}
use Rattle.model.proofs.FactLaws.{Told, told, write_agree, read_agree, check_agree, assert_agree, evaluate_agree, variable_agree, ite_agree, formula_agree}

-- the refusal of a call's rows is what its facts say
pub call-told : (c : Call) (s : State) → Told (refusal c s) (facts c s)
call-told (access (write c a d)) s = told (write_rows s.rec s.words s.list c a d) _ refl (write_agree s.rec s.words s.list c a d)
call-told (access (read p e a out)) s = told (read_rows s.rec s.words s.list s.ports p e a out) _ refl (read_agree s.rec s.words s.list s.ports p e a out)
call-told (access (assert b a d)) s = told (assert_rows s.rec s.words s.list b a d) _ refl (assert_agree s.rec s.words s.list b a d)
call-told (access (check b a d)) s = told (check_rows s.rec s.words s.list b a d) _ refl (check_agree s.rec s.words s.list b a d)
call-told (node_call (evaluate f a)) s = told (evaluate_rows s.rec s.words f) _ refl (evaluate_agree s.rec s.words f)
call-told (node_call (variable v)) s = told (variable_rows s.rec s.words v) _ refl (variable_agree s.rec s.words v)
call-told (node_call (ite f g h)) s = told (ite_rows s.rec s.words f g h) _ refl (ite_agree s.rec s.words f g h)
call-told (node_call (conditions t)) s = told (formula_rows s.rec s.words t) _ refl (formula_agree s.rec s.words t)
call-told (upkeep c) s = absurd c

-- where no row refuses a call, its facts by name
module _ (s : State) where
  pub write-facts : (c a d : List ℕ) → refusal (access (write c a d)) s ≡ 0 → WriteFacts s c a d
  write-facts c a d e =
      let (one, rest) = (call-told (access (write c a d)) s).none e in
      let (two, rest) = rest in
      let (three, rest) = rest in
      let (four, rest) = rest in
      let (five, rest) = rest in
      let six = rest.0 in
      record {
        memory = record { range = one; standard = two; listed = three };
        enable = record { long = four.0; names = five.0; legal = six.0 };
        address = record { long = four.1; names = five.1; legal = six.1 };
        word = record { long = four.2; names = five.2; legal = six.2 };
      }

  pub read-facts : (p : ℕ) (e a out : List ℕ) → refusal (access (read p e a out)) s ≡ 0 → ReadFacts s p e a out
  read-facts p e a out z =
      let (one, rest) = (call-told (access (read p e a out)) s).none z in
      let (two, rest) = rest in
      let (three, rest) = rest in
      let (four, rest) = rest in
      let (fourteen, rest) = rest in
      let (five, rest) = rest in
      let (six, rest) = rest in
      record {
        memory = record { range = one; standard = two; listed = three.0 };
        ports = three.1;
        port = fourteen;
        enable = record { long = four.0; names = five.0; legal = six.0 };
        address = record { long = four.1; names = five.1; legal = six.1 };
        answer-long = four.2;
      }

  compared-facts : (b : ℕ) (a d : List ℕ) (fs : List Fact) → AllHold (compared_facts s.rec s.words s.list b a d fs) → CheckFacts s b a d × AllHold fs
  compared-facts b a d fs H =
      let (one, rest) = H in
      let (two, rest) = rest in
      let (three, rest) = rest in
      let (four, rest) = rest in
      let (five, rest) = rest in
      let (six, rest) = rest in (
        record {
          memory = record { range = one; standard = two; listed = three };
          control = five.0;
          address = record { long = four.0; names = five.1; legal = six.0 };
          word = record { long = four.1; names = five.2; legal = six.1 };
        },
        rest,
      )

  pub check-facts : (b : ℕ) (a d : List ℕ) → refusal (access (check b a d)) s ≡ 0 → CheckFacts s b a d
  check-facts b a d e = (compared-facts b a d [] ((call-told (access (check b a d)) s).none e)).0

  pub assert-facts : (b : ℕ) (a d : List ℕ) → refusal (access (assert b a d)) s ≡ 0 → AssertFacts s b a d
  assert-facts b a d e =
      let C = compared-facts b a d (fact 7 (NoneUnknown s.rec s.words b a) ∷ []) ((call-told (access (assert b a d)) s).none e) in
      record { compared = C.0; known = C.1.0 }

  node-facts : (P : Type 0) → AllHold (store_facts s.rec s.words (fact 5 P ∷ [])) → NodeFacts s P
  node-facts P H = record { range = H.0; standard = H.1.0; named = H.1.1.0 }

  pub evaluate-facts : (f a : ℕ) → refusal (node_call (evaluate f a)) s ≡ 0 → NodeFacts s (f < s.rec.count)
  evaluate-facts f a e = node-facts _ ((call-told (node_call (evaluate f a)) s).none e)

  pub variable-facts : (v : ℕ) → refusal (node_call (variable v)) s ≡ 0 → NodeFacts s ((8 ≤ v) × (v ≤ 63))
  variable-facts v e = node-facts _ ((call-told (node_call (variable v)) s).none e)

  pub ite-facts : (f g h : ℕ) → refusal (node_call (ite f g h)) s ≡ 0 → NodeFacts s (Names s.rec s.words f × Names s.rec s.words g × Names s.rec s.words h)
  ite-facts f g h e = node-facts _ ((call-told (node_call (ite f g h)) s).none e)

  pub formula-facts : (t : Tree) → refusal (node_call (conditions t)) s ≡ 0 → NodeFacts s (EachArrow (Names s.rec s.words) t)
  formula-facts t e = node-facts _ ((call-told (node_call (conditions t)) s).none e)

-- every call that no row refuses is lent a standard store
pub call-standard : (c : Call) (s : State) → refusal c s ≡ 0 → Standard s.words s.rec.count
call-standard (access (write c a d)) s e = (write-facts s c a d e).memory.standard
call-standard (access (read p c a out)) s e = (read-facts s p c a out e).memory.standard
call-standard (access (assert b a d)) s e = (assert-facts s b a d e).compared.memory.standard
call-standard (access (check b a d)) s e = (check-facts s b a d e).memory.standard
call-standard (node_call (evaluate f a)) s e = (evaluate-facts s f a e).standard
call-standard (node_call (variable v)) s e = (variable-facts s v e).standard
call-standard (node_call (ite f g h)) s e = (ite-facts s f g h e).standard
call-standard (node_call (conditions t)) s e = (formula-facts s t e).standard
call-standard (upkeep c) s e = absurd c
