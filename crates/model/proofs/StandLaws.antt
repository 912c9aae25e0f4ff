-- A node stands for what it stood for, whatever accesses and node calls are made; so the record's conditions mean what they meant.
use mathlib.Core.Path.{◌≡◌, refl, sym, ap, subst, ◌∙◌}
use mathlib.Core.Bool.{Bool, true, false, true≢false}
use mathlib.Core.List.{List, [], ◌∷◌}
use Prim.Native.Nat.{ℕ}
use Rattle.conditions.specs.Build.{Outcome}
use Rattle.conditions.specs.Value.{value}
use Rattle.conditions.specs.Assignment.{bit_at}
use Rattle.conditions.specs.Meaning.{Meaning, Stands, Builds}
use Rattle.conditions.proofs.Promises.{standard_is, keep, clear-keep}
use Rattle.model.specs.Record.{Record}
use Rattle.model.specs.Step.{State, with_words, Call, is_upkeep, Answer, refused, done, is_refused, begin, step}
use Rattle.model.specs.Frames.{words_after, clears, Extended, SuccessLeaves, RefusalLeaves, Valid, StaysValid, ConditionsStay, SameMeaning, ConditionsMean}
use Rattle.model.specs.Table.{Names}
use Rattle.model.proofs.FactLaws.{row3-tells}
use Rattle.model.proofs.FrameLaws.{refusal-leaves, success-leaves, stays-valid, no-upkeep}
use Rattle.model.proofs.StayLaws.{conditions_stay}

-- in the state s node n stands for m
abbrev pub StandsIn : Meaning → ℕ → State → Type 0
StandsIn m n s = Stands 8 m s.words (begin s.rec) n

module _ (m : Meaning) (n : ℕ) where
  extended_stands : (s t : State) → Valid s → Valid t → Extended s t → StandsIn m n s → StandsIn m n t
  extended_stands s t H K E = keep X (standard_is s.words s.rec.count H.two)
    where
      x : Outcome ℕ
      x = record { words = t.words; store = begin t.rec; answer = 0 }

      X : Builds s.words (begin s.rec) (λ w s a. Unit {0}) x
      X = record { standard = standard_is t.words t.rec.count K.two; extends = E.nodes; stuck = λ f. absurd (true≢false (sym f)); post = tt }

  cleared_stands : (s : State) (b : Bool) → Valid s → StandsIn m n s → StandsIn m n (with_words s (words_after b s))
  cleared_stands s true H N = clear-keep {s = begin s.rec} (standard_is s.words s.rec.count H.two) N
  cleared_stands s false H N = N

  pub step_stands : (c : Call) (s : State) → is_upkeep c ≡ false → Valid s → StandsIn m n s → StandsIn m n (step c s).after
  unfolding StaysValid SuccessLeaves RefusalLeaves
  step_stands c s u H N = go (step c s).answer refl
    where
      go : (x : Answer) → (step c s).answer ≡ x → StandsIn m n (step c s).after
      go (refused k) e = subst (StandsIn m n) (sym (refusal-leaves c s k e)) (cleared_stands s (clears k) H N)
      go (done g) e = extended_stands s (step c s).after H (stays-valid c s H) (success-leaves c s u (ap is_refused e)) N

-- a condition of the record that stays means what it meant
condition-means : (c : Call) (s : State) (condition : Record → ℕ) → Valid s → Names s.rec s.words (condition s.rec) → condition (step c s).after.rec ≡ condition s.rec → SameMeaning s (step c s).after condition
condition-means c s condition H N same a small =
    ap (λ (n : ℕ). value (step c s).after.words (bit_at a) n) same ∙ (step_stands (λ φ. value s.words φ (condition s.rec)) (condition s.rec) c s (no-upkeep c) H N).is refl (bit_at a)

pub conditions_mean : ConditionsMean
unfolding ConditionsMean ConditionsStay
conditions_mean c s H =
    let S = conditions_stay c s (no-upkeep c) in
    let L = (row3-tells s.rec s.words s.list).is H.three in
    (λ k. condition-means c s (λ r. r.asserted) H L.asserted (S.0 k), λ k. condition-means c s (λ r. r.checked) H L.checked (S.1 k))
