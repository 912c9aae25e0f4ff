-- A test of the items of a slice, and of its places.
use Rattle.std.proofs.Common.{◌≡◌, Bool, true, false, cond, ◌&&◌, List, ℕ, zero, suc, ◌+◌, ◌-◌, ◌≤◌, length, get_or, take, drop, refl, ap, sym, ◌∙◌, arith, add-one, drop-cons}
use lib.Seq.{take_all}
use Rattle.std.specs.List.{list_all}
use Rattle.nodes.specs.Search.{every}
use Rattle.nodes.proofs.SearchLaws.{every-step, every_end}

and_is : (a b : Bool) → (a && b) ≡ cond a b false
and_is true b = refl
and_is false b = refl

module _ (test : ℕ → Bool) (xs : List ℕ) where
  abbrev place : ℕ → Bool
  place i = test (get_or xs i 0)

  -- of k items from a place on
  from : (k i : ℕ) → i + k ≤ length xs → list_all test (take k (drop i xs)) ≡ every place i k
  from zero i h = sym (every_end place i 0 refl)
  from (suc k) i h =
      let c : i + suc k - i ≡ suc k = omega arith in
      let d : i + suc k - (i + 1) ≡ k = omega arith in
      let s : every place i (suc k) ≡ cond (place i) (every place (i + 1) k) false = rw (c, d) at (every-step place (i + suc k) i (omega arith)) in
      ap (λ (l : List ℕ). list_all test (take (suc k) l)) (drop-cons xs i 0 (omega arith))
      ∙ and_is (place i) (list_all test (take k (drop (suc i) xs)))
      ∙ ap (λ (b : Bool). cond (place i) b false) (from k (suc i) (omega arith) ∙ ap (λ (n : ℕ). every place n k) (sym (add-one i)))
      ∙ sym s

  -- of the first k
  pub all_places : (k : ℕ) → k ≤ length xs → list_all test (take k xs) ≡ every place 0 k
  all_places k h = from k 0 (omega arith)

  -- of all
  pub all-items : list_all test xs ≡ every place 0 (length xs)
  all-items = ap (list_all test) (sym (take_all (length xs) xs (omega arith))) ∙ all_places (length xs) (omega arith)

-- of what is left of a longer list
pub first_places : (test : ℕ → Bool) (xs : List ℕ) (k : ℕ) → k ≤ length xs → every (λ (i : ℕ). test (get_or (take k xs) i 0)) 0 (length (take k xs)) ≡ every (λ (i : ℕ). test (get_or xs i 0)) 0 k
first_places test xs k h = sym (all-items test (take k xs)) ∙ all_places test xs k h
