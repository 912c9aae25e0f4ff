-- What `all` and `find` answer over a range of numbers: `every` and `seek`.
use Rattle.std.proofs.Common.{◌≡◌, ℕ, ◌+◌, ◌-◌, ◌≤◌, ◌<◌, Bool, true, false, Option, None, Some, List, length, get_or, refl, sym, ◌∙◌, true≢false, arith}
use Rattle.std.specs.declared.ops.Range.{Range}
use Rattle.std.specs.Bool.{MatchBool, ⊤}
use Rattle.std.specs.Fn.{Called, CalledAt}
use Rattle.std.specs.Iterator.{YieldsThen}
use Rattle.std.specs.List.{FoldsTo, range_with_len, AllWithin, HoldsAt}
use Rattle.std.specs.Option.{MatchOption, unwrap_or}
use Rattle.std.proofs.iter.Yields.{nat_range_steps}
use Rattle.std.proofs.lemmas.Iterator.{YieldsList-from_range, cases_from_all, first_from_Range}
use Rattle.std.proofs.lemmas.List.FromFn.{length-range_with_len, get_or-range_with_len}
use denote.Param.Members.{Mut}
use denote.Ref.{Bor}
use Rattle.nodes.specs.Search.{seek, every}
use Rattle.nodes.proofs.BoolLaws.{split}
use Rattle.nodes.proofs.SearchLaws.{every_is, is-every, seek-first, seek-none}

module _ (p : ℕ → Bool) (a n : ℕ) where
  every_cases : (r : Bool) → MatchBool r (AllWithin (λ x. p x ≡ true) (range_with_len a n) 0 (length (range_with_len a n))) ((k : ℕ) × (k < length (range_with_len a n)) × HoldsAt (λ x. p x ≡ false) (range_with_len a n) k) → r ≡ every p a n
  every_cases true all = sym (is-every p n a at)
    where
      at : (k : ℕ) → a ≤ k → k < a + n → p k ≡ true
      at k l h =
          let t : p (get_or (range_with_len a n) (k - a) 0) ≡ true = all (k - a) 0 (omega arith) (omega (arith, length-range_with_len a n)) in
          let e : a + (k - a) ≡ k = omega arith in
          rw (get_or-range_with_len a n (k - a) 0 (omega arith), e) at t
  every_cases false (k, h, fails) =
      let m : k < n = omega (arith, length-range_with_len a n) in
      let f : p (get_or (range_with_len a n) k 0) ≡ false = fails 0 in
      let g : p (a + k) ≡ false = rw (get_or-range_with_len a n k 0 m) at f in
      split (every p a n) (λ t. absurd (true≢false (sym (every_is p n a t (a + k) (omega arith) (omega arith)) ∙ g))) sym

-- `(a..b).all(f)`, where f tells p
pub every_from_all : {F : Type 0} {g : Mut F (ℕ × Unit {0}) Bool} (p : ℕ → Bool) (a b n : ℕ) → b - a ≡ n → (u : Range ℕ) (f : F) (r : Bool)
    → (xs : List ℕ) × (o : Option ℕ) × (j : F) × YieldsThen nat_range_steps (record { start = a; end = b }) xs o u × FoldsTo (λ s x q. Called g s (x, tt) true q) f xs j × MatchOption o (r ≡ true) (λ x. (r ≡ false) × ((h : F) × Called g j (x, tt) false h))
    → ((x : ℕ) (q : F) → Called g f (x, tt) true q → (q ≡ f) × (p x ≡ true)) → ((x : ℕ) (q : F) → Called g f (x, tt) false q → p x ≡ false) → r ≡ every p a n
every_from_all p a b n e u f r ran holds fails = every_cases p a n r (cases_from_all u f r (λ x. p x ≡ true) (λ x. p x ≡ false) ran (YieldsList-from_range a b n refl e) holds fails)

seek_cases : (p : ℕ → Bool) (b : ℕ) (r : Option ℕ) → MatchOption r ((k : ℕ) → 0 ≤ k → k < b → p k ≡ false) (λ i. (0 ≤ i) × (i < b) × (p i ≡ true) × ((k : ℕ) → 0 ≤ k → k < i → p k ≡ false)) → unwrap_or r b ≡ seek p 0 b
seek_cases p b None none = sym (seek-none p b 0 (λ m l h. none m l (omega arith)) ∙ omega arith)
seek_cases p b (Some i) found = sym (seek-first p b 0 i (omega arith) (omega (arith, found.1)) found.2 found.3)

-- `(0..b).find(f).unwrap_or(b)`, where f tells p
pub seek_from_find : {F : Type 0} {g : Mut F (Bor ℕ × Unit {0}) Bool} (p : ℕ → Bool) (b : ℕ) (u : Range ℕ) (f : F) (r : Option ℕ)
    → (xs : List ℕ) × (j : F) × YieldsThen nat_range_steps (record { start = 0; end = b }) xs r u × FoldsTo (λ s x q. CalledAt g s x false q) f xs j × MatchOption r ⊤ (λ x. (h : F) × CalledAt g j x true h)
    → ((x : ℕ) (q : F) → CalledAt g f x true q → p x ≡ true) → ((x : ℕ) (q : F) → CalledAt g f x false q → (q ≡ f) × (p x ≡ false)) → unwrap_or r b ≡ seek p 0 b
seek_from_find p b u f r ran holds fails = seek_cases p b r (first_from_Range (record { start = 0; end = b }) u f r (λ x. p x ≡ true) (λ x. p x ≡ false) ran holds fails)
