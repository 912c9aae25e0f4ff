-- Request 5: texts read by hand. Predicates below 20 and nodes below 3 are good.
use Rattle.std.specs.Prelude.{◌≡◌, true, List, [], ◌∷◌, ◌++◌, ℕ, zero, suc, ltb}
use Rattle.formulas.specs.Language.{Tree, predicate, next, both, when, grouped, Listed, ordered}
use Rattle.formulas.specs.Reading.{Limits, Verdict, fine, wrong, judge_text}

abbrev pub few : Limits
few = record { predicates = λ n. ltb n 20; nodes = λ n. ltb n 3 }

-- every number is good
abbrev pub every : Limits
every = record { predicates = λ n. true; nodes = λ n. true }

-- the bytes b, n times, before r
abbrev pub again : ℕ → List ℕ → List ℕ → List ℕ
again zero b r = r
again (suc n) b r = b ++ again n b r

abbrev pub times : (Tree → Tree) → ℕ → Tree → Tree
times f zero t = t
times f (suc n) t = f (times f n t)

abbrev pub listing : ℕ → List ℕ → ℕ → Listed
listing k bs n = record { step = k; nodes = bs; named = n }

abbrev pub listed_of : Verdict → List Listed
listed_of (fine t r) = ordered t
listed_of (wrong k x) = []

-- what a text lists
abbrev pub lists : Limits → List ℕ → List Listed
lists l s = listed_of (judge_text l s)

pub record ByHand : Type 0 where
  -- ` m0 & (b1 -> m2 ) `: "Spaces may stand before, between and after tokens"
  pub spaced : judge_text few (32 ∷ 109 ∷ 48 ∷ 32 ∷ 38 ∷ 32 ∷ 40 ∷ 98 ∷ 49 ∷ 32 ∷ 45 ∷ 62 ∷ 32 ∷ 109 ∷ 50 ∷ 32 ∷ 41 ∷ 32 ∷ []) ≡ fine (both (predicate 0) (grouped (when 1 (predicate 2)))) []
  -- `m0&(b1->m2)`: and need not
  pub unspaced : judge_text few (109 ∷ 48 ∷ 38 ∷ 40 ∷ 98 ∷ 49 ∷ 45 ∷ 62 ∷ 109 ∷ 50 ∷ 41 ∷ []) ≡ fine (both (predicate 0) (grouped (when 1 (predicate 2)))) []
  -- `N m0 & m1`: "`N` unit"
  pub next_unit : judge_text few (78 ∷ 32 ∷ 109 ∷ 48 ∷ 32 ∷ 38 ∷ 32 ∷ 109 ∷ 49 ∷ []) ≡ fine (both (next (predicate 0)) (predicate 1)) []
  -- `NN(m0 & m1)`
  pub next_group : judge_text few (78 ∷ 78 ∷ 40 ∷ 109 ∷ 48 ∷ 32 ∷ 38 ∷ 32 ∷ 109 ∷ 49 ∷ 41 ∷ []) ≡ fine (next (next (grouped (both (predicate 0) (predicate 1))))) []
  -- `m0 & m1 & m2`
  pub three : judge_text few (109 ∷ 48 ∷ 32 ∷ 38 ∷ 32 ∷ 109 ∷ 49 ∷ 32 ∷ 38 ∷ 32 ∷ 109 ∷ 50 ∷ []) ≡ fine (both (predicate 0) (both (predicate 1) (predicate 2))) []
  -- `b1 -> m0 & m1`: an arrow reaches to the end of its formula
  pub arrow_far : judge_text few (98 ∷ 49 ∷ 32 ∷ 45 ∷ 62 ∷ 32 ∷ 109 ∷ 48 ∷ 32 ∷ 38 ∷ 32 ∷ 109 ∷ 49 ∷ []) ≡ fine (when 1 (both (predicate 0) (predicate 1))) []
  -- `b1->b2->m0`
  pub arrows : judge_text few (98 ∷ 49 ∷ 45 ∷ 62 ∷ 98 ∷ 50 ∷ 45 ∷ 62 ∷ 109 ∷ 48 ∷ []) ≡ fine (when 1 (when 2 (predicate 0))) []
  -- `(b1 -> m0) & m1`
  pub arrow-closed : judge_text few (40 ∷ 98 ∷ 49 ∷ 32 ∷ 45 ∷ 62 ∷ 32 ∷ 109 ∷ 48 ∷ 41 ∷ 32 ∷ 38 ∷ 32 ∷ 109 ∷ 49 ∷ []) ≡ fine (both (grouped (when 1 (predicate 0))) (predicate 1)) []
  -- `m0019`: leading zeros
  pub zeros : judge_text few (109 ∷ 48 ∷ 48 ∷ 49 ∷ 57 ∷ []) ≡ fine (predicate 19) []
  -- `m9`
  pub nine : judge_text few (109 ∷ 57 ∷ []) ≡ fine (predicate 9) []
  -- `b256->m4294967295`
  pub long : judge_text every (98 ∷ 50 ∷ 53 ∷ 54 ∷ 45 ∷ 62 ∷ 109 ∷ 52 ∷ 50 ∷ 57 ∷ 52 ∷ 57 ∷ 54 ∷ 55 ∷ 50 ∷ 57 ∷ 53 ∷ []) ≡ fine (when 256 (predicate 4294967295)) []
  -- Outside the language: 15, at the first byte with which no text goes on, or at the end
  -- ``
  pub nothing : judge_text few [] ≡ wrong 15 []
  -- `  `
  pub only-spaces : judge_text few (32 ∷ 32 ∷ []) ≡ wrong 15 []
  -- `m0 & b1 -> m2`: no arrow behind `&`
  pub arrow-outside : judge_text few (109 ∷ 48 ∷ 32 ∷ 38 ∷ 32 ∷ 98 ∷ 49 ∷ 32 ∷ 45 ∷ 62 ∷ 32 ∷ 109 ∷ 50 ∷ []) ≡ wrong 15 (98 ∷ 49 ∷ 32 ∷ 45 ∷ 62 ∷ 32 ∷ 109 ∷ 50 ∷ [])
  -- `m 1`: "a number is decimal digits joined to its letter"
  pub apart : judge_text few (109 ∷ 32 ∷ 49 ∷ []) ≡ wrong 15 (32 ∷ 49 ∷ [])
  -- `m1 2`
  pub number-apart : judge_text few (109 ∷ 49 ∷ 32 ∷ 50 ∷ []) ≡ wrong 15 (50 ∷ [])
  -- `b1 - > m2`
  pub arrow-apart : judge_text few (98 ∷ 49 ∷ 32 ∷ 45 ∷ 32 ∷ 62 ∷ 32 ∷ 109 ∷ 50 ∷ []) ≡ wrong 15 (32 ∷ 62 ∷ 32 ∷ 109 ∷ 50 ∷ [])
  -- `m0 m1`
  pub unjoined : judge_text few (109 ∷ 48 ∷ 32 ∷ 109 ∷ 49 ∷ []) ≡ wrong 15 (109 ∷ 49 ∷ [])
  -- `m0 &`
  pub open_end : judge_text few (109 ∷ 48 ∷ 32 ∷ 38 ∷ []) ≡ wrong 15 []
  -- `b1`
  pub node-alone : judge_text few (98 ∷ 49 ∷ []) ≡ wrong 15 []
  -- `(m0`
  pub unclosed : judge_text few (40 ∷ 109 ∷ 48 ∷ []) ≡ wrong 15 []
  -- `m0)`
  pub closed : judge_text few (109 ∷ 48 ∷ 41 ∷ []) ≡ wrong 15 (41 ∷ [])
  -- `()`
  pub empty : judge_text few (40 ∷ 41 ∷ []) ≡ wrong 15 (41 ∷ [])
  -- `N b1 -> m0`
  pub next-node : judge_text few (78 ∷ 32 ∷ 98 ∷ 49 ∷ 32 ∷ 45 ∷ 62 ∷ 32 ∷ 109 ∷ 48 ∷ []) ≡ wrong 15 (98 ∷ 49 ∷ 32 ∷ 45 ∷ 62 ∷ 32 ∷ 109 ∷ 48 ∷ [])
  -- `m:`: no digit
  pub colon : judge_text few (109 ∷ 58 ∷ []) ≡ wrong 15 (58 ∷ [])
  -- `m/`
  pub slash : judge_text few (109 ∷ 47 ∷ []) ≡ wrong 15 (47 ∷ [])
  -- a tab is no space
  pub tab : judge_text few (9 ∷ 109 ∷ 48 ∷ []) ≡ wrong 15 (9 ∷ 109 ∷ 48 ∷ [])
  -- Wrong numbers: 15, at the letter
  -- `m0 & m20`
  pub number-wrong : judge_text few (109 ∷ 48 ∷ 32 ∷ 38 ∷ 32 ∷ 109 ∷ 50 ∷ 48 ∷ []) ≡ wrong 15 (109 ∷ 50 ∷ 48 ∷ [])
  -- `m20)`: before the fault
  pub number-first : judge_text few (109 ∷ 50 ∷ 48 ∷ 41 ∷ []) ≡ wrong 15 (109 ∷ 50 ∷ 48 ∷ 41 ∷ [])
  -- `b3 -> m0`
  pub node-wrong : judge_text few (98 ∷ 51 ∷ 32 ∷ 45 ∷ 62 ∷ 32 ∷ 109 ∷ 48 ∷ []) ≡ wrong 15 (98 ∷ 51 ∷ 32 ∷ 45 ∷ 62 ∷ 32 ∷ 109 ∷ 48 ∷ [])
  -- `(b3`: "the earlier place first"
  pub node-before : judge_text few (40 ∷ 98 ∷ 51 ∷ []) ≡ wrong 15 (98 ∷ 51 ∷ [])
  -- 32 may be open around one place: N, parentheses, arrows, and all three; one more is refused where it stands
  pub deep-next : judge_text few (again 32 (78 ∷ []) (109 ∷ 48 ∷ [])) ≡ fine (times next 32 (predicate 0)) []
  pub deeper-next : judge_text few (again 33 (78 ∷ []) (109 ∷ 48 ∷ [])) ≡ wrong 16 (78 ∷ 109 ∷ 48 ∷ [])
  pub deep_group : judge_text few (again 32 (40 ∷ []) (109 ∷ 48 ∷ again 32 (41 ∷ []) [])) ≡ fine (times grouped 32 (predicate 0)) []
  pub deeper_group : judge_text few (again 33 (40 ∷ []) (109 ∷ 48 ∷ [])) ≡ wrong 16 (40 ∷ 109 ∷ 48 ∷ [])
  pub deep_arrow : judge_text few (again 32 (98 ∷ 49 ∷ 45 ∷ 62 ∷ []) (109 ∷ 48 ∷ [])) ≡ fine (times (when 1) 32 (predicate 0)) []
  pub deeper_arrow : judge_text few (again 33 (98 ∷ 49 ∷ 45 ∷ 62 ∷ []) (109 ∷ 48 ∷ [])) ≡ wrong 16 (45 ∷ 62 ∷ 109 ∷ 48 ∷ [])
  -- `N(b1->` ten times, then `NN`: 32; and a third `N`
  pub deep-mixed : judge_text few (again 10 (78 ∷ 40 ∷ 98 ∷ 49 ∷ 45 ∷ 62 ∷ []) (78 ∷ 78 ∷ 109 ∷ 48 ∷ again 10 (41 ∷ []) [])) ≡ fine (times (λ t. next (grouped (when 1 t))) 10 (next (next (predicate 0)))) []
  pub deeper-mixed : judge_text few (again 10 (78 ∷ 40 ∷ 98 ∷ 49 ∷ 45 ∷ 62 ∷ []) (78 ∷ 78 ∷ 78 ∷ 109 ∷ 48 ∷ [])) ≡ wrong 16 (78 ∷ 109 ∷ 48 ∷ [])
  -- side by side they do not add up
  pub beside : judge_text few (again 32 (78 ∷ []) (109 ∷ 48 ∷ 38 ∷ again 32 (78 ∷ []) (109 ∷ 49 ∷ []))) ≡ fine (both (times next 32 (predicate 0)) (times next 32 (predicate 1))) []
  -- "the earlier place first": 33 letters N, then a fault; 33 and a wrong number; a wrong number, then 33; 32, then what cannot stand there
  pub deep-fault : judge_text few (again 33 (78 ∷ []) (41 ∷ [])) ≡ wrong 16 (78 ∷ 41 ∷ [])
  pub deep-number : judge_text few (again 33 (78 ∷ []) (109 ∷ 50 ∷ 48 ∷ [])) ≡ wrong 16 (78 ∷ 109 ∷ 50 ∷ 48 ∷ [])
  pub number-deep : judge_text few (109 ∷ 50 ∷ 48 ∷ 38 ∷ again 33 (78 ∷ []) (109 ∷ 48 ∷ [])) ≡ wrong 15 (109 ∷ 50 ∷ 48 ∷ 38 ∷ again 33 (78 ∷ []) (109 ∷ 48 ∷ []))
  pub arrow-deep : judge_text few (again 32 (78 ∷ []) (45 ∷ 62 ∷ 109 ∷ 48 ∷ [])) ≡ wrong 15 (45 ∷ 62 ∷ 109 ∷ 48 ∷ [])
  -- "step (the number of N around it), condition (And of the enclosing ones, outermost first) and predicate, ordered by step, then text"
  -- `b2 -> N m3 & m1 & N(b1 -> m0)`
  pub order : lists few (98 ∷ 50 ∷ 32 ∷ 45 ∷ 62 ∷ 32 ∷ 78 ∷ 32 ∷ 109 ∷ 51 ∷ 32 ∷ 38 ∷ 32 ∷ 109 ∷ 49 ∷ 32 ∷ 38 ∷ 32 ∷ 78 ∷ 40 ∷ 98 ∷ 49 ∷ 32 ∷ 45 ∷ 62 ∷ 32 ∷ 109 ∷ 48 ∷ 41 ∷ []) ≡ listing 0 (2 ∷ []) 1 ∷ listing 1 (2 ∷ []) 3 ∷ listing 1 (2 ∷ 1 ∷ []) 0 ∷ []
  -- `NNm0&m1&Nm2&m3`
  pub order-steps : lists few (78 ∷ 78 ∷ 109 ∷ 48 ∷ 38 ∷ 109 ∷ 49 ∷ 38 ∷ 78 ∷ 109 ∷ 50 ∷ 38 ∷ 109 ∷ 51 ∷ []) ≡ listing 0 [] 1 ∷ listing 0 [] 3 ∷ listing 1 [] 2 ∷ listing 2 [] 0 ∷ []
  -- `N(Nm0&m1)&m2`
  pub order-nested : lists few (78 ∷ 40 ∷ 78 ∷ 109 ∷ 48 ∷ 38 ∷ 109 ∷ 49 ∷ 41 ∷ 38 ∷ 109 ∷ 50 ∷ []) ≡ listing 0 [] 2 ∷ listing 1 [] 1 ∷ listing 2 [] 0 ∷ []
  -- `(b1->m0&m1)&m2`: the arrow is around both
  pub order_arrow : lists few (40 ∷ 98 ∷ 49 ∷ 45 ∷ 62 ∷ 109 ∷ 48 ∷ 38 ∷ 109 ∷ 49 ∷ 41 ∷ 38 ∷ 109 ∷ 50 ∷ []) ≡ listing 0 (1 ∷ []) 0 ∷ listing 0 (1 ∷ []) 1 ∷ listing 0 [] 2 ∷ []
  -- `m0&m0`
  pub order-twice : lists few (109 ∷ 48 ∷ 38 ∷ 109 ∷ 48 ∷ []) ≡ listing 0 [] 0 ∷ listing 0 [] 0 ∷ []
