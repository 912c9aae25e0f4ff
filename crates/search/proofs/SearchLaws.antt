-- The search tells what 02 says, and nothing else does.
use Rattle.std.proofs.Common.{◌≡◌, List, ℕ}
use Rattle.search.specs.declared.Searched.{Searched}
use Rattle.search.specs.Search.{Search}
use Rattle.search.specs.Told.{Told}
use Rattle.search.proofs.ToldLaws.{told-once, search-told}

-- 02's sentences are true of no other answer: a program that subtracts is held to the same
pub told_is : {w : List ℕ} {c v low high : ℕ} {r : Searched} → Told w c v low high r → r ≡ Search w c v low high
told_is T = told-once T (search-told _ _ _ _ _)
