-- 02, job 4: "the search begins above the larger child, ends at the first match and tells how many nodes it compared".
use Rattle.std.specs.Prelude.{Bool, cond, List, ℕ, zero, suc, ◌+◌, ◌-◌, max, Some, None}
use Rattle.nodes.specs.Words.{has_words}
use Rattle.search.specs.declared.Searched.{Searched}

-- the k nodes from i on, one after the other: each that is compared counts one, and it "ends at the first match"
unfoldable pub compare_from : (ℕ → Bool) → ℕ → ℕ → Searched
compare_from match i zero = record { found = None; compared = 0 }
compare_from match i (suc k) =
    let r = compare_from match (suc i) k in
    cond (match i) (record { found = Some i; compared = 1 }) (record { found = r.found; compared = suc r.compared })

-- "begins above the larger child", and goes up to the last of c nodes; a match has the three words
unfoldable pub Search : List ℕ → ℕ → ℕ → ℕ → ℕ → Searched
Search w c v low high = compare_from (has_words w v low high) (max low high + 1) (c - (max low high + 1))
