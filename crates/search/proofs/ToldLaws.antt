-- The search tells what 02 says, and two answers that do are one.
use Rattle.std.proofs.Common.{◌≡◌, refl, sym, ap, ◌∙◌, List, ℕ, suc, ◌+◌, ◌-◌, ◌<◌, max, arith, Option}
use Rattle.std.proofs.Math.Decide.{dec_lt}
use Rattle.nodes.specs.Words.{has_words}
use Rattle.search.specs.declared.Searched.{Searched}
use Rattle.search.specs.Search.{compare_from, Search}
use Rattle.search.specs.Told.{last_of, Told}
use Rattle.search.proofs.EndsLaws.{compare-ends, compare-tells, ends-once}

-- two answers of which both sentences are true are one answer
module _ {w : List ℕ} {c v low high : ℕ} where
  pub told-once : {r r' : Searched} → Told w c v low high r → Told w c v low high r' → r ≡ r'
  told-once {r} {r'} T T' = same (ends-once _ _ _ _ _ T.ends T'.ends)
    where
      same : r.found ≡ r'.found → r ≡ r'
      same e =
          let q : r.compared ≡ r'.compared = T.tells ∙ ap (λ (f : Option ℕ). last_of c f - max low high) e ∙ sym T'.tells in
          ap (λ (f : Option ℕ). record { found = f; compared = r.compared }) e ∙ ap (λ (n : ℕ). record { found = r'.found; compared = n }) q

-- 02's sentences are true of the search, on any words
module _ (w : List ℕ) (c v low high : ℕ) where
  pub search-told : Told w c v low high (Search w c v low high)
  unfolding Search compare_from last_of
  search-told = record { ends = compare-ends (has_words w v low high) (c - (max low high + 1)) (max low high + 1) c refl; tells = search-tells }
    where
      search-tells : (Search w c v low high).compared ≡ last_of c (Search w c v low high).found - max low high
      search-tells = dec (dec_lt (max low high) c)
        where
          dec : Dec (max low high < c) → (Search w c v low high).compared ≡ last_of c (Search w c v low high).found - max low high
          dec (yes h) =
              let i = max low high + 1 in
              let t : (Search w c v low high).compared + i ≡ suc (last_of c (Search w c v low high).found) = compare-tells (has_words w v low high) (c - i) i c (omega arith) (omega arith) in
              omega (arith, t)
          dec (no h) = let e : c - (max low high + 1) ≡ 0 = omega arith in rw e (omega arith)
