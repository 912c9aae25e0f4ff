-- A part of zeros.
use Rattle.std.proofs.Common.{◌≡◌, ap, ◌∙◌, ℕ, ◌*◌, ◌≤◌, take, replicate, arith}
use Rattle.std.proofs.lemmas.List.{take-replicate}

pub zeros-part : (k n : ℕ) → k ≤ n → take k (replicate {A = ℕ} n 0) ≡ replicate k 0
zeros-part k n h = take-replicate k n 0 h

-- of 32 zeros, the words of at most 16 pairs
pub zeros_of-pairs : {k w : ℕ} → k ≡ 2 * w → w ≤ 16 → take k (replicate {A = ℕ} 32 0) ≡ replicate (2 * w) 0
zeros_of-pairs {k} {w} e h = ap (λ (i : ℕ). take i (replicate {A = ℕ} 32 0)) e ∙ zeros-part (2 * w) 32 (omega arith)
