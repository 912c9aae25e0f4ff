-- The test of each port's words, as a loop of one port after the other makes it.
use Rattle.std.proofs.Common.{◌≡◌, Bool, List, ℕ, ◌+◌, ◌*◌, ◌-◌, ◌≤◌, length, get_or, take, drop, ap, ◌∙◌, arith, length-drop}
use lib.Seq.{get_or-drop}
use Rattle.nodes.specs.Search.{every}
use Rattle.conditions.specs.User.{is_user}
use Rattle.rows.proofs.SliceLaws.{first_places}
use Rattle.model.specs.Record.{port_at}

-- whether row 5 accepts each of the words that a port holds
abbrev pub names : List ℕ → ℕ → List ℕ → ℕ → ℕ → Bool
names words count ports k p = every (λ (i : ℕ). is_user words count (get_or ports (port_at p + i) 0)) 0 k

-- what a test of k words from its place on answers
pub told : (words : List ℕ) (count : ℕ) (ports : List ℕ) (k p : ℕ) {b : Bool} → p * 32 + k ≤ length ports
    → b ≡ every (λ (i : ℕ). is_user words count (get_or (take (p * 32 + k - p * 32) (drop (p * 32) ports)) i 0)) 0 (length (take (p * 32 + k - p * 32) (drop (p * 32) ports)))
    → b ≡ names words count ports k p
told words count ports k p h e =
    let n : p * 32 + k - p * 32 ≡ k = omega arith in
    let m : k ≤ length (drop (p * 32) ports) = omega (arith, length-drop (p * 32) ports) in
    rw n at e
    ∙ first_places (is_user words count) (drop (p * 32) ports) k m
    ∙ ap (λ (f : ℕ → ℕ). every (λ (i : ℕ). is_user words count (f i)) 0 k) (λ t i. get_or-drop (p * 32) ports i 0 t)
