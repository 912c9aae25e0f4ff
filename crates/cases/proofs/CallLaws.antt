-- What the fields of an access hold as its call's control, address and data.
use mathlib.Core.Path.{◌≡◌, refl}
use mathlib.Core.List.{[], ◌∷◌}
use Rattle.model.specs.Step.{write, read, assert, check, access}
use Rattle.format.specs.declared.Kind.TheVariants as kind
use Rattle.cases.specs.Case.{call_of}

-- one access of each kind, for n = 1 and w = 2
write-nodes : call_of kind.Write 2 ((11 ∷ 12 ∷ []) ∷ (21 ∷ 22 ∷ []) ∷ (31 ∷ 32 ∷ 33 ∷ 34 ∷ []) ∷ []) ≡ access (write (11 ∷ 12 ∷ []) (21 ∷ 22 ∷ []) (31 ∷ 32 ∷ 33 ∷ 34 ∷ []))
unfolding call_of
write-nodes = refl

read-nodes : call_of kind.Read 2 ((3 ∷ []) ∷ (11 ∷ 12 ∷ []) ∷ (21 ∷ 22 ∷ []) ∷ []) ≡ access (read 3 (11 ∷ 12 ∷ []) (21 ∷ 22 ∷ []) (0 ∷ 0 ∷ 0 ∷ 0 ∷ []))
unfolding call_of
read-nodes = refl

assert-nodes : call_of kind.Assert 2 ((11 ∷ []) ∷ (21 ∷ 22 ∷ []) ∷ (31 ∷ 32 ∷ 33 ∷ 34 ∷ []) ∷ []) ≡ access (assert 11 (21 ∷ 22 ∷ []) (31 ∷ 32 ∷ 33 ∷ 34 ∷ []))
unfolding call_of
assert-nodes = refl

check-nodes : call_of kind.Check 2 ((11 ∷ []) ∷ (21 ∷ 22 ∷ []) ∷ (31 ∷ 32 ∷ 33 ∷ 34 ∷ []) ∷ []) ≡ access (check 11 (21 ∷ 22 ∷ []) (31 ∷ 32 ∷ 33 ∷ 34 ∷ []))
unfolding call_of
check-nodes = refl
