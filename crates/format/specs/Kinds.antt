-- 01, 'Case file': what the kind byte selects.
use Rattle.std.specs.Prelude.{Bool, true, false, cond, ℕ, eqb}
use Rattle.format.specs.declared.Kind.{Kind}
use Rattle.format.specs.declared.Kind.TheVariants.{Write, Read, Assert, Check, Unknown}

-- "Kind 1 is a write, 2 a read, 3 an assert, 4 a check."
unfoldable pub kind_of : ℕ → Kind
kind_of b = cond (eqb b 1) Write (cond (eqb b 2) Read (cond (eqb b 3) Assert (cond (eqb b 4) Check Unknown)))

-- one of the four
abbrev pub is_known : Kind → Bool
is_known Write = true
is_known Read = true
is_known Assert = true
is_known Check = true
is_known Unknown = false
