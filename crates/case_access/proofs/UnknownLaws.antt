-- An unknown kind is not known.
use mathlib.Core.Path.{◌≡◌, sym, ap, ◌∙◌}
use mathlib.Core.Bool.{true, false≢true}
use Rattle.format.specs.declared.Kind.{Kind}
use Rattle.format.specs.declared.Kind.TheVariants as kind
use Rattle.format.specs.Kinds.{is_known}

-- a known kind is one of the four
pub unknown_not : {k : Kind} → k ≡ kind.Unknown → is_known k ≡ true → ⊥
unknown_not e p = false≢true (sym (ap is_known e) ∙ p)
