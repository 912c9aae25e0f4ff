-- A text that grows in a lent buffer, and stops at the first byte that does not fit.
use Rattle.std.specs.Prelude.{ℕ, ◌+◌, List, [], ◌∷◌, true, false, cond, ltb, length, set}
use Rattle.text.specs.declared.Text.{Text}

-- A buffer's bytes, and the text in it.
pub record Out : Type 0 where
  pub buffer : List ℕ
  pub text : Text

abbrev pub out : List ℕ → Text → Out
out l t = record { buffer = l; text = t }

-- The buffer l with a text whose next byte goes to place a.
abbrev pub growing : List ℕ → ℕ → Out
growing l a = out l (record { at = a; full = false })

-- The buffer l with a text that ends at place a, for its next byte did not fit: "text too long for its buffer".
abbrev pub ended : List ℕ → ℕ → Out
ended l a = out l (record { at = a; full = true })

-- The byte b at place a of the buffer l. Where there is no such place, the text ends.
unfoldable pub written : ℕ → List ℕ → ℕ → Out
written b l a = cond (ltb a (length l)) (growing (set l a b) (a + 1)) (ended l a)

-- One byte more. A full text stays as it is.
unfoldable pub put : ℕ → Out → Out
put b o = cond o.text.full o (written b o.buffer o.text.at)

-- The bytes one after the other.
unfoldable pub appended : List ℕ → Out → Out
appended [] o = o
appended (b ∷ bs) o = appended bs (put b o)
