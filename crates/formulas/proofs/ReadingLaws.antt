-- Request 5, for the code: the reader leaves less than it was given.
use mathlib.Core.Path.{◌≡◌, subst}
use mathlib.Core.List.{List}
use Prim.Native.Nat.{ℕ, ◌<◌}
use lib.ListN.{length}
use Rattle.formulas.specs.Language.{Tree, Part}
use Rattle.formulas.specs.Reading.{Limits, fine, judge}
use Rattle.formulas.proofs.PlainReader.{reader}
use Rattle.formulas.proofs.SoundLaws.{reader_shorter}
use Rattle.formulas.proofs.LimitLaws.{Beside, beside, fine-reads}

-- what is left is shorter
pub judge_shorter : (l : Limits) (k d : ℕ) (p : Part) (s : List ℕ) (t : Tree) (r : List ℕ) → judge l k d p s ≡ fine t r → length r < length s
judge_shorter l k d p s t r e = reader_shorter k p s t r (fine-reads l p s d (reader k p s) t r (subst (Beside l p s d (reader k p s)) e (beside l k d p s))).0
