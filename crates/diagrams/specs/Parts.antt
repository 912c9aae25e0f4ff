-- The parts of three nodes at their least variable, by which Ite and the tests of rows 6 and 7 go.
use Rattle.std.specs.Prelude.{Bool, true, false, cond, List, ℕ, min, eqb}
use Rattle.nodes.specs.Words.{var_at, child_at}
use Rattle.diagrams.specs.declared.Parts.{Parts}

-- "v is the least top variable of the three"
abbrev pub least_of : List ℕ → ℕ → ℕ → ℕ → ℕ
least_of w f g h = min (var_at w f) (min (var_at w g) (var_at w h))

-- the low part of a node at v, or the high part: "a node on another variable stands for both its parts"
unfoldable pub part_of : Bool → List ℕ → ℕ → ℕ → ℕ
part_of b w v n = cond (eqb (var_at w n) v) (child_at b w n) n

abbrev pub parts_of : List ℕ → ℕ → ℕ → ℕ → Parts
parts_of w f g h =
    record {
      v = least_of w f g h;
      f0 = part_of false w (least_of w f g h) f;
      g0 = part_of false w (least_of w f g h) g;
      h0 = part_of false w (least_of w f g h) h;
      f1 = part_of true w (least_of w f g h) f;
      g1 = part_of true w (least_of w f g h) g;
      h1 = part_of true w (least_of w f g h) h;
    }
