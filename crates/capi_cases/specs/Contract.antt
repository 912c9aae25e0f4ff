-- What a case promises for C: it is `case_of`, and the record that the six words are.
use Rattle.std.specs.Prelude.{List, ℕ}
use Rattle.cases.specs.Case.{Answered, accepts, refuses, case_of}
use Rattle.record_words.specs.Words.{words_of}

-- a case: "`count` is the text length, or K where the case is refused", and then the record is untouched
pub record LeftCase : Type 0 where
  pub number : ℕ
  pub nodes : List ℕ
  pub list : List ℕ
  pub text : List ℕ
  pub rec : List ℕ
  pub count : ℕ

abbrev pub left_case : ℕ → List ℕ → List ℕ → List ℕ → List ℕ → ℕ → LeftCase
left_case k w l b r n = record { number = k; nodes = w; list = l; text = b; rec = r; count = n }

abbrev pub case_by : Answered → List ℕ → List ℕ → List ℕ → List ℕ → LeftCase
case_by (accepts n m) w l b r = left_case 0 w l b (words_of m) n
case_by (refuses k after) w l b r = left_case k w l b r after

unfoldable pub cased : List ℕ → List ℕ → List ℕ → List ℕ → List ℕ → LeftCase
cased file w l b r = case_by (case_of file w l b).answer (case_of file w l b).words (case_of file w l b).list (case_of file w l b).text r
