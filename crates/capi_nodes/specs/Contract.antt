-- What the functions promise that are lent no list: each is the model's call on the record that the six words are, or what is asked of a node of it.
use Rattle.std.specs.Prelude.{cond, List, [], ◌++◌, ℕ, zero, suc, leb, length, drop}
use Rattle.conditions.specs.Show.{text_of}
use Rattle.conditions.specs.Witness.{witness_of}
use Rattle.model.specs.Rows.{first_row, evaluate_rows}
use Rattle.model.specs.Step.{evaluate, node_call, Fresh, fresh}
use Rattle.cases.specs.Case.{zeroed}
use Rattle.record_words.specs.Words.{record_in, words_of}
use Rattle.record_words.specs.Calls.{Left, called}

-- evaluate: the number and the value
abbrev pub evaluated_by : Left → ℕ × ℕ
evaluated_by x = (x.number, x.out)

unfoldable pub evaluated : ℕ → ℕ → List ℕ → List ℕ → ℕ → ℕ × ℕ
evaluated f φ r w v = evaluated_by (called (node_call (evaluate f φ)) r w [] [] [] v)

-- Fresh: the number, the record's words, the node words and the ports
abbrev pub fresh_by : Fresh → ℕ × List ℕ × List ℕ × List ℕ
fresh_by x = (x.answer, words_of x.rec, x.words, x.ports)

unfoldable pub freshed : ℕ → ℕ → List ℕ → List ℕ → List ℕ → ℕ × List ℕ × List ℕ × List ℕ
freshed n w r ws ps = fresh_by (fresh (record_in r) (record { n = n; w = w }) ws ps)

-- what is asked of a node is refused as evaluate is
abbrev pub row_of : ℕ → List ℕ → List ℕ → ℕ
row_of f r w = first_row (evaluate_rows (record_in r) w f)

-- a condition's text: what is returned, the text bytes and the length's word
pub record LeftText : Type 0 where
  pub number : ℕ
  pub text : List ℕ
  pub length : ℕ

abbrev pub left_text : ℕ → List ℕ → ℕ → LeftText
left_text k b n = record { number = k; text = b; length = n }

-- "text too long for its buffer" is 13, and leaves zeros in it, as in a refused case; later bytes are untouched
abbrev pub text_by : ℕ → List ℕ → List ℕ → ℕ → LeftText
text_by zero t b v = cond (leb (length t) (length b)) (left_text 0 (t ++ drop (length t) b) (length t)) (left_text 13 (zeroed b) v)
text_by (suc k) t b v = left_text (suc k) b v

unfoldable pub texted : ℕ → List ℕ → List ℕ → List ℕ → ℕ → LeftText
texted f r w b v = text_by (row_of f r w) (text_of w f) b v

-- an assignment under which a node holds: the number, and the assignment's word
abbrev pub witness_by : ℕ → ℕ → ℕ → ℕ × ℕ
witness_by zero a v = (0, a)
witness_by (suc k) a v = (suc k, v)

unfoldable pub witnessed : ℕ → List ℕ → List ℕ → ℕ → ℕ × ℕ
witnessed f r w v = witness_by (row_of f r w) (witness_of w f) v
