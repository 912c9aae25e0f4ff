-- A formula by the record that six words are, and the record written back.
use Rattle.std.proofs.Common.{◌≡◌, ℕ, List, [], Result, sym, ap, ap₂, ◌∙◌}
use Rattle.model.specs.Record as model
use Rattle.memory.specs.declared.Record.{Record}
use Rattle.formula_record.specs.Contract.{FormulaAnswersAnyPorts}
use Rattle.formula_access.specs.declared.FormulaRefusal.{FormulaRefusal}
use Rattle.formula_access.specs.Contract.{answer_of}
use Rattle.formula_calls.specs.Call.{Making, FormulaResult, formula_step}
use Rattle.record_words.specs.Words.{record_in, words_of}
use Rattle.formula_words.specs.Contract.{Told, told, tells, left_formula, formula_by, formula_called}

pub formula_is : (k : Making) (text table : List ℕ) {m m' : Record} {r' w' l' a' : List ℕ} (r w l a : List ℕ) (n i p : ℕ) (x : Result ℕ FormulaRefusal) {j n' i' p' : ℕ}
    → m.fields ≡ record_in r
    → FormulaAnswersAnyPorts k text table a m w l m' w' l' a' x
    → r' ≡ words_of m'.fields
    → told j n' i' p' ≡ tells (answer_of x) n i p
    → left_formula j r' w' l' a' n' i' p' ≡ formula_called k text table r w l a n i p
unfolding formula_called
formula_is k text table {m} {m'} {r'} {w'} {l'} {a'} r w l a n i p x {j} {n'} {i'} {p'} e A o t =
    ap₂ (λ (z : List ℕ) (y : Told). record { told = y; rec = z; nodes = w'; list = l'; answer = a' }) o t
    ∙ sym (ap (λ (z : FormulaResult). formula_by z n i p) (A []))
    ∙ ap (λ (z : model.Record). formula_by (formula_step k text table a (record { rec = z; words = w; list = l; ports = [] })) n i p) e
