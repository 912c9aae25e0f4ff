-- What comes of a written formula before its accesses.
use Rattle.std.specs.Prelude.{◌≡◌, List, ℕ, ◌*◌, ◌≤◌, length, Result, Ok, Err}
use Rattle.formulas.specs.Language.{Tree, Below}
use Rattle.formulas.specs.Reading.{fine, judge_text}
use Rattle.conditions.specs.Stores.{Standard}
use Rattle.conditions.specs.User.{is_user}
use Rattle.conditions.specs.Build.{Store, pure}
use Rattle.conditions.specs.Contract.{Sound}
use Rattle.conditions.specs.declared.builder.Builder.{Builder}
use Rattle.conditions.specs.Builder.{Later}
use Rattle.refusals.specs.Refusal.{number}
use Rattle.model.specs.Record.{with_count}
use Rattle.model.specs.Formula.{Triple, Triples}
use Rattle.model.specs.Step.{begin}
use Rattle.model.specs.Frames.{Valid}
use Rattle.model.specs.Table.{InRange}
use Rattle.tokens.specs.Contract.{within_table}
use Rattle.formula_calls.specs.Call.{Making, limits_of, in_order, listed_over, refused_by, faulty, FormulaResult, by_verdict, refused_itself, make_listed, finish_formula}
use Rattle.model.specs.declared.Fields.{Fields}
use Rattle.rows.specs.Contract.{state_of}
use Rattle.making.specs.Contract.{triples_from, MayMake}
use Rattle.preparing.specs.declared.Listed.{Listed}
use Rattle.preparing.specs.declared.Unlisted.{Unlisted}
use Rattle.preparing.specs.declared.Unlisted.TheVariants as unlisted

-- the step of a triple
abbrev pub step_of : Triple → ℕ
step_of t = t.step

-- a formula that is read, and whose conditions stand in the store: built again they build nothing, and give its triples
pub record Built (text w : List ℕ) (predicates count : ℕ) (s : Store) : Type 0 where
  pub tree : Tree
  pub rest : List ℕ
  pub read : judge_text (record { predicates = within_table predicates; nodes = is_user w count }) text ≡ fine tree rest
  pub triples : List Triple
  pub again : Triples 0 1 tree w s ≡ pure triples w s
  pub steps : Below step_of 33 triples

-- before its triples are written, one step after the other
pub record MayList (text : List ℕ) (b : Builder) (out : List ℕ) (predicates count listed : ℕ) : Type 0 where
  pub two : 2 ≤ count
  pub older : count ≤ b.store.count
  pub built : Built text b.words.now predicates count b.store
  pub many : listed ≡ length built.triples
  pub fits : 3 * listed ≤ length out

-- they are written: "ordered by step, then text"
pub record ListedAs (text : List ℕ) (b : Builder) (out : List ℕ) (predicates count : ℕ) (b' : Builder) (out' : List ℕ) : Type 0 where
  pub later : Later b b'
  pub same : b'.words.now ≡ b.words.now
  pub store : b'.store ≡ b.store
  pub built : Built text b.words.now predicates count b.store
  pub words : out' ≡ listed_over (in_order built.triples) out

-- a memory that rows 1 and 2 do not refuse, with a computed table that is right for it
pub record Prepares (r : Fields) (w t : List ℕ) : Type 0 where
  pub range : InRange r.sizes
  pub standard : Standard w r.count
  pub sound : Sound w t (begin r)

-- what the call comes to behind rows 1 to 3
abbrev pub comes_to : Making → Fields → List ℕ → List ℕ → List ℕ → List ℕ → List ℕ → FormulaResult
comes_to k r w l text predicates out = finish_formula k predicates out (state_of r w l) (by_verdict text out (judge_text (limits_of (state_of r w l) predicates) text))

-- its triples stand in the answer words, and what is left is to make its accesses
pub record ListedIn (r : Fields) (w l text predicates out w' t' out' : List ℕ) (count listed : ℕ) : Type 0 where
  pub comes : (k : Making) → comes_to k r w l text predicates out ≡ make_listed k r predicates out (triples_from out' 0 listed) (state_of (with_count r count) w' l)
  pub words : out' ≡ listed_over (triples_from out' 0 listed) out
  pub may : MayMake (with_count r count) w' l t' predicates out' listed

-- whatever is made, and whatever the list is
abbrev pub PreparedAs : Fields → List ℕ → List ℕ → List ℕ → List ℕ → List ℕ → List ℕ → List ℕ → Result Listed Unlisted → Type 0
PreparedAs r w text predicates out w' t' out' (Err (unlisted.Refused k)) =
    (m : Making) (l : List ℕ) → Valid (state_of r w l) → comes_to m r w l text predicates out ≡ refused_itself (refused_by (number k)) (state_of r w' l) out'
PreparedAs r w text predicates out w' t' out' (Err (unlisted.Faulty f)) =
    (m : Making) (l : List ℕ) → Valid (state_of r w l) → comes_to m r w l text predicates out ≡ refused_itself (faulty (number f.refusal) f.at) (state_of r w' l) out'
PreparedAs r w text predicates out w' t' out' (Ok x) =
    (l : List ℕ) → Valid (state_of r w l) → ListedIn r w l text predicates out w' t' out' x.count x.listed
