-- What a call below promised of the fields, said of the record.
use Rattle.std.proofs.Common.{◌≡◌, false, List, ℕ, refl}
use Rattle.model.specs.Step.{Access, NodeCall, Answer, access, node_call}
use Rattle.model.specs.Frames.{sees_ports}
use Rattle.model.proofs.UnseenLaws.{any-ports}
use Rattle.rows.specs.Contract as rows
use Rattle.memory.specs.declared.Record.{Record}
use Rattle.memory.specs.Contract.{memory_of, Answers, AnswersAnyPorts, AnswersNoList, AnswersOnAnyPorts}

-- a call that is lent no ports
pub handed-node : (c : NodeCall) (g : Record) (w : List ℕ) (r : Record) (w' : List ℕ) (a : Answer) → rows.AnswersAnyList c g.fields w r.fields w' a → AnswersNoList c g w r w' a
handed-node c g w r w' a A = λ l. any-ports (node_call c) refl (memory_of g w l) (memory_of r w' l) a (A l)

module _ (c : Access) (e : sees_ports (access c) ≡ false) (g : Record) (w l : List ℕ) (r : Record) (w' l' : List ℕ) (a : Answer) where
  pub handed : Answers c (memory_of g w l) (memory_of r w' l') a → AnswersAnyPorts c g w l r w' l' a
  handed A = any-ports (access c) e (memory_of g w l) (memory_of r w' l') a A

  pub handed_on : {table : List ℕ} → rows.AnswersOn c (memory_of g w l) (memory_of r w' l') a table → AnswersOnAnyPorts c g w l r w' l' a table
  handed_on A = record { is = handed A.is; sound = A.sound }
