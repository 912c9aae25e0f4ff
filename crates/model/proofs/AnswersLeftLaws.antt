-- A refused read leaves its answer words, and an accepted one leaves as many.
use mathlib.Core.Path.{ap}
use lib.ListN.{get_or}
use Rattle.model.specs.Step.{Answer, answer_words}
use Rattle.model.specs.Frames.{AnswersLeft}
use Rattle.model.proofs.FrameLaws.{read-long}

pub answers-left : AnswersLeft
unfolding AnswersLeft
answers-left p e a out s = record { refuses = λ k q i. ap (λ (x : Answer). get_or (answer_words x out) i 0) q; len = read-long p e a out s }
