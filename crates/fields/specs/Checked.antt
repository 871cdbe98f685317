-- What the check promises of its answer by value.
use Rattle.std.specs.Prelude.{List, ℕ}
use Rattle.stages.specs.Stage.{Stage}
use Rattle.promise.specs.Answer as paper
use Rattle.promise.specs.Answered.{Gives}
use Rattle.fields.specs.declared.answer.Answer.{Answer}
use Rattle.fields.specs.Answers.{Says}

-- a says an answer of the paper which the stages give, with these places left (`checked_unique`)
pub record Answers (S : Stage paper.Result) (places : List ℕ) (a : Answer) (left : List ℕ) : Type 0 where
  pub answer : paper.Answer
  pub says : Says a answer
  pub gives : Gives S places answer left
