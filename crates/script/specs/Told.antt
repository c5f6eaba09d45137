-- What is told of the answers of a room over the CUBE market.
use Rattle.std.specs.Prelude.{Option}
use Rattle.market.specs.declared.better_of.Half.{Half}
use Rattle.market.specs.declared.fault.Fault.{Fault}
use Rattle.market.specs.Cube.{CubeFaultTold, cube_fault_told}
use Rattle.session.specs.declared.answer.Answer.{Answer as CodeAnswer}
use Rattle.session.specs.Runs.{Answer}
use Rattle.session.specs.Answer.{told}

-- The answer to a call; none where no call was made.
abbrev pub AnswerTold : Type 0
AnswerTold = Option (Answer CubeFaultTold)

abbrev pub answer_told : CodeAnswer (Half Fault Fault) → AnswerTold
answer_told = told cube_fault_told
