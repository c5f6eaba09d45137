-- What a member is shown of a transcript: what the law of learning speaks of.
use Rattle.std.specs.Prelude.{ℕ, Option, None}
use Rattle.script.specs.declared.statement.Statement.{Statement}
use Rattle.script.specs.declared.statement.Statement.TheVariants.{Setting, Call, Range}
use Rattle.market.specs.Cube.{CubeFaultTold}
use Rattle.session.specs.Runs.{Answer}
use Rattle.session.specs.Learning.{shown_of}

-- Of a call's answer what a run shows of it; of other statements nothing.
abbrev pub answer_shown : ℕ → Statement → Answer CubeFaultTold → Option (Answer CubeFaultTold)
answer_shown member (Setting s) a = None
answer_shown member (Call c) a = shown_of member c a
answer_shown member (Range r) a = None
